use Rattle.std.proofs.Common.{rules, inl}
use Rattle.wasm_commands.proofs.extract.extract.Goals as goal

pub returns-in_err-before : goal.returns-in_err-before
returns-in_err-before g c = inl (
  (c.in_ok-wanted.wanted, c.in_ok-wanted.name),
  c.wanted_of.new.self,
  c.in_ok-wanted.ensures,
  (search rules),
)

pub returns-in_err-bytes : goal.returns-in_err-bytes
returns-in_err-bytes g c = inl (
  (c.in_ok-wanted.wanted, c.in_ok-wanted.name),
  c.wanted_of.new.self,
  c.in_ok-wanted.ensures,
  inl (c.in_ok-before.before, c.skips_of.new.self, c.in_ok-before.ensures, (search rules)),
)

pub returns : goal.returns
returns g c = inl (
  (c.in_ok-wanted.wanted, c.in_ok-wanted.name),
  c.wanted_of.new.self,
  c.in_ok-wanted.ensures,
  inl (
    c.in_ok-before.before,
    c.skips_of.new.self,
    c.in_ok-before.ensures,
    inl (
      c.in_ok-bytes.bytes,
      c.hold.new.self,
      c.in_ok-bytes.ensures,
      rw (c.deref.ensures.value, c.way_from.ensures) at c.extract_from.ensures,
    ),
  ),
)
