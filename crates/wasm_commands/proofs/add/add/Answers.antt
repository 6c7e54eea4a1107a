use Rattle.std.proofs.Common.{inl, inr, refl}
use Rattle.wasm_commands.proofs.add.add.Goals as goal

pub returns-in-Err-edits_for : goal.returns-in-Err-edits_for
returns-in-Err-edits_for g c = inl (
  c.in-Ok.prepared,
  c.prepare.new.self,
  c.in-Ok.ensures,
  inr (c.in-Err-edits_for.status, refl, rw (c.has-replaces.ensures, c.deref.ensures.value) at c.in-Err-edits_for.ensures),
)

pub returns : goal.returns
returns g c = inl (
  c.in-Ok.prepared,
  c.prepare.new.self,
  c.in-Ok.ensures,
  inl (
    c.in-Ok-edits_for.edits,
    c.edits_for.new.self,
    rw (c.has-replaces.ensures, c.deref.ensures.value) at c.in-Ok-edits_for.ensures,
    rw (c.has-replaces.ensures, c.deref-2.ensures.value) at c.write_added-ended.ensures,
  ),
)
