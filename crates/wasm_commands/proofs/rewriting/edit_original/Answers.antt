use Rattle.std.proofs.Common.{◌≡◌, None, false, rules}
use Rattle.wasm_commands.proofs.rewriting.edit_original.Goals as goal

pub returns : goal.returns
returns g c =
    let held : c.args.original.now.held ≡ None = search rules in
    let unchecked : c.args.original.now.is_checked ≡ false = search rules in
    rw (held, unchecked) (record {
      opened = record { first = c.in_ok-first.first; second = c.in_ok-second.second };
      rest = c.edit_twice.new.files;
      opens = c.in_ok-first.ensures;
      reopens = c.in_ok-second.ensures;
      writes = c.edit_twice.ensures;
    })
