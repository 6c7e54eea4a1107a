use Rattle.std.proofs.Common.{[], refl, append-nil}
use Rattle.wasm_commands.specs.declared.dump.plain.Where.TheVariants.{Outside}
use Rattle.wasm_commands.proofs.Coloring.{gains_byte}
use Rattle.wasm_commands.proofs.dump.gathered.put_byte.Goals as goal
use Rattle.wasm_commands.proofs.dump.gathered.put_byte.Goals.{then-ne, else-ne}

pub returns : goal.returns
returns c =
    elim c.if-ne.branch [
      | then-ne w ↦ gains_byte c.args.byte c.args.gathered.now w.sequence.result.now _ c.requires.no_escape
          (w.sequence.ensures.sets Outside).0 (w.sequence.ensures.sets Outside).1 cc
      | else-ne w ↦ gains_byte c.args.byte c.args.gathered.now [] _ c.requires.no_escape refl refl
          (rw (append-nil c.args.gathered.now) cc)
    ]
