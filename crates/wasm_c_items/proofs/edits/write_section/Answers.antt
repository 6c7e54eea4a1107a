use Rattle.std.proofs.Common.{arith}
use Rattle.wasm_edits.specs.Encoded.{encoded_section}
use Rattle.wasm_c_items.proofs.WrittenSections.{written_at_front}
use Rattle.wasm_c_items.proofs.edits.write_section.Goals as goal

pub returns-then-size-out-clause-written : goal.returns-then-size-out-clause-written
returns-then-size-out-clause-written c =
    let section = encoded_section c.args.section.now in
    written_at_front section c.args.out.now c.write_at.new.bytes c.write_at.result c.write_at.ensures.end
    c.write_at.ensures.written c.write_at.ensures.rest c.size-size.ensures (omega (arith, c.if-size-out.true))
