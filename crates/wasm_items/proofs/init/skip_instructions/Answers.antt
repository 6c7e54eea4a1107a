use Rattle.std.proofs.Common.{rules, length, refl, arith}
use Rattle.wasm_base.specs.Window.{place}
use Rattle.wasm_items.proofs.PassedInstructions.{next_instruction, fewer_remaining}
use Rattle.wasm_items.specs.Init.{end_of_expression}
use Rattle.wasm_items.proofs.init.skip_instructions.Goals as goal

pub instructions-init : goal.instructions-init
unfolding end_of_expression
instructions-init c = record {
  left = record { most = length (place c.args.reader.now).rest; fewer = omega arith; so_far = refl };
  keeps = search rules;
}

pub instructions-preserved : goal.instructions-preserved
instructions-preserved c = record {
  left = next_instruction c.instructions.invariant.left.most (place c.instructions.reader) _ c.in_ok-opcode.opcode
      (place c.read_u8.new.self) (place c.read_operands.new.reader) c.instructions.invariant.left.fewer c.instructions.invariant.left.so_far
      (search rules) (search rules) c.in_ok-read_operands.field-0 (search rules)
      (fewer_remaining c.read_u8.new.self c.read_operands.new.reader c.read_operands.ensures.keeps);
  keeps = search rules;
}
