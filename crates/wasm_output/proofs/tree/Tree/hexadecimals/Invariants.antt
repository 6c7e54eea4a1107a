use Rattle.wasm_output.proofs.Common.{length, flat_map, hexadecimal, Says, SaysSome, Writing, Adds}
use Rattle.wasm_output.proofs.tree.Tree.hexadecimals.Given as goal

-- what says the digits of the rest says all
abbrev pub invariant-groups : goal.invariant-groups
invariant-groups g l =
    let writing = g.Self.Tree.writing in
    record {
      adds : Adds (writing l.initial.self) (writing l.self);
      some : SaysSome (writing l.initial.self) (writing l.self);
      says : (w : Writing) → Says (flat_map hexadecimal l.rest) (writing l.self) w
          → Says (flat_map hexadecimal l.fn.bytes) (writing l.initial.self) w;
    }

abbrev pub decreases-groups : goal.decreases-groups
decreases-groups g l = length l.rest
