use Rattle.wasm_streams.proofs.Common.{◌≡◌, ◌+◌, ◌++◌, length, take, ◌-◌, ◌≤◌, enough, waiting, grammar_of}
use Rattle.std.proofs.Common.{vec_len, vec_capacity}
use Rattle.wasm_streams.proofs.ahead.gather.Given as goal

-- the first bytes of the chunk were appended
abbrev pub invariant-parts : goal.invariant-parts
invariant-parts g l = record {
  within : l.count ≤ length l.piece;
  put : l.held.items ≡ l.initial.held.items ++ take l.count l.piece;
  idle : waiting (grammar_of l.parser) l.initial.held.items ≡ enough → l.count ≡ 0;
  room : vec_len l.held + (length l.piece - l.count) ≤ vec_capacity l.held;
}

abbrev pub decreases-parts : goal.decreases-parts
decreases-parts g l = length l.piece - l.count
