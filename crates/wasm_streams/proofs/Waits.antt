-- That a feeder wants more only where its parser is undecided.
use Rattle.wasm_streams.proofs.Common.{◌≡◌, ℕ, ◌+◌, ◌^◌, ◌<◌, false, List, [], length, refl, arith, length-append, ◌≤◌, append-nil}
use Rattle.wasm_streams.proofs.Common.{at_offset, OffsetRange, enough, waiting, answers_go_along, grammar_of, MovesOver, Feed}
use Rattle.wasm_streams.proofs.Common.{new_feed, pushed, finished, end_of, answer_of, Moves, Told}
use Rattle.std.proofs.lemmas.List.{drop_all}
use Rattle.wasm_streams.specs.FeedersLaws.{WaitsUndecided, FeedersWait}
use Rattle.wasm_grammar.specs.Grammar.{header_grammar}
use Rattle.wasm_grammar.specs.Waiting.{wants}
use Rattle.wasm_frames.specs.Answer.{refuses}
use Rattle.wasm_streams.proofs.Stepping.{asked, ends}

-- before the first byte
nothing_decides : (offset : ℕ) → waiting (header_grammar offset) [] ≡ wants 4 4
unfolding header_grammar waiting
nothing_decides offset = refl

begins : (offset features : ℕ) → offset < 2 ^ 64 → WaitsUndecided (new_feed offset features)
begins offset features l = record {
  stores = omega arith;
  below = omega (arith, l);
  undecided = λ e. (4, (refl, (4, nothing_decides offset)));
}

pushes : (f : Feed) (piece : List ℕ) → end_of f + length piece < 2 ^ 64 → WaitsUndecided f → WaitsUndecided (pushed f piece)
pushes f piece l w = grind (arith, length-append)

finishes : (f : Feed) → WaitsUndecided f → WaitsUndecided (finished f)
finishes f w = record { stores = w.stores; below = w.below; undecided = λ e. cc }

-- ---- a step

steps : (f g : Feed) (x : Told) → WaitsUndecided f → Moves f x g → WaitsUndecided g
steps f g x w s = grind (arith, length-append, ends, asked)

-- ---- a step over a chunk

steps_over : (f g : Feed) (piece : List ℕ) (x : Told) (taken : ℕ) → end_of f + length piece < 2 ^ 64
    → MovesOver f piece x taken g → WaitsUndecided g
steps_over f g piece x taken l s = grind (arith, ends, length-append, drop_all, append-nil, asked)

-- past the top of the offsets
past_the_top : (f g : Feed) (x : Told) → 2 ^ 64 ≤ end_of f → Moves f x g
    → (answer_of x ≡ refuses (at_offset OffsetRange f.state.offset)) × (g.wants_more ≡ false)
past_the_top f g x l s = grind (arith, answers_go_along.past_the_top)

-- ---- what is stored

-- what is stored after a push
bounded : (f : Feed) (piece : List ℕ) (need hint : ℕ) → waiting (grammar_of f.state) f.held ≡ wants need hint
    → (pushed f piece).stored < need + length piece
bounded f piece need hint e = let l = answers_go_along.bounded f.state f.held need hint e in omega (arith, l)

bounded_over : (f g : Feed) (piece : List ℕ) (x : Told) (taken need hint : ℕ)
    → waiting (grammar_of f.state) f.held ≡ wants need hint → 0 < length piece → MovesOver f piece x taken g
    → g.stored < need + length piece
bounded_over f g piece x taken need hint e some s = grind (arith, answers_go_along.bounded)

idle_over : (f g : Feed) (piece : List ℕ) (x : Told) (taken : ℕ) → WaitsUndecided f → f.eof ≡ false → 0 < length f.held
    → waiting (grammar_of f.state) f.held ≡ enough → end_of f + length piece < 2 ^ 64 → MovesOver f piece x taken g
    → (taken ≡ 0) × (g.stored ≤ f.stored)
idle_over f g piece x taken w goes some decides l s = grind arith

pub feeders_wait : FeedersWait
feeders_wait = search (begins, pushes, finishes, steps, steps_over, past_the_top, bounded, bounded_over, idle_over)
