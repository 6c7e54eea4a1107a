-- A dump, after which the output is flushed.
use Rattle.std.proofs.Common.{◌≡◌, ◌∷◌, ◌++◌, List, ℕ, true, false, arith, Bool, Option, Some, None}
use Rattle.std.proofs.Common.{Result, Ok, Err, ap, subst₂, sym}
use Rattle.std.specs.Io.KnownBytes.{Appends, Keeps}
use Rattle.std.proofs.KnownBytes.{Appends-kept}
use Rattle.wasm_io.specs.Calls.{from_to}
use Rattle.wasm_streams.specs.declared.turns.Ended.{Ended}
use Rattle.wasm_io.specs.declared.devices.ListError.{ListError}
use Rattle.wasm_io.specs.declared.devices.ListError.TheVariants.{Input, Output, Memory}
use Rattle.wasm_output.specs.Numbers.{Number}
use Rattle.wasm_dumper.specs.Dump.{WritesWhole, WritesSome, Writes, Dumps}
use Rattle.wasm_dumper.specs.declared.events.Only.{Only}
use Rattle.wasm_output.specs.declared.tree.Style.{Style}
use Rattle.wasm_commands.specs.Colors.{marked, seen, without_colors}

-- what was written to one device is seen on another
module _ (style : Style) (a b c d : Option (List ℕ)) (sees : (text : List ℕ) → Appends a b text → Appends c d text) where
  whole_seen : (outline : List ℕ) (numbers : List Number) (bytes : List ℕ) → WritesWhole style a b outline numbers bytes
      → WritesWhole style c d outline numbers bytes
  whole_seen outline numbers bytes w = record { text = w.text; shaped = w.shaped; wrote = sees w.text w.wrote }

  some_seen : (outline : List ℕ) (numbers : List Number) (bytes : List ℕ) → WritesSome style a b outline numbers bytes
      → WritesSome style c d outline numbers bytes
  some_seen outline numbers bytes w =
      record { text = w.text; unwritten = w.unwritten; shaped = w.shaped; wrote = sees w.text w.wrote }

  writes_seen : (how : Result Ended ListError) (outline : List ℕ) (numbers : List Number) (bytes : List ℕ)
      → Writes style how a b outline numbers bytes → Writes style how c d outline numbers bytes
  writes_seen (Ok ended) outline numbers bytes w = whole_seen outline numbers bytes w
  writes_seen (Err Input) outline numbers bytes w = whole_seen outline numbers bytes w
  writes_seen (Err Output) outline numbers bytes w = some_seen outline numbers bytes w
  writes_seen (Err Memory) outline numbers bytes w = some_seen outline numbers bytes w

  pub dumps_seen : (only : List Only) (has_bytes : Bool) (source rest : Option (List ℕ)) (how : Result Ended ListError)
      → Dumps style only has_bytes (from_to source rest) (from_to a b) how
      → Dumps style only has_bytes (from_to source rest) (from_to c d) how
  dumps_seen only has_bytes source rest how dumps = record {
    outline = dumps.outline;
    numbers = dumps.numbers;
    bytes = dumps.bytes;
    lists = dumps.lists;
    counts = dumps.counts;
    writes = writes_seen how dumps.outline dumps.numbers dumps.bytes dumps.writes;
  }

-- what is kept is seen as it was
seen_kept : (colors : Bool) (a b : Option (List ℕ)) → Keeps a b → Keeps (seen colors a) (seen colors b)
seen_kept true None b k = tt
seen_kept true (Some x) None k = absurd k
seen_kept true (Some x) (Some y) k = ap without_colors k
seen_kept false a b k = k

pub dumps_kept : (style : Style) (only : List Only) (has_bytes colors : Bool) (source rest a b c : Option (List ℕ))
    (how : Result Ended ListError)
    → Dumps style only has_bytes (from_to source rest) (from_to (seen colors a) (seen colors b)) how → Keeps b c
    → Dumps style only has_bytes (from_to source rest) (from_to (seen colors a) (seen colors c)) how
dumps_kept style only has_bytes colors source rest a b c how d k =
    dumps_seen style (seen colors a) (seen colors b) (seen colors a) (seen colors c)
    (λ text p. Appends-kept (seen colors a) (seen colors b) (seen colors c) text p (seen_kept colors b c k))
    only has_bytes source rest how d

-- the number before known bytes stays, so colors that there were are still there
same_colors : (m n : ℕ) (xs ys text : List ℕ) → n ∷ ys ≡ (m ∷ xs) ++ text → (n ≡ m) × (ys ≡ xs ++ text)
same_colors m n xs ys text e = (cc, cc)

pub unmarked : (old new : Bool) (a b : Option (List ℕ)) (text : List ℕ) → Appends (marked old a) (marked new b) text
    → Appends (seen old a) (seen old b) text
unmarked true new None b text p = tt
unmarked false new None b text p = tt
unmarked true true (Some x) None text p = absurd p
unmarked true false (Some x) None text p = absurd p
unmarked false true (Some x) None text p = absurd p
unmarked false false (Some x) None text p = absurd p
unmarked true true (Some x) (Some y) text p = (same_colors 1 1 (without_colors x) (without_colors y) text p).1
unmarked false false (Some x) (Some y) text p = (same_colors 0 0 x y text p).1
unmarked true false (Some x) (Some y) text p =
    let e : 0 ≡ 1 = (same_colors 1 0 (without_colors x) y text p).0 in absurd (omega (arith, e))
unmarked false true (Some x) (Some y) text p =
    let e : 1 ≡ 0 = (same_colors 0 1 x (without_colors y) text p).0 in absurd (omega (arith, e))

-- a dump to a sink with a number before the bytes that it has taken
pub dumps_unmarked : (style : Style) (only : List Only) (has_bytes old new : Bool) (source rest a b before after : Option (List ℕ))
    (how : Result Ended ListError) → before ≡ marked old a → marked new b ≡ after
    → Dumps style only has_bytes (from_to source rest) (from_to before after) how
    → Dumps style only has_bytes (from_to source rest) (from_to (seen old a) (seen old b)) how
dumps_unmarked style only has_bytes old new source rest a b before after how was is d =
    dumps_seen style before after (seen old a) (seen old b)
    (λ text p. unmarked old new a b text (subst₂ (λ (x y : Option (List ℕ)). Appends x y text) was (sym is) p))
    only has_bytes source rest how d
