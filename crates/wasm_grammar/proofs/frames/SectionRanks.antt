-- The sections of a reading ascend in rank.
use Rattle.wasm_grammar.proofs.Common.{arith, ◌≡◌, true, List, [], ◌∷◌, ◌++◌, ap, ℕ, ◌+◌, length, ◌<◌, sym, ◌∙◌, nat_lt, append-nil}
use Rattle.wasm_grammar.proofs.Common.{append_assoc, ltb-true, subst, option_to_list, and_parts, common_steps, All-push, All, list_all}
use Rattle.wasm_grammar.proofs.Common.{Range, Ending, kind_of, Kind, code, rank_of, Tile, section, Shape, code_id, events_of, Event}
use Rattle.wasm_grammar.proofs.Common.{last_event, event_of, sections_of, bytes_of, encoding_of, Faultless, tile_rank, Encoding, Module}
use Rattle.std.proofs.Common.{get_or}
use Rattle.std.proofs.lemmas.List.Quantifiers.{all_pairs_push}
use Rattle.std.specs.List.{AllPairs}
use Rattle.wasm_grammar.specs.SectionLaws.{RanksAscend}
use Rattle.wasm_grammar.specs.Sections.{BeginsAs, rank_in, RanksBelow}
use Rattle.wasm_grammar.proofs.frames.Reported.{Kinded, kinded, same_encoding, section_at, sections_more, sections_first, sections_all}
use Rattle.wasm_grammar.proofs.parts.Placed.{Fresh, fresh}
use Rattle.wasm_grammar.specs.Grammar

-- the rank of the section that is reported of a tile is the tile's
rank_report : (encoding : Encoding) (kind : Kind) (id : ℕ) → kind ≡ kind_of encoding id → rank_in encoding id ≡ rank_of kind id
rank_report encoding kind id e = ap (λ (k : Kind). rank_of k id) (sym e)

code_report : (encoding : Encoding) → encoding ≡ Module → rank_in encoding code_id ≡ rank_of code 10
code_report encoding e = ap (λ (x : Encoding). rank_in x 10) e

-- ---- each section ranks below a rank above all tiles

-- the section has a lower rank
abbrev Under : Encoding → ℕ → (ℕ × Range ℕ) → Type 0
Under encoding r s = rank_in encoding s.0 < r

under_push : (encoding : Encoding) (r high : ℕ) (s : Shape) (xs : List (ℕ × Range ℕ)) → Kinded encoding s → tile_rank s < r
    → All (Under encoding r) xs → All (Under encoding r) (xs ++ option_to_list (section_at high s))
under_push encoding r high s xs e f g = grind (arith, common_steps, All-push, code_report, append-nil)

all_under : (start features r : ℕ) (t : Tile) (ts : List Tile) → Faultless start (t ∷ ts)
    → list_all (λ (u : Tile). nat_lt (tile_rank u.shape) r) (t ∷ ts) ≡ true
    → All (Under (encoding_of (t ∷ ts)) r) (sections_of (events_of start features (t ∷ ts)))
all_under start features r t [] f h = grind (arith, sections_first)
all_under start features r t (u ∷ ts) f h =
    let q : ((nat_lt (tile_rank t.shape) r ≡ true) × (list_all (λ (v : Tile). nat_lt (tile_rank v.shape) r) (u ∷ ts) ≡ true)) =
    and_parts _ _ h in
    let k : Kinded (encoding_of (u ∷ ts)) t.shape = kinded start u ts t.bytes t f.1 in
    let b = under_push (encoding_of (u ∷ ts)) r (start + length (bytes_of (u ∷ ts)) + length t.bytes) t.shape
    (sections_of (events_of start features (u ∷ ts))) k (ltb-true _ _ q.0) (all_under start features r u ts f.0 q.1) in
    grind (arith, sections_more)

-- ---- two sections

-- one more section, above each earlier one if it has a rank
pair_push : (encoding : Encoding) (xs : List (ℕ × Range ℕ)) (x : ℕ × Range ℕ) (r : ℕ) → rank_in encoding x.0 ≡ r
    → (0 < r → All (Under encoding r) xs) → AllPairs (RanksBelow encoding) xs → AllPairs (RanksBelow encoding) (xs ++ x ∷ [])
pair_push encoding xs x r e u a =
    all_pairs_push (RanksBelow encoding) xs x a (λ k d l p q. let z : 0 < r = omega arith in
    let w : rank_in encoding (get_or xs k d).0 < r = u z k d l in omega arith)

pairs_more : (encoding : Encoding) (high : ℕ) (s : Shape) (xs : List (ℕ × Range ℕ)) → Kinded encoding s
    → (0 < tile_rank s → All (Under encoding (tile_rank s)) xs) → AllPairs (RanksBelow encoding) xs
    → AllPairs (RanksBelow encoding) (xs ++ option_to_list (section_at high s))
pairs_more encoding high (section kind id content) xs k u a = search (pair_push, rank_report)
pairs_more encoding high (Grammar.code_start count width size) xs k u a = search (pair_push, code_report)
pairs_more encoding high (Grammar.code_entry content) xs k u a = subst (AllPairs (RanksBelow encoding)) (sym (append-nil xs)) a
pairs_more encoding high (Grammar.version num other) xs k u a = absurd k

pairs : (start features : ℕ) (t : Tile) (ts : List Tile) → Faultless start (t ∷ ts)
    → AllPairs (RanksBelow (encoding_of (t ∷ ts))) (sections_of (events_of start features (t ∷ ts)))
pairs start features t [] f = grind arith
pairs start features t (u ∷ ts) f =
    let k : Kinded (encoding_of (u ∷ ts)) t.shape = kinded start u ts t.bytes t f.1 in
    let g : Fresh (u ∷ ts) t.shape = fresh start (u ∷ ts) t.bytes t f.1 in
    let b = pairs_more (encoding_of (u ∷ ts)) (start + length (bytes_of (u ∷ ts)) + length t.bytes) t.shape
    (sections_of (events_of start features (u ∷ ts))) k
    (λ h. all_under start features (tile_rank t.shape) u ts f.0 (g h)) (pairs start features u ts f.0) in
    rw (same_encoding t (u ∷ ts) k) (subst (AllPairs (RanksBelow (encoding_of (u ∷ ts)))) (sym (sections_more start features u ts t f.1)) b)

-- ---- the header's encoding

-- events that begin with those of tiles name their encoding
first_named : (start features : ℕ) (t : Tile) (ts : List Tile) (more : List Event) (encoding : Encoding) → Faultless start (t ∷ ts)
    → BeginsAs encoding (events_of start features (t ∷ ts) ++ more) → encoding_of (t ∷ ts) ≡ encoding
first_named start features t [] more encoding f b = grind arith
first_named start features t (u ∷ ts) more encoding f b =
    let k : Kinded (encoding_of (u ∷ ts)) t.shape = kinded start u ts t.bytes t f.1 in
    let e : Event = event_of features (start + length (bytes_of (u ∷ ts))) t in
    same_encoding t (u ∷ ts) k ∙ first_named start features u ts (e ∷ more) encoding f.0
    (rw (append_assoc (events_of start features (u ∷ ts)) (e ∷ []) more) at b)

ascend : (start features : ℕ) (ts : List Tile) (end : Ending) (encoding : Encoding) → Faultless start ts
    → BeginsAs encoding (events_of start features ts ++ last_event end ∷ [])
    → AllPairs (RanksBelow encoding) (sections_of (events_of start features ts))
ascend start features [] end encoding f b = cc
ascend start features (t ∷ ts) end encoding f b =
    rw (first_named start features t ts (last_event end ∷ []) encoding f b) at (pairs start features t ts f)

pub ranks_ascend : RanksAscend
ranks_ascend stream start features events encoding r b =
    let a : AllPairs (RanksBelow encoding) (sections_of (events_of start features r.tiles)) =
    ascend start features r.tiles r.end encoding r.reads.faultless (rw r.listed at b) in
    subst (AllPairs (RanksBelow encoding)) (grind (arith, sections_all)) a
