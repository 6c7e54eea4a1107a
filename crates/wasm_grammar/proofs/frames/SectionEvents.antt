-- What the events of a reading say of sections and bodies is what their bytes are.
use Rattle.wasm_grammar.proofs.Common.{arith, ◌≡◌, ◌⊎◌, inl, inr, Bool, true, false, cond, List, [], ◌∷◌, ◌++◌, ap, ℕ, ◌+◌, length, None}
use Rattle.wasm_grammar.proofs.Common.{sym, Option, subst, ◌-◌, length-append, Some, Range, IsNumber, IsFormed, Form, kind_of, code}
use Rattle.wasm_grammar.proofs.Common.{AtOffsets, Tile, SectionContext, tile, section, code_grammar, verdict, section_grammar, body_grammar}
use Rattle.wasm_grammar.proofs.Common.{events_of, event_of, section_report, section_of, Faultless}
use Rattle.wasm_grammar.specs.Laws.{EventsSayTheirBytes}
use Rattle.wasm_grammar.specs.Reading.{Report}
use Rattle.wasm_grammar.specs.SectionEvents.{bytes_of_bodies, SaysContent, SaysItsBytes}
use Rattle.wasm_grammar.proofs.accepted.Contents.{good_from}
use Rattle.wasm_grammar.proofs.accepted.Parts.{SectionParts, section_parts, WholeParts, content_parts, HeadParts, head_parts, BodyParts}
use Rattle.wasm_grammar.proofs.accepted.Parts.{body_parts}
use Rattle.wasm_grammar.proofs.accepted.Tiles.{made, IsWhole, whole_or_code}
use Rattle.wasm_grammar.proofs.frames.Reported.{section_at, report_after}
use Rattle.wasm_grammar.proofs.parts.Placed.{headed}
use Rattle.wasm_grammar.proofs.readings.EndToEnd.{at_offsets_more, tiles_consume}
use Rattle.wasm_grammar.specs.Grammar

-- ---- what is reported of good content

-- what is reported of a section is its content, and it has no bodies
record Said (features from : ℕ) (content : List ℕ) (report : Report) : Type 0 where
  says : SaysContent features from content report
  no_bodies : bytes_of_bodies report ≡ 0

said : (features from to : ℕ) (kind : Form) (id : ℕ) (content : List ℕ) → IsFormed kind content
    → Said features from content (section_report features from to kind id content)
said features from to kind id content g = grind arith

-- ---- the event of a section

-- the section that is reported is this one
abbrev Same : (id : ℕ) (range : Range ℕ) → Option (ℕ × Range ℕ) → Type 0
Same id range report = report ≡ Some (id, range)

abbrev range_in : Range ℕ → Option (ℕ × Range ℕ) → Range ℕ
range_in other (Some x) = x.1
range_in other None = other

range_is : (i j : ℕ) (r s : Range ℕ) → Same j s (Some (i, r)) → r ≡ s
range_is i j r s e = ap (range_in r) e

-- ---- the event of a tile

-- The section that is reported of a tile is the one that ends where the tile does.
abbrev ReportedThere : (features o : ℕ) → Tile → Type 0
ReportedThere features o t = section_of (event_of features o t).report ≡ section_at (o + length t.bytes) t.shape

-- the event of a section's tile
section_says : (features o : ℕ) (p : SectionContext) (t : Tile) → ReportedThere features o t → (s : SectionParts p o t)
    → SaysItsBytes features o (event_of features o t)
section_says features o p t q s = at (whole_or_code (kind_of p.encoding s.id))
  where
    at : IsWhole (kind_of p.encoding s.id) ⊎ (kind_of p.encoding s.id ≡ code) → SaysItsBytes features o (event_of features o t)
    at (inl w) =
        let c : WholeParts p w.0 s.id (o + 1 + length s.field) s.size s.rest =
        search content_parts in
        let z : t ≡ made (section w.0 s.id c.content) (s.id ∷ (s.field ++ c.content)) = cc in
        let n : IsNumber s.field (length c.content) = rw c.long s.whole in
        subst (λ (x : Tile). SaysItsBytes features o (event_of features o x)) (sym z)
        (grind (arith, good_from, said, length-append, made, range_is))
    at (inr k) =
        let g : verdict (code_grammar p (o + 1 + length s.field) s.size) s.others
        ≡ tile s.rest = cc in
        let c : HeadParts p (o + 1 + length s.field) s.size s.rest = search head_parts in
        let z : t ≡ made (Grammar.code_start c.count (length c.head) (s.size - length c.head)) (s.id ∷ (s.field ++ c.head)) = cc in
        let n : IsNumber s.field (length c.head + (s.size - length c.head)) = grind arith in
        grind (arith, length-append, made, range_is)

body_tile_says : (features o m l : ℕ) (t : Tile) → BodyParts m l t → SaysItsBytes features o (event_of features o t)
body_tile_says features o m l t b = grind (arith, length-append)

-- the event of a tile after a header
inside_says : (features o : ℕ) (b : Bool) (p : SectionContext) (m l : ℕ) (t : Tile) → ReportedThere features o t
    → verdict (cond b (section_grammar p o) (body_grammar m l o)) t.bytes ≡ tile t → SaysItsBytes features o (event_of features o t)
inside_says features o true p m l t q v = section_says features o p t q (section_parts p o t.bytes t v)
inside_says features o false p m l t q v = body_tile_says features o m l t (body_parts m l o t.bytes t v)

-- ---- all events

tiles_say : (start features : ℕ) (ts : List Tile) → Faultless start ts
    → AtOffsets (SaysItsBytes features) start (events_of start features ts)
tiles_say start features [] f = tt
tiles_say start features (t ∷ ts) f =
    grind (arith, at_offsets_more, tiles_consume, tiles_say start features ts f.0, headed, inside_says, report_after)

pub events_say_their_bytes : EventsSayTheirBytes
events_say_their_bytes stream start features events r = grind (arith, at_offsets_more, tiles_say)
