-- Events lie end to end.
use Rattle.wasm_grammar.proofs.Common.{arith, ◌≡◌, Bool, cond, List, [], ◌∷◌, ◌++◌, refl, ap, ℕ, ◌+◌, length, ◌≤◌, None, ◌&&◌, sym, ◌∙◌}
use Rattle.wasm_grammar.proofs.Common.{append-nil, append_assoc, subst, ◌-◌, take, drop, nat_le, length-append, flat_map-append}
use Rattle.wasm_grammar.proofs.Common.{length-take-le, take_at, drop_at, number-used, at_offset, magic, agree, Number, number}
use Rattle.wasm_grammar.proofs.Common.{MagicAtSection, UnexpectedEof, VarU32, Ending, fault, ended, Form, Kind, AtOffsets, consumed_by}
use Rattle.wasm_grammar.proofs.Common.{Tile, SectionContext, version, tile, check, bytes, section, code_start, code_entry, Shape, final}
use Rattle.wasm_grammar.proofs.Common.{after, Grammar, accept, u32_field, content_grammar, section_start, Verdict, after_number, reject}
use Rattle.wasm_grammar.proofs.Common.{verdict, header_grammar, section_grammar, body_grammar, Reads, events_of, Event, last_event}
use Rattle.wasm_grammar.proofs.Common.{tile_report, event_of, section_report, bytes_of, grammar, Faultless}
use Rattle.wasm_grammar.specs.EventRanges.{LiesIn, LiesBetween, EndToEnd}
use Rattle.wasm_grammar.specs.Laws.{EventsLieEndToEnd}
use Rattle.wasm_grammar.specs.Reading.{stream_end}
use Rattle.wasm_grammar.proofs.parts.Places.{name_used}
use Rattle.wasm_grammar.proofs.parts.Verdicts.{after-tile}
use Rattle.wasm_grammar.proofs.readings.Endings.{header_end, inside_end}

-- ---- a tile's bytes end with its content

abbrev pub Closes : Shape → (passed : List ℕ) → Type 0
Closes (version num encoding) passed = Unit {0}
Closes (section kind id content) passed = (prefix : List ℕ) × (passed ≡ prefix ++ content)
Closes (code_start count width size) passed = width ≤ length passed
Closes (code_entry content) passed = (prefix : List ℕ) × (passed ≡ prefix ++ content)

-- each tile of this grammar ends with its content, where these bytes of it have been passed
abbrev pub Closing : (passed : List ℕ) → Grammar → Type 0
Closing passed (accept shape) = Closes shape passed
Closing passed (reject e) = Unit {0}
Closing passed (check e next) = Closing passed next
Closing passed (u32_field o next) = (v k : ℕ) (b : List ℕ) → length b ≡ k → Closing (passed ++ b) (next v k)
Closing passed (bytes count o next) = (b : List ℕ) → Closing (passed ++ b) (next b)
Closing passed (section_start o e next) = (id : ℕ) → Closing (passed ++ id ∷ []) (next id)

-- a tile that ends with its content still does after a prefix
closes_after : (passed prefix : List ℕ) (v : Verdict) (t : Tile)
    → ((s : Tile) → v ≡ tile s → Closes s.shape ((passed ++ prefix) ++ s.bytes)) → after prefix v ≡ tile t
    → Closes t.shape (passed ++ t.bytes)
closes_after passed prefix v t ih h = grind (arith, after-tile, append_assoc)

closes_number : (passed : List ℕ) (o : ℕ) (xs : List ℕ) (next : ℕ → ℕ → Grammar) (t : Tile)
    → ((v k : ℕ) (b zs : List ℕ) (s : Tile) → length b ≡ k → verdict (next v k) zs ≡ tile s → Closes s.shape ((passed ++ b) ++ s.bytes))
    → (n : Number) → number VarU32 xs ≡ n → after_number o xs n (λ v k. verdict (next v k) (drop k xs)) ≡ tile t
    → Closes t.shape (passed ++ t.bytes)
closes_number passed o xs next t ih n e h = grind (arith, number-used, closes_after, length-take-le)

closes_bytes : (passed : List ℕ) (count : ℕ) (xs : List ℕ) (next : List ℕ → Grammar) (t : Tile) (e : Ending)
    → ((b zs : List ℕ) (s : Tile) → verdict (next b) zs ≡ tile s → Closes s.shape ((passed ++ b) ++ s.bytes))
    → (b : Bool) → cond b (after (take count xs) (verdict (next (take count xs)) (drop count xs))) (final e) ≡ tile t
    → Closes t.shape (passed ++ t.bytes)
closes_bytes passed count xs next t e ih b h = grind (arith, closes_after)

closes_start : (passed : List ℕ) (id : ℕ) (v : Verdict) (t : Tile) (e : Ending)
    → ((s : Tile) → v ≡ tile s → Closes s.shape ((passed ++ id ∷ []) ++ s.bytes))
    → (b : Bool) → cond b (final e) (after (id ∷ []) v) ≡ tile t → Closes t.shape (passed ++ t.bytes)
closes_start passed id v t e ih b h = grind (arith, closes_after)

closes : (passed : List ℕ) (g : Grammar) (xs : List ℕ) (t : Tile) → Closing passed g → verdict g xs ≡ tile t
    → Closes t.shape (passed ++ t.bytes)
unfolding verdict
closes passed (accept shape) xs t c h = grind (arith, append-nil)
closes passed (check None next) xs t c h = closes passed next xs t c h
closes passed (u32_field o next) xs t c h =
    closes_number passed o xs next t (λ v k b zs s l. closes (passed ++ b) (next v k) zs s (c v k b l)) (number VarU32 xs) refl h
closes passed (bytes count o next) xs t c h =
    closes_bytes passed count xs next t (fault (at_offset UnexpectedEof o)) (λ b zs s. closes (passed ++ b) (next b) zs s (c b))
    (nat_le count (length xs)) h
closes passed (section_start o e next) (id ∷ xs) t c h =
    closes_start passed id (verdict (next id) xs) t (fault (at_offset MagicAtSection o))
    (λ s. closes (passed ++ id ∷ []) (next id) xs s (c id)) (agree (id ∷ xs) magic && nat_le 4 (length (id ∷ xs))) h
closes passed _ _ t c h = cc

Closing-content : (passed : List ℕ) (p : SectionContext) (kind : Kind) (id o n : ℕ) → Closing passed (content_grammar p kind id o n)
Closing-content passed p kind id o n = grind (arith, length-append)

-- a tile's bytes end with its content
pub tile_closes : (start : ℕ) (ts : List Tile) (xs : List ℕ) (t : Tile) → verdict (grammar start ts) xs ≡ tile t → Closes t.shape t.bytes
unfolding header_grammar section_grammar body_grammar
tile_closes start ts xs t h = closes [] (grammar start ts) xs t (grind (arith, Closing-content)) h

-- ---- where a stream ends

-- a stream ends after all its bytes, and is reported so there
abbrev pub IsEndAt : (o : ℕ) (rest : List ℕ) (x : ℕ) → Type 0
IsEndAt o rest x = (rest ≡ []) × (x ≡ o)

end_at : (start : ℕ) (ts : List Tile) (xs : List ℕ) (x : ℕ) → verdict (grammar start ts) xs ≡ final (ended x)
    → IsEndAt (start + length (bytes_of ts)) xs x
end_at start ts xs x h = grind (arith, header_end, inside_end)

-- a reading that doesn't stop at a fault ends after the whole stream
pub ends_after_all : (stream : List ℕ) (start : ℕ) (ts : List Tile) (x : ℕ) → Reads stream start ts (ended x) → (x ≡ start + length stream)
    × (x ≡ start + length (bytes_of ts))
ends_after_all stream start ts x r = grind (arith, end_at, append-nil)

-- ---- one event

-- content at the end of a tile, in its stream
record Placed (stream : List ℕ) (start low high : ℕ) (content : List ℕ) : Type 0 where
  after_start : start ≤ high - length content
  above : low ≤ high - length content
  ends : (high - length content) + length content ≡ high
  part : take (length content) (drop (high - length content - start) stream) ≡ content

placed : (stream earlier prefix content rest : List ℕ) (start low high : ℕ) → stream ≡ earlier ++ ((prefix ++ content) ++ rest) → low
    ≡ start + length earlier → high ≡ low + length (prefix ++ content) → Placed stream start low high content
placed stream earlier prefix content rest start low high w l h =
    let m : length (earlier ++ prefix) ≡ length earlier + length prefix = length-append earlier prefix in
    grind (arith, append_assoc, drop_at, take_at, length-append)

range_is : (stream : List ℕ) (start low high : ℕ) (content : List ℕ) → Placed stream start low high content
    → LiesIn (high - length content) ((high - length content) + length content) low high
range_is stream start low high content p = grind arith

section_lies : (stream : List ℕ) (start low high features : ℕ) (kind : Form) (id : ℕ) (content : List ℕ)
    → Placed stream start low high content → LiesBetween stream start features low high
    (section_report features (high - length content) high kind id content)
section_lies stream start low high features kind id content e = grind (arith, name_used)

lies_between : (stream earlier passed rest : List ℕ) (start low high features : ℕ) (shape : Shape) → stream ≡ earlier ++ (passed ++ rest)
    → low ≡ start + length earlier → high ≡ low + length passed → Closes shape passed
    → LiesBetween stream start features low high (tile_report features low high shape)
lies_between stream earlier passed rest start low high features (version num encoding) w l h c = (refl, refl)
lies_between stream earlier passed rest start low high features (section kind id content) w l h (before, c) =
    section_lies stream start low high features kind id content
    (placed stream earlier before content rest start low high (cc) l
    (h ∙ ap (λ (x : List ℕ). low + length x) c))
lies_between stream earlier passed rest start low high features (code_start count width size) w l h c = grind arith
lies_between stream earlier passed rest start low high features (code_entry content) w l h (before, c) =
    let p : Placed stream start low high content = placed stream earlier before content rest start low high
    (cc) l (h ∙ ap (λ (x : List ℕ). low + length x) c) in
    search range_is

-- ---- all events

consumed_more : (es : List Event) (e : Event) → consumed_by (es ++ e ∷ []) ≡ consumed_by es ++ e.consumed
consumed_more es e = flat_map-append (λ x. x.consumed) es (e ∷ []) ∙ ap (λ (l : List ℕ). consumed_by es ++ l) (append-nil e.consumed)

-- what holds of events and of one more event holds of all
pub at_offsets_more : (P : ℕ → Event → Type 0) (at : ℕ) (es : List Event) (e : Event) (low : ℕ) → low ≡ at + length (consumed_by es)
    → AtOffsets P at es → P low e → AtOffsets P at (es ++ e ∷ [])
at_offsets_more P at [] e low l h s = (subst (λ (x : ℕ). P x e) (omega arith) s, tt)
at_offsets_more P at (x ∷ es) e low l h s =
    (h.0, at_offsets_more P (at + length x.consumed) es e low (omega (arith, length-append x.consumed (consumed_by es))) h.1 s)

pub tiles_consume : (start features : ℕ) (ts : List Tile) → consumed_by (events_of start features ts) ≡ bytes_of ts
tiles_consume start features [] = refl
tiles_consume start features (t ∷ ts) = grind (arith, consumed_more, tiles_consume start features ts)

tiles_lie : (stream : List ℕ) (start features : ℕ) (ts : List Tile) (rest : List ℕ) → Faultless start ts → stream ≡ bytes_of ts ++ rest
    → EndToEnd stream start features start (events_of start features ts)
tiles_lie stream start features [] rest f w = tt
tiles_lie stream start features (t ∷ ts) rest f w =
    let z : stream ≡ bytes_of ts ++ (t.bytes ++ rest) = w ∙ append_assoc (bytes_of ts) t.bytes rest in
    at_offsets_more (λ low e. LiesBetween stream start features low (low + length e.consumed) e.report) start (events_of start features ts)
    (event_of features (start + length (bytes_of ts)) t) (start + length (bytes_of ts))
    (search tiles_consume)
    (tiles_lie stream start features ts (t.bytes ++ rest) f.0 z)
    (search (lies_between, tile_closes))

last_lies : (stream : List ℕ) (start features : ℕ) (ts : List Tile) (end : Ending) → Reads stream start ts end
    → LiesBetween stream start features (start + length (bytes_of ts)) (start + length (bytes_of ts) + 0) (stream_end end)
last_lies stream start features ts (fault f) r = tt
last_lies stream start features ts (ended x) r = omega (arith, ends_after_all)

pub events_lie_end_to_end : EventsLieEndToEnd
events_lie_end_to_end stream start features ts end r =
    let n : consumed_by (events_of start features ts) ≡ bytes_of ts = tiles_consume start features ts in (
      at_offsets_more (λ low e. LiesBetween stream start features low (low + length e.consumed) e.report) start
          (events_of start features ts) (last_event end) (start + length (bytes_of ts)) (rw (sym n))
          (grind (arith, tiles_lie))
          (last_lies stream start features ts end r),
      consumed_more (events_of start features ts) (last_event end) ∙ (append-nil (consumed_by (events_of start features ts)) ∙ n),
    )
