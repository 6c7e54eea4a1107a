-- What the events of a reading consumed that ends at the stream's end.
use Rattle.wasm_frames.proofs.Common.{◌≡◌, ℕ, ◌+◌, List, [], ◌∷◌, ◌++◌, length, refl, sym, ap, ◌∙◌, append-nil, nat_eq, flat_map-append}
use Rattle.wasm_frames.proofs.Common.{tiles_consume, header_end, inside_end, Ending, ended, consumed_by, Tile, final, verdict, stream_end}
use Rattle.wasm_frames.proofs.Common.{Event, events_of, last_event, bytes_of, grammar, context_of, bodies_left, bytes_left}
use Rattle.wasm_frames.specs.ParserLaws.{EndConsumesAll}

-- the last of a list that has one more
abbrev last_of : Event → List Event → Event
last_of e [] = e
last_of e (x ∷ xs) = last_of x xs

last_is : (d e : Event) (xs : List Event) → last_of d (xs ++ e ∷ []) ≡ e
last_is d e [] = refl
last_is d e (x ∷ xs) = last_is x e xs

same_end : (a b : Ending) → stream_end a ≡ stream_end b → a ≡ b
same_end a b e = cc

-- at the end of a stream no bytes remain
rest_is_none : (start : ℕ) (tiles : List Tile) (rest : List ℕ) (offset : ℕ) → verdict (grammar start tiles) rest ≡ final (ended offset)
    → rest ≡ []
rest_is_none start [] rest offset e = absurd (header_end start rest offset e)
rest_is_none start (t ∷ ts) rest offset e =
    let us : List Tile = t ∷ ts in
    (inside_end (nat_eq (bodies_left us + bytes_left us) 0) (context_of us) (bodies_left us) (bytes_left us)
    (start + length (bytes_of us)) rest offset e).1

-- the last event consumes nothing
last_consumes : (events : List Event) (end : Ending) → consumed_by (events ++ last_event end ∷ []) ≡ consumed_by events
last_consumes events end = flat_map-append (λ e. e.consumed) events (last_event end ∷ []) ∙ append-nil (consumed_by events)

pub end_consumes_all : EndConsumesAll
end_consumes_all stream start features events offset r =
    let last = last_event (ended offset) in
    let all = events_of start features r.tiles in
    let same : last ≡ last_event r.end = sym (last_is last last events) ∙ (ap (last_of last) r.listed ∙ last_is last _ all) in
    let end : r.end ≡ ended offset = same_end r.end _ (ap (λ (e : Event). e.report) (sym same)) in
    let none : r.reads.rest ≡ [] = rest_is_none start r.tiles r.reads.rest offset (r.reads.stops ∙ ap final end) in
    let joined : consumed_by events ≡ bytes_of r.tiles =
    sym (last_consumes events _) ∙ (ap consumed_by r.listed ∙ (search (last_consumes, tiles_consume))) in
    r.reads.whole ∙ (ap (λ (x : List ℕ). bytes_of r.tiles ++ x) none ∙ (append-nil (bytes_of r.tiles) ∙ sym joined))
