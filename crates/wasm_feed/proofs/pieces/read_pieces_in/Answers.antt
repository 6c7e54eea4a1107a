use Rattle.wasm_feed.proofs.Common.{◌≡◌, ℕ, List, [], slice_index_or, Bor, refl, sym, ap, subst₂, ◌∙◌, take_all, all_features, feed_of}
use Rattle.wasm_feed.proofs.Common.{Feed, new_feed, pushed, finished, joined, HasCome}
use Rattle.wasm_streams.specs.Feed.{empty_feed}
use Rattle.wasm_feed.specs.declared.events.Event.{Event}
use Rattle.wasm_feed.proofs.Adding.{come_begins, come_finished, next_piece, last_piece, ended_last}
use Rattle.wasm_streams.proofs.ForCallers.{new_parser}
use Rattle.wasm_feed.proofs.pieces.read_pieces_in.Goals as goal

abbrev none : Bor (List ℕ)
none = record { ref_ptr = (0, 0); now = [] }

pub pieces-init : goal.pieces-init
pieces-init g c =
    let same : feed_of c.new-bytes.result.items c.new-cursor.result ≡ new_feed c.args.offset all_features =
    ap (λ (x : List ℕ). feed_of x c.new-cursor.result) c.new-bytes.ensures.items
    ∙ (c.new-cursor.ensures ∙ ap empty_feed (new_parser _ _ _ _ refl c.new.ensures)) in
    record {
      comes =
          subst₂ (λ (x : Feed) (y : List (Event g.row.A.Denot)). HasCome c.args.offset all_features [] x y) (sym same)
          (sym c.new-events.ensures.items)
          (come_begins c.args.offset all_features);
      goes_on = ap (λ (f : Feed). f.eof) same;
    }

pub returns-then-branch : goal.returns-then-branch
returns-then-branch g c =
    let f = feed_of c.pieces.bytes.items c.pieces.cursor in
    let mid = feed_of c.deref.result.now c.add_chunk.new.cursor in
    let new = feed_of c.deref.result.now c.read_held.new.cursor in
    let e : mid ≡ pushed f (slice_index_or c.args.pieces.now c.pieces.piece-index none).now =
    ap (λ (x : List ℕ). feed_of x c.add_chunk.new.cursor) c.deref.ensures.value ∙ c.in_ok-add_chunk.ensures.ok in
    let r = rw c.if-branch.true at c.in_ok-read_held.ensures.reads in
    last_piece _ _ _ _ none f mid new _ _ c.pieces-test.true c.requires c.pieces.invariant.comes e
    (ap (λ (x : Feed). x.eof) e ∙ c.pieces.invariant.goes_on) r

pub pieces-preserved : goal.pieces-preserved
pieces-preserved g c =
    let f = feed_of c.pieces.bytes.items c.pieces.cursor in
    let mid = feed_of c.deref.result.now c.add_chunk.new.cursor in
    let new = feed_of c.deref.result.now c.read_held.new.cursor in
    let e : mid ≡ pushed f (slice_index_or c.args.pieces.now c.pieces.piece-index none).now =
    ap (λ (x : List ℕ). feed_of x c.add_chunk.new.cursor) c.deref.ensures.value ∙ c.in_ok-add_chunk.ensures.ok in
    let r = rw c.if-branch.false at c.in_ok-read_held.ensures.reads in
    let came = next_piece _ _ _ _ none f mid new _ _ c.pieces-test.true c.requires c.pieces.invariant.comes e r in
    record {
      comes = rw c.deref.ensures.value at came;
      goes_on = c.read_held.ensures.finished ∙ (ap (λ (x : Feed). x.eof) e ∙ c.pieces.invariant.goes_on);
    }

pub returns : goal.returns
returns g c =
    let f = feed_of c.pieces.bytes.items c.pieces.cursor in
    let old = feed_of c.deref-2.result.now c.finish.new.self in
    let new = feed_of c.deref-2.result.now c.read_held-2.new.cursor in
    let e : old ≡ finished f = ap (λ (x : List ℕ). feed_of x c.finish.new.self) c.deref-2.ensures.value
    ∙ ap (feed_of c.pieces.bytes.items) c.finish.ensures in
    let all = ap joined (take_all c.pieces.piece-index c.args.pieces.now c.pieces-test.false) in
    let came = come_finished c.args.offset all_features (joined c.args.pieces.now) f old c.pieces.events.items e
    (rw all at c.pieces.invariant.comes) in
    ended_last c.args.offset all_features (joined c.args.pieces.now) old new c.pieces.events.items c.read_held-2.new.events.items
    c.in_ok-read_held-2.field-0 came c.requires (ap (λ (x : Feed). x.eof) e) c.in_ok-read_held-2.ensures.reads
