use Rattle.wasm_dumper.proofs.Common.{◌≡◌, ℕ, ◌<◌, List, true, ◌++◌, Err, None, Ok, Option, Some, refl, ap, ◌∙◌, drop}
use Rattle.wasm_dumper.proofs.Common.{err_from_is_err_and, seen, lending, beside}
use Rattle.wasm_dumper.proofs.Common.{feed_of, Cursor, Fault, Feed, Skips, Stop, pushed, weight}
use Rattle.wasm_dumper.proofs.DroppedParts.{dropped, dumping_short, failed_within, shows_fault, skips_here, stopped_within}
use Rattle.wasm_dumper.proofs.DumpTurns.{requests, stops_asking}
use Rattle.wasm_dumper.proofs.Dumping.{ended, filled, not_filled, same_written, stopped, stopped_at_last, stopped_before, without_memory}
use Rattle.wasm_dumper.proofs.Dumping.{ShowsStep, Wanting}
use Rattle.wasm_dumper.specs.Dumping.{Dumping}
use Rattle.wasm_dumper.proofs.Numbering as numbering
use Rattle.wasm_streams.specs.declared.turns.Turn.TheVariants as turn
use Rattle.wasm_io.specs.Calls.{device_of}
use Rattle.wasm_output.specs.Tree.{Writing}
use Rattle.wasm_dumper.proofs.stream.DumperVisitorGlobal.read_on.Given.{Over}
use Rattle.wasm_dumper.proofs.stream.DumperVisitorGlobal.read_on.Goals.{After-show_last_fault, After-show_skipped, In-Some}
use Rattle.wasm_dumper.proofs.stream.DumperVisitorGlobal.read_on.Goals as goal

-- the parser has skipped the next part
skips_so : (g : Over) (c : In-Some g) → Skips c.args.self.now.shown.only.now c.args.self.now.shown.has_bytes c.args.cursor.now
    (seen c.args.stored.now.items c.args.ahead.now) c.in-Some.field-0 c.skip_unread.new.cursor
skips_so g c = skips_here _ _ _ _ _ _ _ _ _ _ c.seen-bytes.ensures c.deref.ensures.value c.bytes.ensures
    (rw c.in-Some.is at c.in_ok-part.ensures.skips)

-- what is so where the feeder asks for more
abbrev Asks : (g : Over) (c : In-Some g) (full : Option (List ℕ)) (before : Writing) → Type 0
Asks g c full before = Wanting c.args.self.now.shown.only.now c.args.self.now.shown.has_bytes full
    (g.R.Source.remaining c.args.input.now) before (lending c.args.stored.now.items c.args.ahead.now c.args.cursor.now)
    c.args.self.now.counts (g.O.Tree.writing c.args.out.now)

-- the source ended within the part: what the feeder then holds is the fault
abbrev cut_feed : (g : Over) (c : After-show_last_fault g) → Feed
cut_feed g c = record (pushed (lending c.args.stored.now.items c.args.ahead.now c.args.cursor.now) c.in_ok-error.ensures.drops.fetched)
    { eof = true }

cut_so : (g : Over) (c : After-show_last_fault g) (full : Option (List ℕ)) (before : Writing)
    → Asks g (goal.at.After-show_last_fault g c).In-Some full before
    → Dumping c.args.self.now.shown.only.now c.args.self.now.shown.has_bytes full (g.R.Source.remaining c.drop_part.new.input) before
    (cut_feed g c) c.args.self.now.counts (g.O.Tree.writing c.flush.new.out)
cut_so g c full before d = dumping_short _ _ _ _ _ _ c.args.stored.now.items c.args.ahead.now _ _ _ d c.flush.ensures.adds
    c.flush.ensures.out c.in_ok-flush.ensures.ok _ _ (skips_so g (goal.at.After-show_last_fault g c).In-Some) _ _ _
    c.in_ok-error.ensures.drops _ c.in-Some-2.is

fault_so : (g : Over) (c : After-show_last_fault g) (full : Option (List ℕ)) (before : Writing)
    → Asks g (goal.at.After-show_last_fault g c).In-Some full before
    → ShowsStep c.args.self.now.shown.only.now c.args.self.now.shown.has_bytes c.args.self.now.counts c.args.self.now.counts
    (cut_feed g c) (cut_feed g c) (g.O.Tree.writing c.flush.new.out) (g.O.Tree.writing c.show_last_fault.new.out)
    (turn.End (Fault c.in-Some-2.error))
fault_so g c full before d = shows_fault _ _ _ _ _ _ c.args.stored.now.items c.args.ahead.now _ _ _ d c.flush.ensures.adds
    c.flush.ensures.out c.in_ok-flush.ensures.ok _ _ (skips_so g (goal.at.After-show_last_fault g c).In-Some) _ _ _
    c.in_ok-error.ensures.drops _ c.in-Some-2.is _ _
    (numbering.shows_fault c.args.self.now.shown.only.now c.args.self.now.shown.has_bytes c.args.self.now.counts (Stop c.in-Some-2.error)
    _ _ _ refl c.show_last_fault.ensures) refl

pub returns-in_err-flush-clause-meets : goal.returns-in_err-flush-clause-meets
returns-in_err-flush-clause-meets g c =
    let e = err_from_is_err_and c.from_residual.result c.from_residual.ensures.1 in
    rw (e.1, e.2) (requests (λ d. d.shown.only.now) (λ d. d.shown.has_bytes) (λ d. d.counts) g.O.Tree.writing
    c.args.self.now c.args.self.now _ _ _ _ (lending c.args.stored.now.items c.args.ahead.now c.args.cursor.now) (Err _) refl refl
    (λ start full had mid d. stops_asking (λ d. d.shown.only.now) (λ d. d.shown.has_bytes) (λ d. d.counts) g.O.Tree.writing
    c.args.self.now _ start full had (device_of g.R.Source.remaining g.R.Source.has_failed c.args.input.now c.args.input.now) _
    c.args.self.now _ _ _ mid d c.flush.ensures.adds c.in_err-flush.ensures.err))

pub returns-in_err-part-clause-meets : goal.returns-in_err-part-clause-meets
returns-in_err-part-clause-meets g c =
    let e = err_from_is_err_and c.from_residual-in_err-part.result c.from_residual-in_err-part.ensures.1 in
    rw (e.1, e.2) (requests (λ d. d.shown.only.now) (λ d. d.shown.has_bytes) (λ d. d.counts) g.O.Tree.writing
    c.args.self.now c.args.self.now _ _ _ _ (lending c.args.stored.now.items c.args.ahead.now c.args.cursor.now) (Err _) refl refl
    (λ start full had mid d. without_memory _ _ _ _ _ _ _ _ _ d c.flush.ensures.adds c.flush.ensures.out c.in_ok-flush.ensures.ok
    _ _ mid _ c.in_err-part.ensures.memory))

pub returns-in_err-refill-clause-meets : goal.returns-in_err-refill-clause-meets
returns-in_err-refill-clause-meets g c =
    let e = err_from_is_err_and c.from_residual-in_err-refill.result c.from_residual-in_err-refill.ensures.1 in
    rw (e.1, e.2) (requests (λ d. d.shown.only.now) (λ d. d.shown.has_bytes) (λ d. d.counts) g.O.Tree.writing
    c.args.self.now c.args.self.now _ _ _ _ (beside (feed_of c.refill.new.stored.items c.refill.new.cursor) c.refill.new.self) (Err _)
    refl refl
    (λ start full had mid d. not_filled _ _ _ _ _ _ _ _ _ d c.flush.ensures.adds c.flush.ensures.out c.in_ok-flush.ensures.ok
    _ _ _ mid _ (beside (feed_of c.refill.new.stored.items c.refill.new.cursor) c.refill.new.self) _ c.in_err-refill.ensures.refills
    c.in_err-refill.ensures.failed))

pub returns-in_default-clause-meets : goal.returns-in_default-clause-meets
returns-in_default-clause-meets g c =
    let kept : c.skip_unread.new.cursor ≡ c.args.cursor.now = rw c.in_default.is at c.in_ok-part.ensures.skips in
    requests (λ d. d.shown.only.now) (λ d. d.shown.has_bytes) (λ d. d.counts) g.O.Tree.writing
    c.args.self.now c.args.self.now _ _ _ _ _ (Ok None) refl refl
    (λ start full had mid d.
    let (p, less) = filled _ _ _ _ _ _ _ _ _ d c.flush.ensures.adds c.flush.ensures.out c.in_ok-flush.ensures.ok _ _
    (rw kept at c.in_ok-refill.ensures.refills) in
    (p, less))

pub returns-in_err-error-clause-meets : goal.returns-in_err-error-clause-meets
returns-in_err-error-clause-meets g c =
    let h = skips_so g (goal.at.returns-in_err-error-clause-meets g c).In-Some in
    let e = err_from_is_err_and c.from_residual-in_err-error.result c.from_residual-in_err-error.ensures.1 in
    rw (e.1, e.2) (requests (λ d. d.shown.only.now) (λ d. d.shown.has_bytes) (λ d. d.counts) g.O.Tree.writing
    c.args.self.now c.args.self.now _ _ _ _ (lending c.args.stored.now.items c.args.ahead.now c.args.cursor.now) (Err _) refl refl
    (λ start full had mid d. failed_within _ _ _ _ _ _ c.args.stored.now.items c.args.ahead.now _ _ _ d c.flush.ensures.adds
    c.flush.ensures.out c.in_ok-flush.ensures.ok _ _ h _ _ _ _ mid _ c.in_err-error.ensures.fails c.in_err-error.ensures.source))

pub returns-in_err-go_on-clause-meets : goal.returns-in_err-go_on-clause-meets
returns-in_err-go_on-clause-meets g c =
    let at = (goal.at.returns-in_err-go_on-clause-meets g c).After-show_last_fault in
    let e = err_from_is_err_and c.from_residual-in_err-go_on.result c.from_residual-in_err-go_on.ensures.1 in
    rw (e.1, e.2) (requests (λ d. d.shown.only.now) (λ d. d.shown.has_bytes) (λ d. d.counts) g.O.Tree.writing
    c.args.self.now c.args.self.now _ _ _ _ (lending c.args.stored.now.items c.args.ahead.now c.args.cursor.now) (Err _) refl refl
    (λ start full had mid d. stopped _ _ _ _ _ _ _ _ (cut_so g at full _ d) _ _ _ _ (fault_so g at full _ d) _ _
    (c.in_ok-error.ensures.source ∙ mid) _ c.in_err-go_on.ensures.err))

pub returns-in_err-flush-2-clause-meets : goal.returns-in_err-flush-2-clause-meets
returns-in_err-flush-2-clause-meets g c =
    let at = (goal.at.returns-in_err-flush-2-clause-meets g c).After-show_last_fault in
    let e = err_from_is_err_and c.from_residual-in_err-flush-2.result c.from_residual-in_err-flush-2.ensures.1 in
    rw (e.1, e.2) (requests (λ d. d.shown.only.now) (λ d. d.shown.has_bytes) (λ d. d.counts) g.O.Tree.writing
    c.args.self.now c.args.self.now _ _ _ _ (lending c.args.stored.now.items c.args.ahead.now c.args.cursor.now) (Err _) refl refl
    (λ start full had mid d. stopped_at_last _ _ _ _ _ _ _ _ (cut_so g at full _ d) _ _ _ _ (fault_so g at full _ d) _ _
    (c.in_ok-error.ensures.source ∙ mid) _ _ c.flush-in-Some-2.ensures.adds c.in_err-flush-2.ensures.err))

pub returns-in-Some-2-clause-meets : goal.returns-in-Some-2-clause-meets
returns-in-Some-2-clause-meets g c =
    let at = (goal.at.returns-in-Some-2-clause-meets g c).After-show_last_fault in
    requests (λ d. d.shown.only.now) (λ d. d.shown.has_bytes) (λ d. d.counts) g.O.Tree.writing
    c.args.self.now c.args.self.now _ _ _ _ (lending c.args.stored.now.items c.args.ahead.now c.args.cursor.now)
    (Ok (Some c.in-Some-2.error)) refl refl
    (λ start full had mid d. ended _ _ _ _ _ _ _ _ (cut_so g at full _ d) _ _ _ _ (fault_so g at full _ d) _ _
    (c.in_ok-error.ensures.source ∙ mid) c.in_ok-go_on.ensures.ok _ _ refl c.flush-in-Some-2.ensures.adds c.flush-in-Some-2.ensures.out
    c.in_ok-flush-2.ensures.ok)

-- the part was dropped, and what is shown of it was written
came_so : (g : Over) (c : After-show_skipped g) (full : Option (List ℕ)) (before : Writing)
    → Asks g (goal.at.After-show_skipped g c).In-Some full before → (g.O.Tree.writing c.show_skipped.new.out).why ≡ None
    → Dumping c.args.self.now.shown.only.now c.args.self.now.shown.has_bytes full (g.R.Source.remaining c.drop_part.new.input) before
    (beside (feed_of c.drop_part.new.stored.items c.drop_part.new.cursor) c.drop_part.new.ahead) c.show_skipped.new.counts
    (g.O.Tree.writing c.show_skipped.new.out)
    × (weight (beside (feed_of c.drop_part.new.stored.items c.drop_part.new.cursor) c.drop_part.new.ahead)
    < weight (lending c.args.stored.now.items c.args.ahead.now c.args.cursor.now))
came_so g c full before d on =
    let r = c.in_ok-error.ensures in
    dropped _ _ _ _ _ _ c.args.stored.now.items c.args.ahead.now _ _ _ d c.flush.ensures.adds c.flush.ensures.out
    c.in_ok-flush.ensures.ok _ _ (skips_so g (goal.at.After-show_skipped g c).In-Some) _ _ _ r.drops c.in_default-2.is
    (beside (feed_of c.drop_part.new.stored.items c.drop_part.new.cursor) c.drop_part.new.ahead)
    (ap (λ (y : Cursor). y.parser) r.cursor) (λ i. drop (r.cursor i).mark (r.none i) ++ c.drop_part.new.ahead)
    (ap (λ (y : Cursor). y.is_finished) r.cursor) _ c.show_skipped.ensures.shows _ c.show_skipped.ensures.counts on

pub returns-in_err-go_on-2-clause-meets : goal.returns-in_err-go_on-2-clause-meets
returns-in_err-go_on-2-clause-meets g c =
    let at = goal.at.returns-in_err-go_on-2-clause-meets g c in
    let r = c.in_ok-error.ensures in
    let e = err_from_is_err_and c.from_residual-in_err-go_on-2.result c.from_residual-in_err-go_on-2.ensures.1 in
    rw (e.1, e.2) (requests (λ d. d.shown.only.now) (λ d. d.shown.has_bytes) (λ d. d.counts) g.O.Tree.writing
    c.args.self.now c.args.self.now _ _ _ _ (lending c.args.stored.now.items c.args.ahead.now c.args.cursor.now) (Err _) refl refl
    (λ start full had mid d. stopped_within _ _ _ _ _ _ c.args.stored.now.items c.args.ahead.now _ _ _ d c.flush.ensures.adds
    c.flush.ensures.out c.in_ok-flush.ensures.ok _ _ (skips_so g at.In-Some) _ _ _ r.drops c.in_default-2.is
    (beside (feed_of c.drop_part.new.stored.items c.drop_part.new.cursor) c.drop_part.new.ahead)
    (ap (λ (y : Cursor). y.parser) r.cursor) (λ i. drop (r.cursor i).mark (r.none i) ++ c.drop_part.new.ahead)
    (ap (λ (y : Cursor). y.is_finished) r.cursor) _ c.show_skipped.ensures.shows _ _ (r.source ∙ mid) _
    c.in_err-go_on-2.ensures.err))

pub returns-in_err-learn_skipped-clause-meets : goal.returns-in_err-learn_skipped-clause-meets
returns-in_err-learn_skipped-clause-meets g c =
    let at = (goal.at.returns-in_err-learn_skipped-clause-meets g c).After-show_skipped in
    let e = err_from_is_err_and c.from_residual-in_err-learn_skipped.result c.from_residual-in_err-learn_skipped.ensures.1 in
    rw (e.1, e.2) (requests (λ d. d.shown.only.now) (λ d. d.shown.has_bytes) (λ d. d.counts) g.O.Tree.writing
    c.args.self.now c.args.self.now _ _ _ _ (lending c.args.stored.now.items c.args.ahead.now c.args.cursor.now) (Err _) refl refl
    (λ start full had mid d. stopped_before _ _ _ _ _ _ _ _ (came_so g at full _ d c.in_ok-go_on-2.ensures.ok).0 _ _
    (c.in_ok-error.ensures.source ∙ mid) _ _ c.learn_skipped.ensures.adds c.in_err-learn_skipped.ensures.stops))

pub returns-clause-meets : goal.returns-clause-meets
returns-clause-meets g c =
    let at = (goal.at.returns-clause-meets g c).After-show_skipped in
    requests (λ d. d.shown.only.now) (λ d. d.shown.has_bytes) (λ d. d.counts) g.O.Tree.writing
    _ _ _ _ _ _ _ (Ok None) refl refl
    (λ start full had mid d.
    let (p, less) = came_so g at full _ d c.in_ok-go_on-2.ensures.ok in
    (same_written _ _ _ _ _ _ _ _ _ c.in_ok-learn_skipped.ensures.keeps p, less))
