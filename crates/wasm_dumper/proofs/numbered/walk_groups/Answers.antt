use Rattle.std.proofs.Common.{◌∙◌, ap, sym}
use Rattle.std.specs.Option.{is_some}
use Rattle.wasm_base.specs.Section.{Section, all_items}
use Rattle.wasm_dumper.specs.Walks.{OwesGroups, found_group, group_reading}
use Rattle.wasm_show.proofs.ForCallers.{none_so_far, one_so_far, all_seen, all_stopped}
use Rattle.wasm_show.specs.Lists.{left_seen, with_offset}
use Rattle.wasm_dumper.proofs.Walked.{group_found, no_group}
use Rattle.wasm_dumper.proofs.numbered.walk_groups.Goals.{else-groups-test, then-groups-test+in-None}
use Rattle.wasm_dumper.proofs.numbered.walk_groups.Goals as goal

pub groups-init : goal.groups-init
groups-init g c = none_so_far g.W.Walker.saw g.W.Walker.why OwesGroups (0, c.into_iter_in-groups.result) c.args.walker.now

pub groups-preserved : goal.groups-preserved
groups-preserved g c =
    let placed = ap (λ o. with_offset o c.next.result) (sym c.original_position-offset.ensures.offset)
    ∙ (sym c.placed.ensures ∙ c.in-Some.is) in
    one_so_far g.W.Walker.saw g.W.Walker.why OwesGroups (found_group c.groups.index) (0, c.into_iter_in-groups.result)
    (c.groups.index, c.groups.groups) (c.walk_found-index.result, c.next.new.self) c.in-Some.group _ _ _ c.groups.invariant
    (sym (ap is_some c.why_stopped.ensures) ∙ c.groups-test.ensures)
    (group_found c.groups.index c.groups.groups c.next.new.self c.next.result c.next.ensures.steps c.in-Some.group placed
    c.walk_found-index.result c.walk_found-index.ensures.next) c.walk_found-index.ensures.sees

pub returns : goal.returns
returns g c =
    let copy = rw c.unwrap.ensures at c.clone.ensures.cases in
    let begins = c.into_iter_in-groups.ensures.items ∙ ap (λ (s : Section). all_items s) copy in
    let owes = sym (ap (left_seen group_reading 0) begins) in
    elim c.groups-test.branch [
      | else-groups-test w ↦ all_stopped g.W.Walker.saw g.W.Walker.why OwesGroups (0, c.into_iter_in-groups.result)
          (c.groups.index, c.groups.groups) _ _ c.groups.invariant (sym (ap is_some c.why_stopped.ensures) ∙ w.groups-test.ensures) _ owes
      | then-groups-test+in-None w ↦ all_seen g.W.Walker.saw g.W.Walker.why OwesGroups (found_group c.groups.index)
          (0, c.into_iter_in-groups.result) (c.groups.index, c.groups.groups) (c.groups.index, w.next.new.self) _ _ c.groups.invariant
          (no_group c.groups.index c.groups.groups w.next.new.self w.next.result w.next.ensures.steps
          (ap (λ o. with_offset o w.next.result) (sym w.original_position-offset.ensures.offset)
          ∙ (sym w.placed.ensures ∙ w.in-None.is))) _ owes
    ]
