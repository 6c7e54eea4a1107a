use Rattle.std.proofs.Common.{◌∙◌, arith, inl, refl}
use Rattle.std.proofs.lemmas.List.{get_or_default}
use Rattle.std.proofs.lemmas.Result.{err_from_is_err_and}
use Rattle.wasm_commands.proofs.Adding.{cannot_load, each_next_seen}
use Rattle.wasm_commands.proofs.Steps.{granted}
use Rattle.wasm_commands.specs.RewriteCommands.{IsLoaded, loaded_parts, parts_of}
use Rattle.wasm_commands.proofs.runner.Runner.load_all.Goals as goal

pub returns-in_err-bytes : goal.returns-in_err-bytes
returns-in_err-bytes g c =
    let same = c.loop-addition.invariant.same in
    let e = err_from_is_err_and c.from_residual.result c.from_residual.ensures.1 in
    rw (e.1, e.2) (inl (cannot_load g.S.System g.S.Input.Source c.args.additions.now c.loop-addition.addition-index _ _
    c.in_err-bytes.field-0.0 _ _ (omega arith)
    (get_or_default c.args.additions.now c.loop-addition.addition-index _ _ (omega arith)) c.loop-addition.invariant.loads
    (rw same at c.in_err-bytes.ensures)))

pub loop-addition-preserved : goal.loop-addition-preserved
loop-addition-preserved g c =
    let same = c.loop-addition.invariant.same in
    let pushed = granted _ c.push_loaded.result c.in_ok-allocated.field-0 _ _ c.in_ok-allocated.ensures c.push_loaded.ensures in
    record {
      loads = each_next_seen (IsLoaded g.S.System g.S.Input.Source c.args.self.now.system) parts_of loaded_parts
          c.args.additions.now c.loop-addition.addition-index _ _ _ _ (omega arith)
          (get_or_default c.args.additions.now c.loop-addition.addition-index _ _ (omega arith)) c.loop-addition.invariant.loads
          (refl, rw same at c.in_ok-bytes.ensures.0) pushed.1;
      same = pushed.0 ∙ (c.in_ok-bytes.ensures.1 ∙ same);
    }
