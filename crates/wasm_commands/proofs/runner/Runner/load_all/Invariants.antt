use Rattle.std.proofs.Common.{◌≡◌, map, take}
use Rattle.wasm_commands.specs.RewriteCommands.{EachInTurn, IsLoaded, loaded_parts, parts_of}
use Rattle.wasm_commands.proofs.runner.Runner.load_all.Given as goal

abbrev pub invariant-loop-addition : goal.invariant-loop-addition
invariant-loop-addition g l = record {
  loads : EachInTurn (IsLoaded g.S.System g.S.Input.Source l.initial.self.system)
      (map parts_of (take l.addition-index l.additions)) (map loaded_parts l.all.items);
  same : l.self ≡ l.initial.self;
}
