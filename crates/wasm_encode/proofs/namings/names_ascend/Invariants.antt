use Rattle.std.proofs.Common.{drop, ◌↔◌}
use Rattle.wasm_base.specs.Ascending.{AscendsFrom}
use Rattle.wasm_custom.specs.Names.{index_of}
use Rattle.wasm_encode.specs.Namings.{IsAscending, all_given}
use Rattle.wasm_encode.proofs.namings.names_ascend.Given as goal

-- all entries ascend exactly if those that are left do, after the last one
abbrev pub invariant-namings : goal.invariant-namings
invariant-namings l = IsAscending l.namings ↔ AscendsFrom index_of l.last (all_given (drop l.naming-index l.namings))
