-- A feeder with memory from the allocator of programs.
use denote.RattleType.{RattleType}
use Rattle.std.specs.contracts.alloc.Global as global
use Rattle.std.specs.contracts.impls.GlobalAllocator.TheImpl.{ghosts}
use Rattle.wasm_feed.specs.contracts.feeder.Feeder.{the_row as feeder_of}

-- the feeder's type, as clauses on memory see it
abbrev pub the_row : RattleType
the_row = feeder_of global.the_row ghosts
