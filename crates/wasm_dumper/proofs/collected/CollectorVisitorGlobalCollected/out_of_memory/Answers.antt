use Rattle.wasm_dumper.proofs.Collecting.{gives_out}
use Rattle.wasm_io.specs.declared.devices.ListError.TheVariants.{Memory}
use Rattle.wasm_dumper.proofs.collected.CollectorVisitorGlobalCollected.out_of_memory.Goals as goal

pub returns : goal.returns
returns c = record { gives = gives_out c.args.self.now c.args._names.now Memory }
