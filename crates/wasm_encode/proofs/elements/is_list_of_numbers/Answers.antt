use Rattle.wasm_base.specs.Inner.{after_reading}
use Rattle.wasm_base.specs.Number.{unsigned_at}
use Rattle.wasm_base.specs.Window.{place}
use Rattle.wasm_base.specs.declared.fault.NumberKind.TheVariants.{VarU32}
use Rattle.wasm_encode.proofs.ListsBack.{no_list, whole_list}
use Rattle.wasm_encode.proofs.elements.is_list_of_numbers.Goals as goal

pub returns-in-Ok : goal.returns-in-Ok
returns-in-Ok c = whole_list (after_reading (unsigned_at VarU32)) c.args.list.now c.count.result c.get_binary_reader-reader.result
    (place c.skip_var_u32s.new.self) c.eof.result c.count.ensures c.get_binary_reader-reader.ensures c.count.type_inv
    c.in-Ok.ensures.gives c.eof.ensures

pub returns-in-Err : goal.returns-in-Err
returns-in-Err c = no_list (after_reading (unsigned_at VarU32)) c.args.list.now c.count.result c.get_binary_reader-reader.result _
    c.count.ensures c.get_binary_reader-reader.ensures c.in-Err.ensures.gives
