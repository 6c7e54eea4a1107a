use Rattle.wasm_base.specs.Window.{place}
use Rattle.wasm_encode.proofs.ListsBack.{no_list, whole_list}
use Rattle.wasm_encode.proofs.lists.is_list.Goals as goal

pub returns-in-Ok : goal.returns-in-Ok
returns-in-Ok g c = whole_list g.T.SkipItem.skipped_at c.args.list.now c.count.result c.get_binary_reader-reader.result
    (place c.skip_items.new.reader) c.eof.result c.count.ensures c.get_binary_reader-reader.ensures c.count.type_inv c.in-Ok.ensures
    c.eof.ensures

pub returns-in-Err : goal.returns-in-Err
returns-in-Err g c = no_list g.T.SkipItem.skipped_at c.args.list.now c.count.result c.get_binary_reader-reader.result _
    c.count.ensures c.get_binary_reader-reader.ensures c.in-Err.ensures
