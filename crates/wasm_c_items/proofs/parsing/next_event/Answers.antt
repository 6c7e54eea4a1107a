use Rattle.wasm_c_items.proofs.Parsed.{parses_plain}
use Rattle.wasm_c_items.proofs.parsing.next_event.Goals as goal

pub returns-in-Body : goal.returns-in-Body
returns-in-Body c = parses_plain _ _ _ _ _ _ _ c.in-Parsed.ensures c.frame_event.ensures

pub returns-in-Custom : goal.returns-in-Custom
returns-in-Custom c = parses_plain _ _ _ _ _ _ _ c.in-Parsed.ensures c.frame_event-in-Custom.ensures

pub returns-in-Unknown : goal.returns-in-Unknown
returns-in-Unknown c = parses_plain _ _ _ _ _ _ _ c.in-Parsed.ensures c.frame_event-in-Unknown.ensures

pub returns-in_default : goal.returns-in_default
returns-in_default c = parses_plain _ _ _ _ _ _ _ c.in-Parsed.ensures c.frame_event-in_default.ensures

pub returns-in-NeedMoreData : goal.returns-in-NeedMoreData
returns-in-NeedMoreData c = parses_plain _ _ _ _ _ _ _ c.in-NeedMoreData.ensures c.request_event.ensures

pub returns-in-Fault : goal.returns-in-Fault
returns-in-Fault c = parses_plain _ _ _ _ _ _ _ c.in-Fault.ensures c.fault_event.ensures
