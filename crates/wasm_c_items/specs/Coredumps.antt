-- Core dumps as plain numbers.
use Rattle.std.specs.Prelude.{ℕ, ◌-◌, List, length, Ok, Err, pos}
use Rattle.wasm_base.specs.Outcome.{Outcome}
use Rattle.wasm_base.specs.Window.{Place}
use Rattle.wasm_c_items.specs.Faults.{no_fault, plain_fault}
use Rattle.wasm_custom.specs.Coredumps.{ValueParts}
use Rattle.wasm_c_items.specs.CoreHeads.{FrameHead, core_bits, core_code, core_integer}
use Rattle.wasm_c_items.specs.Spans.{no_span, span_before}
use Rattle.wasm_c_items.specs.declared.coredumps.PlainCoreProcess.{PlainCoreProcess}
use Rattle.wasm_c_items.specs.declared.coredumps.PlainCoreModule.{PlainCoreModule}
use Rattle.wasm_c_items.specs.declared.coredumps.PlainCoreInstance.{PlainCoreInstance}
use Rattle.wasm_c_items.specs.declared.coredumps.PlainCoreThread.{PlainCoreThread}
use Rattle.wasm_c_items.specs.declared.coredumps.PlainCoreFrame.{PlainCoreFrame}
use Rattle.wasm_c_items.specs.declared.coredumps.PlainCoreValue.{PlainCoreValue}

-- the name of the process of a core dump
abbrev pub plain_core_process : (from : ℕ) → Place → Outcome (List ℕ) → PlainCoreProcess
plain_core_process from p (Ok x) = record {
  fault = no_fault;
  consumed = x.1.offset - p.offset;
  name = span_before from x.1.offset (length x.0);
}
plain_core_process from p (Err f) = record {
  fault = plain_fault f;
  consumed = 0;
  name = no_span;
}

-- the name of a module of a core dump
abbrev pub plain_core_module : (from : ℕ) → Place → Outcome (List ℕ) → PlainCoreModule
plain_core_module from p (Ok x) = record {
  fault = no_fault;
  consumed = x.1.offset - p.offset;
  name = span_before from x.1.offset (length x.0);
}
plain_core_module from p (Err f) = record {
  fault = plain_fault f;
  consumed = 0;
  name = no_span;
}

-- the head of an instance of a core dump
abbrev pub plain_core_instance : (from : ℕ) → Place → Outcome ℕ → PlainCoreInstance
plain_core_instance from p (Ok x) = record {
  fault = no_fault;
  consumed = x.1.offset - p.offset;
  module_index = x.0;
}
plain_core_instance from p (Err f) = record {
  fault = plain_fault f;
  consumed = 0;
  module_index = 0;
}

-- the name of a thread of a core dump
abbrev pub plain_core_thread : (from : ℕ) → Place → Outcome (List ℕ) → PlainCoreThread
plain_core_thread from p (Ok x) = record {
  fault = no_fault;
  consumed = x.1.offset - p.offset;
  name = span_before from x.1.offset (length x.0);
}
plain_core_thread from p (Err f) = record {
  fault = plain_fault f;
  consumed = 0;
  name = no_span;
}

-- the head of a frame of a core dump
abbrev pub plain_core_frame : (from : ℕ) → Place → Outcome FrameHead → PlainCoreFrame
plain_core_frame from p (Ok x) = record {
  fault = no_fault;
  consumed = x.1.offset - p.offset;
  instance = x.0.instance;
  func = x.0.func;
  code_offset = x.0.code_offset;
}
plain_core_frame from p (Err f) = record {
  fault = plain_fault f;
  consumed = 0;
  instance = 0;
  func = 0;
  code_offset = 0;
}

-- a value of a core dump
abbrev pub plain_core_value : (from : ℕ) → Place → Outcome ValueParts → PlainCoreValue
plain_core_value from p (Ok x) = record {
  fault = no_fault;
  consumed = x.1.offset - p.offset;
  kind = core_code x.0;
  integer = core_integer x.0;
  bits = core_bits x.0;
}
plain_core_value from p (Err f) = record {
  fault = plain_fault f;
  consumed = 0;
  kind = 0;
  integer = pos 0;
  bits = 0;
}
