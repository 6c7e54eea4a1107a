-- Faults as plain numbers.
use Rattle.std.specs.Prelude.{◌≡◌, ℕ, ◌+◌, ◌*◌, List, [], ◌∷◌, Option, Some, None}
use Rattle.wasm_base.specs.FaultAt.{FaultAt, at_offset}
use Rattle.wasm_base.specs.declared.fault.Fault.{Fault}
use Rattle.wasm_base.specs.declared.fault.Fault.TheVariants.{OutOfMemory, UnexpectedEof, OffsetRange, BadMagic}
use Rattle.wasm_base.specs.declared.fault.Fault.TheVariants.{UnknownVersion, MagicAtSection, MalformedSectionId}
use Rattle.wasm_base.specs.declared.fault.Fault.TheVariants.{SectionTooLarge, OutOfOrder, StartContent}
use Rattle.wasm_base.specs.declared.fault.Fault.TheVariants.{DataCountContent, FunctionCodeDiffer}
use Rattle.wasm_base.specs.declared.fault.Fault.TheVariants.{FunctionWithoutCode, CodeWithoutFunction}
use Rattle.wasm_base.specs.declared.fault.Fault.TheVariants.{DataCountDiffer, DataCountWithoutData, TrailingCode}
use Rattle.wasm_base.specs.declared.fault.Fault.TheVariants.{NumberTooLong, NumberTooLarge, StringSize, MalformedUtf8}
use Rattle.wasm_base.specs.declared.fault.Fault.TheVariants.{InvalidU7, InvalidBool, SizeMismatch, LeadingByte}
use Rattle.wasm_base.specs.declared.fault.Fault.TheVariants.{DataFlags, ElementFlags, ElementFunctionOnly}
use Rattle.wasm_base.specs.declared.fault.Fault.TheVariants.{ExactExport, GlobalFlags, Compact7F, Compact7E}
use Rattle.wasm_base.specs.declared.fault.Fault.TheVariants.{MemoryFlags, PageSize, TableEncoding, TableFlags}
use Rattle.wasm_base.specs.declared.fault.Fault.TheVariants.{TagAttributes, NamesOrder, IndirectOrder}
use Rattle.wasm_base.specs.declared.fault.Fault.TheVariants.{NameSectionOrder, NameTrailing, ProducersField}
use Rattle.wasm_base.specs.declared.fault.Fault.TheVariants.{LinkingVersion, CoreStartByte, CoreValue, CustomTrailing}
use Rattle.wasm_base.specs.declared.fault.Fault.TheVariants.{NotConstant, Supertypes}
use Rattle.wasm_base.specs.declared.fault.NumberKind.{NumberKind}
use Rattle.wasm_base.specs.declared.fault.NumberKind.TheVariants.{VarU32, VarI32, VarU64, VarI64, VarS33}
use Rattle.wasm_base.specs.declared.fault.Lead.{Lead}
use Rattle.wasm_base.specs.declared.fault.Lead.TheVariants as leads
use Rattle.wasm_base.specs.declared.fault.CoreStart.{CoreStart}
use Rattle.wasm_base.specs.declared.fault.CoreStart.TheVariants as starts
use Rattle.wasm_c_items.specs.declared.faults.PlainFault.{PlainFault}

-- the number of a kind of number, of what a byte begins, of a part of a core dump
abbrev pub number_code : NumberKind → ℕ
number_code VarU32 = 0
number_code VarI32 = 1
number_code VarU64 = 2
number_code VarI64 = 3
number_code VarS33 = 4

abbrev pub lead_code : Lead → ℕ
lead_code leads.BranchHint = 0
lead_code leads.BranchTaken = 1
lead_code leads.ComdatSymbol = 2
lead_code leads.Symbol = 3
lead_code leads.Reloc = 4
lead_code leads.External = 5
lead_code leads.Value = 6
lead_code leads.Reference = 7
lead_code leads.Heap = 8
lead_code leads.Composite = 9
lead_code leads.Mutability = 10

abbrev pub start_code : CoreStart → ℕ
start_code starts.Name = 0
start_code starts.Module = 1
start_code starts.Instance = 2
start_code starts.StackName = 3
start_code starts.Frame = 4

-- | the number of each fault, and a fault as plain numbers [`plain_fault`]
-- the number of a fault: that of its kind, and 256 times that of what it names
abbrev pub fault_code : Fault → ℕ
fault_code OutOfMemory = 1
fault_code UnexpectedEof = 2
fault_code OffsetRange = 3
fault_code BadMagic = 4
fault_code UnknownVersion = 5
fault_code MagicAtSection = 6
fault_code MalformedSectionId = 7
fault_code SectionTooLarge = 8
fault_code OutOfOrder = 9
fault_code StartContent = 10
fault_code DataCountContent = 11
fault_code FunctionCodeDiffer = 12
fault_code FunctionWithoutCode = 13
fault_code CodeWithoutFunction = 14
fault_code DataCountDiffer = 15
fault_code DataCountWithoutData = 16
fault_code TrailingCode = 17
fault_code (NumberTooLong kind) = 18 + 256 * number_code kind
fault_code (NumberTooLarge kind) = 19 + 256 * number_code kind
fault_code StringSize = 20
fault_code MalformedUtf8 = 21
fault_code InvalidU7 = 22
fault_code InvalidBool = 23
fault_code SizeMismatch = 24
fault_code (LeadingByte lead) = 25 + 256 * lead_code lead
fault_code DataFlags = 26
fault_code ElementFlags = 27
fault_code ElementFunctionOnly = 28
fault_code ExactExport = 29
fault_code GlobalFlags = 30
fault_code Compact7F = 31
fault_code Compact7E = 32
fault_code MemoryFlags = 33
fault_code PageSize = 34
fault_code TableEncoding = 35
fault_code TableFlags = 36
fault_code TagAttributes = 37
fault_code NamesOrder = 38
fault_code IndirectOrder = 39
fault_code NameSectionOrder = 40
fault_code NameTrailing = 41
fault_code ProducersField = 42
fault_code LinkingVersion = 43
fault_code (CoreStartByte start) = 44 + 256 * start_code start
fault_code CoreValue = 45
fault_code CustomTrailing = 46
fault_code NotConstant = 47
fault_code Supertypes = 48

-- No two faults have one number.
abbrev pub EachHasItsNumber : Type 0
EachHasItsNumber = (one other : Fault) → fault_code one ≡ fault_code other → one ≡ other

-- whether there is a number, and which; 0 where there is none
abbrev pub number_flag : Option ℕ → ℕ
number_flag None = 0
number_flag (Some n) = 1

abbrev pub number_or_0 : Option ℕ → ℕ
number_or_0 None = 0
number_or_0 (Some n) = n

-- a fault, and that there is none
abbrev pub plain_fault : FaultAt → PlainFault
plain_fault f = record {
  kind = fault_code f.fault;
  has_number = number_flag f.number;
  number = number_or_0 f.number;
  offset = f.offset;
}

abbrev pub no_fault : PlainFault
no_fault = record { kind = 0; has_number = 0; number = 0; offset = 0 }

-- | the fault of trailing bytes at an end <tool conventions, Coredump; Appendix, Custom Sections>
-- the fault of bytes that are left at an offset, or none
abbrev pub end_fault : Fault → (left : List ℕ) → (offset : ℕ) → PlainFault
end_fault fault [] offset = no_fault
end_fault fault (b ∷ bs) offset = plain_fault (at_offset fault offset)
