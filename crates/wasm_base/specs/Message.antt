-- The fixed texts of the faults.
use Rattle.std.specs.Prelude.{ℕ, List, [], ◌++◌, Option, Some, None, false, codes}
use Rattle.std.specs.Fmt.{decimal, digits}
use Rattle.wasm_base.specs.declared.fault.Fault.{Fault}
use Rattle.wasm_base.specs.declared.fault.Fault.TheVariants.{OutOfMemory, UnexpectedEof, OffsetRange, BadMagic}
use Rattle.wasm_base.specs.declared.fault.Fault.TheVariants.{UnknownVersion, MagicAtSection, MalformedSectionId}
use Rattle.wasm_base.specs.declared.fault.Fault.TheVariants.{SectionTooLarge, OutOfOrder, StartContent}
use Rattle.wasm_base.specs.declared.fault.Fault.TheVariants.{DataCountContent, FunctionCodeDiffer, FunctionWithoutCode}
use Rattle.wasm_base.specs.declared.fault.Fault.TheVariants.{CodeWithoutFunction, DataCountDiffer, DataCountWithoutData}
use Rattle.wasm_base.specs.declared.fault.Fault.TheVariants.{TrailingCode, NumberTooLong, NumberTooLarge, StringSize}
use Rattle.wasm_base.specs.declared.fault.Fault.TheVariants.{MalformedUtf8, InvalidU7, InvalidBool, SizeMismatch}
use Rattle.wasm_base.specs.declared.fault.Fault.TheVariants.{LeadingByte, DataFlags, ElementFlags, ElementFunctionOnly}
use Rattle.wasm_base.specs.declared.fault.Fault.TheVariants.{ExactExport, GlobalFlags, Compact7F, Compact7E}
use Rattle.wasm_base.specs.declared.fault.Fault.TheVariants.{MemoryFlags, PageSize, TableEncoding, TableFlags}
use Rattle.wasm_base.specs.declared.fault.Fault.TheVariants.{TagAttributes, NamesOrder, IndirectOrder, NameSectionOrder}
use Rattle.wasm_base.specs.declared.fault.Fault.TheVariants.{NameTrailing, ProducersField, LinkingVersion}
use Rattle.wasm_base.specs.declared.fault.Fault.TheVariants.{CoreStartByte, CoreValue, CustomTrailing, NotConstant}
use Rattle.wasm_base.specs.declared.fault.Fault.TheVariants.{Supertypes}
use Rattle.wasm_base.specs.FaultAt.{FaultAt}
use Rattle.wasm_base.specs.declared.fault.NumberKind.{NumberKind}
use Rattle.wasm_base.specs.declared.fault.NumberKind.TheVariants.{VarU32, VarI32, VarU64, VarI64, VarS33}
use Rattle.wasm_base.specs.declared.fault.Lead.{Lead}
use Rattle.wasm_base.specs.declared.fault.Lead.TheVariants as leads
use Rattle.wasm_base.specs.declared.fault.CoreStart.{CoreStart}
use Rattle.wasm_base.specs.declared.fault.CoreStart.TheVariants as starts

-- what a number is called
abbrev pub number_name : NumberKind → List ℕ
number_name VarU32 = codes "var_u32"
number_name VarI32 = codes "var_i32"
number_name VarU64 = codes "var_u64"
number_name VarI64 = codes "var_i64"
number_name VarS33 = codes "var_s33"

-- what a leading byte begins
abbrev pub lead_name : Lead → List ℕ
lead_name leads.BranchHint = codes "invalid branch hint byte"
lead_name leads.BranchTaken = codes "invalid branch hint taken byte"
lead_name leads.ComdatSymbol = codes "comdat symbol kind"
lead_name leads.Symbol = codes "symbol kind"
lead_name leads.Reloc = codes "RelocEntryType"
lead_name leads.External = codes "external kind"
lead_name leads.Value = codes "value type"
lead_name leads.Reference = codes "reference type"
lead_name leads.Heap = codes "heap type"
lead_name leads.Composite = codes "composite type"
lead_name leads.Mutability = codes "field mutability"

-- what begins with a byte 00 in a core dump
abbrev pub start_name : CoreStart → List ℕ
start_name starts.Name = codes "core dump name"
start_name starts.Module = codes "coremodule"
start_name starts.Instance = codes "core dump instance"
start_name starts.StackName = codes "core dump stack name"
start_name starts.Frame = codes "core dump stack frame"

-- | the text of a fault, and of an error [`error_text`]
-- the text of a fault
abbrev pub message_of : Fault → List ℕ
message_of OutOfMemory = codes "out of memory"
message_of UnexpectedEof = codes "unexpected end-of-file"
message_of OffsetRange = codes "data passes the offset range"
message_of BadMagic = codes "magic header not detected: bad magic number"
message_of UnknownVersion = codes "unknown binary version"
message_of MagicAtSection = codes "expected section, got wasm magic number"
message_of MalformedSectionId = codes "malformed section id"
message_of SectionTooLarge = codes "section too large"
message_of OutOfOrder = codes "section out of order"
message_of StartContent = codes "unexpected content in the start section"
message_of DataCountContent = codes "unexpected content in the data count section"
message_of FunctionCodeDiffer = codes "function and code section have inconsistent lengths"
message_of FunctionWithoutCode = codes "function section has non-zero count but code section is absent"
message_of CodeWithoutFunction = codes "function section is absent but code section has non-zero count"
message_of DataCountDiffer = codes "data count and data section have inconsistent lengths"
message_of DataCountWithoutData = codes "data count is non-zero but data section is absent"
message_of TrailingCode = codes "trailing bytes at end of section"
message_of (NumberTooLong kind) = codes "invalid " ++ number_name kind ++ codes ": integer representation too long"
message_of (NumberTooLarge kind) = codes "invalid " ++ number_name kind ++ codes ": integer too large"
message_of StringSize = codes "string size out of bounds"
message_of MalformedUtf8 = codes "malformed UTF-8 encoding"
message_of InvalidU7 = codes "invalid u7"
message_of InvalidBool = codes "invalid boolean value"
message_of SizeMismatch = codes "section size mismatch: unexpected data at the end of the section"
message_of (LeadingByte lead) = codes "invalid leading byte for " ++ lead_name lead
message_of DataFlags = codes "invalid flags byte in data segment"
message_of ElementFlags = codes "invalid flags byte in element segment"
message_of ElementFunctionOnly = codes "only the function external type is supported in elem segment"
message_of ExactExport = codes "Exact type is not allowed in the exports"
message_of GlobalFlags = codes "malformed global flags"
message_of Compact7F = codes "invalid leading byte 0x7F with compact imports proposal disabled"
message_of Compact7E = codes "invalid leading byte 0x7E with compact imports proposal disabled"
message_of MemoryFlags = codes "invalid memory limits flags"
message_of PageSize = codes "invalid custom page size"
message_of TableEncoding = codes "invalid table encoding"
message_of TableFlags = codes "invalid table resizable limits flags"
message_of TagAttributes = codes "invalid tag attributes"
message_of NamesOrder = codes "names out of order"
message_of IndirectOrder = codes "indirect names out of order"
message_of NameSectionOrder = codes "name subsection out of order"
message_of NameTrailing = codes "trailing data at the end of a name"
message_of ProducersField = codes "invalid producers field name"
message_of LinkingVersion = codes "unsupported linking section version"
message_of (CoreStartByte start) = codes "invalid start byte for " ++ start_name start
message_of CoreValue = codes "invalid CoreDumpValue type"
message_of CustomTrailing = codes "trailing bytes at end of custom section"
message_of NotConstant = codes "not a constant instruction"
message_of Supertypes = codes "more than one supertype"

-- the number, after a colon
abbrev pub number_text : Option ℕ → List ℕ
number_text None = []
number_text (Some n) = codes ": " ++ decimal n

-- what an error prints: its text, its number, and its offset in hexadecimal
abbrev pub error_text : FaultAt → List ℕ
error_text r = message_of r.fault ++ number_text r.number
    ++ codes " (at offset 0x" ++ digits 16 false r.offset ++ codes ")"
