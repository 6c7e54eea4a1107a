-- The list of faults has them all.
use Rattle.std.proofs.Common.{◌≡◌, ℕ, List, [], ◌∷◌, Bool, true, false, cond, Option, Some, refl, subst}
use Rattle.std.specs.Prelude.{find, nat_eq}
use Rattle.wasm_base.specs.declared.fault.Fault.{Fault}
use Rattle.wasm_base.specs.declared.fault.Fault.TheVariants.{OutOfMemory, UnexpectedEof, OffsetRange, BadMagic}
use Rattle.wasm_base.specs.declared.fault.Fault.TheVariants.{UnknownVersion, MagicAtSection, MalformedSectionId}
use Rattle.wasm_base.specs.declared.fault.Fault.TheVariants.{SectionTooLarge, OutOfOrder, StartContent}
use Rattle.wasm_base.specs.declared.fault.Fault.TheVariants.{DataCountContent, FunctionCodeDiffer}
use Rattle.wasm_base.specs.declared.fault.Fault.TheVariants.{FunctionWithoutCode, CodeWithoutFunction}
use Rattle.wasm_base.specs.declared.fault.Fault.TheVariants.{DataCountDiffer, DataCountWithoutData, TrailingCode}
use Rattle.wasm_base.specs.declared.fault.Fault.TheVariants.{NumberTooLong, NumberTooLarge, StringSize, MalformedUtf8}
use Rattle.wasm_base.specs.declared.fault.Fault.TheVariants.{InvalidU7, InvalidBool, SizeMismatch, LeadingByte}
use Rattle.wasm_base.specs.declared.fault.Fault.TheVariants.{DataFlags, ElementFlags, ElementFunctionOnly}
use Rattle.wasm_base.specs.declared.fault.Fault.TheVariants.{ExactExport, GlobalFlags, Compact7F, Compact7E}
use Rattle.wasm_base.specs.declared.fault.Fault.TheVariants.{MemoryFlags, PageSize, TableEncoding, TableFlags}
use Rattle.wasm_base.specs.declared.fault.Fault.TheVariants.{TagAttributes, NamesOrder, IndirectOrder}
use Rattle.wasm_base.specs.declared.fault.Fault.TheVariants.{NameSectionOrder, NameTrailing, ProducersField}
use Rattle.wasm_base.specs.declared.fault.Fault.TheVariants.{LinkingVersion, CoreStartByte, CoreValue, CustomTrailing}
use Rattle.wasm_base.specs.declared.fault.Fault.TheVariants.{NotConstant, Supertypes}
use Rattle.wasm_base.specs.declared.fault.NumberKind.TheVariants.{VarU32, VarI32, VarU64, VarI64, VarS33}
use Rattle.wasm_base.specs.declared.fault.Lead.TheVariants as leads
use Rattle.wasm_base.specs.declared.fault.CoreStart.TheVariants as starts
use Rattle.wasm_c_items.specs.Faults.{fault_code}
use Rattle.wasm_c_items.specs.declared.messages.TheConstants.{FAULTS}

-- the fault with this number
abbrev pub numbered : ℕ → Option Fault
numbered kind = find (λ f. nat_eq (fault_code f) kind) FAULTS

-- each fault is found by its number
pub found : (f : Fault) → numbered (fault_code f) ≡ Some f
found OutOfMemory = refl
found UnexpectedEof = refl
found OffsetRange = refl
found BadMagic = refl
found UnknownVersion = refl
found MagicAtSection = refl
found MalformedSectionId = refl
found SectionTooLarge = refl
found OutOfOrder = refl
found StartContent = refl
found DataCountContent = refl
found FunctionCodeDiffer = refl
found FunctionWithoutCode = refl
found CodeWithoutFunction = refl
found DataCountDiffer = refl
found DataCountWithoutData = refl
found TrailingCode = refl
found (NumberTooLong VarU32) = refl
found (NumberTooLong VarI32) = refl
found (NumberTooLong VarU64) = refl
found (NumberTooLong VarI64) = refl
found (NumberTooLong VarS33) = refl
found (NumberTooLarge VarU32) = refl
found (NumberTooLarge VarI32) = refl
found (NumberTooLarge VarU64) = refl
found (NumberTooLarge VarI64) = refl
found (NumberTooLarge VarS33) = refl
found StringSize = refl
found MalformedUtf8 = refl
found InvalidU7 = refl
found InvalidBool = refl
found SizeMismatch = refl
found (LeadingByte leads.BranchHint) = refl
found (LeadingByte leads.BranchTaken) = refl
found (LeadingByte leads.ComdatSymbol) = refl
found (LeadingByte leads.Symbol) = refl
found (LeadingByte leads.Reloc) = refl
found (LeadingByte leads.External) = refl
found (LeadingByte leads.Value) = refl
found (LeadingByte leads.Reference) = refl
found (LeadingByte leads.Heap) = refl
found (LeadingByte leads.Composite) = refl
found (LeadingByte leads.Mutability) = refl
found DataFlags = refl
found ElementFlags = refl
found ElementFunctionOnly = refl
found ExactExport = refl
found GlobalFlags = refl
found Compact7F = refl
found Compact7E = refl
found MemoryFlags = refl
found PageSize = refl
found TableEncoding = refl
found TableFlags = refl
found TagAttributes = refl
found NamesOrder = refl
found IndirectOrder = refl
found NameSectionOrder = refl
found NameTrailing = refl
found ProducersField = refl
found LinkingVersion = refl
found (CoreStartByte starts.Name) = refl
found (CoreStartByte starts.Module) = refl
found (CoreStartByte starts.Instance) = refl
found (CoreStartByte starts.StackName) = refl
found (CoreStartByte starts.Frame) = refl
found CoreValue = refl
found CustomTrailing = refl
found NotConstant = refl
found Supertypes = refl

pub some_is : {X : Type 0} {x y : X} → Some x ≡ Some y → x ≡ y
some_is h = cc

-- what is found passes the test
pub passes : {X : Type 0} (p : X → Bool) (xs : List X) (x : X) → find p xs ≡ Some x → p x ≡ true
passes p [] x is = cc
passes {X} p (y ∷ ys) x is = by (p y) refl is (passes p ys x) where
  by : (b : Bool) → p y ≡ b → cond b (Some y) (find p ys) ≡ Some x → (find p ys ≡ Some x → p x ≡ true) → p x ≡ true
  by true e is later = subst (λ (z : X). p z ≡ true) (some_is is) e
  by false e is later = later is
