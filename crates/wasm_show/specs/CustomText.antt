-- The fields of the lines of items of custom sections that have no lists. Tool conventions; core specification, Name
-- Section.
use Rattle.std.specs.Prelude.{ℕ, List, [], ◌∷◌, codes, nat_eq, if◌then◌else◌}
use Rattle.wasm_base.specs.Float.{bits_of_32, bits_of_64}
use Rattle.wasm_custom.specs.declared.branch_hinting.BranchHint.{BranchHint}
use Rattle.wasm_custom.specs.declared.coredumps.CoreDumpValue.{CoreDumpValue}
use Rattle.wasm_custom.specs.declared.coredumps.CoreDumpValue.TheVariants as values
use Rattle.wasm_custom.specs.declared.dylink0.MemInfo.{MemInfo}
use Rattle.wasm_custom.specs.declared.names.Naming.{Naming}
use Rattle.wasm_custom.specs.declared.producers.ProducersFieldValue.{ProducersFieldValue}
use Rattle.wasm_custom.specs.declared.target_features.TargetFeature.{TargetFeature}
use Rattle.wasm_output.specs.Fields.{Field, alone, flag, named, number, quoted, signed}

-- | the fields of a hint, a value of a producer, a feature, a name, the memory of a dynamic library, a value of a core
--   dump [`value_fields`, `feature_fields`, `naming_fields`, `mem_info_fields`, `core_value_fields`] <tool conventions>
abbrev pub hint_fields : BranchHint → List Field
hint_fields h = named (codes "func_offset") (number h.func_offset) ∷ named (codes "taken") (flag h.taken) ∷ []

abbrev pub value_fields : ProducersFieldValue → List Field
value_fields v = named (codes "name") (quoted v.name.now) ∷ named (codes "version") (quoted v.version.now) ∷ []

-- the sign of a feature, or another byte as a number
abbrev pub prefix_field : (prefix : ℕ) → Field
prefix_field prefix =
    if nat_eq prefix 43 then alone (codes "+")
    else if nat_eq prefix 45 then alone (codes "-")
    else if nat_eq prefix 61 then alone (codes "=")
    else named (codes "prefix") (number prefix)

abbrev pub feature_fields : TargetFeature → List Field
feature_fields f = prefix_field f.prefix ∷ named (codes "name") (quoted f.name.now) ∷ []

abbrev pub naming_fields : Naming → List Field
naming_fields n = named (codes "index") (number n.index) ∷ named (codes "name") (quoted n.name.now) ∷ []

abbrev pub mem_info_fields : MemInfo → List Field
mem_info_fields m = alone (codes "mem_info")
    ∷ named (codes "memory_size") (number m.memory_size)
    ∷ named (codes "memory_alignment") (number m.memory_alignment)
    ∷ named (codes "table_size") (number m.table_size)
    ∷ named (codes "table_alignment") (number m.table_alignment) ∷ []

abbrev pub core_value_fields : CoreDumpValue → List Field
core_value_fields values.Missing = alone (codes "missing") ∷ []
core_value_fields (values.I32 z) = named (codes "i32") (signed z) ∷ []
core_value_fields (values.I64 z) = named (codes "i64") (signed z) ∷ []
core_value_fields (values.F32 float) = named (codes "f32_bits") (number (bits_of_32 float)) ∷ []
core_value_fields (values.F64 float) = named (codes "f64_bits") (number (bits_of_64 float)) ∷ []
