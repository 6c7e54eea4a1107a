-- The kind of a section, as the enum of the code.
use Rattle.std.specs.Prelude.{◌+◌, [], ◌∷◌}
use Rattle.wasm_grammar.specs.declared.sections.SectionKind as InCode
use Rattle.wasm_grammar.specs.declared.sections.SectionKind.TheVariants as Variant
use Rattle.wasm_grammar.specs.Content.{custom, items, index, data_count, unknown, Kind, whole, code}

-- | the kind of a section as the code has it
-- the kind that a value of the enum stands for
abbrev pub kind_is : InCode.SectionKind → Kind
kind_is Variant.Custom = whole custom
kind_is Variant.Items = whole items
kind_is Variant.Index = whole index
kind_is Variant.DataCount = whole data_count
kind_is Variant.Code = code
kind_is Variant.Unknown = whole unknown
