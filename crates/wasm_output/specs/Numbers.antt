-- The numbers of items in their index spaces. Core specification, Syntax, Modules, Indices.
use Rattle.std.specs.Prelude.{◌≡◌, ℕ, ◌+◌, ◌-◌, ◌^◌, min, List, [], ◌∷◌, ◌++◌}
use Rattle.std.specs.Prelude.{codes, decimal, Option, Some, None}
use Rattle.wasm_io.specs.declared.devices.ListError.{ListError}
use Rattle.wasm_output.specs.declared.numbers.Space.{Space}
use Rattle.wasm_output.specs.declared.numbers.Space.TheVariants.{Types, Functions, Tables, Memories, Tags}
use Rattle.wasm_output.specs.declared.numbers.Space.TheVariants.{Globals, Elements, DataSegments, Symbols}

-- | an item's number: its index in an index space, in which imports come first [`number_text`] <Modules, Indices>
-- an item's number: its index in an index space
pub record Number : Type 0 where
  pub space : Space
  pub index : ℕ

-- the word of an index space, as the text format has it
abbrev pub word_of : Space → List ℕ
word_of Types = codes "type"
word_of Functions = codes "func"
word_of Tables = codes "table"
word_of Memories = codes "memory"
word_of Tags = codes "tag"
word_of Globals = codes "global"
word_of Elements = codes "elem"
word_of DataSegments = codes "data"
word_of Symbols = codes "symbol"

-- the text of a number, before the rest of a line
abbrev pub number_text : Number → (rest : List ℕ) → List ℕ
number_text n rest = word_of n.space ++ (codes "[" ++ (decimal n.index ++ (codes "]" ++ rest)))

-- the numbers that a line ends with, each after a blank, before the rest of it
abbrev pub blank_numbers : List Number → (rest : List ℕ) → List ℕ
blank_numbers [] rest = rest
blank_numbers (n ∷ later) rest = codes " " ++ number_text n (blank_numbers later rest)

-- `n` more; a count stops at the greatest number of 64 bits, above every index
abbrev pub more : ℕ → ℕ → ℕ
more count n = min (count + n) (2 ^ 64 - 1)

-- The numbers begin these.
abbrev pub Begin : (shown all : List Number) → Type 0
Begin shown all = (later : List Number) × (all ≡ shown ++ later)

-- | all of some numbers, or a prefix of them if the dump stopped <Indices; this project>
-- The numbers are all of these; or they begin these, where the dump has stopped.
abbrev pub AreShown : (why : Option ListError) → (shown all : List Number) → Type 0
AreShown None shown all = shown ≡ all
AreShown (Some why) shown all = Begin shown all
