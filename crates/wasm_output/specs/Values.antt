-- The arguments of a tree's calls.
use Rattle.std.specs.Prelude.{Bool, false}
use Rattle.wasm_output.specs.Fields.{Value, flag, nothing, number, quoted, range, signed, word}
use Rattle.wasm_output.specs.Tree.{has_line_feed}
use Rattle.wasm_output.specs.declared.tree.Value.{Value as Given}
use Rattle.wasm_output.specs.declared.tree.Value.TheVariants as given
use Rattle.wasm_output.specs.declared.tree.Start.{Start}
use Rattle.wasm_output.specs.declared.tree.Start.TheVariants as start

-- the value of a field in the terms of `Fields`
abbrev pub value_of : Given → Value
value_of (given.Number n) = number n
value_of (given.Signed z) = signed z
value_of (given.Flag b) = flag b
value_of (given.Word text) = word text.now
value_of (given.Quoted text) = quoted text.now
value_of (given.Range from to) = range from to
value_of given.Nothing = nothing

-- whether there is a line feed in a word that is a value
abbrev pub breaks_line : Given → Bool
breaks_line (given.Word text) = has_line_feed text.now
breaks_line other = false

-- whether there is one in what a line begins with
abbrev pub start_breaks_line : Start → Bool
start_breaks_line (start.Word text) = has_line_feed text.now
start_breaks_line (start.Field name) = has_line_feed name.now
start_breaks_line other = false
