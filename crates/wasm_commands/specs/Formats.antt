-- The formats of dumps.
use Rattle.std.specs.Prelude.{ℕ, Bool, true, false, ◌&&◌, ◌++◌, not, List, codes, bytes_eq, Option, Some, None}
use Rattle.std.specs.Prelude.{Result, Ok, Err, if◌then◌else◌}
use Rattle.wasm_io.specs.declared.digits.Base.{Base}
use Rattle.wasm_io.specs.declared.digits.Base.TheVariants.{Decimal, Hexadecimal}
use Rattle.wasm_output.specs.declared.tree.Style.{Style}
use Rattle.wasm_output.specs.declared.tree.Style.TheVariants.{Lines, Objects}
use Rattle.wasm_commands.specs.ArgumentLists.{Read, has_option, last_value}
use Rattle.wasm_commands.specs.Messages.{command_text, complaint_text, wrong_value_text}
use Rattle.wasm_commands.specs.declared.dump.format.Format.{Format}
use Rattle.wasm_commands.specs.declared.messages.Complaint.{Complaint}
use Rattle.wasm_commands.specs.declared.options.Flag.TheVariants as option
use Rattle.wasm_commands.specs.declared.options.Verb.{Verb}

abbrev pub plain_format : Format
plain_format = record { is_colored = false; is_named = false; is_json = false; is_hex = false }

-- whether a dump has colors: JSON has none
abbrev pub has_colors : Format → Bool
has_colors format = not format.is_json && format.is_colored

-- the base of the offsets in lines
abbrev pub offset_base : Format → Base
offset_base format = if format.is_hex then Hexadecimal else Decimal

abbrev pub style_of : Format → Style
style_of format = if format.is_json then Objects else Lines (offset_base format)

-- what was asked for, or what is said of it
abbrev pub or_text : {A : Type 0} → Result A Complaint → Result A (List ℕ)
or_text (Ok x) = Ok x
or_text (Err e) = Err (complaint_text e)

abbrev pub wrong_color : Verb → (when : List ℕ) → List ℕ
wrong_color verb when = wrong_value_text verb (codes "--color") when

-- whether `--color` with a value asks for colors
abbrev pub colors_when : Verb → (when : List ℕ) → (is_terminal : Bool) → Result Bool (List ℕ)
colors_when verb when is_terminal =
    if bytes_eq when (codes "always") then Ok true
    else if bytes_eq when (codes "never") then Ok false
    else if bytes_eq when (codes "auto") then Ok is_terminal
    else Err (wrong_color verb when)

-- whether there are colors: `--color` alone asks for them
abbrev pub colors_asked : Verb → Option (Option (List ℕ)) → (is_terminal : Bool) → Result Bool (List ℕ)
colors_asked verb None is_terminal = Ok false
colors_asked verb (Some None) is_terminal = Ok true
colors_asked verb (Some (Some when)) is_terminal = colors_when verb when is_terminal

abbrev pub excluded : Verb → (option : List ℕ) → List ℕ
excluded verb option = command_text verb ++ (codes ": options '" ++ (codes "--json"
    ++ (codes "' and '" ++ (option ++ codes "' exclude each other\n"))))

-- the value of the last `--color`
abbrev pub color_in : List Read → Option (Option (List ℕ))
color_in reads = last_value option.Color None reads

-- a format, unless JSON is asked for with what it has not: colors, rows of bytes, hexadecimal numbers
abbrev pub unless_excluded : Verb → Format → (has_bytes : Bool) → Result Format (List ℕ)
unless_excluded verb format has_bytes =
    if not format.is_json then Ok format
    else if format.is_colored then Err (excluded verb (codes "--color"))
    else if has_bytes then Err (excluded verb (codes "--bytes"))
    else if format.is_hex then Err (excluded verb (codes "--hex"))
    else Ok format

abbrev pub format_with : Verb → List Read → Result Bool (List ℕ) → Result Format (List ℕ)
format_with verb reads (Err text) = Err text
format_with verb reads (Ok colors) = unless_excluded verb (record {
  is_colored = colors;
  is_named = has_option option.Names reads;
  is_json = has_option option.Json reads;
  is_hex = has_option option.Hex reads;
}) (has_option option.Bytes reads)

-- | the format that options ask for, or what is wrong with them
-- the format that options ask for, or what is wrong with them
abbrev pub format_asked : Verb → List Read → (is_terminal : Bool) → Result Format (List ℕ)
format_asked verb reads is_terminal =
    format_with verb reads (colors_asked verb (color_in reads) is_terminal)
