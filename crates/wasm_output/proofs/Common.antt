-- The names of std, of the crates below and of the specs that several of these proofs use.
pub use Rattle.std.proofs.Common.{◌≡◌, ℕ, zero, suc, ◌-◌, ◌<◌, Bool, true, false, ◌&&◌, get_or, nat_eq, refl, arith, ◌+◌, ◌≤◌, ◌%◌, List}
pub use Rattle.std.proofs.Common.{[], ◌∷◌, ◌++◌, codes, sym, ap, ◌∙◌, ◌^◌, subst, nat_lt, decimal, length, ◌||◌, ◌≢◌, Option, Some, None}
pub use Rattle.std.proofs.Common.{append_assoc, append-nil, take, subst₂, ◌*◌, option_map, rules}
pub use Rattle.std.proofs.KnownBytes.{Appends-nil, Appends-trans}
pub use Rattle.std.proofs.lemmas.Bool.Decides.{nat_tests}
pub use Rattle.std.proofs.lemmas.Fmt.{decimal_by_steps}
pub use Rattle.std.proofs.lemmas.Grind.{flat_map-append}
pub use Rattle.std.proofs.lemmas.List.Folds.{list_any-append}
pub use Rattle.std.specs.BTreeMap.{UpdatesBy, get_by}
pub use Rattle.std.specs.List.{list_all, list_any, flat_map}
pub use Rattle.std.specs.Option.{is_some, unwrap_or}
pub use Rattle.std.specs.Prelude.{if◌then◌else◌, slice_index}
pub use Rattle.wasm_io.specs.Offsets.{offset_text}
pub use Rattle.wasm_io.specs.Page.{IsCut}
pub use Rattle.wasm_io.specs.declared.devices.ListError.{ListError}
pub use Rattle.wasm_io.specs.declared.digits.Base.{Base}
pub use Rattle.wasm_output.specs.Fields.{is_escaped, quoted_byte, hexadecimal}
pub use Rattle.wasm_output.specs.ItemNames.{key_cmp, names_in, AddsName, item}
unfoldable pub use Rattle.wasm_output.specs.ItemNames.{named}
pub use Rattle.wasm_output.specs.Json.{start, after_all, IsAt, Leads, object_end}
pub use Rattle.wasm_output.specs.Numbers.{Number}
pub use Rattle.wasm_output.specs.Said.{PutsText, Says, SaysSome}
pub use Rattle.wasm_output.specs.Tree.{Writing, PutsAs, Puts, has_line_feed, name_text, Adds, Put}
pub use Rattle.wasm_output.specs.Written.{lines, lines_rest}
pub use Rattle.wasm_output.specs.declared.numbers.Space.{Space}
pub use Rattle.wasm_output.specs.declared.objects.Spot.{Spot}
pub use Rattle.wasm_output.specs.declared.objects.Spot.TheVariants.{Ended, AtValue}
pub use Rattle.wasm_output.specs.declared.tree.Style.{Style}
pub use Rattle.wasm_output.specs.declared.tree.Style.TheVariants.{Objects}
