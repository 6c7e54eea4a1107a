-- A comdat that was read has as many symbols as announced.
use Rattle.std.proofs.Common.{◌≡◌, ℕ, None, Ok, ap, subst}
use Rattle.wasm_base.proofs.Announced.{in_steps, read_as, announced, after_follows}
use Rattle.wasm_base.proofs.OwnBytes.{Own, own_nothing, own_both, own_in_table, own_number, own_passed}
use Rattle.wasm_base.specs.Announced.{GivesAnnounced}
use Rattle.wasm_base.specs.Inner.{inner_section_at, after_reading}
use Rattle.wasm_base.specs.Item.{ReadsAs}
use Rattle.wasm_base.specs.Name.{text_at}
use Rattle.wasm_base.specs.Number.{unsigned_at}
use Rattle.wasm_base.specs.Outcome.{Outcome, ◌>>=◌}
use Rattle.wasm_base.specs.Section.{Section, NextItem}
use Rattle.wasm_base.specs.Window.{Place}
use Rattle.wasm_base.specs.declared.fault.Lead.TheVariants as Leads
use Rattle.wasm_base.specs.declared.fault.NumberKind.TheVariants.{VarU32}
use Rattle.wasm_custom.specs.Linking.{comdat_kinds, comdat_kind_at, comdat_symbol_at, ComdatParts, comdat_at}
use Rattle.wasm_custom.specs.declared.linking.ComdatSymbol.{ComdatSymbol}

own_symbol : Own comdat_symbol_at
unfolding comdat_symbol_at
own_symbol =
    own_both comdat_kind_at (λ kind p. unsigned_at VarU32 p >>= λ index.
    let o : Outcome ComdatSymbol = Ok (record { kind = kind; index = index.0 }, index.1) in o)
    (own_in_table Leads.ComdatSymbol comdat_kinds)
    (λ kind. own_both (unsigned_at VarU32) (λ index p. let o : Outcome ComdatSymbol = Ok (record { kind = kind; index = index }, p) in o)
    (own_number VarU32)
    (λ index. own_nothing (record { kind = kind; index = index })))

abbrev pub Given : Section → Type 0
Given symbols = GivesAnnounced (NextItem (ReadsAs (λ (symbol : ComdatSymbol). symbol) comdat_symbol_at)) symbols

-- Iterating over the symbols of a comdat that was read yields as many as announced.
pub symbols_given : (p q : Place) (comdat : ComdatParts) → comdat_at p ≡ Ok (comdat, q) → Given comdat.symbols
unfolding comdat_at
symbols_given p q comdat e =
    let name = in_steps (text_at None p) (λ n. unsigned_at VarU32 n.1 >>= λ f.
    inner_section_at (after_reading comdat_symbol_at) f.1 >>= λ s.
    let o : Outcome ComdatParts = Ok (record { name = n.0; flags = f.0; symbols = s.0 }, s.1) in o) (comdat, q) e in
    let flags = in_steps (unsigned_at VarU32 name.between.1) (λ f. inner_section_at (after_reading comdat_symbol_at) f.1 >>= λ s.
    let o : Outcome ComdatParts = Ok (record { name = name.between.0; flags = f.0; symbols = s.0 }, s.1) in o) (comdat, q) name.other in
    let list = in_steps (inner_section_at (after_reading comdat_symbol_at) flags.between.1)
    (λ s. let o : Outcome ComdatParts = Ok (record { name = name.between.0; flags = flags.between.0; symbols = s.0 }, s.1) in o)
    (comdat, q) flags.other in
    let symbols : Section = list.between.0 in
    let read : ComdatParts = record { name = name.between.0; flags = flags.between.0; symbols = symbols } in
    let same : read ≡ comdat = ap (λ (r : ComdatParts × Place). r.0) (read_as (read, list.between.1) (comdat, q) list.other) in
    subst (λ (c : ComdatParts). Given c.symbols) same (announced (after_reading comdat_symbol_at) (own_passed comdat_symbol_at own_symbol)
    (λ (symbol : ComdatSymbol). symbol) comdat_symbol_at (after_follows comdat_symbol_at) flags.between.1 list.between.1 symbols
    list.one)
