use Rattle.std.proofs.Common.{◌≡◌, List, ℕ, Result, Ok, Err, inr, refl, sym, ◌∙◌, ap}
use Rattle.wasm_base.specs.FaultAt.{FaultAt}
use Rattle.wasm_base.specs.Outcome.{GivesResult}
use Rattle.wasm_base.specs.Owned.{GivesResultUnlessMemory}
use Rattle.wasm_base.specs.Window.{Window, place, whole_window}
use Rattle.wasm_base.specs.declared.error.Error.{Error}
use Rattle.wasm_custom.specs.Custom.{Custom}
use Rattle.wasm_custom.specs.Known.{Known, names, readings, read_by_name, reading_of}
use Rattle.wasm_custom.proofs.custom.CustomSectionReader.read_known_in.Goals as goal

-- what a section with this name is
named : (section : Custom) (name word : List ℕ) (w : Window) → name ≡ section.name → name ≡ word → w ≡ whole_window (place section.reader)
    → read_by_name readings word w ≡ reading_of section
named section name word w e is d = rw (← is, e, d) refl

-- what the reader of a section returned is what the section is read as
gives_so : {X : Type 0} (view : X → Known) (r : Result X Error) (o p : Result Known FaultAt) → o ≡ p → GivesResult view r o
    → GivesResultUnlessMemory view r p
gives_so view (Ok x) o p e g = sym e ∙ g
gives_so view (Err error) o p e g = inr (sym e ∙ g)

pub returns-in-name-clause-gives : goal.returns-in-name-clause-gives
returns-in-name-clause-gives g c =
    sym (named c.args.self.now _ _ _ c.name.ensures c.in-name.is c.data_reader-data.ensures)
    ∙ ap (λ reader. Ok (names reader)) (sym c.new.ensures)

pub returns-in-text-clause-gives : goal.returns-in-text-clause-gives
returns-in-text-clause-gives g c =
    gives_so _ _ _ _ (named c.args.self.now _ _ _ c.name.ensures c.in-text.is c.data_reader-data.ensures) c.branch_hints.ensures.gives

pub returns-in-producers-clause-gives : goal.returns-in-producers-clause-gives
returns-in-producers-clause-gives g c =
    gives_so _ _ _ _ (named c.args.self.now _ _ _ c.name.ensures c.in-producers.is c.data_reader-data.ensures) c.producers.ensures.gives

pub returns-in-core-clause-gives : goal.returns-in-core-clause-gives
returns-in-core-clause-gives g c =
    gives_so _ _ _ _ (named c.args.self.now _ _ _ c.name.ensures c.in-core.is c.data_reader-data.ensures) c.core_dump.ensures.gives

pub returns-in-linking-clause-gives : goal.returns-in-linking-clause-gives
returns-in-linking-clause-gives g c =
    gives_so _ _ _ _ (named c.args.self.now _ _ _ c.name.ensures c.in-linking.is c.data_reader-data.ensures) c.linking.ensures.gives
