use Rattle.std.proofs.Common.{◌≡◌, ◌⊎◌, ℕ, inl, inr, ◌∷◌, [], Bool, true, false, bytes_eq, codes, ap, sym, ◌∙◌, Ok, Err}
use Rattle.std.specs.Prelude.{if◌then◌else◌}
use Rattle.wasm_base.specs.FaultAt.{fault_at}
use Rattle.wasm_base.specs.Hints.{is_out_of_memory}
use Rattle.wasm_base.specs.Owned.{out_of_memory}
use Rattle.wasm_base.specs.declared.error.Error.{Error}
use Rattle.wasm_custom.specs.Custom.{Custom}
use Rattle.wasm_custom.specs.Known.{Known, reading_of}
use Rattle.wasm_show.specs.Lists.{custom_seen, features_seen, known_seen, read_seen}
use Rattle.wasm_show.specs.Seen.{faulty}
use Rattle.wasm_show.proofs.Walking.{fault_or_stop, sees_same}
use Rattle.wasm_show.proofs.custom.walk_custom.Goals as goal

module _ (deep : Bool) (level : ℕ) (section : Custom) where
  -- the features of a module
  featured : bytes_eq section.name (codes "target_features") ≡ true → features_seen deep level section ≡ custom_seen deep level section
  featured e = sym (ap (λ (b : Bool). if b then features_seen deep level section else read_seen deep level (reading_of section)) e)

  module _ (other : bytes_eq section.name (codes "target_features") ≡ false) where
    by_reader : custom_seen deep level section ≡ read_seen deep level (reading_of section)
    by_reader = ap (λ (b : Bool). if b then features_seen deep level section else read_seen deep level (reading_of section)) other

    -- what a section is known as
    read_as : (known : Known) → reading_of section ≡ Ok known → known_seen deep level known ≡ custom_seen deep level section
    read_as known reads = sym (by_reader ∙ ap (read_seen deep level) reads)

    -- a section whose reader refuses the data has that fault, or an allocation failed
    refused : (e : Error) → (fault_at e ≡ out_of_memory) ⊎ (reading_of section ≡ Err (fault_at e))
        → (is_out_of_memory (fault_at e).fault ≡ true) ⊎ (custom_seen deep level section ≡ faulty (fault_at e) ∷ [])
    refused e (inl memory) = inl (ap (λ r. is_out_of_memory r.fault) memory)
    refused e (inr reads) = inr (by_reader ∙ ap (read_seen deep level) reads)

pub returns-then-eq : goal.returns-then-eq
returns-then-eq g c = sees_same g.W.Walker.saw g.W.Walker.why _ _ _ _
    (featured g.W.Walker.IS_DEEP c.args.level c.args.section.now (rw (c.eq.ensures, c.name.ensures) at c.if-eq.true))
    c.walk_features.ensures

pub returns-in-Ok : goal.returns-in-Ok
returns-in-Ok g c = sees_same g.W.Walker.saw g.W.Walker.why _ _ _ _
    (read_as g.W.Walker.IS_DEEP c.args.level c.args.section.now (rw (c.eq.ensures, c.name.ensures) at c.if-eq.false) _
    c.in-Ok.ensures.gives)
    c.walk_known.ensures

pub returns-in-Err : goal.returns-in-Err
returns-in-Err g c = fault_or_stop g.W.Walker.saw g.W.Walker.why _ c.in-Err.error _ _
    (refused g.W.Walker.IS_DEEP c.args.level c.args.section.now (rw (c.eq.ensures, c.name.ensures) at c.if-eq.false) c.in-Err.error
    c.in-Err.ensures.gives) c.take_fault.ensures
