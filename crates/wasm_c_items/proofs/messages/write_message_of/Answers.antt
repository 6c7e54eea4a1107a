use Rattle.std.proofs.Common.{◌≡◌, ◌∙◌, ℕ, Some, None, nat_eq, sym, subst, eqb-true}
use Rattle.wasm_base.specs.Message.{message_of}
use Rattle.wasm_base.specs.declared.fault.Fault.{Fault}
use Rattle.wasm_c_items.specs.Faults.{fault_code}
use Rattle.wasm_c_items.specs.Texts.{SaysText}
use Rattle.wasm_c_items.specs.declared.messages.TheConstants.{FAULTS}
use Rattle.wasm_c_items.proofs.AllFaults.{found, numbered, passes, some_is}
use Rattle.wasm_c_items.proofs.messages.write_message_of.Goals as goal

-- a fault is found by its number
of_number : (f : Fault) (kind : ℕ) → fault_code f ≡ kind → numbered kind ≡ Some f
of_number f kind is = subst (λ (k : ℕ). numbered k ≡ Some f) is (found f)

none_some : (f : Fault) → None ≡ Some f → ⊥
none_some f h = cc

pub returns-in-Some : goal.returns-in-Some
returns-in-Some c =
    let given : numbered c.args.kind ≡ Some c.in-Some.fault = sym c.fault_numbered.ensures ∙ c.in-Some.is in
    record {
      of = λ f is. subst (λ (g : Fault). SaysText (message_of g) c.args.out.now c.write_message.result c.write_message.new.out)
          (some_is (sym given ∙ of_number f c.args.kind is)) c.write_message.ensures;
      none = λ no. absurd (no c.in-Some.fault (eqb-true (fault_code c.in-Some.fault) c.args.kind
          (passes (λ f. nat_eq (fault_code f) c.args.kind) FAULTS c.in-Some.fault given)));
    }

pub returns-in-None : goal.returns-in-None
returns-in-None c =
    let given : numbered c.args.kind ≡ None = sym c.fault_numbered.ensures ∙ c.in-None.is in
    record {
      of = λ f is. absurd (none_some f (sym given ∙ of_number f c.args.kind is));
      none = λ no. search;
    }
