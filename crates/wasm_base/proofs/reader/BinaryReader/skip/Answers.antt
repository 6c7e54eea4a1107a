use Rattle.std.proofs.Common.{◌≤◌, length, ap, subst, rules, Ok, Err}
use Rattle.wasm_base.specs.Window.{Window, KeepsWindow}
use Rattle.wasm_base.proofs.Skipped.{starts_before, ends_within}
use Rattle.wasm_base.proofs.reader.BinaryReader.skip.Goals as goal

pub returns-in_err-f-clause-keeps : goal.returns-in_err-f-clause-keeps
returns-in_err-f-clause-keeps g c = c.requires.forward c.args.self.now c.f.new.arg2 (Err c.in_err-f.field-0.0) (search rules)

pub overflow_sub-self-inside : goal.overflow_sub-self-inside
overflow_sub-self-inside g c =
    let kept : KeepsWindow c.args.self.now c.f.new.arg2 = c.requires.forward c.args.self.now c.f.new.arg2 (Ok c.in_ok-f.field-0)
    (search rules) in
    starts_before c.unwrap-before.result c.args.self.now c.f.new.arg2 c.before-2.inside.position c.self.inside.position (search rules) kept
    (ap (λ (w : Window). w.position) c.before-2.view_is) (ap (λ (w : Window). w.position) c.self.view_is)

pub window_of-requires : goal.window_of-requires
window_of-requires g c =
    let kept : KeepsWindow c.args.self.now c.f.new.arg2 = c.requires.forward c.args.self.now c.f.new.arg2 (Ok c.in_ok-f.field-0)
    (search rules) in
    let within : c.f.new.arg2.position ≤ length c.f.new.arg2.bytes =
    subst (λ (w : Window). w.position ≤ length w.bytes) c.self.view_is c.self.invariant.0 in
    ends_within c.unwrap-before.result c.args.self.now c.f.new.arg2 c.before-2.inside.position c.self.inside.position (search rules) kept
    (ap (λ (w : Window). w.position) c.before-2.view_is) (ap (λ (w : Window). w.position) c.self.view_is) within

pub returns-clause-keeps : goal.returns-clause-keeps
returns-clause-keeps g c = c.requires.forward c.args.self.now c.f.new.arg2 (Ok c.in_ok-f.field-0) (search rules)
