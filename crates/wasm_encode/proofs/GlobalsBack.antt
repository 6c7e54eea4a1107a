-- The bytes of globals are read as the globals.
use Rattle.std.proofs.Common.{◌≡◌, ℕ, ◌+◌, ◌-◌, List, ◌++◌, length, Ok, Err, arith, ap, sym, ◌∙◌, refl, [], ◌∷◌, Bool}
use Rattle.std.proofs.Common.{false, IsTrue, ◌↔◌, ◌==◌, eqb-true, append-nil, append_assoc, length-append}
use Rattle.std.proofs.Math.Seq.{take-append_seam}
use Rattle.wasm_base.proofs.OwnBytes.{same_read}
use Rattle.wasm_base.specs.FaultAt.{FaultAt}
use Rattle.wasm_base.specs.Item.{ReadsAs}
use Rattle.wasm_base.specs.Window.{Window, Place, place, window_over}
use Rattle.wasm_encode.specs.Globals.{init_bytes, global_bytes, GlobalFits, IsExpression, global_placed}
use Rattle.wasm_encode.specs.Limits.{global_type_bytes}
use Rattle.wasm_encode.specs.ReadsBack.{spot, Encodes}
use Rattle.wasm_encode.proofs.CopiedExpressions.{expressions_end, reads_expression}
use Rattle.wasm_encode.proofs.LimitsBack.{reads_global_type}
use Rattle.wasm_encode.proofs.Readings.{Reads, same_spot}
use Rattle.wasm_items.specs.Globals.{global_at}
use Rattle.wasm_items.specs.Init.{end_of_expression, expression_at}
use Rattle.wasm_items.specs.Windows.{expression_window}
use Rattle.wasm_items.specs.declared.globals.Global.{Global}

-- an expression as the window of its bytes
pub expression_spot : (features offset : ℕ) (bytes later : List ℕ) → Reads end_of_expression features tt bytes
    → expression_at (spot features offset (bytes ++ later))
    ≡ Ok (window_over features offset bytes, spot features (offset + length bytes) later)
unfolding expression_at
expression_spot features offset bytes later r =
    let d : offset + length bytes - offset ≡ length bytes = omega arith in
    rw (r.at offset later) (rw (d, take-append_seam bytes later) refl)

pub global_encodes : (x : Global) (features : ℕ) → GlobalFits x
    → Encodes (ReadsAs (λ (y : Global). y) global_at) features (λ (offset : ℕ). global_placed features offset x) (global_bytes x)
unfolding global_at global_bytes
global_encodes x features h = record {
  read = λ offset later.
      let ty : List ℕ = global_type_bytes x.ty in
      let init : List ℕ = init_bytes x in
      let w : Window = expression_window x.init_expr in
      let p : Place = place w in
      let r : Reads end_of_expression features tt init = reads_expression p.features p.offset init h.init features in
      let e : offset + length ty + length init ≡ offset + length (ty ++ init) = omega (arith, length-append ty init) in
      rw (
        append_assoc ty init later,
        (reads_global_type x.ty features h.ty).at offset (init ++ later),
        expression_spot features (offset + length ty) init later r,
      )
      (same_spot features (offset + length ty + length init) (offset + length (ty ++ init)) (global_placed features offset x) later e);
}

-- ---- whether bytes are an expression

pub nil_of : (xs : List ℕ) → length xs ≡ 0 → xs ≡ []
nil_of [] h = refl
nil_of (x ∷ xs) h = absurd (omega arith)

whole : (w : Window) (q : Place) → end_of_expression (place w) ≡ Ok (tt, q) → length q.rest ≡ 0 → IsExpression w
whole w q e h =
    let p : Place = place w in
    let a = expressions_end p.features p.offset p.rest q e in
    let r : a.rest ≡ [] =
    nil_of a.rest (let z : length q.rest ≡ length a.rest = ap (λ (s : Place). length s.rest) a.after in omega (arith, z)) in
    let t : p.rest ≡ a.taken = a.split ∙ (ap (λ (xs : List ℕ). a.taken ++ xs) r ∙ append-nil a.taken) in
    let to : q ≡ spot p.features (p.offset + length p.rest) [] = a.after
    ∙ (ap (λ (xs : List ℕ). spot p.features (p.offset + length xs) a.rest) (sym t)
    ∙ ap (λ (xs : List ℕ). spot p.features (p.offset + length p.rest) xs) r) in
    e ∙ ap (λ (s : Place). Ok (tt, s)) to

pub expression_ended : (w : Window) (q : Place) (b : Bool) → end_of_expression (place w) ≡ Ok (tt, q) → b ≡ (length q.rest == 0)
    → IsTrue b ↔ IsExpression w
expression_ended w q b e f = (
  λ t. whole w q e (eqb-true (length q.rest) 0 (sym f ∙ t)),
  λ h. let one : Unit {0} = tt in
      let z = same_read one one q (spot w.features ((place w).offset + length (place w).rest) []) (sym e ∙ h) in
      f ∙ ap (λ (s : Place). length s.rest == 0) z.1,
)

pub expression_fault : (w : Window) (fault : FaultAt) → end_of_expression (place w) ≡ Err fault → IsTrue false ↔ IsExpression w
expression_fault w fault e = (λ t. cc, λ h. let z = sym e ∙ h in cc)
