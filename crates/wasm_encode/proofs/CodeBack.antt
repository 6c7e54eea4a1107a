-- The bytes of bodies are read as the bodies, and code sections are well-formed.
use Rattle.std.proofs.Common.{◌≡◌, ℕ, ◌+◌, ◌<◌, ◌≤◌, ◌^◌, false, List, [], ◌∷◌}
use Rattle.std.proofs.Common.{◌++◌, length, Ok, All, map, arith, ap, sym, refl, subst}
use Rattle.std.proofs.Common.{append_assoc, length-append}
use Rattle.std.proofs.lemmas.List.{length-map}
use Rattle.std.proofs.lemmas.List.Elements.{All-head, All-tail, All-cons, All-nil}
use Rattle.std.specs.Prelude.{flat_map}
use Rattle.wasm_base.specs.Item.{ReadsAs}
use Rattle.wasm_base.specs.Name.{window_at}
use Rattle.wasm_base.specs.Number.{number, read}
use Rattle.wasm_base.specs.declared.fault.NumberKind.TheVariants.{VarU32}
use Rattle.wasm_encode.specs.Code.{BodyFits, body_bytes, body_content, body_placed}
use Rattle.wasm_encode.specs.Frames.{frame_of}
use Rattle.wasm_encode.specs.Modules.{MakesFrames}
use Rattle.wasm_encode.specs.Numbers.{unsigned_bytes}
use Rattle.wasm_encode.specs.ReadsBack.{spot, Encodes}
use Rattle.wasm_encode.specs.Sections.{SectionFits, content_bytes, items_bytes}
use Rattle.wasm_encode.proofs.CopiedExpressions.{bytes_back}
use Rattle.wasm_encode.proofs.FramesBack.{alone}
use Rattle.wasm_encode.proofs.Numbers.{septets_some}
use Rattle.wasm_encode.proofs.NumbersBack.{unsigned_at_spot}
use Rattle.wasm_grammar.specs.Accepted.{IsFrame, IsSized, Sized, sized_bytes}
use Rattle.wasm_grammar.specs.Ids.{code_id}
use Rattle.wasm_grammar.specs.declared.encoding.Encoding.TheVariants.{Module}
use Rattle.wasm_items.specs.Windows.{body_window}
use Rattle.wasm_items.specs.declared.code.FunctionBody.{FunctionBody}

-- The content of a body that fits is no longer than the body.
content_few : (body : FunctionBody) → BodyFits body → length (body_content body) < 2 ^ 32
unfolding body_bytes
content_few body h =
    let size : List ℕ = unsigned_bytes (length (body_content body)) in
    omega (arith, h, length-append size (body_content body))

pub body_encodes : (body : FunctionBody) (features : ℕ) → BodyFits body
    → Encodes (ReadsAs body_window window_at) features (λ (offset : ℕ). body_placed features offset body) (body_bytes body)
unfolding window_at body_bytes
body_encodes body features h = record {
  read = λ offset later.
      let content : List ℕ = body_content body in
      let size : List ℕ = unsigned_bytes (length content) in
      let few = content_few body h in
      let n : offset + length size + length content ≡ offset + length (size ++ content) = omega (arith, length-append size content) in
      rw (
        append_assoc size content later,
        unsigned_at_spot VarU32 features offset (length content) (content ++ later) refl few,
        bytes_back features (offset + length size) content later,
      )
      (ap (λ (k : ℕ). Ok (body_window (body_placed features offset body), spot features k later)) n);
}

-- ---- code sections

abbrev sized_of : FunctionBody → Sized
sized_of body = record { field = unsigned_bytes (length (body_content body)); content = body_content body }

-- bodies as parts of a stream
divided : (bodies : List FunctionBody) → items_bytes body_bytes bodies ≡ flat_map sized_bytes (map sized_of bodies)
unfolding body_bytes
divided [] = refl
divided (x ∷ xs) = ap (λ (bytes : List ℕ). body_bytes x ++ bytes) (divided xs)

all_sized : (bodies : List FunctionBody) → All BodyFits bodies → All IsSized (map sized_of bodies)
all_sized [] h = All-nil IsSized
all_sized (x ∷ xs) h = All-cons IsSized (sized_of x) (map sized_of xs)
    (alone (length (body_content x)) (content_few x (All-head BodyFits x xs h))) (all_sized xs (All-tail BodyFits x xs h))

-- Each body has a byte at least.
fewer : (bodies : List FunctionBody) → length bodies ≤ length (items_bytes body_bytes bodies)
unfolding body_bytes
fewer [] = omega arith
fewer (x ∷ xs) =
    let content : List ℕ = body_content x in
    let size : List ℕ = unsigned_bytes (length content) in
    omega (
      arith,
      fewer xs,
      septets_some false 128 (length content),
      length-append size content,
      length-append (size ++ content) (items_bytes body_bytes xs),
    )

pub code_frames : (bodies : List FunctionBody) → SectionFits body_bytes BodyFits bodies
    → IsFrame Module (frame_of code_id (content_bytes body_bytes bodies))
code_frames bodies h =
    let n : ℕ = length bodies in
    let field : List ℕ = unsigned_bytes n in
    let short = h.short in
    let few : n < 2 ^ 32 = omega (arith, short, fewer bodies, length-append field (items_bytes body_bytes bodies)) in
    record {
      id = omega arith;
      sized = alone (length (content_bytes body_bytes bodies)) short;
      content = record {
        field = field;
        bodies = map sized_of bodies;
        whole = ap (λ (bytes : List ℕ). field ++ bytes) (divided bodies);
        count = subst (λ (m : ℕ). number VarU32 field ≡ read m (length field)) (sym (length-map bodies sized_of)) (alone n few);
        each = all_sized bodies h.each;
      };
    }

pub code_makes_frames : MakesFrames body_bytes BodyFits code_id
code_makes_frames xs fit = code_frames xs fit
