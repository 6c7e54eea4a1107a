-- No shorter bytes are read as a name or a section than those that it is encoded as.
use Rattle.std.proofs.Common.{◌≡◌, ℕ, ◌+◌, ◌≤◌, List, length, Some, ap, ◌∙◌, arith, length-append}
use Rattle.std.proofs.lemmas.List.{length-take-le}
use Rattle.wasm_base.specs.Name.{after_size, name, name_limit, named, text_after}
use Rattle.wasm_base.specs.Number.{Number, bad, number, read, short}
use Rattle.wasm_base.specs.declared.fault.NumberKind.TheVariants.{VarU32}
use Rattle.wasm_edits.specs.Encoded.{content_of, encoded, encoded_name}
use Rattle.wasm_edits.specs.EncodedLaws.{SectionsAreShortest}
use Rattle.wasm_edits.proofs.Encodings.{leb_longer, shortest}

name_apart : (a b : List ℕ) (i j : ℕ) → named a i ≡ named b j → (a ≡ b) × (i ≡ j)
name_apart a b i j e = (cc, cc)

text_apart : (bytes text : List ℕ) (size k used : ℕ) → text_after bytes size k ≡ named text used
    → (length text ≡ size) × (used ≡ k + size)
text_apart bytes text size k used e = grind (arith, name_apart, length-take-le)

at_size : (text bytes : List ℕ) (used size k : ℕ) → number VarU32 bytes ≡ read size k → text_after bytes size k ≡ named text used
    → length (encoded_name text) ≤ used
at_size text bytes used size k h e =
    let (n, u) = text_apart bytes text size k used e in
    let s : length (encoded (length text)) ≤ k = rw n (shortest size k bytes h) in
    omega (arith, s, u, n, length-append (encoded (length text)) text)

fits_at : (text bytes : List ℕ) (used : ℕ) (n : Number) → number VarU32 bytes ≡ n
    → after_size (Some name_limit) bytes n ≡ named text used → length (encoded_name text) ≤ used
fits_at text bytes used (read size k) h e = grind (arith, at_size)
fits_at text bytes used (bad fault i) h e = grind arith
fits_at text bytes used short h e = grind arith

pub names_shortest : (text bytes : List ℕ) (used : ℕ) → name (Some name_limit) bytes ≡ named text used
    → length (encoded_name text) ≤ used
unfolding name
names_shortest text bytes used e = fits_at text bytes used (number VarU32 bytes) (λ i. number VarU32 bytes) e

pub sections_shortest : SectionsAreShortest
sections_shortest encoding s f i h =
    let content = f.sized.content in
    let of_name : length (encoded_name s.name.now) ≤ length h.prefix = names_shortest s.name.now content (length h.prefix) h.reads in
    let whole : length content ≡ length h.prefix + length s.«data».now =
    ap length h.parts ∙ length-append h.prefix s.«data».now in
    let own : length (content_of s) ≡ length (encoded_name s.name.now) + length s.«data».now =
    length-append (encoded_name s.name.now) s.«data».now in
    let less : length (content_of s) ≤ length content = omega (arith, of_name, whole, own) in
    let of_field : length (encoded (length content)) ≤ length f.sized.field =
    shortest (length content) (length f.sized.field) f.sized.field i.sized in
    let longer : length (encoded (length (content_of s))) ≤ length (encoded (length content)) =
    leb_longer 4 (length (content_of s)) (length content) less in
    omega (
      arith,
      less,
      of_field,
      longer,
      length-append (encoded (length (content_of s))) (content_of s),
      length-append f.sized.field content,
    )
