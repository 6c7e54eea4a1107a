-- What the kind of a section says of its id.
use Rattle.wasm_grammar.proofs.Common.{arith, ◌≡◌, ℕ, subst, kind_of, whole, Kind, custom, index, data_count, code, code_id, data_count_id}
use Rattle.wasm_grammar.proofs.Common.{custom_id, Encoding, Module}
use Rattle.wasm_grammar.specs.Ids.{start_id}

-- the ids that a section of this kind may have: a code section is a module's
abbrev pub IdOf : Encoding → Kind → ℕ → Type 0
IdOf encoding (whole custom) id = id ≡ custom_id
IdOf encoding (whole index) id = id ≡ start_id
IdOf encoding (whole data_count) id = id ≡ data_count_id
IdOf encoding code id = (encoding ≡ Module) × (id ≡ code_id)
IdOf encoding other id = Unit {0}

pub id_of_kind : (encoding : Encoding) (id : ℕ) → IdOf encoding (kind_of encoding id) id
id_of_kind encoding id = grind arith

-- the id of a section that is known to have this kind
pub id_as : (encoding : Encoding) (kind : Kind) (id : ℕ) → kind_of encoding id ≡ kind → IdOf encoding kind id
id_as encoding kind id e = subst (λ (k : Kind). IdOf encoding k id) e (id_of_kind encoding id)

-- a custom section has the id 0
pub custom_has_its_id : (encoding : Encoding) (id : ℕ) → kind_of encoding id ≡ whole custom → id ≡ custom_id
custom_has_its_id encoding id e = id_as encoding (whole custom) id e

-- a code section is a module's, with the id 10
pub code_has_its_id : (encoding : Encoding) (id : ℕ) → kind_of encoding id ≡ code → (encoding ≡ Module) × (id ≡ code_id)
code_has_its_id encoding id e = id_as encoding code id e
