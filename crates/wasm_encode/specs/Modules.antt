-- Modules that are written section by section. Core specification, Binary format, Modules.
use Rattle.std.specs.Prelude.{◌≡◌, ℕ, ◌<◌, ◌≤◌, ◌⊎◌, Bool, true, not, ◌&&◌, ◌||◌, nat_eq, nat_lt, max}
use Rattle.std.specs.Prelude.{if◌then◌else◌, Option, Some, is_some, option_to_list, unwrap_or, Result, Ok, Err}
use Rattle.std.specs.Prelude.{List, [], ◌∷◌, ◌++◌, All, flat_map, length, replicate, slice_index_or, take, Vec}
use Rattle.wasm_encode.specs.Custom.{CustomFits, custom_frame}
use Rattle.wasm_encode.specs.Frames.{frame_of}
use Rattle.wasm_encode.specs.Sections.{SectionFits, content_bytes}
use Rattle.wasm_encode.specs.declared.modules.Module.{Module}
use Rattle.wasm_encode.specs.declared.modules.Refused.{Refused}
use Rattle.wasm_encode.specs.declared.modules.Refused.TheVariants.{Order, Count, Item, Size, Memory}
use Rattle.wasm_encode.specs.declared.modules.Unfinished.{Unfinished}
use Rattle.wasm_encode.specs.declared.modules.Unfinished.TheVariants.{Code, Data}
use Rattle.wasm_grammar.specs.Accepted.{SectionFrame, FitsAfter, IsAccepted, IsFrame, IsMatched}
use Rattle.wasm_grammar.specs.Accepted.{frame_bytes, frame_count, frame_rank, header_bytes}
use Rattle.wasm_grammar.specs.Content as content
use Rattle.wasm_grammar.specs.Content.{kind_of, rank_of, whole}
use Rattle.wasm_grammar.specs.Ids.{code_id, data_count_id, data_id, function_id}
use Rattle.wasm_grammar.specs.declared.encoding.Encoding.TheVariants as encoding

-- | any items that can be written make a well-formed section with this id <Modules>
-- Any items that can be written make a well-formed section with this id.
abbrev pub MakesFrames : {T : Type 0} → (encoded : T → List ℕ) (is_encodable : T → Type 0) (id : ℕ) → Type 0
MakesFrames {T} encoded is_encodable id = (xs : List T) → SectionFits encoded is_encodable xs
    → IsFrame encoding.Module (frame_of id (content_bytes encoded xs))

-- Sections with this id are one number.
abbrev pub IsOfNumber : (id : ℕ) → Type 0
IsOfNumber id = (id < 128)
    × ((kind_of encoding.Module id ≡ whole content.index) ⊎ (kind_of encoding.Module id ≡ whole content.data_count))

-- the rank of a module's section with this id, or 0
abbrev pub rank_of_id : ℕ → ℕ
rank_of_id id = rank_of (kind_of encoding.Module id) id

-- the highest rank of these sections, or 0
abbrev pub highest : List SectionFrame → ℕ
highest [] = 0
highest (f ∷ frames) = max (frame_rank encoding.Module f) (highest frames)

-- the counts of the sections with this id, the last one first
abbrev pub counts_of : (id : ℕ) → List SectionFrame → List ℕ
counts_of id [] = []
counts_of id (f ∷ frames) = counts_of id frames ++ (if nat_eq f.id id then frame_count f ∷ [] else [])

-- the bytes of a module with these sections
abbrev pub module_bytes : List SectionFrame → List ℕ
module_bytes frames = header_bytes encoding.Module ++ flat_map frame_bytes frames

-- | a module that is being written: its header and the sections so far, each well-formed and in its place, and what of
--   them decides which may follow <Modules>
pub record Holds {A : Type 0} (frames : List SectionFrame) (m : Module A) : Type 0 where
  pub bytes : m.bytes.items ≡ module_bytes frames
  pub each : All (IsFrame encoding.Module) frames
  pub order : (earlier later : List SectionFrame) (f : SectionFrame) → frames ≡ earlier ++ f ∷ later
      → FitsAfter encoding.Module earlier f
  pub rank : m.rank ≡ highest frames
  pub functions : counts_of function_id frames ≡ option_to_list m.functions
  pub bodies : counts_of code_id frames ≡ option_to_list m.bodies
  pub announced : counts_of data_count_id frames ≡ option_to_list m.announced
  pub segments : counts_of data_id frames ≡ option_to_list m.segments

-- whether a section with this id may follow those of a module, whatever is in it
abbrev pub may_follow : {A : Type 0} → Module A → (id : ℕ) → Bool
may_follow m id = nat_eq (rank_of_id id) 0 || nat_lt m.rank (rank_of_id id)

-- whether a section with this id and count has as many items as the earlier ones imply
abbrev pub agrees : {A : Type 0} → Module A → (id count : ℕ) → Bool
agrees m id count =
    if nat_eq id code_id then nat_eq (unwrap_or m.functions 0) count else
    if nat_eq id data_id then nat_eq (unwrap_or m.announced count) count else true

-- whether a section has items, and the other one that they imply is not there
abbrev pub lacks : (counted other : Option ℕ) → Bool
lacks counted other = not (nat_eq (unwrap_or counted 0) 0) && not (is_some other)

-- A section with a rank comes after those with lower ones alone.
abbrev pub IsOrdered : (frames : List SectionFrame) (f : SectionFrame) → Type 0
IsOrdered frames f = 0 < frame_rank encoding.Module f
    → All (λ g. frame_rank encoding.Module g < frame_rank encoding.Module f) frames

-- The section may not follow these.
abbrev pub Misplaced : (frames : List SectionFrame) (f : SectionFrame) → Type 0
Misplaced frames f = ¬ FitsAfter encoding.Module frames f

-- whether a section may follow these, by its id and its count
abbrev pub AdmitsFrame : (frames : List SectionFrame) (f : SectionFrame) → Result (Unit {0}) Refused → Type 0
AdmitsFrame frames f (Ok done) = FitsAfter encoding.Module frames f
AdmitsFrame frames f (Err Order) = ¬ IsOrdered frames f
AdmitsFrame frames f (Err Count) = IsOrdered frames f × Misplaced frames f
AdmitsFrame frames f (Err other) = ⊥

abbrev pub Admits : {A : Type 0} → (id count : ℕ) → Module A → Result (Unit {0}) Refused → Type 0
Admits id count m result = (frames : List SectionFrame) (f : SectionFrame) → Holds frames m → f.id ≡ id
    → frame_count f ≡ count → AdmitsFrame frames f result

-- What is kept of the sections is the same.
pub record Keeps {A : Type 0} (old new : Module A) : Type 0 where
  pub rank : new.rank ≡ old.rank
  pub functions : new.functions ≡ old.functions
  pub bodies : new.bodies ≡ old.bodies
  pub announced : new.announced ≡ old.announced
  pub segments : new.segments ≡ old.segments

-- This is the number of the first item that can't be written, or how many there are.
pub record FirstUnfit {T : Type 0} (is_encodable : T → Type 0) (xs : List T) (index : ℕ) : Type 0 where
  pub within : index ≤ length xs
  pub earlier : All is_encodable (take index xs)
  pub unfit : (x : T) → index < length xs → slice_index_or xs index x ≡ x → ¬ is_encodable x

-- | why items can't be written: the first that does not fit, or all have too many bytes [`FirstUnfit`]
-- The items can't be written: this one is the first that does not fit, or all together are too many bytes.
abbrev pub CannotWrite : {T : Type 0} → (encoded : T → List ℕ) (is_encodable : T → Type 0) → List T → Refused → Type 0
CannotWrite encoded is_encodable xs (Item index) = FirstUnfit is_encodable xs index × (index < length xs)
CannotWrite encoded is_encodable xs Size = ¬ SectionFits encoded is_encodable xs
CannotWrite encoded is_encodable xs other = ⊥

-- the module with these bytes is accepted, and has exactly these sections
abbrev pub IsModule : (frames : List SectionFrame) (stream : List ℕ) → Type 0
IsModule frames stream =
    (a : IsAccepted stream) × (a.encoding ≡ encoding.Module) × (a.frames ≡ frames)

-- | the end of a module: its bytes, which are accepted and have exactly its sections; or what is missing, code or data
--   [`IsModule`] <Modules; Code Section; Data Count Section>
abbrev pub Finishes : {A : Type 0} → (frames : List SectionFrame) → Result (Vec ℕ A) Unfinished → Type 0
Finishes frames (Ok bytes) = IsModule frames bytes.items
Finishes frames (Err Code) = ¬ IsMatched encoding.Module function_id code_id frames
Finishes frames (Err Data) = ¬ IsMatched encoding.Module data_count_id data_id frames

-- what is kept of the sections after one with this id and count, whose bytes follow
pub record Notes {A : Type 0} (id count : ℕ) (old new : Module A) : Type 0 where
  pub bytes : new.bytes.items ≡ old.bytes.items
  pub rank : new.rank ≡ max old.rank (rank_of_id id)
  pub functions : new.functions ≡ (if nat_eq id function_id then Some count else old.functions)
  pub bodies : new.bodies ≡ (if nat_eq id code_id then Some count else old.bodies)
  pub announced : new.announced ≡ (if nat_eq id data_count_id then Some count else old.announced)
  pub segments : new.segments ≡ (if nat_eq id data_id then Some count else old.segments)

-- The bytes of the module became longer by this many, or an allocation failed. Nothing else changed.
abbrev pub Grows : {A : Type 0} → (size : ℕ) → Result ℕ Refused → (old new : Module A) → Type 0
Grows size (Ok at) old new = (at ≡ length old.bytes.items)
    × (new.bytes.items ≡ old.bytes.items ++ replicate size 0) × Keeps old new
Grows size (Err why) old new = (why ≡ Memory) × (new.bytes.items ≡ old.bytes.items) × Keeps old new

-- These items can be written, and this is how many; or they can't be.
abbrev pub CountsItems : {T : Type 0} → (encoded : T → List ℕ) (is_encodable : T → Type 0) → List T → Result ℕ Refused
    → Type 0
CountsItems encoded is_encodable xs (Ok count) = SectionFits encoded is_encodable xs × (count ≡ length xs)
CountsItems encoded is_encodable xs (Err why) = CannotWrite encoded is_encodable xs why

-- | a section that is added: it follows the sections so far; or it may not come there, or an allocation failed, and the
--   module is as it was [`IsOrdered`, `Misplaced`] <Modules>
-- The section was added to these, or it may not follow them, or an allocation failed, and the module is as it was.
abbrev pub Adds : {A : Type 0} → (frames : List SectionFrame) (f : SectionFrame) → Result (Unit {0}) Refused
    → (new : Module A) → Type 0
Adds frames f (Ok done) new = Holds (frames ++ f ∷ []) new
Adds frames f (Err Order) new = Holds frames new × ¬ IsOrdered frames f
Adds frames f (Err Count) new = Holds frames new × IsOrdered frames f × Misplaced frames f
Adds frames f (Err Memory) new = Holds frames new × FitsAfter encoding.Module frames f
Adds frames f (Err other) new = ⊥

-- | a section of items that is added: its items follow the sections so far; or one of them, or the section, can't be
--   written or may not come there, and the module is as it was <Modules, Sections>
abbrev pub AddsItems : {A T : Type 0} → (encoded : T → List ℕ) (is_encodable : T → Type 0) (id : ℕ) → List T
    → (frames : List SectionFrame) → Result (Unit {0}) Refused → (new : Module A) → Type 0
AddsItems encoded is_encodable id xs frames result new =
    (SectionFits encoded is_encodable xs × Adds frames (frame_of id (content_bytes encoded xs)) result new)
    ⊎ ((why : Refused) × (result ≡ Err why) × CannotWrite encoded is_encodable xs why × Holds frames new)

-- | a custom section that is added: it may come anywhere; or its name or its content is too long, and the module is as
--   it was <Custom Section>
abbrev pub AddsCustom : {A : Type 0} → (name text : List ℕ) → (frames : List SectionFrame) → Result (Unit {0}) Refused
    → (new : Module A) → Type 0
AddsCustom name text frames result new =
    (CustomFits name text × Adds frames (custom_frame name text) result new)
    ⊎ (¬ CustomFits name text × (result ≡ Err Size) × Holds frames new)
