-- What is known of the sections of a module so far, in the words of the grammar.
use Rattle.std.proofs.Common.{◌≡◌, ℕ, ◌<◌, List, [], ◌∷◌, ◌++◌, refl, ap, sym, ◌∙◌, arith, nat_lt, option_to_list}
use Rattle.std.proofs.lemmas.Grind.{common_steps}
use Rattle.std.specs.List.{list_all}
use Rattle.wasm_encode.specs.Modules.{Holds, counts_of, highest}
use Rattle.wasm_encode.specs.declared.modules.Module.{Module}
use Rattle.wasm_grammar.proofs.accepted.Counts.{Knows}
use Rattle.wasm_grammar.proofs.accepted.Counts as tiles
use Rattle.wasm_grammar.specs.Accepted.{SectionFrame, frame_rank}
use Rattle.wasm_grammar.specs.Grammar.{SectionContext}
use Rattle.wasm_grammar.specs.Ids.{code_id, data_count_id, data_id, function_id}
use Rattle.wasm_grammar.specs.declared.encoding.Encoding.TheVariants as encoding

pub same_counts : (id : ℕ) (frames : List SectionFrame) → tiles.counts_of encoding.Module id frames ≡ counts_of id frames
same_counts id [] = refl
same_counts id (f ∷ frames) = ap (λ (xs : List ℕ). xs ++ tiles.one_count encoding.Module id f) (same_counts id frames)

-- a rank is above the highest one exactly if it is above all
pub above : (frames : List SectionFrame) (r : ℕ) → 0 < r
    → nat_lt (highest frames) r ≡ list_all (λ (f : SectionFrame). nat_lt (frame_rank encoding.Module f) r) frames
above [] r some = grind (arith, common_steps)
above (f ∷ frames) r some = grind (arith, common_steps, above frames r some)

-- what the sections say to the next one
abbrev pub context : {A : Type 0} → Module A → SectionContext
context m = record {
  encoding = encoding.Module;
  may_follow = λ r. nat_lt m.rank r;
  functions = option_to_list m.functions;
  codes = option_to_list m.bodies;
  datas = option_to_list m.segments;
  data_counts = option_to_list m.announced;
}

pub knows : {A : Type 0} (frames : List SectionFrame) (m : Module A) → Holds frames m → Knows encoding.Module frames (context m)
knows frames m h = record {
  named = refl;
  ranks = λ r some. ap (λ (x : ℕ). nat_lt x r) h.rank ∙ above frames r some;
  functions = sym h.functions ∙ sym (same_counts function_id frames);
  codes = sym h.bodies ∙ sym (same_counts code_id frames);
  datas = sym h.segments ∙ sym (same_counts data_id frames);
  data_counts = sym h.announced ∙ sym (same_counts data_count_id frames);
}
