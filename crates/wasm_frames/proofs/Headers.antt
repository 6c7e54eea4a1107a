-- What is read of a header.
use Rattle.wasm_frames.proofs.Common.{◌≡◌, ℕ, ◌+◌, ◌≤◌, Bool, true, false, List, length, Result, Ok, Err, refl, sym, ap, ◌∙◌, arith}
use Rattle.wasm_frames.proofs.Common.{ltb-true, cond, nat_lt, ltb-false, take, drop, Some, None, fault_at, at_offset, hint_of, magic, agree}
use Rattle.wasm_frames.proofs.Common.{hint_at, missing_at, Outcome, ◌>>=◌, Place, advanced, Error, UnexpectedEof, UnknownVersion}
use Rattle.wasm_frames.proofs.Common.{header_grammar, tile_report, Report, MatchesGrammar}
use Rattle.std.proofs.Common.{◌/◌, ◌%◌}
use Rattle.wasm_base.specs.Header.{header_version_at}
use Rattle.wasm_base.specs.Hints.{missing_of_header}
use Rattle.wasm_base.specs.Name.{of_four, u32_at}
use Rattle.wasm_base.specs.declared.fault.Fault.TheVariants.{BadMagic}
use Rattle.wasm_grammar.specs.Grammar.{version, encoding_named, version_of}
use Rattle.wasm_grammar.specs.declared.encoding.Encoding.{Encoding}
use Rattle.wasm_frames.proofs.ReadingFields.{report_bytes, report_missing, report_wrong, report_right, report_whole, report_stops}

abbrev Bits : Type 0
Bits = Outcome ℕ

-- four bytes, or too few
abbrev four_at : Bool → Place → Outcome (List ℕ)
four_at b p = cond b (Err (at_offset UnexpectedEof p.offset)) (Ok (take 4 p.rest, advanced 4 p))

abbrev bits_at : Bool → Place → Bits
bits_at b p = four_at b p >>= (λ bytes. let x : Bits = Ok (of_four bytes.0, bytes.1) in x)

-- the magic and four bytes, by three tests
abbrev version_steps : (few other fewer : Bool) → Place → Bits
version_steps true other fewer p = Err (at_offset UnexpectedEof p.offset)
version_steps false false fewer p = Err (at_offset BadMagic p.offset)
version_steps false true fewer p = bits_at fewer (advanced 4 p)

steps_at : (few : Bool) (p : Place) → nat_lt (length p.rest) 4 ≡ few
    → header_version_at p ≡ version_steps few (agree (take 4 p.rest) magic) (nat_lt (length (drop 4 p.rest)) 4) p
unfolding header_version_at u32_at
steps_at few p e = grind arith

steps : (p : Place) → header_version_at p ≡ version_steps (nat_lt (length p.rest) 4) (agree (take 4 p.rest) magic)
    (nat_lt (length (drop 4 p.rest)) 4) p
steps p = steps_at (nat_lt (length p.rest) 4) p refl

-- a header that was read
pub record ReadHeader (p : Place) (bits : ℕ) (q : Place) : Type 0 where
  pub there : 4 ≤ length p.rest
  pub begins : agree (take 4 p.rest) magic ≡ true
  pub after : 4 ≤ length (drop 4 p.rest)
  pub four : of_four (take 4 (drop 4 p.rest)) ≡ bits
  pub place : q ≡ advanced 4 (advanced 4 p)

pub header_read : (p : Place) (bits : ℕ) (q : Place) → header_version_at p ≡ Ok (bits, q) → ReadHeader p bits q
header_read p bits q h = grind (arith, steps, ltb-false)

-- what is after the eight bytes
report_eight : (s : ℕ) (p : Place) (bits : ℕ) (q : Place) (r : Result Report Error) (a : Place) → ReadHeader p bits q
    → MatchesGrammar s q (version_of p.offset bits) r a → MatchesGrammar s p (header_grammar p.offset) r a
unfolding header_grammar
report_eight s p bits q r a h t =
    report_bytes s p 4 p.offset _ r a h.there (report_right s _ _ _ r a (rw h.begins refl)
    (report_bytes s _ 4 (p.offset + 4) _ r a h.after (rw h.four (rw h.place at t))))

module _ (p : Place) (bits : ℕ) (q : Place) where
  -- a header of a known version
  pub header_report : (e : Encoding) (report : Report) → header_version_at p ≡ Ok (bits, q) → Some e ≡ encoding_named (bits % 65536)
      (bits / 65536) → report ≡ tile_report q.features p.offset q.offset (version (bits % 65536) e)
      → MatchesGrammar p.offset p (header_grammar p.offset) (Ok report) q
  header_report e report h n t = report_eight _ _ _ _ _ _ (header_read _ _ _ h) (rw (← n) (search report_whole))

  -- one of an unknown version
  pub header_unnamed : (e : Error) → header_version_at p ≡ Ok (bits, q) → None ≡ encoding_named (bits % 65536) (bits / 65536)
      → fault_at e ≡ record { fault = UnknownVersion; offset = p.offset + 4; number = Some bits } → hint_of e ≡ None
      → MatchesGrammar p.offset p (header_grammar p.offset) (Err e) q
  header_unnamed e h n f hint = report_eight _ _ _ _ _ _ (header_read _ _ _ h) (rw (← n) (search report_stops))

-- how many bytes are missing, by the tests
abbrev steps_missing : (few other : Bool) → Place → ℕ
steps_missing true other p = missing_at 4 p
steps_missing false other p = missing_at 4 (advanced 4 p)

missing_by_steps : (few : Bool) (p : Place) → nat_lt (length p.rest) 4 ≡ few → missing_of_header p
    ≡ steps_missing few (agree (take 4 p.rest) magic) p
missing_by_steps few p e = grind arith

refused_at : (few other fewer : Bool) (p : Place) (e : Error) (a : Place) → nat_lt (length p.rest) 4 ≡ few
    → agree (take 4 p.rest) magic ≡ other → nat_lt (length (drop 4 p.rest)) 4 ≡ fewer → version_steps few other fewer p ≡ Err (fault_at e)
    → hint_of e ≡ hint_at (steps_missing few other p) (fault_at e).fault → MatchesGrammar p.offset p (header_grammar p.offset) (Err e) a
unfolding header_grammar
refused_at true other fewer p e a x y z h hint = report_missing p.offset p 4 p.offset _ e a (ltb-true _ _ x) (cc) hint
refused_at false false fewer p e a x y z h hint =
    report_bytes p.offset p 4 p.offset _ (Err e) a (ltb-false _ _ x) (report_wrong p.offset _ _ _ e a (rw y (cc)) (cc))
refused_at false true true p e a x y z h hint =
    report_bytes p.offset p 4 p.offset _ (Err e) a (ltb-false _ _ x) (report_right p.offset _ _ _ (Err e) a (rw y refl)
    (report_missing p.offset (advanced 4 p) 4 (p.offset + 4) _ e a (ltb-true _ _ z) (cc) hint))
refused_at false true false p e a x y z h hint = cc

pub header_refused : (p : Place) (e : Error) (a : Place) → header_version_at p ≡ Err (fault_at e) → hint_of e
    ≡ hint_at (missing_of_header p) (fault_at e).fault → MatchesGrammar p.offset p (header_grammar p.offset) (Err e) a
header_refused p e a h hint = refused_at _ _ (nat_lt (length (drop 4 p.rest)) 4) p e a
    refl refl refl (sym (steps p) ∙ h) (hint ∙ ap (λ n. hint_at n (fault_at e).fault) (search missing_by_steps))
