use Rattle.wasm_feed.proofs.ByHand.{[], ◌∷◌, List, Val, refl, ap, subst, proved, leaves, id⊢, ftrue, flft, fres, named, fact, fact_i, emp}
use Rattle.wasm_feed.proofs.ByHand.{tables, ‵, raw, ◌⊛◌, some, later, ◌$◌, ◌∵◌, !, qed}
use Rattle.wasm_feed.proofs.ByHand.{by, move, keep, drop, use0, use1, use2, split, join}
use Rattle.wasm_feed.proofs.ByHand.{pick, await, rewrite, fjoin, fsplit, enter, addr}
use Rattle.wasm_feed.proofs.ByHand.{stop, no_more, and_then, returns, alloc_all, pass_all}
use Rattle.wasm_feed.proofs.ByHand.{free_all, look_at, get, through, sets, lands_as, shows, Is, mut_vals, mut_Tells, no, plain, named_lft}
use Rattle.wasm_feed.proofs.ByHand.{mut_ref_to, nothing, heard, peeks, only, calls_at, Lasts, lasts, triple_of, Stays, stay_dropped}
use Rattle.wasm_feed.proofs.ByHand.{Goes-spent_ref, framed, left, right, followed, ◌≡◌}
use Rattle.wasm_feed.proofs.PayloadSteps.{step_given, steps_from}
use Rattle.wasm_feed.proofs.Resting.{rests_close}
use Rattle.std.specs.Prelude.{Result}
use Rattle.std.specs.Io.BufRead.{Rests}
use Rattle.wasm_base.specs.declared.error.Error.{Error}
use Rattle.wasm_feed.specs.declared.feeder.Step.{Step}
use Rattle.wasm_feed.specs.declared.feeder.Opened.{Opened}
use Rattle.wasm_feed.specs.Steps.{GivesStep, Steps}
use Rattle.wasm_streams.specs.Cursors.{feed_of}
use Rattle.wasm_feed.specs.Opened.{LendsCursor}
use Rattle.std.specs.contracts.result.Result as result-row
use Rattle.std.proofs.result.Result.TheLaws as result-laws
use Rattle.wasm_base.specs.contracts.error.Error as error-row
use Rattle.wasm_base.proofs.error.Error.TheLaws as error-laws
use Rattle.wasm_feed.specs.contracts.feeder.Step as step-row
use Rattle.wasm_feed.proofs.feeder.Step.TheLaws as step-laws
use Rattle.wasm_feed.specs.contracts.feeder.Opened as opened-row
use Rattle.wasm_feed.proofs.feeder.Opened.TheLaws as opened-laws
use Rattle.wasm_streams.specs.contracts.cursor.Cursor.{the_row as C}
use Rattle.wasm_feed.specs.Rows.{the_row as R}
use Rattle.wasm_feed.specs.contracts.feeder.Feeder.step as f
use Rattle.wasm_feed.proofs.feeder.Feeder.step.Statement.{statement}
use Rattle.wasm_feed.proofs.feeder.Feeder.step.Code as code
use Rattle.wasm_feed.specs.contracts.feeder.Feeder.open as g
use Rattle.wasm_feed.proofs.feeder.Feeder.open.Met.{met as open_met}
use Rattle.wasm_feed.specs.contracts.feeder.Opened.step as h
use Rattle.wasm_feed.proofs.feeder.Opened.step.Met.{met as step_met}

abbrev stayed : Stays f.ended.signature.params f.ended.kept
stayed = (stay_dropped (mut_ref_to (0 ∷ []) tt (plain (λ _. R))) no, tt)

pub step_spec : {M : Type 1} → statement M
step_spec 𝓤 𝓛 𝓜 𝓡 wired =
    let c = f.clauses 𝓛 𝓜.mem 𝓡.returns in let fm = framed 𝓤 𝓛.H 𝓜 (tables 𝓤 𝓛.H 𝓜 𝓡 𝓡.env) in
    proved 𝓛 f.ended stayed c 𝓜 𝓡 (Goes-spent_ref 𝓛 1 (0 ∷ []) tt (plain (λ _. R)), tt)
    f.Key.name code.function (code.unfolded 𝓤 𝓛.H 𝓜 𝓡 wired)
    (λ κs. (mut_vals, tt)) (λ κs. (mut_Tells (named 0) κs.0 R, tt)) (λ κs qs bounds a _ are.
    let κ = κs.0 in let q = qs.0 in let ql = left q in let qr = right q in
    let ℓ = named_lft 1 0 tt κs in let vs = mut_vals a.0 in let γ = a.0.ghost_name in let old = a.0.now in
    let Tr = opened-row.the_row ℓ ℓ in let Rr = result-row.the_row (step-row.the_row ℓ) error-row.the_row in
    let G = triple_of 𝓛 g.signature (g.spec 𝓛 𝓜.mem 𝓡.returns) in
    let z : G.Ghost = ((κs, qs, bounds, a, (vs, tt)), tt) in
    let K = triple_of 𝓛 h.signature (h.spec 𝓛 𝓜.mem 𝓡.returns) in
    let tokens = ‵ (flft κ q) ⊛ ‵ ftrue in
    qed 𝓛 (raw (G.pre z) ∷ []) ∵ enter ! _ _ _ _ _ $
    alloc_all ! (λ l. pass_all ! refl ((tt, tt), tt) $
    sets ! (addr ! (through ! refl (stop !))) refl (tt, tt) $
    calls_at ! fm G (open_met 𝓤 𝓛 𝓜 𝓡 (code.calls-wasm_feed::feeder::Feeder::open 𝓡.env wired)) z (and_then ! (get ! refl) (no_more !))
    (λ v.
    use1 𝓛 (later (some (λ (t : Opened). (tokens ⊛ ‵ (Tr.own_val t (v ∷ []))) ⊛
    some (λ (ws : Lasts g.ended κs a). ‵ (lasts g.ended κs a ws) ⊛ ‵ (LendsCursor a.0 t) ⊛ raw
    (fact 𝓤 (feed_of t.bytes.now t.cursor.now ≡ old)))))) (id⊢ 𝓤 _) $
    await ! tt $ pick ! (λ t. split ! $ split ! $ move ! (2 ∷ []) $ pick !
    (λ ws. split ! $ drop ! $ split ! $ move ! (1 ∷ []) $ heard ! _ (λ opens.
    -- [the borrowed cursor; the tokens; what is opened]
    move ! (2 ∷ []) $ peeks ! Tr _ (shows 𝓛 Tr) t (v ∷ []) (λ is.
    let word = (opened-laws.lowers ℓ ℓ).lowered t in let e = (opened-laws.lowers ℓ ℓ).val_is t (v ∷ []) is in
    let y : K.Ghost = (((κ, (κ, tt)), (ql, (qr, tt)), tt, (t, tt), (word ∷ [], tt)), tt) in
    rewrite ! 0 (λ (ws' : List Val). ‵ (Tr.own_val t ws')) e refl $
    lands_as ! (ap only e) refl (((opened-laws.the_row_laws ℓ ℓ).lawful 𝓛).typed t (word ∷ [])
    (subst (λ (ws' : List Val). Is Tr t ws') e is)).0 $
    -- [what is opened; the borrowed cursor; the tokens]
    nothing ! $ move ! (1 ∷ 0 ∷ []) $ join ! $ move ! (2 ∷ []) $ split ! $ use1 𝓛 (‵ (flft κ ql) ⊛ ‵ (flft κ qr)) (𝓛.lfts.lft_split κ q) $
    split ! $
    move ! (1 ∷ 2 ∷ []) $ join ! $ move ! (1 ∷ 0 ∷ []) $ join ! $ join ! $
    nothing ! $ move ! (1 ∷ 0 ∷ []) $ use2 𝓛 (raw (K.pre y)) (id⊢ 𝓤 _) $
    calls_at ! fm K (step_met 𝓤 𝓛 𝓜 𝓡 (code.calls-wasm_feed::feeder::Opened::step 𝓡.env wired)) y (and_then ! (get ! refl) (no_more !))
    (λ u.
    use1 𝓛 (later (some (λ (x : Result Step Error). ((‵ (flft κ ql) ⊛ ‵ (flft κ qr) ⊛ ‵ ftrue) ⊛ ‵ (Rr.own_val x (u ∷ []))) ⊛
    some (λ (ws' : Lasts h.ended y.0.0 (t, tt)). ‵ (lasts h.ended y.0.0 (t, tt) ws') ⊛ raw
    (fact 𝓤 (Steps (feed_of t.bytes.now t.cursor.now) x (feed_of t.bytes.now ws'.0.0))))))) (id⊢ 𝓤 _) $
    await ! tt $ pick ! (λ x. split ! $ split ! $ move ! (2 ∷ []) $ pick ! (λ ws'. split ! $
    fsplit ! $ fsplit ! $ fsplit ! $
    -- [the cursor's last value; its borrow; nothing; nothing; the step; the tokens; the result; the borrowed cursor]
    let last = feed_of t.bytes.now ws'.0.0 in
    move ! (7 ∷ 0 ∷ []) $ use2 𝓛 (‵ (fres γ (R.coded.code last))) (followed 𝓛 R C (feed_of t.bytes.now) γ t.cursor.ghost_name ws'.0.0) $
    move ! (4 ∷ []) $ heard ! _ (λ said. let made : Steps old x last = steps_from _ old x last opens said in
    move ! (4 ∷ []) $ split ! $ move ! (1 ∷ []) $ split ! $ move ! (2 ∷ 0 ∷ []) $ use2 𝓛 (‵ (flft κ q)) (𝓛.lfts.lft_join κ q) $ join ! $
    -- [the tokens; the feeder's last value; the borrow; nothing; nothing; the result]
    move ! (5 ∷ 0 ∷ 1 ∷ []) $ peeks ! Rr _ (shows 𝓛 Rr) x (u ∷ []) (λ is'.
    lands_as ! refl refl (((result-laws.the_row_laws (step-row.the_row ℓ) error-row.the_row (step-laws.the_row_laws ℓ)
    error-laws.the_row_laws).lawful 𝓛).typed x (u ∷ []) is').0 $
    returns ! (look_at ! 0 refl) $ free_all ! refl $
    move ! (2 ∷ []) $ use1 𝓛 (‵ (Rests R a.0 (Steps old x))) (rests_close 𝓛 R a.0 (Steps old x) last made) $
    use0 𝓛 (raw (fact 𝓤 (GivesStep old.state old.eof old.held x))) (fact_i 𝓤 _ (emp 𝓤) (step_given old x last made)) $
    move ! (1 ∷ 0 ∷ []) $ join ! $
    nothing ! $ nothing ! $ fjoin ! $ keep ! (3 ∷ 0 ∷ 2 ∷ 1 ∷ []) $
    by ! (leaves 𝓛 f.ended stayed c ((κs, qs, bounds, a, (vs, tt)), tt) u x (tt, tt) (tt, tt))))))))))))))
