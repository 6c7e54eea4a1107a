use Rattle.std.proofs.Common.{◌≡◌, ◌∙◌, ap, false, true}
use Rattle.std.specs.Option.{is_some}
use Rattle.wasm_show.specs.Noted.{found_by}
use Rattle.wasm_show.proofs.faults.FaultsWalker.enter.Goals as goal

pub returns-in-Stream : goal.returns-in-Stream
returns-in-Stream g c = rw c.in-Stream.is (record {
  goes = λ e since done d. c.enter_section.ensures e (found_by since) done d;
  stays = λ is. absurd (let no : false ≡ true = c.if-is_some.ensures ∙ (ap is_some c.stopped.ensures ∙ is) in cc);
})

pub returns-in-Section : goal.returns-in-Section
returns-in-Section g c = rw c.in-Section.is (record {
  goes = λ e since done d. c.enter_section-in-Section.ensures e (found_by since) done d;
  stays = λ is. absurd (let no : false ≡ true = c.if-is_some.ensures ∙ (ap is_some c.stopped.ensures ∙ is) in cc);
})

pub returns-in-Custom : goal.returns-in-Custom
returns-in-Custom g c = rw c.in-Custom.is (record {
  goes = λ e since done d. c.enter_custom.ensures e (found_by since) done d;
  stays = λ is. absurd (let no : false ≡ true = c.if-is_some.ensures ∙ (ap is_some c.stopped.ensures ∙ is) in cc);
})

pub returns-in-Unknown : goal.returns-in-Unknown
returns-in-Unknown g c = rw c.in-Unknown.is (record {
  goes = λ e since done d. c.warn.ensures e (found_by since) done d;
  stays = λ is. absurd (let no : false ≡ true = c.if-is_some.ensures ∙ (ap is_some c.stopped.ensures ∙ is) in cc);
})
