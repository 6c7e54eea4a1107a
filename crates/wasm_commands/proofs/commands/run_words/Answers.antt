use Rattle.std.proofs.Common.{Some, ◌∙◌, sym}
use Rattle.wasm_commands.proofs.FirstWords.{none_run, words_run}
use Rattle.wasm_commands.proofs.commands.run_words.Goals as goal

pub returns-in_default : goal.returns-in_default
returns-in_default g c =
    none_run g.S.System g.S.Input.Source g.S.Output.Sink c.args.words.now _ _ _ c.in_default.len_below c.refuse.ensures

pub returns-in-Some : goal.returns-in-Some
returns-in-Some g c =
    words_run c.args.words.now c.word-item.result c.as_str.result.now c.word-item.is c.in-len1-up.len_at_least c.as_str.ensures.value
    g.S.System g.S.Input.Source g.S.Output.Sink (Some c.in-Some.verb) _ _ _ (sym c.verb_of.ensures ∙ c.in-Some.is) c.run_verb.ensures
