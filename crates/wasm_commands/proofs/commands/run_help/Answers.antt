use Rattle.std.proofs.Common.{None, ◌∙◌, ap, sym}
use Rattle.wasm_commands.proofs.FirstWords.{topic_run}
use Rattle.wasm_commands.specs.Options.{verb_named}
use Rattle.wasm_commands.proofs.commands.run_help.Goals as goal

pub returns-in-None : goal.returns-in-None
returns-in-None g c =
    let same = c.as_str-in-None.ensures.value ∙ sym c.as_str.ensures.value in
    topic_run c.args.words.now c.word-item.result c.as_str-in-None.result.now c.word-item.is c.in-len1-up.len_at_least
    c.as_str-in-None.ensures.value None _ _ _ (ap verb_named same ∙ (sym c.verb_of.ensures ∙ c.in-None.is)) c.refuse.ensures
