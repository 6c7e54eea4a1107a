use Rattle.std.proofs.Common.{◌∙◌, Err, ap, inl, refl, sym}
use Rattle.wasm_commands.proofs.Steps.{granted}
use Rattle.wasm_commands.specs.Formats.{or_text}
use Rattle.wasm_commands.specs.Parsing.{reads_of}
use Rattle.wasm_commands.specs.Shows.{IsRequest}
use Rattle.wasm_commands.proofs.dump.show.Goals as goal

pub returns-in-Err : goal.returns-in-Err
returns-in-Err g c =
    let asked = sym (ap or_text c.in-Err.is) ∙ c.format_of.ensures in (
      c.is_terminal.result,
      c.is_terminal.ensures,
      rw (← asked) (record { answers = ap Err c.complain.ensures.status; tells = c.complain.ensures.tells }),
    )

pub returns : goal.returns
returns g c =
    let asked = sym (ap or_text c.in-Ok.is) ∙ c.format_of.ensures in
    let taken = granted (IsRequest c.args.verb (reads_of c.args.arguments.now)) c.request_of.result c.in-Ok-allocated.request _ _
    c.in-Ok-allocated.ensures c.request_of.ensures in (
      c.is_terminal.result,
      c.is_terminal.ensures,
      rw (← asked) (inl (
        tt,
        c.allocated.new.self,
        taken.0,
        record {
          plan = record {
            verb = c.args.verb;
            words = c.as_slice.result;
            shown = record { only = c.as_slice-2.result; has_bytes = c.has.result; found = c.as_slice-3.result };
            format = c.in-Ok.format;
            is_titled = c.has_titles.result;
          };
          asked = record {
            of_verb = refl;
            words = rw c.as_slice.ensures.value taken.1.words;
            chooses = rw c.as_slice-2.ensures.value taken.1.chooses;
            bytes = c.has.ensures;
            formatted = refl;
            titled = rw (c.as_slice-4.ensures.value, taken.1.names) at c.has_titles.ensures;
          };
          shows = rw (c.as_slice-5.ensures.value, taken.1.names) at c.use_files.ensures;
        },
      )),
    )
