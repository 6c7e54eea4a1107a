use Rattle.std.proofs.Common.{refl}
use Rattle.wasm_streams.specs.Step.{says}
use Rattle.wasm_streams.proofs.ForCallers.{steps_in}
use Rattle.wasm_commands.proofs.FirstNamed.{fault_comes, part_comes, part_goes_on}
use Rattle.wasm_commands.proofs.around.next_part.Goals as goal

pub returns-in-Fault-clause-takes : goal.returns-in-Fault-clause-takes
returns-in-Fault-clause-takes c events a l =
    let made = c.next_frame.ensures in
    let s = steps_in c.args.bytes.now c.args.cursor.now _ (says c.next_frame.result) made.parses made.shows made.finished made.wants in
    fault_comes c.args.name.now c.args.bytes.now events _ _ a l c.requires _ (rw c.in-Fault.is at s)

pub returns-in-Parsed-clause-takes : goal.returns-in-Parsed-clause-takes
returns-in-Parsed-clause-takes c events a l =
    let made = c.next_frame.ensures in
    let s = steps_in c.args.bytes.now c.args.cursor.now _ (says c.next_frame.result) made.parses made.shows made.finished made.wants in
    let parsed = rw c.in-Parsed.is at s in
    part_comes c.args.name.now c.args.bytes.now events _ _ a l c.requires _ _ _ c.part_of.result parsed c.part_of.ensures
    (rw c.remaining-rest.ensures refl) c.remaining-after.ensures

pub returns-in-Parsed-clause-goes_on : goal.returns-in-Parsed-clause-goes_on
returns-in-Parsed-clause-goes_on c =
    let made = c.next_frame.ensures in
    let s = steps_in c.args.bytes.now c.args.cursor.now _ (says c.next_frame.result) made.parses made.shows made.finished made.wants in
    let parsed = rw c.in-Parsed.is at s in
    part_goes_on c.args.name.now c.args.bytes.now _ _ _ _ _ c.part_of.result parsed c.part_of.ensures
