use Rattle.std.proofs.Common.{Ok, rules}
use Rattle.wasm_base.specs.Section.{Section}
use Rattle.wasm_base.proofs.SectionIn.{section_is_in}
use Rattle.wasm_base.proofs.section.SectionLimited.new.Goals as goal

pub returns-clause-whole : goal.returns-clause-whole
returns-clause-whole g c =
    let section : Section = record { reader = c.read_var_u32.new.self; count = c.in_ok-count.count } in
    section_is_in c.args.reader (Ok section) (search rules) (search rules)
