use Rattle.std.proofs.Common.{sym, ◌∙◌}
use Rattle.wasm_base.proofs.Pages.{page_size_says, page_size_holds, page_size_of_one_bit, page_size_of_more_bits}
use Rattle.wasm_base.proofs.limits.is_page_size.Goals as goal

pub returns-then-is_power_of_two-clause-says : goal.returns-then-is_power_of_two-clause-says
returns-then-is_power_of_two-clause-says c =
    page_size_of_one_bit c.args.page_size c.ranges.page_size.fits (sym c.is_power_of_two.ensures ∙ c.if-is_power_of_two.true)

pub returns-else-is_power_of_two-clause-says : goal.returns-else-is_power_of_two-clause-says
returns-else-is_power_of_two-clause-says c =
    c.if-is_power_of_two.false
    ∙ sym (page_size_of_more_bits c.args.page_size (sym c.is_power_of_two.ensures ∙ c.if-is_power_of_two.false))

pub returns-then-is_power_of_two-clause-power : goal.returns-then-is_power_of_two-clause-power
returns-then-is_power_of_two-clause-power c =
    let says = returns-then-is_power_of_two-clause-says c in
    let size = c.args.page_size in
    (λ h. page_size_says size (sym says ∙ h), λ (power, le). says ∙ page_size_holds size power le)

pub returns-else-is_power_of_two-clause-power : goal.returns-else-is_power_of_two-clause-power
returns-else-is_power_of_two-clause-power c =
    let says = returns-else-is_power_of_two-clause-says c in
    let size = c.args.page_size in
    (λ h. page_size_says size (sym says ∙ h), λ (power, le). says ∙ page_size_holds size power le)
