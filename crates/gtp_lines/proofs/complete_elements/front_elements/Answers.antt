use Rattle.std.proofs.Common.{◌≡◌, ℕ, subst}
use Rattle.gtp_ie.specs.Octets.{IsCut}
use Rattle.gtp_lines.proofs.complete_elements.front_elements.Goals as goal

pub elements_before-requires-clause-cut : goal.elements_before-requires-clause-cut
elements_before-requires-clause-cut c =
    let found = c.in-Err-Truncated.ensures.elements.cut in
    let is = c.in-Err-Truncated.field-0-is in
    let told = found.1 in
    let same : found.0 ≡ c.in-Err-Truncated.at = cc in
    subst (λ (n : ℕ). IsCut c.args.base c.args.octets.now n) same found.2
