use Rattle.std.proofs.Common.{◌≡◌, ℕ, Some, refl, rules, sym, ◌∙◌, ap}
use Rattle.gtp_gateway.proofs.parts.Parts.bearer_for.Goals as goal

pub returns : goal.returns
returns c =
    let dedicated = c.in-Some.dedicated in
    let is = c.in-Some.ensures.some in
    let same : c.in-Ok.identity ≡ c.args.identity.0 = search rules in (
      record { key = dedicated.teid; at = record { bearer = dedicated.bearer; stands = is.stands }; of = is.of; dedicated = is.dedicated; has = is.has ∙ ap (λ (n : ℕ). Some n) same },
      refl,
      sym c.is_named.ensures ∙ c.if-is_named.false,
    )
