use Rattle.std.proofs.Common.{◌≡◌, ◌&&◌, true, map, sym, ap, subst, ◌∙◌}
use Rattle.json.specs.Json.{Members, no_members}
use Rattle.gtp_scenario.specs.Keys.{key_text}
use Rattle.gtp_scenario.proofs.Objects.{has_name, named_first, named_later, named_said}
use Rattle.gtp_scenario.proofs.Trees.{keys_among, keys_said}
use Rattle.gtp_scenario.proofs.reason.flaw.unknown_among.Goals as goal

pub returns-then-not-is_key : goal.returns-then-not-is_key
returns-then-not-is_key c ms inside =
    let now = c.loop-text.invariant ms inside in
    let found = c.in-Some.ensures.value now.0 now.1 in
    let text = c.in-Some.text.now in (
      named_said text ms (now.3 text (subst (λ (rest : Members). has_name text rest ≡ true) (sym found.2) (named_first text found.0 found.1))),
      sym c.is_key.ensures ∙ c.if-not-is_key.true,
    )

pub loop-text-preserved : goal.loop-text-preserved
loop-text-preserved c ms inside =
    let keys = map key_text c.args.keys.now in
    let now = c.loop-text.invariant ms inside in
    let found = c.in-Some.ensures.value now.0 now.1 in
    let text = c.in-Some.text.now in (
      found.1,
      found.4,
      ap (λ b. b && keys_among keys found.1) (sym c.if-not-is_key.false ∙ c.is_key.ensures) ∙ sym (ap (keys_among keys) found.2) ∙ now.2,
      λ other h. now.3 other (subst (λ (rest : Members). has_name other rest ≡ true) (sym found.2) (named_later other text found.0 found.1 h)),
    )

pub returns : goal.returns
returns c ms inside =
    let keys = map key_text c.args.keys.now in
    let now = c.loop-text.invariant ms inside in
    let done : now.0 ≡ no_members = c.in_default.ensures.value now.0 now.1 in
    sym (sym (ap (keys_among keys) done) ∙ now.2 ∙ keys_said keys ms)
