use Rattle.std.specs.Prelude.{not}
use Rattle.std.proofs.Common.{◌≡◌, ◌∙◌, inl, inr, ap, subst, arith}
use Rattle.std.proofs.lemmas.Bool.{cases_lt}
use Rattle.gtp_tables.specs.Identity.{HasIdentity}
use Rattle.gtp_tables.proofs.Identities.{some_has}
use Rattle.gtp_tables.proofs.view.View.lowest_free_identity.Goals as goal

pub loop-number-preserved : goal.loop-number-preserved
loop-number-preserved c = λ i low lt.
    let bearers = c.args.self.now.bearers in
    let number = c.loop-number.number in
    let found : HasIdentity bearers c.args.session c.in-Ok.identity =
    some_has bearers c.args.session c.in-Ok.identity c.with_identity.result c.with_identity.ensures.found
    (c.is_none.ensures ∙ ap not c.if-is_none.false) in
    elim (cases_lt i number) [
      | inl below ↦ c.loop-number.invariant i low below
      | inr above ↦ let same : c.in-Ok.identity ≡ i = omega (arith, c.in-Ok.ensures.value, above, lt) in subst (HasIdentity bearers c.args.session) same found
    ]
