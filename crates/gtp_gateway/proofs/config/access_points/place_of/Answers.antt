use Rattle.std.proofs.Common.{◌≡◌, ℕ, List, sym, ◌∙◌, subst}
use Rattle.std.specs.Cmp.Lexicographic.{same_text}
use Rattle.gtp_gateway.proofs.Templates.{sought_found, sought_next, are_apart}
use Rattle.gtp_gateway.proofs.config.access_points.place_of.Goals as goal

pub loop-place-preserved : goal.loop-place-preserved
loop-place-preserved c =
    sought_next c.args.name.now c.args.access_points.now c.loop-place.place _ c.loop-place-test.true c.loop-place.invariant
    (subst (λ (x : List ℕ). x ≡ c.args.name.now → ⊥) c.index-access_points-place.is (are_apart _ c.args.name.now (sym c.eq.ensures ∙ c.if-eq.false)))

pub returns-then-eq-clause-some : goal.returns-then-eq-clause-some
returns-then-eq-clause-some c =
    sought_found c.args.name.now c.args.access_points.now c.loop-place.place _ c.loop-place-test.true c.loop-place.invariant
    (sym c.index-access_points-place.is ∙ same_text _ c.args.name.now (sym c.if-eq.true ∙ c.eq.ensures))
