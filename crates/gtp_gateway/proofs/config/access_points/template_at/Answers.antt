use Rattle.std.proofs.Common.{◌≡◌, ◌<◌, ◌≤◌, ℕ, List, None, sym, ◌∙◌, subst, length, arith}
use Rattle.std.specs.Cmp.Lexicographic.{same_text}
use Rattle.gtp_gateway.proofs.Templates.{template_otherwise, template_absent, template_found, are_apart}
use Rattle.gtp_gateway.proofs.config.access_points.template_at.Goals.{then-eq+in_default, else-eq}
use Rattle.gtp_gateway.proofs.config.access_points.template_at.Goals as goal

has_place : (place points places : ℕ) → place < points → points ≤ places → place < places
has_place place points places more few = omega (arith, more, few)

pub loop-place-preserved : goal.loop-place-preserved
loop-place-preserved c =
    let points = c.args.access_points.now in
    let places = c.args.templates.now in
    let name = c.args.name.now in
    let place = c.loop-place.place in
    let room = has_place place (length points) (length places) c.loop-place-test.true c.requires in
    elim c.if-eq.branch [
      | then-eq+in_default w ↦ c.loop-place.invariant ∙ template_absent name points places place name _ c.loop-place-test.true room w.in_default.is
      | else-eq w ↦ c.loop-place.invariant ∙ template_otherwise name points places place _ None c.loop-place-test.true room
          (subst (λ (x : List ℕ). x ≡ name → ⊥) c.index-access_points-place.is (are_apart _ name (sym c.eq.ensures ∙ w.if-eq.false)))
    ]

pub returns-in-Some : goal.returns-in-Some
returns-in-Some c =
    let points = c.args.access_points.now in
    let places = c.args.templates.now in
    let name = c.args.name.now in
    let place = c.loop-place.place in
    let room = has_place place (length points) (length places) c.loop-place-test.true c.requires in
    sym (c.loop-place.invariant ∙ template_found name points places place _ _ c.loop-place-test.true room c.in-Some.template
    (sym c.index-access_points-place.is ∙ same_text _ name (sym c.if-eq.true ∙ c.eq.ensures)) c.in-Some.is)
