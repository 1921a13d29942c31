use Rattle.std.proofs.Common.{◌≡◌, ◌<◌, ◌≤◌, ℕ, List, length, refl, ◌∙◌, ap, subst, arith, rules}
use Rattle.gtp_values.specs.FiniteMap.{Among}
use Rattle.gtp_gateway.specs.declared.config.access_points.Template.{Template}
use Rattle.gtp_gateway.specs.Settings.{Settings, IsPlaceOf, settings_of, switched, template_of, with_template}
use Rattle.gtp_gateway.proofs.Templates.{place_within, place_among, put_in_order}
use Rattle.gtp_gateway.proofs.config.Config.with_template.Goals as goal

few_places : (place points : ℕ) → place < points → points ≤ 16 → place < 16
few_places place points within few = omega (arith, within, few)

pub bounds-self-inside-place : goal.bounds-self-inside-place
bounds-self-inside-place c =
    let points = c.self.inside.access_points.items in
    few_places c.in-Some.place (length points) (place_within c.args.access_point.now points c.in-Some.place
    (subst (λ (ps : List (List ℕ)). IsPlaceOf c.args.access_point.now ps c.in-Some.place) c.as_slice.ensures.value c.in-Some.ensures.some))
    c.self.invariant.few

pub offset_bounds-self-inside-place : goal.offset_bounds-self-inside-place
offset_bounds-self-inside-place c =
    let points = c.self.inside.access_points.items in
    let small =
    few_places c.in-Some.place (length points) (place_within c.args.access_point.now points c.in-Some.place
    (subst (λ (ps : List (List ℕ)). IsPlaceOf c.args.access_point.now ps c.in-Some.place) c.as_slice.ensures.value c.in-Some.ensures.some))
    c.self.invariant.few in
    omega (arith, small)

pub listed : goal.listed
listed c =
    let points = c.self.inside.access_points.items in
    let small =
    few_places c.in-Some.place (length points) (place_within c.args.access_point.now points c.in-Some.place
    (subst (λ (ps : List (List ℕ)). IsPlaceOf c.args.access_point.now ps c.in-Some.place) c.as_slice.ensures.value c.in-Some.ensures.some))
    c.self.invariant.few in
    let all : length c.self.inside.templates.places ≡ 16 = search rules in
    omega (arith, small, all)

pub returns-clause-ok : goal.returns-clause-ok
returns-clause-ok c = (
  λ is. subst (λ (s : Settings). Among c.args.access_point.now s.config.access_points) c.self.view_is
      (place_among c.args.access_point.now c.self.inside.access_points.items c.in-Some.place
      (subst (λ (ps : List (List ℕ)). IsPlaceOf c.args.access_point.now ps c.in-Some.place) c.as_slice.ensures.value c.in-Some.ensures.some)),
  λ among. refl,
)

pub returns-clause-value : goal.returns-clause-value
returns-clause-value c =
    let name = c.args.access_point.now in
    let points = c.self.inside.access_points.items in
    let places = c.self.inside.templates.places in
    let place = c.in-Some.place in
    let all : length places ≡ 16 = search rules in
    let at = subst (λ (ps : List (List ℕ)). IsPlaceOf name ps place) c.as_slice.ensures.value c.in-Some.ensures.some in
    let t : Template = record { tft = c.args.tft.now; qos = c.args.qos.now } in
    let small : place < length places = (let few = few_places place (length points) (place_within name points place at) c.self.invariant.few in omega (arith, few, all)) in
    let s = switched c.self.inside.switches (settings_of c.self.inside.own c.self.inside.peer points c.self.inside.pools c.self.inside.timers) in
    (λ i. record s { config = record s.config { templates = put_in_order name points places place t at small i } })
    ∙ ap (with_template (template_of name t)) c.self.view_is
