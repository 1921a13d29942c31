use Rattle.std.proofs.Common.{refl, sym, ◌∙◌, ap}
use Rattle.gtp_gateway.specs.Settings.{template_by}
use Rattle.gtp_gateway.specs.GatewayState.{state_of}
use Rattle.gtp_gateway.proofs.TemplateBearers.{added_full, added_some}
use Rattle.gtp_gateway.proofs.parts.Parts.judge_added.Goals as goal

pub returns-in_default-number_after : goal.returns-in_default-number_after
returns-in_default-number_after c =
    let g = c.args.self.now in
    let name = c.args.access_point.now in
    added_full name c.args.grant c.args.heard (state_of g) c.requires c.in-Some.template
    (ap (template_by name) (sym c.in-Some.is) ∙ c.template_for.ensures) g.pending.waiting c.number_after.ensures.distinct refl
    c.in_default-number_after.ensures.none

pub returns : goal.returns
returns c =
    let g = c.args.self.now in
    let name = c.args.access_point.now in
    added_some name c.args.grant c.args.heard (state_of g) c.requires c.in-Some.template
    (ap (template_by name) (sym c.in-Some.is) ∙ c.template_for.ensures) g.pending.waiting c.number_after.ensures.distinct refl
    (record { drawn = c.in-Some-draw_third.drawn; seq = c.in-Some-number_after.seq; template = c.in-Some.template }) refl
    (record { third = c.in-Some-draw_third.ensures.some; number = c.in-Some-number_after.ensures.some; few = c.in-Some-number_after.ensures.few; distinct = c.number_after.ensures.distinct }) refl
