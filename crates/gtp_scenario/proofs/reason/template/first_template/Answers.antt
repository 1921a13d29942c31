use Rattle.std.proofs.Common.{◌≡◌, ◌+◌, ◌&&◌, true, sym, ap, ◌∙◌}
use Rattle.serde_json.specs.Find.{get_item}
use Rattle.gtp_scenario.specs.reading.Faultless.{is_template, are_templates}
use Rattle.gtp_scenario.specs.Trees.{view, items_view}
use Rattle.gtp_scenario.proofs.Objects.{here, next_place, at_none, at_some}
use Rattle.gtp_scenario.proofs.reason.template.first_template.Goals as goal

pub returns-in-Some-2 : goal.returns-in-Some-2
returns-in-Some-2 c = record {
  template = view c.in-Some.value;
  there = here c.loop-value.place (items_view c.args.values) (items_view c.loop-value.values) (items_view c.next.new.self) (view c.in-Some.value) c.loop-value.invariant.at c.in-Some.ensures.value;
  flawed = at_some c.in_ok-flaw.field-0 c.in-Some-2.flaw _ _ c.in_ok-flaw.ensures c.in-Some-2.is;
}

pub loop-value-preserved : goal.loop-value-preserved
loop-value-preserved c =
    let names = c.args.names.now in
    let left = items_view c.next.new.self in
    let fits : is_template names (view c.in-Some.value) ≡ true = at_none c.in_ok-flaw.field-0 _ _ c.in_ok-flaw.ensures c.in_default-2.is in
    record {
      at =
          λ k. ap (λ n. get_item (n + k) (items_view c.args.values)) c.in-Some-checked_add.ensures.1
          ∙ next_place c.loop-value.place (items_view c.args.values) (items_view c.loop-value.values) left (view c.in-Some.value)
          c.loop-value.invariant.at c.in-Some.ensures.value k;
      rest = sym (ap (λ b. b && are_templates names left) fits) ∙ sym (ap (are_templates names) c.in-Some.ensures.value) ∙ c.loop-value.invariant.rest;
    }
