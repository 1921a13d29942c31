use Rattle.std.proofs.Common.{◌≡◌, Some, None, refl, sym, ap, ◌∙◌}
use Rattle.serde_json.specs.Find.{get_item}
use Rattle.gtp_scenario.specs.Trees.{view, items_view}
use Rattle.gtp_scenario.proofs.Explaining.{named_at, wrong_at, flaw_by}
use Rattle.gtp_scenario.proofs.Halting.{halts_here}
use Rattle.gtp_scenario.proofs.reason.event_flaw.Goals as goal

pub unreachable-requires : goal.unreachable-requires
unreachable-requires c =
    let both : None ≡ Some c.requires.items = c.in_default.ensures ∙ c.requires.list in
    cc

pub unreachable-requires-in_default-item_at : goal.unreachable-requires-in_default-item_at
unreachable-requires-in_default-item_at c =
    let h = c.requires in
    let here = halts_here h.setup h.items c.args.halted h.halts in
    let items : Some (items_view c.in-Some.values) ≡ Some h.items = c.in-Some.ensures ∙ h.list in
    let same : items_view c.in-Some.values ≡ h.items = cc in
    let both : None ≡ Some here.entry = c.in_default-item_at.ensures ∙ ap (get_item c.args.halted.place) same ∙ here.there in
    cc

pub flaw_for-requires : goal.flaw_for-requires
flaw_for-requires c =
    let h = c.requires in
    let items : Some (items_view c.in-Some.values) ≡ Some h.items = c.in-Some.ensures ∙ h.list in
    let same : items_view c.in-Some.values ≡ h.items = cc in
    let there : get_item c.args.halted.place h.items ≡ Some (view c.in-Some-item_at.entry) = sym (c.in-Some-item_at.ensures ∙ ap (get_item c.args.halted.place) same) in
    record {
      named = λ is. named_at (view c.args.value.now) (view c.in-Some-item_at.entry) c.args.halted h there is;
      wrong = λ is right. wrong_at (view c.args.value.now) (view c.in-Some-item_at.entry) c.args.halted h there is right;
    }

pub returns : goal.returns
returns c =
    let h = c.requires in
    let items : Some (items_view c.in-Some.values) ≡ Some h.items = c.in-Some.ensures ∙ h.list in
    let same : items_view c.in-Some.values ≡ h.items = cc in
    let there : get_item c.args.halted.place h.items ≡ Some (view c.in-Some-item_at.entry) = sym (c.in-Some-item_at.ensures ∙ ap (get_item c.args.halted.place) same) in
    flaw_by c.args.halted.halt (view c.args.value.now) (view c.in-Some-item_at.entry) c.args.halted c.in_ok-flaw.flaw h there refl c.in_ok-flaw.ensures
