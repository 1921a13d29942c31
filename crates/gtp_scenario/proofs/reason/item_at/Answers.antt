use Rattle.std.proofs.Common.{option_map, sym, ap, ◌∙◌, arith}
use Rattle.gtp_scenario.specs.Trees.{view, items_view}
use Rattle.gtp_scenario.proofs.Objects.{gone, next_place, last_place}
use Rattle.gtp_scenario.proofs.reason.item_at.Goals as goal

pub returns-in_err-next : goal.returns-in_err-next
returns-in_err-next c =
    ap (option_map view) c.from_residual.ensures
    ∙ sym (gone c.args.place c.loop.counter (items_view c.args.values) (items_view c.loop.values) c.loop.invariant (omega arith)
    c.in_err-next.ensures.value)

pub loop-preserved : goal.loop-preserved
loop-preserved c =
    next_place c.loop.counter (items_view c.args.values) (items_view c.loop.values) (items_view c.next.new.self) (view c.in_ok-next.field-0) c.loop.invariant c.in_ok-next.ensures.value

pub returns : goal.returns
returns c =
    last_place c.args.place c.loop.counter (items_view c.args.values) (items_view c.loop.values) (items_view c.next-2.new.self)
    (option_map view c.next-2.result) c.loop.invariant (omega arith) c.next-2.ensures.value
