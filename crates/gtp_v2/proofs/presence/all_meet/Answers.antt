use Rattle.std.proofs.Common.{◌≡◌, map, take, refl, sym, subst, ap, ◌∙◌, arith}
use Rattle.std.specs.List.{All}
use Rattle.std.specs.Prelude.{slice_index_or}
use Rattle.std.proofs.lemmas.List.Elements.{All-map}
use Rattle.std.proofs.lemmas.List.{take_all, get_or-map, length-map}
use Rattle.gtp_v2.specs.Marks.{RowsMarked}
use Rattle.gtp_v2.proofs.presence.all_meet.Goals as goal

-- a context lacks something, so not all have what is asked
pub returns-then-not-meets_marks : goal.returns-then-not-meets_marks
returns-then-not-meets_marks g c =
    let values = g.C.Context.values in
    let marked = RowsMarked c.args.accepting g.C.Context.rows in
    let i = c.loop-context.context-index in
    let one = c.context-item.result in
    let inside = c.loop-context-test.true in
    let found : slice_index_or (map values c.args.contexts.now) i (values one) ≡ values one = get_or-map values c.args.contexts.now i one (values one) inside ∙ ap values (sym c.context-item.is) in
    (λ no. absurd cc, λ all. c.if-not-meets_marks.ensures.1 (subst marked found (all i (values one) (omega (arith, length-map c.args.contexts.now values)))))

pub returns : goal.returns
returns g c =
    let values = g.C.Context.values in
    let marked = RowsMarked c.args.accepting g.C.Context.rows in
    let whole : take c.loop-context.context-index c.args.contexts.now ≡ c.args.contexts.now = take_all c.loop-context.context-index c.args.contexts.now (omega arith) in
    (λ yes. All-map marked values c.args.contexts.now (subst (All (λ context. marked (values context))) whole c.loop-context.invariant), λ all. refl)
