use Rattle.std.proofs.Common.{◌∙◌, ◌++◌, ℕ, List, map, ◌∷◌, sym, ap, subst}
use Rattle.std.specs.Prelude.{not}
use Rattle.std.specs.FinMap.{entries}
use Rattle.gtp_tables.specs.declared.context.Session.{Session}
use Rattle.gtp_tables.specs.PoolPlaces.{AreCounted}
use Rattle.gtp_tables.proofs.Alike.{values_kept}
use Rattle.gtp_tables.proofs.Counted.{IsLeft, next_counted, next_goes, next_stays, all_left}
use Rattle.gtp_tables.proofs.pool_places.PoolPlaces.forget_keys_where.Goals as goal

pub forget-requires : goal.forget-requires
forget-requires g c =
    let goes = c.requires.decides.0 in
    let so_far : IsLeft (λ e. e.1) (λ e. not (goes e.0)) (entries c.args.table.now.table) ((c.in-Some.teid, c.in-Some.session) ∷ c.next.new.self) c.loop-teid.self =
    subst (λ (es : List (ℕ × Session)). IsLeft (λ e. e.1) (λ e. not (goes e.0)) (entries c.args.table.now.table) es c.loop-teid.self)
    c.in-Some.ensures.steps (c.loop-teid.invariant goes c.requires.decides.1) in (
      so_far.front ++ map (λ e. e.1) c.next.new.self,
      next_counted (λ e. e.1) (λ e. not (goes e.0)) (entries c.args.table.now.table) (c.in-Some.teid, c.in-Some.session) c.next.new.self
          c.loop-teid.self so_far,
    )

pub loop-teid-preserved-then-meets : goal.loop-teid-preserved-then-meets
loop-teid-preserved-then-meets g c = λ goes right.
    next_goes (λ e. e.1) (λ e. not (goes e.0)) (entries c.args.table.now.table) (c.in-Some.teid, c.in-Some.session) c.next.new.self c.loop-teid.self c.forget.new.self
    (ap not (sym (right c.in-Some.teid c.meets.result c.meets.ensures) ∙ c.if-meets.true))
    c.forget.ensures
    (subst (λ (es : List (ℕ × Session)). IsLeft (λ e. e.1) (λ e. not (goes e.0)) (entries c.args.table.now.table) es c.loop-teid.self) c.in-Some.ensures.steps (c.loop-teid.invariant goes right))

pub loop-teid-preserved : goal.loop-teid-preserved
loop-teid-preserved g c = λ goes right.
    next_stays (λ e. e.1) (λ e. not (goes e.0)) (entries c.args.table.now.table) (c.in-Some.teid, c.in-Some.session) c.next.new.self c.loop-teid.self
    (ap not (sym (right c.in-Some.teid c.meets.result c.meets.ensures) ∙ c.if-meets.false))
    (subst (λ (es : List (ℕ × Session)). IsLeft (λ e. e.1) (λ e. not (goes e.0)) (entries c.args.table.now.table) es c.loop-teid.self) c.in-Some.ensures.steps (c.loop-teid.invariant goes right))

pub returns : goal.returns
returns g c = λ goes right.
    subst (λ (ss : List Session). AreCounted ss c.loop-teid.self) (sym (values_kept (λ t _. not (goes t)) c.args.table.now.table))
    (all_left (λ e. e.1) (λ e. not (goes e.0)) (entries c.args.table.now.table) c.loop-teid.teid-iterator c.loop-teid.self c.in-None.ensures.steps.0 (c.loop-teid.invariant goes right))
