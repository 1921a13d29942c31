use Rattle.std.proofs.Common.{◌≡◌, ◌∙◌, ℕ, true, cond, Option, Some, ap, sym, subst, nat_eq}
use Rattle.std.specs.Prelude.{IfSome}
use Rattle.std.specs.FinMap.{get}
use Rattle.gtp_values.specs.declared.identifiers.Teid.{Teid}
use Rattle.gtp_tables.specs.declared.context.Bearer.{Bearer}
use Rattle.gtp_tables.specs.BySession.{is_of}
use Rattle.gtp_tables.proofs.BySession.{IsSoFar, from_first, step, closed, closed_same, closed_of, all_closed}
use Rattle.gtp_tables.proofs.bearers.Bearers.close_of_session.Goals as goal

pub loop-next-init : goal.loop-next-init
loop-next-init c = record {
  so_far =
      from_first c.args.session (closed c.args.session) (closed_same c.args.session) c.args.self.now c.first_of_session-next.result
      c.first_of_session-next.ensures.lowest c.first_of_session-next.ensures.none;
  has = c.first_of_session-next.ensures.found;
}

pub loop-next-preserved : goal.loop-next-preserved
loop-next-preserved c =
    let session = c.args.session in
    let now = c.loop-next.self in
    let new = c.close.new.self in
    let teid = c.in-Some.teid in
    let of : is_of session (get now teid) ≡ true = subst (λ (o : Option Teid). IfSome o (λ t. is_of session (get now t) ≡ true)) c.in-Some.is c.loop-next.invariant.has in
    let so_far : IsSoFar (closed session) c.args.self.now now (Some teid) = subst (λ (o : Option Teid). IsSoFar (closed session) c.args.self.now now o) c.in-Some.is c.loop-next.invariant.so_far in
    let put : (o : ℕ) → get new o ≡ cond (nat_eq teid o) (closed session (get now teid)) (get now o) =
    λ o. c.close.ensures o ∙ ap (λ (x : Option Bearer). cond (nat_eq teid o) x (get now o)) (sym (closed_of session (get now teid) of)) in
    record {
      so_far =
          step session (closed session) (closed_same session) c.args.self.now now new teid so_far put c.next_of_session-next.result
          c.next_of_session-next.ensures.after c.next_of_session-next.ensures.next c.next_of_session-next.ensures.none;
      has = c.next_of_session-next.ensures.found;
    }

pub returns : goal.returns
returns c =
    all_closed c.args.session c.args.self.now c.loop-next.self
    (subst (λ (o : Option Teid). IsSoFar (closed c.args.session) c.args.self.now c.loop-next.self o) c.in_default.is c.loop-next.invariant.so_far)
