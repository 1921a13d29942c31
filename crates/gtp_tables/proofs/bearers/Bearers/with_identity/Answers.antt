use Rattle.std.proofs.Common.{◌≡◌, ◌∙◌, true, false, Option, ap, sym, subst}
use Rattle.std.specs.FinMap.{get}
use Rattle.gtp_values.specs.declared.identifiers.Teid.{Teid}
use Rattle.gtp_tables.specs.BySession.{with_number}
use Rattle.gtp_tables.proofs.BySession.{IsAheadOf, ahead_first, ahead_next, bearer_with, unused}
use Rattle.gtp_tables.proofs.bearers.Bearers.with_identity.Goals as goal

pub loop-next-init : goal.loop-next-init
loop-next-init c = ahead_first c.args.self.now c.args.session c.args.identity c.first_of_session-next.result c.first_of_session-next.ensures.lowest c.first_of_session-next.ensures.none

pub returns-then-is_with-clause-found : goal.returns-then-is_with-clause-found
returns-then-is_with-clause-found c =
    let m = c.args.self.now in
    let is : with_number c.args.session c.args.identity (get m c.in-Some.teid) ≡ true =
    ap (with_number c.args.session c.args.identity) (sym c.get.ensures) ∙ (sym c.is_with.ensures ∙ c.if-is_with.true) in
    bearer_with m c.args.session c.args.identity c.in-Some.teid (subst (λ (o : Option Teid). IsAheadOf m c.args.session c.args.identity o) c.in-Some.is c.loop-next.invariant) is

pub loop-next-preserved : goal.loop-next-preserved
loop-next-preserved c =
    let m = c.args.self.now in
    let other : with_number c.args.session c.args.identity (get m c.in-Some.teid) ≡ false =
    ap (with_number c.args.session c.args.identity) (sym c.get.ensures) ∙ (sym c.is_with.ensures ∙ c.if-is_with.false) in
    ahead_next m c.args.session c.args.identity c.in-Some.teid c.next_of_session-next.result
    (subst (λ (o : Option Teid). IsAheadOf m c.args.session c.args.identity o) c.in-Some.is c.loop-next.invariant) other
    c.next_of_session-next.ensures.next c.next_of_session-next.ensures.none

pub returns-clause-none : goal.returns-clause-none
returns-clause-none c =
    unused c.args.self.now c.args.session c.args.identity
    (subst (λ (o : Option Teid). IsAheadOf c.args.self.now c.args.session c.args.identity o) c.in_default.is c.loop-next.invariant)
