use Rattle.std.proofs.Common.{◌≡◌, true, false, Option, refl, sym, ap, ◌∙◌, subst}
use Rattle.std.specs.Prelude.{IfSome}
use Rattle.std.specs.FinMap.{get}
use Rattle.gtp_values.specs.declared.identifiers.Teid.{Teid}
use Rattle.gtp_tables.specs.Index.{HasRemote, HasDefault, default_of}
use Rattle.gtp_tables.proofs.Defaults.{IsAhead, has_default, ahead_first, ahead_next}
use Rattle.gtp_tables.proofs.bearers.Bearers.has_default.Goals as goal

pub loop-next-init : goal.loop-next-init
loop-next-init c = record {
  has = c.first_of_remote-next.ensures.found;
  ahead = λ d. ahead_first c.args.self.now c.args.remote c.args.session d c.first_of_remote-next.result c.first_of_remote-next.ensures.lowest c.first_of_remote-next.ensures.none;
}

pub returns-then-is_default_of : goal.returns-then-is_default_of
returns-then-is_default_of c =
    let m = c.args.self.now in
    let teid = c.in-Some.teid in
    let at : HasRemote m c.args.remote teid = subst (λ (o : Option Teid). IfSome o (λ t. HasRemote m c.args.remote t)) c.in-Some.is c.loop-next.invariant.has in
    let is : default_of c.args.session (get m teid) ≡ true = ap (default_of c.args.session) (sym c.get.ensures) ∙ (sym c.is_default_of.ensures ∙ c.if-is_default_of.true) in
    (λ _. has_default m c.args.remote c.args.session teid at is, λ _. refl)

pub loop-next-preserved : goal.loop-next-preserved
loop-next-preserved c =
    let m = c.args.self.now in
    let teid = c.in-Some.teid in
    let is : default_of c.args.session (get m teid) ≡ false = ap (default_of c.args.session) (sym c.get.ensures) ∙ (sym c.is_default_of.ensures ∙ c.if-is_default_of.false) in
    record {
      has = c.next_of_remote-next.ensures.found;
      ahead =
          λ d. ahead_next m c.args.remote c.args.session d teid c.next_of_remote-next.result
          (subst (λ (o : Option Teid). IsAhead o d.teid) c.in-Some.is (c.loop-next.invariant.ahead d)) is c.next_of_remote-next.ensures.next
          c.next_of_remote-next.ensures.none;
    }

pub returns : goal.returns
returns c =
    let none : HasDefault c.args.self.now c.args.remote c.args.session → ⊥ = λ d. subst (λ (o : Option Teid). IsAhead o d.teid) c.in_default.is (c.loop-next.invariant.ahead d) in
    (λ is. absurd cc, λ d. absurd (none d))
