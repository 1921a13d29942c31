use Rattle.std.proofs.Common.{◌≡◌, inl, inr, refl, sym, subst}
use Rattle.gtp_machine.specs.Input.{UserReading, User_message}
use Rattle.gtp_machine.specs.Reading.{user_fault, user_message_of, user_reading}
use Rattle.gtp_machine.specs.User.{UserTaken, UserRead}
use Rattle.gtp_machine.specs.declared.outcome.DropReason.TheVariants.{NotPeer}
use Rattle.gtp_machine.proofs.Octets.ByGrammar.{user_by_grammar}
use Rattle.gtp_gateway.specs.declared.user.receive.Judged.{Judged}
use Rattle.gtp_gateway.specs.GatewayState.{state_of}
use Rattle.gtp_gateway.specs.user.Receive.{UserComes, IsJudgedBy}
use Rattle.gtp_gateway.proofs.Columns.{yes, no}
use Rattle.gtp_gateway.proofs.UserRows.{drops, judged_wider, fault_judged}
use Rattle.gtp_gateway.proofs.parts.Parts.judge_user.Goals as goal

pub returns-then-not-is_user_peer : goal.returns-then-not-is_user_peer
returns-then-not-is_user_peer c =
    let old = state_of c.args.self.now in
    let comes = UserComes c.args.source.now c.args.octets.now old in
    subst (λ (j : Judged). IsJudgedBy comes old j old) (sym c.dropped.ensures)
    (drops comes old refl NotPeer (inl (no c.is_user_peer.ensures c.if-not-is_user_peer.true, refl)))

pub returns-in-Ok : goal.returns-in-Ok
returns-in-Ok c =
    let old = state_of c.args.self.now in
    let octets = c.args.octets.now in
    let m = c.in-Ok.seen in
    let reads : User_message (user_message_of m) ≡ user_reading octets = (user_by_grammar octets (User_message (user_message_of m))).1 (inl (m, c.in-Ok.ensures.found, refl)) in
    judged_wider (UserTaken old.role c.args.source.now (user_message_of m)) (UserComes c.args.source.now octets old) old (state_of c.judge_seen.new.self) c.judge_seen.result
    (λ e takes. inr (yes c.is_user_peer.ensures c.if-not-is_user_peer.false, subst (λ (r : UserReading). UserRead old.role c.args.source.now r old.node e) reads takes))
    c.judge_seen.ensures

pub returns-in-Err : goal.returns-in-Err
returns-in-Err c =
    let old = state_of c.args.self.now in
    let octets = c.args.octets.now in
    let fault = c.in-Err.fault in
    let reads : user_fault fault ≡ user_reading octets = (user_by_grammar octets (user_fault fault)).1 (inr (fault, c.in-Err.ensures.fault, refl)) in
    judged_wider (UserRead old.role c.args.source.now (user_fault fault)) (UserComes c.args.source.now octets old) old old c.judge_fault.result
    (λ e takes. inr (yes c.is_user_peer.ensures c.if-not-is_user_peer.false, subst (λ (r : UserReading). UserRead old.role c.args.source.now r old.node e) reads takes))
    (fault_judged c.args.source.now (user_fault fault) old c.judge_fault.result refl c.judge_fault.ensures)
