use Rattle.std.proofs.Common.{Option, inl, refl, subst}
use Rattle.std.specs.Prelude.{IfSome, IfNone}
use Rattle.gtp_reliable.specs.Held.{IsHeld}
use Rattle.gtp_machine.specs.Input.{dropped}
use Rattle.gtp_machine.specs.Reading.{datagram_reading, taken_as}
use Rattle.gtp_machine.specs.declared.outcome.DropReason.TheVariants.{NotPeer}
use Rattle.gtp_gateway.specs.declared.sent.Sent.{Sent}
use Rattle.gtp_gateway.specs.GatewayState.{state_of}
use Rattle.gtp_gateway.specs.receive.Taken.{IsSentAgain}
use Rattle.gtp_gateway.proofs.Answers.{none_held}
use Rattle.gtp_gateway.proofs.Columns.{yes, no}
use Rattle.gtp_gateway.proofs.Allocations.{on_err, repeated_needs}
use Rattle.gtp_gateway.proofs.TwoMessages.{kept_no_pair}
use Rattle.gtp_gateway.proofs.SecondsTaken.{held_there, repeated_taken}
use Rattle.gtp_gateway.proofs.Rows.{dropped_taken}
use Rattle.gtp_gateway.proofs.Taking.{by_role}
use Rattle.gtp_gateway.proofs.parts.Parts.before_reading.Goals as goal

pub returns-then-not-is_from_peer-clause-entered : goal.returns-then-not-is_from_peer-clause-entered
returns-then-not-is_from_peer-clause-entered c =
    let old = state_of c.args.self.now in
    let arrival = c.args.arrival.now in
    let other = no c.is_from_peer.ensures c.if-not-is_from_peer.true in (
      λ pair. other pair.peer,
      dropped_taken arrival old c.dropped.result NotPeer c.dropped.ensures
          (by_role old.role old.node arrival (taken_as (datagram_reading arrival.octets)) (dropped old.node NotPeer) (λ Reads. inl (other, refl))),
    )

pub returns-in-Some-clause-entered : goal.returns-in-Some-clause-entered
returns-in-Some-clause-entered c =
    let old = state_of c.args.self.now in
    let arrival = c.args.arrival.now in
    let again = subst (λ (o : Option Sent). IfSome o (λ sent. IsSentAgain arrival old.node sent)) c.in-Some.is c.in_ok-out.ensures.some in (
      kept_no_pair arrival old c.args.self.now.held.pairs refl c.args.self.now.answered again.held again.stands again.same,
      repeated_taken (taken_as (datagram_reading arrival.octets)) arrival old old c.in-Some.out c.sent.result (yes c.is_from_peer.ensures c.if-not-is_from_peer.false) again c.sent.ensures refl refl,
    )

pub returns-in-None-clause-entered : goal.returns-in-None-clause-entered
returns-in-None-clause-entered c =
    let none = subst (λ (o : Option Sent). IfNone o (IsHeld c.args.arrival.now.source c.args.arrival.now.octets c.args.self.now.held.pairs → ⊥)) c.in-None.is c.in_ok-out.ensures.none in
    record {
      peer = yes c.is_from_peer.ensures c.if-not-is_from_peer.false;
      new = none_held c.args.self.now.held.pairs c.args.arrival.now.source c.args.arrival.now.octets none;
      none = none;
    }

pub returns-in_err-out-clause-memory : goal.returns-in_err-out-clause-memory
returns-in_err-out-clause-memory c =
    let old = state_of c.args.self.now in
    let arrival = c.args.arrival.now in
    let there = held_there c.args.self.now.held.pairs arrival.source arrival.octets c.in_err-out.ensures.memory in
    on_err c.from_residual.result (inl (
      kept_no_pair arrival old c.args.self.now.held.pairs refl c.args.self.now.answered there.0 there.1 there.2,
      repeated_needs arrival (taken_as (datagram_reading arrival.octets)) old (yes c.is_from_peer.ensures c.if-not-is_from_peer.false) there.0 there.1 there.2,
    ))
