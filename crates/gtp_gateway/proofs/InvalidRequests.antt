-- What either gateway does with a request at fault.
use Rattle.std.proofs.Common.{◌≡◌, inr, ℕ, Bool, true, false, cond, refl, sym, ◌∙◌, ap, subst}
use Rattle.gtp_v2.specs.Pair.{IsDatagramFault}
use Rattle.gtp_v2.specs.declared.fault.V2Fault.{V2Fault}
use Rattle.gtp_machine.specs.declared.role.Role.{Role}
use Rattle.gtp_machine.specs.Message.{Control}
use Rattle.gtp_machine.specs.MessageType.{answers_type}
use Rattle.gtp_machine.specs.Node.{Arrival, Node}
use Rattle.gtp_machine.specs.Answer.{IsNew, faulted, Faulted, fault_number, tells_version, version_told}
use Rattle.gtp_machine.specs.Input as inputs
use Rattle.gtp_machine.specs.Input.{Control_came, dropped, undecodable}
use Rattle.gtp_machine.specs.Reading.{announces, datagram_fault, datagram_reading, taken_as}
use Rattle.gtp_machine.specs.Step.{Step as MachineStep}
use Rattle.gtp_gateway.specs.declared.step.ControlStep.{ControlStep}
use Rattle.gtp_gateway.specs.receive.InvalidRequest.{dropped_for, IsFaultEffect, IsFaultTaken}
use Rattle.gtp_gateway.specs.GatewayState.{GatewayState}
use Rattle.gtp_gateway.specs.receive.Taken.{IsTaken}
use Rattle.gtp_gateway.proofs.SentBack.{none_sent}
use Rattle.gtp_gateway.proofs.TwoMessages.{reads_fault}

module _ (old : Node) (request : Arrival) (f : inputs.FaultyRequest) where
  pub fault_answered : (role : Role) → answers_type role f.kind ≡ true → request.source.ip ≡ old.config.peer.control → IsNew old request
      → MachineStep role old (Control_came request (inputs.Faulty f)) (faulted request f old)
  fault_answered role is peer new = inr (peer, inr (new, subst (λ (b : Bool). Faulted b request f old (faulted request f old)) (sym is) refl))

  pub fault_unanswered : (role : Role) → answers_type role f.kind ≡ false → request.source.ip ≡ old.config.peer.control → IsNew old request
      → MachineStep role old (Control_came request (inputs.Faulty f)) (dropped old (undecodable Control (fault_number f.defect)))
  fault_unanswered role is peer new = inr (peer, inr (new, subst (λ (b : Bool). Faulted b request f old (dropped old (undecodable Control (fault_number f.defect)))) (sym is) refl))

-- a fault for which the datagram is dropped
pub drops_for : (request : Arrival) (reading : inputs.ControlReading) (s : GatewayState) (number : ℕ)
    → MachineStep s.role s.node (Control_came request reading) (dropped s.node (undecodable Control number))
    → IsFaultEffect request reading s (dropped_for number)
drops_for request reading s number takes = record {
  effect = dropped s.node (undecodable Control number);
  takes = takes;
  tells = record { sent = none_sent s.node.config; outcome = refl; alone = refl; heard = refl; restart = refl; made = refl; all = refl };
  stays = refl;
}

-- both gateways drop octets that are no message, where no version is told
pub fault_dropped : (role : Role) (old : Node) (request : Arrival) (number : ℕ) → tells_version old.config request.octets number ≡ false
    → request.source.ip ≡ old.config.peer.control → IsNew old request
    → MachineStep role old (Control_came request (inputs.Control_fault number)) (dropped old (undecodable Control number))
fault_dropped role old request number quiet peer new =
    inr (peer, inr (new, ap (λ (tells : Bool). cond tells (version_told request old) (dropped old (undecodable Control number))) (sym quiet)))

-- and answer them where one is
pub version_answered : (role : Role) (old : Node) (request : Arrival) (number : ℕ) → tells_version old.config request.octets number ≡ true
    → request.source.ip ≡ old.config.peer.control → IsNew old request
    → MachineStep role old (Control_came request (inputs.Control_fault number)) (version_told request old)
version_answered role old request number tells peer new =
    inr (peer, inr (new, ap (λ (t : Bool). cond t (version_told request old) (dropped old (undecodable Control number))) (sym tells)))

-- what was done with a datagram at fault is a step on what its octets read as
pub fault_received : (arrival : Arrival) (old : GatewayState) (f : V2Fault) (reading : inputs.ControlReading) (step : ControlStep)
    → arrival.source.ip ≡ old.node.config.peer.control → IsNew old.node arrival → IsDatagramFault arrival.octets f
    → reading ≡ datagram_fault (announces arrival.octets) f → IsFaultTaken arrival reading old step → IsTaken arrival old step old
fault_received arrival old f reading step peer new fails is taken =
    let done = taken peer new in
    let reads : reading ≡ taken_as (datagram_reading arrival.octets) = is ∙ reads_fault arrival.octets f fails in
    record {
      effect = done.effect;
      takes = subst (λ (r : inputs.ControlReading). MachineStep old.role old.node (Control_came arrival r) done.effect) reads done.takes;
      tells = done.tells;
      becomes = done.stays;
      role = refl;
    }
