-- Datagrams of either plane that were taken, as datagrams that were received.
use Rattle.std.proofs.Common.{◌≡◌, inl, inr, ℕ, List, refl, sym, ◌∙◌, ap, subst, Result, Ok, Err}
use Rattle.std.specs.Prelude.{IsSome, IfOk, OnErr, option_map}
use Rattle.gtp_values.specs.declared.address.Endpoint.{Endpoint}
use Rattle.gtp_machine.specs.declared.role.Role.{Role}
use Rattle.gtp_machine.specs.Message.{Message, Packet_data, End_marker, Error_indication, Plane, Control, User, Create_session_response, Create_bearer_request}
use Rattle.gtp_machine.specs.Input.{Came_to, UserReading, Effect, EventOutcome, Input, Out, nothing}
use Rattle.gtp_machine.specs.Node.{Arrival, Node}
use Rattle.gtp_machine.specs.Reading.{user_reading, datagram_reading}
use Rattle.gtp_machine.specs.User.{UserTaken, UserStep}
use Rattle.gtp_machine.specs.declared.outcome.Outcome.TheVariants.{Accepted, Broken, Ended}
use Rattle.gtp_gateway.specs.GatewayState.{GatewayState, NodeMatchesQueues, IsSoundState}
use Rattle.gtp_gateway.specs.declared.step.Step.{Step}
use Rattle.gtp_gateway.specs.user.Receive.{IsUserTaken}
use Rattle.std.proofs.lemmas.Grind.{merely}
use mathlib.Core.Logic.{∥∥₁_elim, ∥∥₁_prop}
use Rattle.gtp_machine.specs.Step.{Step as MachineStep, TakesPair}
use Rattle.gtp_machine.specs.Sound.{IsSound, IsWellFormed}
use Rattle.gtp_machine.proofs.Basics.Finishing.{quietly, on_packet_came, on_end_came, on_error_came, on_user_step}
use Rattle.gtp_machine.proofs.Sound.Rows.{stays_sound}
use Rattle.gtp_machine.proofs.Sound.Reads.{taken_whole, pair_reads_whole}
use Rattle.gtp_gateway.specs.declared.step.Report.{Report}
use Rattle.gtp_gateway.specs.declared.step.ControlStep.{ControlStep}
use Rattle.gtp_gateway.specs.Parts.{arrival_of}
use Rattle.gtp_gateway.specs.receive.Received.{coming, of_control, first_comes, second_comes, IsReceivedOnce, AreReceived, IsReceived, IsControlTaken, QueuesAfterReceive}
use Rattle.gtp_gateway.specs.receive.Taken.{made_for, IsTaken}

-- ---- a packet that was accepted changes nothing of its gateway

ended_not : Came_to Ended ≡ Came_to Accepted → ⊥
ended_not is = cc

broken_not : Came_to Broken ≡ Came_to Accepted → ⊥
broken_not is = cc

module _ (old : Node) where
  -- where a packet was accepted, the node is as before
  abbrev Leaves : Effect → Type 0
  Leaves e = e.outcome ≡ Came_to Accepted → e.node ≡ old

  by : (e k : Effect) → e ≡ k → Leaves k → Leaves e
  by e k is leaves = subst Leaves (sym is) leaves

  quiet : (e : Effect) (outcome : EventOutcome) → e ≡ quietly old outcome → Leaves e
  quiet e outcome is = by e _ is (λ _. refl)

  message : (role : Role) (source : Endpoint) (m : Message) (e : Effect) → UserTaken role source m old e → Leaves e
  message role source (Packet_data target payload) e r = on_packet_came old e (quiet e) role target payload (λ is. by e _ is (λ _. refl)) (λ at active a. by e _ a.gives (λ _. refl)) r
  message role source (End_marker target) e r = on_end_came old e (quiet e) role target (λ at active is. by e _ is (λ same. absurd (ended_not same))) r
  message role source (Error_indication remote address) e r = on_error_came old e (quiet e) remote (λ is. by e _ is (λ same. absurd (broken_not same))) r
  message role source _ e is = by e _ is (λ _. refl)

  step_leaves : (role : Role) (source : Endpoint) (reading : UserReading) (e : Effect) → UserStep role source reading old e → Leaves e
  step_leaves role source reading e = on_user_step old e (quiet e) role source reading (λ m is. message role source m e) (λ is. by e _ is (λ _. refl))

-- where a packet was accepted, the gateway is as before
pub accepted_stays : (source : Endpoint) (octets : List ℕ) (old : GatewayState) (step : Step) (new : GatewayState) → IsUserTaken source octets old step new → IsSome step.accepted → new ≡ old
accepted_stays source octets old step new taken some =
    let accepted = taken.tells.packet.1 some in
    let node = taken.becomes ∙ step_leaves old.node old.role source (user_reading octets) taken.effect taken.takes (sym taken.tells.outcome ∙ ap (λ o. Came_to o) accepted) in
    let queues = taken.same (λ broken. broken_not (ap (λ o. Came_to o) (sym broken ∙ accepted))) in
    λ i. record { role = taken.role i; node = node i; queues = queues i }

once_received : (arrival : Arrival) (old : GatewayState) (step : ControlStep) (new : GatewayState) → IsTaken arrival old step new
    → IsReceivedOnce Control arrival.source arrival.octets old (of_control step) new
once_received arrival old step new taken =
    let t = taken.tells in
    record {
      effect = taken.effect;
      takes = taken.takes;
      tells =
          record {
            sent = t.sent;
            outcome = t.outcome;
            alone = t.alone;
            heard = t.heard;
            restart = t.restart;
            made = t.made;
            accepted = ap (λ (o : Out). o.accepted) t.all;
            all = t.all ∙ (λ i. record nothing {
              sent = taken.effect.out.sent;
              heard = taken.effect.out.heard;
              learned = taken.effect.out.learned;
              made = taken.effect.out.made;
              accepted = ap (λ (o : Out). o.accepted) (sym t.all) i;
            });
          };
      becomes = taken.becomes;
      role = taken.role;
    }

pub control_received : (arrival : Arrival) (old : GatewayState) (step : ControlStep) (new : GatewayState) → IsControlTaken arrival old step new
    → IsReceived Control arrival.source arrival.octets old (of_control step) new
control_received arrival old step new (inl (none, taken)) = inl (none, once_received arrival old step new taken)
control_received arrival old step new (inr both) = inr both

user_received : (source : Endpoint) (octets : List ℕ) (old : GatewayState) (step : Step) (new : GatewayState) → IsUserTaken source octets old step new → IsReceived User source octets old step new
user_received source octets old step new taken =
    let t = taken.tells in
    let e = taken.effect in
    record {
      effect = e;
      takes = taken.takes;
      tells = record {
        sent = t.sent;
        outcome = t.outcome;
        alone = ap (λ (r : Report). r.second) t.report;
        heard = ap (λ (r : Report). option_map (λ c. c.0) r.heard) t.report ∙ sym (ap (λ (o : Out). o.heard) t.all);
        restart = ap (λ (r : Report). option_map (λ c. c.0) r.restart) t.report ∙ sym (ap (λ (o : Out). o.learned) t.all);
        made = ap (λ (r : Report). made_for (arrival_of source octets) r.made) t.report ∙ sym (ap (λ (o : Out). o.made) t.all);
        accepted = t.accepted;
        all =
            t.all ∙ (λ i. record nothing {
              sent = e.out.sent;
              heard = ap (λ (o : Out). o.heard) (sym t.all) i;
              learned = ap (λ (o : Out). o.learned) (sym t.all) i;
              made = ap (λ (o : Out). o.made) (sym t.all) i;
              accepted = e.out.accepted;
            });
      };
      becomes = taken.becomes;
      role = taken.role;
    }

-- what is promised of a step that tells what this one tells, on the plane that is the user plane
module _ (plane : Plane) (source : Endpoint) (octets : List ℕ) (old new : GatewayState) (step given : Step) (is : plane ≡ User)
    (same : step ≡ given) (taken : IsUserTaken source octets old given new) where
  as_taken : IsUserTaken source octets old step new
  as_taken = subst (λ (s : Step). IsUserTaken source octets old s new) (sym same) taken

  pub as_received : IsReceived plane source octets old step new
  as_received = subst (λ (p : Plane). IsReceived p source octets old step new) (sym is) (user_received source octets old step new as_taken)

  pub as_timed : NodeMatchesQueues new → QueuesAfterReceive plane source octets step old new
  as_timed tied = subst (λ (p : Plane). QueuesAfterReceive p source octets step old new) (sym is) (as_taken.same, as_taken.waits, tied)

  pub as_stays : IsSome step.accepted → new ≡ old
  as_stays = accepted_stays source octets old step new as_taken

formed : (plane : Plane) (source : Endpoint) (octets : List ℕ) → IsWellFormed (coming plane source octets)
formed Control source octets = taken_whole (arrival_of source octets) (datagram_reading octets) refl
formed User source octets = tt

-- a step of the machine leaves a sound node
step_sound : (old new : GatewayState) (input : Input) (e : Effect) → IsWellFormed input → MachineStep old.role old.node input e → new.node ≡ e.node
    → new.role ≡ old.role → IsSound old.role old.node → IsSound new.role new.node
step_sound old new input e is_formed takes becomes role before =
    subst (λ r. IsSound r new.node) (sym role) (subst (IsSound old.role) (sym becomes) (stays_sound old.role old.node input e before is_formed takes))

once_sound : (plane : Plane) (source : Endpoint) (octets : List ℕ) (step : Step) (old new : GatewayState) → IsReceivedOnce plane source octets old step new
    → IsSound old.role old.node → IsSound new.role new.node
once_sound plane source octets step old new taken = step_sound old new (coming plane source octets) taken.effect (formed plane source octets) taken.takes taken.becomes taken.role

-- so do two
both_sound : (arrival : Arrival) (step : Step) (old new : GatewayState) (pair : TakesPair old.role old.node.config arrival (datagram_reading arrival.octets))
    → AreReceived arrival pair.answer pair.asked old step new → IsSound old.role old.node → IsSound new.role new.node
both_sound arrival step old new pair taken before =
    let whole = pair_reads_whole arrival.octets (Create_session_response pair.answer) (Create_bearer_request pair.asked) (sym pair.is) in
    let between = stays_sound old.role old.node (first_comes arrival pair.answer) taken.first before whole.0 taken.takes in
    step_sound (record old { node = taken.first.node }) new (second_comes arrival pair.asked) taken.second whole.1 taken.follows taken.becomes taken.role between

leaves_sound : (plane : Plane) (source : Endpoint) (octets : List ℕ) (step : Step) (old new : GatewayState) → IsReceived plane source octets old step new
    → IsSound old.role old.node → IsSound new.role new.node
leaves_sound Control source octets step old new (inl (none, taken)) = once_sound Control source octets step old new taken
leaves_sound Control source octets step old new (inr (pair, taken)) = both_sound (arrival_of source octets) step old new pair taken
leaves_sound User source octets step old new taken = once_sound User source octets step old new taken

-- what a datagram leaves is sound: it was one step or two, or changed nothing
pub received_sound : {E : Type 0} (plane : Plane) (source : Endpoint) (octets : List ℕ) (r : Result Step E) (old new : GatewayState)
    → IfOk r (λ step. IsReceived plane source octets old step new) → OnErr r (new ≡ old) → IsSoundState old → IsSoundState new
received_sound plane source octets (Ok step) old new taken same whole = ∥∥₁_elim whole ∥∥₁_prop (λ before. merely (leaves_sound plane source octets step old new taken before))
received_sound plane source octets (Err fault) old new taken same whole = subst IsSoundState (sym same) whole
