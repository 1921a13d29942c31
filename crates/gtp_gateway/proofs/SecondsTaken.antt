-- The second message of a pair, taken by a gateway that has applied the first.
use Rattle.std.proofs.Common.{◌≡◌, inl, inr, ℕ, Bool, true, List, [], ◌∷◌, map, Option, Some, None, option_map, refl, sym, ◌∙◌, ap, subst}
use Rattle.gtp_values.specs.FiniteMap.{Among}
use Rattle.gtp_values.specs.declared.address.Endpoint.{Endpoint}
use Rattle.gtp_values.specs.declared.counter.Counter.{Counter}
use Rattle.gtp_reliable.specs.Held.{HeldPair, IsHeld}
use Rattle.gtp_machine.specs.declared.role.Role.{Role}
use Rattle.gtp_machine.specs.declared.role.Role.TheVariants.{Serving}
use Rattle.gtp_machine.specs.declared.outcome.Outcome.{Outcome}
use Rattle.gtp_machine.specs.declared.outcome.Outcome.TheVariants.{Repeated}
use Rattle.gtp_machine.specs.Answer.{IsNew, refusing}
use Rattle.gtp_machine.specs.Element.{cause_of}
use Rattle.gtp_machine.specs.Choice.{HasHeldRoom}
use Rattle.gtp_machine.specs.Config.{Config}
use Rattle.gtp_machine.specs.Input.{Came_to, ControlReading, Control_message, nothing, says_all, Effect}
use Rattle.gtp_machine.specs.Message.{Message, CreateBearerRequest, Create_bearer_request}
use Rattle.gtp_machine.specs.Node.{Session, Arrival, Held, Node}
use Rattle.gtp_machine.specs.Serving.{BearerJudged, CreateBearerAsked}
use Rattle.gtp_gateway.specs.declared.step.ControlStep.{ControlStep}
use Rattle.gtp_gateway.specs.declared.receive.create_bearer_request.judge.CreateBearerAnswer.{CreateBearerAnswer}
use Rattle.gtp_gateway.specs.declared.receive.create_bearer_request.judge.CreateBearerAnswer.TheVariants.{Refused, NoResources, Granted}
use Rattle.gtp_gateway.specs.declared.receive.create_bearer_request.BearerRequest.{BearerRequest}
use Rattle.gtp_machine.specs.declared.message_type.MessageType.TheVariants as types
use Rattle.gtp_gateway.specs.declared.sent.Sent.{Sent}
use Rattle.gtp_gateway.specs.receive.Answer.{answering}
use Rattle.gtp_gateway.specs.receive.Choosing.{MakesLowestBearer}
use Rattle.gtp_gateway.specs.receive.CreateBearerRequest.{IsChosen, bearer_answer, change_for, granted_to, is_granted, CanGive}
use Rattle.gtp_gateway.specs.receive.RestartCounter.{weighed_by}
use Rattle.gtp_gateway.specs.tables.Change.{changed_by}
use Rattle.gtp_gateway.specs.receive.Allocations.{StepSendsOrOpens}
use Rattle.gtp_gateway.specs.Parts.{arrival_of, held_of}
use Rattle.gtp_machine.specs.MessageType.{takes_type, takes_message}
use Rattle.gtp_gateway.specs.receive.Row.{IsRow}
use Rattle.gtp_gateway.specs.messages.Sent.{datagram_by, AreSent}
use Rattle.gtp_gateway.specs.GatewayState.{GatewayState}
use Rattle.gtp_gateway.specs.receive.Taken.{plain_report, IsTakenAs, IsSentAgain}
use Rattle.gtp_gateway.proofs.TakenTypes.{at_taker}
use Rattle.gtp_machine.specs.Step.{TakesBy}
use Rattle.gtp_gateway.proofs.Allocations.{needs_by, message_needs, repeated_needs, create_bearer_asked}
use Rattle.gtp_gateway.proofs.Rows.{ends, message_taken}
use Rattle.gtp_gateway.proofs.CreateSessionRequests.{none_above}
use Rattle.gtp_gateway.proofs.Taking.{by_role}

-- ---- an answer that is held

pub held_there : (ps : List HeldPair) (source : Endpoint) (request : List ℕ) → IsHeld source request ps → (h : Held) × Among h (map held_of ps) × (h.request ≡ arrival_of source request)
held_there [] source request held = absurd held
held_there (p ∷ ps) source request (inl here) = (held_of p, inl refl, λ i. arrival_of (here.0 i) (here.1 i))
held_there (p ∷ ps) source request (inr there) = let later = held_there ps source request there in (later.0, inr later.1, later.2)

-- it is sent again by any gateway that holds it and is configured so
pub again_there : (arrival : Arrival) (old node : Node) (sent : Sent) → node.held ≡ old.held → node.config ≡ old.config → IsSentAgain arrival old sent → IsSentAgain arrival node sent
again_there arrival old node sent held config is = record {
  held = is.held;
  stands = subst (Among is.held) (sym held) is.stands;
  same = is.same;
  again = subst (λ (c : Config). AreSent c (datagram_by sent ∷ []) (record { destination = arrival.source; messages = is.held.answer } ∷ [])) (sym config) is.again;
}

pub repeated_taken : (reading : ControlReading) (arrival : Arrival) (old new : GatewayState) (sent : Sent) (step : ControlStep)
    → arrival.source.ip ≡ old.node.config.peer.control → IsSentAgain arrival old.node sent
    → step ≡ record { out = Some sent; report = plain_report Repeated } → new.node ≡ old.node → new.role ≡ old.role
    → IsTakenAs reading arrival old step new
repeated_taken reading arrival old new sent step peer again is becomes role =
    let effect : Effect = record { out = says_all arrival.source again.held.answer; outcome = Came_to Repeated; node = old.node } in
    subst (λ (s : ControlStep). IsTakenAs reading arrival old s new) (sym is)
    (record {
      effect = effect;
      takes = by_role old.role old.node arrival reading effect (λ Reads. inr (peer, inl (record { held = again.held; stands = again.stands; same = again.same; gives = refl })));
      tells = record { sent = again.again; outcome = refl; alone = refl; heard = refl; restart = refl; made = refl; all = refl };
      becomes = becomes;
      role = role;
    })

-- ---- a request that is taken by its row

module _ (arrival : Arrival) (q : CreateBearerRequest) (old : GatewayState) (serving : old.role ≡ Serving) (peer : arrival.source.ip ≡ old.node.config.peer.control) where
  abbrev message : Message
  message = Create_bearer_request q

  has_it : takes_type old.role types.CreateBearerRequest ≡ true
  has_it = ap (λ (r : Role). takes_type r types.CreateBearerRequest) serving

  takes_it : takes_message old.role message ≡ true
  takes_it = ap (λ (r : Role). takes_message r message) serving

  pub row_is_taken : IsNew old.node arrival → (step : ControlStep) (new : GatewayState) → IsRow (CreateBearerAsked arrival q) arrival old.role old.node step new
      → IsTakenAs (Control_message message) arrival old step new
  row_is_taken fresh step new row =
      let t = row.tells in
      record {
        effect = row.effect;
        takes =
            message_taken old.role old.node arrival message row.effect peer fresh takes_it
            (at_taker (λ r k. TakesBy r arrival k old.node row.effect) old.role types.CreateBearerRequest types.CreateBearerRequest message message
            has_it refl refl row.takes);
        tells = record {
          sent = t.sent;
          outcome = t.outcome;
          alone = t.alone;
          heard = ap (option_map (λ (c : Counter). c.0)) t.untold ∙ sym t.heard;
          restart = ap (option_map (λ (c : Counter). c.0)) t.unlearned ∙ sym t.learned;
          made = t.made;
          all = t.all ∙ (λ i. record nothing { sent = row.effect.out.sent; heard = sym t.heard i; learned = sym t.learned i; made = row.effect.out.made });
        };
        becomes = row.becomes;
        role = row.role_stays;
      }

  -- it is dropped
  pub drop_is_taken : IsNew old.node arrival → (step : ControlStep) (new : GatewayState) (outcome : Outcome)
      → step ≡ record { out = None; report = plain_report outcome } → new.node ≡ old.node → new.role ≡ old.role
      → CreateBearerAsked arrival q old.node (record { out = nothing; outcome = Came_to outcome; node = old.node })
      → IsTakenAs (Control_message message) arrival old step new
  drop_is_taken fresh step new outcome is becomes role takes = row_is_taken fresh step new (ends (CreateBearerAsked arrival q) arrival old new step outcome old.node is becomes role takes)

  -- where it is answered, something is sent
  pub answer_needs : (made : Bool) (m : Message) (cause : ℕ) (left : Node) → HasHeldRoom old.node
      → BearerJudged arrival q old.node (answering made arrival (m ∷ []) cause left) → StepSendsOrOpens arrival (Control_message message) old
  answer_needs made m cause left room judged =
      message_needs arrival old message None peer takes_it refl (weighed_by None old.node.known) refl (λ early. early)
      (needs_by old.role arrival message old.node types.CreateBearerRequest types.CreateBearerRequest message has_it refl refl
      (create_bearer_asked arrival q old.node made m cause left room judged))

  pub again_needs : (ps : List HeldPair) → old.node.held ≡ map held_of ps → IsHeld arrival.source arrival.octets ps → StepSendsOrOpens arrival (Control_message message) old
  again_needs ps is held =
      let there = held_there ps arrival.source arrival.octets held in
      repeated_needs arrival (Control_message message) old peer there.0 (subst (Among there.0) (sym is) there.1) there.2

-- ---- what is answered

-- the answer is the same at any gateway with this counter and these settings
pub same_answer : (a : CreateBearerAnswer) (header : ℕ) (q : CreateBearerRequest) (old node : Node) → node.counter ≡ old.counter → node.config ≡ old.config
    → bearer_answer a header q old ≡ bearer_answer a header q node
same_answer (Refused cause) header q old node counter config = λ i. refusing types.CreateBearerRequest header q.number (cause_of cause) (sym counter i)
same_answer NoResources header q old node counter config = λ i. bearer_answer NoResources header q (record node { counter = sym counter i })
same_answer (Granted g) header q old node counter config = λ i. bearer_answer (Granted g) header q (record node { counter = sym counter i; config = sym config i })

-- what is granted changes no settings
pub change_config : (r : BearerRequest) (a : CreateBearerAnswer) (n : Node) → (changed_by (change_for r a) n).config ≡ n.config
change_config r (Refused cause) n = refl
change_config r a n = refl

-- the bearer that is granted has the lowest identity
pub lowest_second : (r : BearerRequest) (a : CreateBearerAnswer) (found : Option Session) (old settled new : Node) → CanGive found a old → IsChosen r.header a settled
    → new.bearers ≡ (changed_by (change_for r a) settled).bearers → is_granted a ≡ true → MakesLowestBearer old new
lowest_second r (Granted g) found old settled new can chosen is granted = record {
  teid = g.drawn.teid;
  bearer = granted_to r g.identity;
  others = settled.bearers;
  identity = g.identity;
  bearers = is;
  beside = none_above settled.bearers g.drawn.teid chosen.drawn.above;
  before = none_above old.bearers g.drawn.teid can.3.above;
  has = refl;
  lowest = chosen.identity;
}
lowest_second r a found old settled new can chosen is granted = absurd cc
