-- What a step that sends nothing comes to, as a row of the machine.
use Rattle.std.proofs.Common.{◌≡◌, inl, inr, ℕ, Bool, true, false, List, [], ◌∷◌, Option, None, Some, option_map, refl, sym, ◌∙◌, subst}
use Rattle.gtp_machine.specs.Node.{Arrival, Node, holding}
use Rattle.gtp_values.specs.declared.counter.Counter.{Counter}
use Rattle.gtp_machine.specs.Config.{Config}
use Rattle.gtp_machine.specs.declared.role.Role.{Role}
use Rattle.gtp_machine.specs.Message.{Message, recovery_of}
use Rattle.gtp_machine.specs.Answer.{IsNew, answered}
use Rattle.gtp_machine.specs.Recovery.{Hears, learned_by}
use Rattle.gtp_machine.specs.Reading.{datagram_reading, taken_as}
use Rattle.gtp_machine.specs.Spelling.{datagram_of}
use Rattle.gtp_machine.specs.Step.{Step as MachineStep, TakesBy}
use Rattle.gtp_machine.specs.Input.{Came_to, Effect, ControlReading, Control_message, Control_came, nothing, dropped}
use Rattle.gtp_machine.specs.declared.outcome.DropReason.{DropReason}
use Rattle.gtp_machine.specs.declared.outcome.DropReason.TheVariants.{OldCounter, Unexpected}
use Rattle.gtp_machine.specs.declared.outcome.Outcome.{Outcome}
use Rattle.gtp_machine.specs.declared.outcome.Outcome.TheVariants.{Dropped, Answered}
use Rattle.gtp_gateway.specs.declared.receive.restart_counter.Heard.{Heard}
use Rattle.gtp_gateway.specs.declared.sent.Sent.{Sent}
use Rattle.gtp_gateway.specs.declared.step.ControlStep.{ControlStep}
use Rattle.gtp_gateway.specs.receive.Answer.{answering}
use Rattle.gtp_gateway.specs.messages.Sent.{datagram_by, ReadsBack, AreSent}
use Rattle.gtp_gateway.specs.receive.Row.{TellsRow, IsRow, IsHeardRow}
use Rattle.gtp_gateway.specs.GatewayState.{GatewayState}
use Rattle.gtp_gateway.specs.receive.Taken.{plain_report, datagrams, Tells, IsTaken}
use Rattle.gtp_gateway.specs.receive.RestartCounter.{weighed_by, node_heard, IsEarlier, report_heard, effect_heard}
use Rattle.gtp_machine.specs.MessageType.{takes_message}
use Rattle.gtp_gateway.proofs.SentBack.{none_sent, one_sent}
use Rattle.gtp_gateway.proofs.RestartCounters.{told_is, later_is, hears_on, hears_old, config_stays}

pub ends : (Takes : Node → Effect → Type 0) (request : Arrival) (old new : GatewayState) (step : ControlStep) (outcome : Outcome) (node : Node)
    → step ≡ record { out = None; report = plain_report outcome } → new.node ≡ node → new.role ≡ old.role
    → Takes old.node (record { out = nothing; outcome = Came_to outcome; node = node }) → IsRow Takes request old.role old.node step new
ends Takes request old new step outcome node is becomes role takes =
    subst (λ (t : ControlStep). IsRow Takes request old.role old.node t new) (sym is)
    (record {
      effect = record { out = nothing; outcome = Came_to outcome; node = node };
      takes = takes;
      tells = record { sent = none_sent old.node.config; outcome = refl; alone = refl; made = refl; heard = refl; learned = refl; untold = refl; unlearned = refl; all = refl };
      becomes = becomes;
      role_stays = role;
    })

pub drops : (Takes : Node → Effect → Type 0) (request : Arrival) (s : GatewayState) (step : ControlStep) (why : DropReason)
    → step ≡ record { out = None; report = plain_report (Dropped why) } → Takes s.node (dropped s.node why) → IsRow Takes request s.role s.node step s
drops Takes request s step why is takes = ends Takes request s s step (Dropped why) s.node is refl refl takes

-- an answer that is held, for a request for which a context may have been made
pub answers_made : (Takes : Node → Effect → Type 0) (request : Arrival) (old new : GatewayState) (step : ControlStep) (sent : Sent) (answer : List Message)
    (cause : ℕ) (made : Bool) (node : Node) → step ≡ record { out = Some sent; report = record (plain_report (Answered cause)) { made = made } }
    → datagram_by sent ≡ datagram_of old.node.config (record { destination = request.source; messages = answer }) → ReadsBack answer
    → new.node ≡ holding request answer node → new.role ≡ old.role
    → Takes old.node (answering made request answer cause node) → IsRow Takes request old.role old.node step new
answers_made Takes request old new step sent answer cause made node is goes back becomes role takes =
    subst (λ (t : ControlStep). IsRow Takes request old.role old.node t new) (sym is)
    (record {
      effect = answering made request answer cause node;
      takes = takes;
      tells =
          record {
            sent = one_sent old.node.config (datagram_by sent) (record { destination = request.source; messages = answer }) goes back;
            outcome = refl;
            alone = refl;
            made = refl;
            heard = refl;
            learned = refl;
            untold = refl;
            unlearned = refl;
            all = refl;
          };
      becomes = becomes;
      role_stays = role;
    })

-- the same, where none was made
pub answers : (Takes : Node → Effect → Type 0) (request : Arrival) (old new : GatewayState) (step : ControlStep) (sent : Sent) (m : Message) (cause : ℕ)
    (node : Node) → step ≡ record { out = Some sent; report = plain_report (Answered cause) }
    → datagram_by sent ≡ datagram_of old.node.config (record { destination = request.source; messages = m ∷ [] }) → ReadsBack (m ∷ [])
    → new.node ≡ holding request (m ∷ []) node → new.role ≡ old.role → Takes old.node (answered request m cause node)
    → IsRow Takes request old.role old.node step new
answers Takes request old new step sent m cause node is goes back becomes role takes = answers_made Takes request old new step sent (m ∷ []) cause false node is goes back becomes role takes

-- a row of one kind, at a gateway that has heard the counter, as a row of another
pub as_row : (T U : Node → Effect → Type 0) (request : Arrival) (role there : Role) (old heard : Node) (step : ControlStep) (new : GatewayState) → there ≡ role
    → heard ≡ old → ((node : Node) (e : Effect) → T node e → U node e) → IsRow T request there heard step new → IsRow U request role old step new
as_row T U request role there old heard step new same_role same each row =
    subst (λ (r : Role). IsRow U request r old step new) same_role
    (subst (λ (n : Node). IsRow U request there n step new) same
    (record { effect = row.effect; takes = each heard row.effect row.takes; tells = row.tells; becomes = row.becomes; role_stays = row.role_stays }))

-- ---- with the counter that was heard

-- an effect, where a counter was heard
abbrev pub told : Option Counter → Option ℕ → Effect → Effect
told None known e = e
told (Some counter) known e = effect_heard counter.0 known e

pub hears : (Takes : Node → Effect → Type 0) (old : Node) (recovery : Option Counter) (taken : Effect) → (IsEarlier (weighed_by recovery old.known) → ⊥)
    → Takes (node_heard (weighed_by recovery old.known) old) taken
    → Hears Takes old (option_map (λ (c : Counter). c.0) recovery) (told recovery old.known taken)
hears Takes old None taken on takes = takes
hears Takes old (Some counter) taken on takes = hears_on Takes old counter taken on takes

pub hears_early : (Takes : Node → Effect → Type 0) (old : Node) (recovery : Option Counter) → IsEarlier (weighed_by recovery old.known)
    → Hears Takes old (option_map (λ (c : Counter). c.0) recovery) (told recovery old.known (dropped old OldCounter))
hears_early Takes old None early = absurd early
hears_early Takes old (Some counter) early = hears_old Takes old counter early

-- a message that the gateway takes, from the peer, for which no answer is held
pub message_taken : (role : Role) (old : Node) (request : Arrival) (m : Message) (e : Effect) → request.source.ip ≡ old.config.peer.control → IsNew old request
    → takes_message role m ≡ true → Hears (TakesBy role request m) old (recovery_of m) e
    → MachineStep role old (Control_came request (Control_message m)) e
message_taken role old request m e peer new takes hears = inr (peer, inr (new, inr (takes, hears)))

-- one that it does not take
pub message_left : (role : Role) (old : Node) (request : Arrival) (m : Message) → request.source.ip ≡ old.config.peer.control → IsNew old request
    → (takes_message role m ≡ true → ⊥) → MachineStep role old (Control_came request (Control_message m)) (dropped old Unexpected)
message_left role old request m peer new not = inr (peer, inr (new, inl (not, refl)))

-- a datagram that is dropped, and changes nothing
pub dropped_taken : (arrival : Arrival) (s : GatewayState) (step : ControlStep) (why : DropReason) → step ≡ record { out = None; report = plain_report (Dropped why) }
    → MachineStep s.role s.node (Control_came arrival (taken_as (datagram_reading arrival.octets))) (dropped s.node why) → IsTaken arrival s step s
dropped_taken arrival s step why is takes =
    subst (λ (t : ControlStep). IsTaken arrival s t s) (sym is)
    (record {
      effect = dropped s.node why;
      takes = takes;
      tells = record { sent = none_sent s.node.config; outcome = refl; alone = refl; heard = refl; restart = refl; made = refl; all = refl };
      becomes = refl;
      role = refl;
    })

tells_heard : (config : Config) (request : Arrival) (old : GatewayState) (step : ControlStep) (recovery : Option Counter) (e : Effect)
    → config ≡ old.node.config → TellsRow config request step e
    → Tells old request (record step { report = report_heard (weighed_by recovery old.node.known) step.report }) (told recovery old.node.known e)
tells_heard config request old step None e same tells =
    record {
      sent = subst (λ (c : Config). AreSent c (datagrams step.out) e.out.sent) same tells.sent;
      outcome = tells.outcome;
      alone = tells.alone;
      heard = sym tells.heard;
      restart = sym tells.learned;
      made = tells.made;
      all = tells.all ∙ (λ i. record nothing { sent = e.out.sent; heard = sym tells.heard i; learned = sym tells.learned i; made = e.out.made });
    }
tells_heard config request old step (Some counter) e same tells =
    record {
      sent = subst (λ (c : Config). AreSent c (datagrams step.out) e.out.sent) same tells.sent;
      outcome = tells.outcome;
      alone = tells.alone;
      heard = told_is old.node.known counter;
      restart = later_is old.node.known counter;
      made = tells.made;
      all = λ i. record (tells.all i) { heard = Some counter.0; learned = learned_by old.node.known counter.0 };
    }

pub told_node : (recovery : Option Counter) (known : Option ℕ) (e : Effect) → (told recovery known e).node ≡ e.node
told_node None known e = refl
told_node (Some counter) known e = refl

-- a message from the peer, which the gateway takes, is weighed by its counter
module _ (arrival : Arrival) (old : GatewayState) (m : Message) (recovery : Option Counter)
    (peer : arrival.source.ip ≡ old.node.config.peer.control) (fresh : IsNew old.node arrival)
    (reads : Control_message m ≡ taken_as (datagram_reading arrival.octets)) (takes : takes_message old.role m ≡ true)
    (counter : option_map (λ (c : Counter). c.0) recovery ≡ recovery_of m) where
  -- a row, once the counter was heard, is a step on what the octets read as
  row_weighed : (step : ControlStep) (new : GatewayState) → (IsEarlier (weighed_by recovery old.node.known) → ⊥) → IsHeardRow arrival m (weighed_by recovery old.node.known) old step new
      → IsTaken arrival old (record step { report = report_heard (weighed_by recovery old.node.known) step.report }) new
  row_weighed step new on row =
      let effect : Effect = told recovery old.node.known row.effect in
      let heard = subst (λ (r : Option ℕ). Hears (TakesBy old.role arrival m) old.node r effect) counter (hears (TakesBy old.role arrival m) old.node recovery row.effect on row.takes) in
      record {
        effect = effect;
        takes = subst (λ (r : ControlReading). MachineStep old.role old.node (Control_came arrival r) effect) reads (message_taken old.role old.node arrival m effect peer fresh takes heard);
        tells = tells_heard _ arrival old step recovery row.effect (config_stays (weighed_by recovery old.node.known) old.node) row.tells;
        becomes = row.becomes ∙ sym (told_node recovery old.node.known row.effect);
        role = row.role_stays;
      }

  -- a message with a counter of an earlier start is dropped
  early_weighed : IsEarlier (weighed_by recovery old.node.known)
      → IsTaken arrival old (record { out = None; report = report_heard (weighed_by recovery old.node.known) (plain_report (Dropped OldCounter)) })
      old
  early_weighed early =
      let effect : Effect = told recovery old.node.known (dropped old.node OldCounter) in
      let heard = subst (λ (r : Option ℕ). Hears (TakesBy old.role arrival m) old.node r effect) counter (hears_early (TakesBy old.role arrival m) old.node recovery early) in
      record {
        effect = effect;
        takes = subst (λ (r : ControlReading). MachineStep old.role old.node (Control_came arrival r) effect) reads (message_taken old.role old.node arrival m effect peer fresh takes heard);
        tells =
            tells_heard old.node.config arrival old (record { out = None; report = plain_report (Dropped OldCounter) }) recovery
            (dropped old.node OldCounter) refl
            (record {
              sent = none_sent old.node.config;
              outcome = refl;
              alone = refl;
              made = refl;
              heard = refl;
              learned = refl;
              untold = refl;
              unlearned = refl;
              all = refl;
            });
        becomes = sym (told_node recovery old.node.known (dropped old.node OldCounter));
        role = refl;
      }

  -- the same by what was heard
  module _ (heard : Heard) (is : heard ≡ weighed_by recovery old.node.known) where
    pub row_taken : (step : ControlStep) (new : GatewayState) → (IsEarlier heard → ⊥) → IsHeardRow arrival m heard old step new
        → IsTaken arrival old (record step { report = report_heard heard step.report }) new
    row_taken step new =
        subst (λ (h : Heard).
        (IsEarlier h → ⊥) → IsHeardRow arrival m h old step new → IsTaken arrival old (record step { report = report_heard h step.report }) new)
        (sym is) (row_weighed step new)

    pub early_taken : IsEarlier heard → IsTaken arrival old (record { out = None; report = report_heard heard (plain_report (Dropped OldCounter)) }) old
    early_taken = subst (λ (h : Heard). IsEarlier h → IsTaken arrival old (record { out = None; report = report_heard h (plain_report (Dropped OldCounter)) }) old) (sym is) early_weighed
