-- Datagrams of the user plane for which nothing is sent.
use Rattle.std.proofs.Common.{◌≡◌, ◌≢◌, ℕ, true, false, List, [], ◌∷◌, Option, Some, None, refl, sym, ◌∙◌, ap, subst}
use Rattle.std.specs.Prelude.{filter, IsSome}
use Rattle.gtp_values.specs.declared.address.Endpoint.{Endpoint}
use Rattle.gtp_reliable.specs.Pending.{others}
use Rattle.gtp_reliable.specs.Waiting.{Waiting}
use Rattle.gtp_machine.specs.Message.{User}
use Rattle.gtp_machine.specs.User.{UserRead}
use Rattle.std.specs.FinMap.{get}
use Rattle.gtp_machine.specs.Choice.{HasBearer}
use Rattle.gtp_machine.specs.Node.{Node}
use Rattle.gtp_machine.specs.Input.{Came_to, UserReading, User_fault, nothing, Effect, dropped, undecodable}
use Rattle.gtp_machine.specs.declared.outcome.DropReason.{DropReason}
use Rattle.gtp_machine.specs.declared.outcome.Outcome.{Outcome}
use Rattle.gtp_machine.specs.declared.outcome.Outcome.TheVariants.{Accepted, Broken, Dropped}
use Rattle.gtp_gateway.specs.declared.command.purpose.Purpose.{Purpose}
use Rattle.gtp_gateway.specs.user.Accepted as packets
use Rattle.gtp_gateway.specs.declared.step.Report.{Report}
use Rattle.gtp_gateway.specs.declared.step.Step.{Step}
use Rattle.gtp_gateway.specs.declared.user.reply.Reply.{Reply}
use Rattle.gtp_gateway.specs.declared.user.reply.Reply.TheVariants.{ErrorIndication}
use Rattle.gtp_gateway.specs.declared.user.receive.Judged.{Judged}
use Rattle.gtp_gateway.specs.declared.user.receive.Judged.TheVariants as judged
use Rattle.gtp_gateway.specs.Parts.{pending_in}
use Rattle.gtp_gateway.specs.user.Reply.{sending_of, outcome_of, replied, IsReplyBy}
use Rattle.gtp_gateway.specs.messages.Sent.{AreSent}
use Rattle.gtp_gateway.specs.GatewayState.{GatewayState}
use Rattle.gtp_gateway.specs.receive.Taken.{datagrams, plain_report}
use Rattle.gtp_gateway.specs.user.Receive.{plain_step, accepted_step, AreEntries, RequestsWaitOn, IsTakenBy, IsJudgedBy, IsFaultJudged}
use Rattle.gtp_gateway.proofs.SentBack.{none_sent}

-- no bearer stands there
pub none_there : (node : Node) (t : ℕ) → get node.bearers t ≡ None → HasBearer node t → ⊥
none_there node t none at = let same : None ≡ Some at.bearer = sym none ∙ at.stands in cc

-- where none goes, all stay
pub filter_all : {X : Type 0} (xs : List X) → filter (λ _. true) xs ≡ xs
filter_all [] = refl
filter_all (x ∷ xs) = λ i. x ∷ filter_all xs i

-- where none goes, all requests stay
pub all_stay : (ws : List (Waiting Purpose)) → ws ≡ others (λ _. false) ws
all_stay ws = sym (filter_all ws)

-- what a gateway's pending requests are
abbrev pub IsPendingIn : GatewayState → Type 0
IsPendingIn s = s.node.pending ≡ pending_in s.queues.waiting

-- all requests wait on
pub all_wait : (old new : GatewayState) → new.queues ≡ old.queues → IsPendingIn new → RequestsWaitOn old new
all_wait old new same pending =
    record {
      stays = λ _. true;
      queues = same ∙ ap (λ (ws : List (Waiting Purpose)). record old.queues { waiting = ws }) (sym (filter_all old.queues.waiting));
      pending = pending;
    }

module _ (Takes : Node → Effect → Type 0) (old : GatewayState) where
  -- nothing is told but an outcome, and no packet is accepted
  pub plain : (outcome : Outcome) (node : Node) (new : GatewayState) → (outcome ≡ Accepted → ⊥)
      → Takes old.node (record { out = nothing; outcome = Came_to outcome; node = node }) → new.node ≡ node → new.role ≡ old.role
      → (outcome ≢ Broken → new.queues ≡ old.queues) → RequestsWaitOn old new → IsTakenBy Takes old (plain_step outcome) new
  plain outcome node new other takes becomes role same waits =
      record {
        effect = record { out = nothing; outcome = Came_to outcome; node = node };
        takes = takes;
        tells = record { sent = none_sent old.node.config; outcome = refl; report = refl; accepted = refl; packet = (λ is. absurd (other is), λ some. absurd cc); all = refl };
        becomes = becomes;
        role = role;
        same = same;
        waits = waits;
      }

  not_accepted : (why : DropReason) → Dropped why ≡ Accepted → ⊥
  not_accepted why is = cc

  -- the datagram is dropped
  pub drops : IsPendingIn old → (why : DropReason) → Takes old.node (dropped old.node why) → IsTakenBy Takes old (plain_step (Dropped why)) old
  drops pending why takes = plain (Dropped why) old.node old (not_accepted why) takes refl refl (λ _. refl) (all_wait old old refl pending)

  -- the reply is sent, and nothing changes
  pub replies : (reply : Reply) (step : Step) (new : GatewayState) → IsPendingIn new → Takes old.node (replied reply old.node) → new ≡ old
      → IsReplyBy reply new.node.config step → IsTakenBy Takes old step new
  replies reply step new pending takes same sends =
      record {
        effect = replied reply old.node;
        takes = takes;
        tells = record {
          sent = subst (λ (s : GatewayState). AreSent s.node.config (datagrams step.out) (sending_of reply s.node.config ∷ [])) same sends.sent;
          outcome = ap (λ (r : Report). Came_to r.outcome) sends.report;
          report = sends.report ∙ ap plain_report (sym (ap (λ (r : Report). r.outcome) sends.report));
          accepted = subst (λ (o : Option packets.Accepted). AreEntries old.node o []) (sym sends.none) refl;
          packet = (λ is. absurd (not_taken reply (sym (ap (λ (r : Report). r.outcome) sends.report) ∙ is)), λ some. absurd (none_some step.accepted sends.none some));
          all = refl;
        };
        becomes = ap (λ (s : GatewayState). s.node) same;
        role = ap (λ (s : GatewayState). s.role) same;
        same = λ _. ap (λ (s : GatewayState). s.queues) same;
        waits = all_wait old new (ap (λ (s : GatewayState). s.queues) same) pending;
      }
    where
      not_taken : (r : Reply) → outcome_of r ≡ Accepted → ⊥
      not_taken (ErrorIndication teid) is = cc
      not_taken r is = cc

      none_some : (o : Option packets.Accepted) → o ≡ None → IsSome o → ⊥
      none_some None is some = cc
      none_some (Some p) is some = cc

-- what takes a datagram by one relation takes it by a wider one
taken_wider : (Takes Wider : Node → Effect → Type 0) (old new : GatewayState) (step : Step) → ((e : Effect) → Takes old.node e → Wider old.node e)
    → IsTakenBy Takes old step new → IsTakenBy Wider old step new
taken_wider Takes Wider old new step wider taken =
    record {
      effect = taken.effect;
      takes = wider taken.effect taken.takes;
      tells = taken.tells;
      becomes = taken.becomes;
      role = taken.role;
      same = taken.same;
      waits = taken.waits;
    }

pub judged_wider : (Takes Wider : Node → Effect → Type 0) (old new : GatewayState) (j : Judged) → ((e : Effect) → Takes old.node e → Wider old.node e)
    → IsJudgedBy Takes old j new → IsJudgedBy Wider old j new
judged_wider Takes Wider old new (judged.Accepted packet) wider taken = taken_wider Takes Wider old new (accepted_step packet) wider taken
judged_wider Takes Wider old new (judged.Came outcome) wider taken = taken_wider Takes Wider old new (plain_step outcome) wider taken
judged_wider Takes Wider old new (judged.Replies reply) wider (takes, same) = (wider (replied reply old.node) takes, same)

-- a datagram at fault
pub fault_judged : (source : Endpoint) (reading : UserReading) (old : GatewayState) (j : Judged) → IsPendingIn old → IsFaultJudged reading j → IsJudgedBy (UserRead old.role source reading) old j old
fault_judged source reading old (judged.Accepted packet) pending is = absurd is
fault_judged source reading old (judged.Came outcome) pending (number, is, shown) =
    subst (λ (o : Outcome). IsTakenBy (UserRead old.role source reading) old (plain_step o) old) (sym shown)
    (subst (λ (r : UserReading). IsTakenBy (UserRead old.role source r) old (plain_step (Dropped (undecodable User number))) old) (sym is)
    (drops (UserRead old.role source (User_fault number)) old pending (undecodable User number) refl))
fault_judged source reading old (judged.Replies reply) pending (is, shown) =
    (subst (λ (r : UserReading). UserRead old.role source r old.node (replied reply old.node)) (sym is) (ap (λ (r : Reply). replied r old.node) shown), refl)
