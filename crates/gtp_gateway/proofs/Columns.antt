-- A column of refusals, rule by rule: what the code refused is what the machine refuses, and nothing else.
use Rattle.std.proofs.Common.{◌≡◌, ◌↔◌, inl, inr, ℕ, ◌≤◌, Bool, true, false, IsTrue, List, length, Option, Some, None, Result, Err, refl, sym, ◌∙◌, ap, subst}
use Rattle.std.specs.FinMap.{get, insert}
use Rattle.gtp_machine.specs.declared.role.Role.{Role}
use Rattle.gtp_machine.specs.Config.{user_end}
use Rattle.gtp_machine.specs.Message.{End_marker}
use Rattle.gtp_machine.specs.Command.{MayGo, SendsPacket, ClosesBearer, NamesBearer}
use Rattle.gtp_machine.specs.User.{ended_bearer}
use Rattle.gtp_machine.specs.declared.outcome.Refusal.TheVariants.{NoSuchContext, NotActive, PendingFull, BearerEnded, PacketTooLong}
use Rattle.gtp_machine.specs.declared.outcome.Outcome.TheVariants.{GoneOut}
use mathlib.Core.Logic.{∥∥₁_elim}
use Rattle.gtp_machine.specs.Ordered.{Unless}
use Rattle.gtp_machine.specs.Node.{Active, Session, Bearer, Node, written}
use Rattle.gtp_machine.specs.Choice.{HasSession, HasBearer, HasPendingRoom}
use Rattle.gtp_machine.specs.Input.{Came_to, Effect, says, refused}
use Rattle.gtp_machine.specs.Sound.{IsSound}
use Rattle.gtp_machine.specs.declared.outcome.Refusal.{Refusal}
use Rattle.gtp_machine.proofs.Basics.Facts.{one_value}
use Rattle.gtp_gateway.specs.declared.fault.CommandFault.{CommandFault}
use Rattle.gtp_gateway.specs.declared.fault.CommandFault.TheVariants as faults
use Rattle.gtp_gateway.specs.declared.sent.Begun.{Begun}
use Rattle.gtp_gateway.specs.GatewayState.{GatewayState, IsSoundState}
use Rattle.gtp_gateway.proofs.Refusals.{same_reason}

-- what a test answers
pub yes : {P : Type 0} {b : Bool} → IsTrue b ↔ P → b ≡ true → P
yes test is = test.0 is

pub no : {P : Type 0} {b : Bool} → IsTrue b ↔ P → b ≡ false → P → ⊥
no test is holds = let held = test.1 holds in let same : true ≡ false = sym held ∙ is in cc

-- the rules of send_user that look at the bearer
abbrev pub sends_on : Role → List ℕ → Node → Effect → Bearer → Type 0
sends_on role payload old e b =
    Unless (b.state ≡ Active) (e ≡ refused old NotActive) (λ active.
    Unless (MayGo role b) (e ≡ refused old BearerEnded) (λ goes.
    Unless (length payload ≤ 65000) (e ≡ refused old PacketTooLong) (λ short.
    SendsPacket old b payload e)))

-- the rules of end_marker that look at the bearer
abbrev pub ends_on : ℕ → Node → Effect → Bearer → Type 0
ends_on bearer old e b =
    Unless (b.state ≡ Active) (e ≡ refused old NotActive) (λ active.
    Unless (b.ended ≡ false) (e ≡ refused old BearerEnded) (λ before.
    e ≡ record { out = says (user_end old.config.peer.user) (End_marker (written b.remote)); outcome = Came_to GoneOut; node = record old { bearers = insert old.bearers bearer (ended_bearer b) } }))

-- the rules of delete_bearer that look at the session and at the bearer
abbrev pub ends_named : ℕ → ℕ → Node → Effect → Session → ℕ → Bearer → Type 0
ends_named session identity old e s key b =
    Unless ((s.state ≡ Active) × (b.state ≡ Active)) (e ≡ refused old NotActive) (λ active.
    Unless (HasPendingRoom old) (e ≡ refused old PendingFull) (λ few.
    ClosesBearer old session s identity key b e))

abbrev pub ends_session : ℕ → ℕ → Node → Effect → Session → Type 0
ends_session session identity old e s =
    Unless (NamesBearer old session identity) (e ≡ refused old NoSuchContext) (λ named.
    ends_named session identity old e s named.key named.at.bearer)

-- the command was refused for this reason
abbrev pub Told : Result Begun CommandFault → Refusal → Type 0
Told r why = r ≡ Err (faults.Refused why)

one_fault : (r : Result Begun CommandFault) (why other : Refusal) → Told r why → Told r other → why ≡ other
one_fault r why other a b = cc

module _ (old : Node) (r : Result Begun CommandFault) where
  -- the rule applies, and no other is looked at
  pub only : (reason : Refusal) → Told r reason → (why : Refusal) → Told r why ↔ (refused old why ≡ refused old reason)
  only reason told why = (λ is. ap (refused old) (one_fault r why reason is told), λ is. told ∙ ap (λ (x : Refusal). Err (faults.Refused x)) (sym (same_reason old why reason is)))

  pub stops : {P : Type 0} {Next : P → Type 0} (reason : Refusal) → Told r reason → (P → ⊥) → (why : Refusal) → Told r why ↔ Unless P (refused old why ≡ refused old reason) Next
  stops {P} {Next} reason told not why = (λ is. inl (not, (only reason told why).0 is), back)
    where
      back : Unless P (refused old why ≡ refused old reason) Next → Told r why
      back (inl none) = (only reason told why).1 none.1
      back (inr next) = absurd (not next.0)

  -- the rule does not apply
  pub goes : {P : Type 0} {Next : P → Type 0} (reason why : Refusal) → P → ((holds : P) → Told r why ↔ Next holds) → Told r why ↔ Unless P (refused old why ≡ refused old reason) Next
  goes {P} {Next} reason why holds rest = (λ is. inr (holds, (rest holds).0 is), back)
    where
      back : Unless P (refused old why ≡ refused old reason) Next → Told r why
      back (inl none) = absurd (none.0 holds)
      back (inr next) = (rest next.0).1 next.1

  -- a bearer stands there, and the rules after it look at no more than the bearer
  pub goes_bearer : (Rest : Bearer → Type 0) (t : ℕ) (b : Bearer) (reason why : Refusal) → get old.bearers t ≡ Some b → Told r why ↔ Rest b
      → Told r why ↔ Unless (HasBearer old t) (refused old why ≡ refused old reason) (λ at. Rest at.bearer)
  goes_bearer Rest t b reason why stands rest =
      goes {P = HasBearer old t} {Next = λ at. Rest at.bearer} reason why (record { bearer = b; stands = stands })
      (λ at. subst (λ (x : Bearer). Told r why ↔ Rest x) (one_value (get old.bearers t) b at.bearer stands at.stands) rest)

-- a session stands there, and the rules after it look at no more than the session
pub goes_session : (old : Node) (r : Result Begun CommandFault) (Rest : Session → Type 0) (t : ℕ) (s : Session) (reason why : Refusal) → get old.sessions t ≡ Some s
    → Told r why ↔ Rest s → Told r why ↔ Unless (HasSession old t) (refused old why ≡ refused old reason) (λ at. Rest at.session)
goes_session old r Rest t s reason why stands rest =
    goes old r {P = HasSession old t} {Next = λ at. Rest at.session} reason why (record { session = s; stands = stands })
    (λ at. subst (λ (x : Session). Told r why ↔ Rest x) (one_value (get old.sessions t) s at.session stands at.stands) rest)

-- the session of a bearer of a sound gateway stands
pub session_stands : (s : GatewayState) (t : ℕ) (b : Bearer) → IsSoundState s → get s.node.bearers t ≡ Some b → HasSession s.node b.session
session_stands s t b whole stands = by (get s.node.sessions b.session) refl
  where
    none : IsSound s.role s.node → get s.node.sessions b.session ≡ None → ⊥
    none sound is = let of = (sound.contexts.each_bearer t b stands).of in let same : None ≡ Some of.0 = sym is ∙ of.1 in cc

    by : (o : Option Session) → get s.node.sessions b.session ≡ o → HasSession s.node b.session
    by None is = absurd (∥∥₁_elim whole (λ x y. absurd x) (λ sound. none sound is))
    by (Some session) is = record { session = session; stands = is }
