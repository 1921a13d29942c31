-- Commands about an active session: the rules that come before all others.
use Rattle.std.proofs.Common.{◌≡◌, ◌↔◌, inl, inr, ℕ, Result, Ok, Err, refl, sym, ◌∙◌, ap, subst}
use Rattle.std.specs.FinMap.{get}
use Rattle.std.specs.Prelude.{IsErrAnd}
use Rattle.gtp_machine.specs.declared.role.Role.{Role}
use Rattle.gtp_machine.specs.declared.role.Role.TheVariants.{Serving, Packet}
use Rattle.gtp_machine.specs.declared.outcome.Refusal.{Refusal}
use Rattle.gtp_machine.specs.declared.outcome.Refusal.TheVariants.{WrongRole, NoSuchContext, NotActive}
use Rattle.gtp_machine.specs.Command.{OnlyAt, OfActiveSession, WhereRoom}
use Rattle.gtp_machine.specs.Input.{Effect, refused}
use Rattle.gtp_machine.specs.Node.{Session, Node}
use Rattle.gtp_machine.proofs.Basics.Facts.{one_value}
use Rattle.gtp_gateway.specs.declared.fault.CommandFault.{CommandFault}
use Rattle.gtp_gateway.specs.declared.fault.CommandFault.TheVariants.{Refused}
use Rattle.gtp_gateway.specs.declared.sent.Begun.{Begun}
use Rattle.gtp_gateway.specs.command.Command.{IsActiveSession, IsRefusedFirst, IsLastRefused}
use Rattle.gtp_gateway.specs.GatewayState.{GatewayState}
use Rattle.gtp_gateway.proofs.Columns.{Told, goes, goes_session}
use Rattle.gtp_gateway.proofs.Refusals.{same_reason}
use Rattle.gtp_gateway.proofs.RequestsToSend.{last}

-- the gateway that the command is for
pub here : (only role : Role) (old : Node) (e : Effect) (Rest : Type 0) → role ≡ only → Rest → OnlyAt only role old e Rest
here Serving Packet old e Rest is rest = absurd cc
here Packet Serving old e Rest is rest = absurd cc
here only role old e Rest is rest = rest

-- the other one
pub elsewhere : (only role : Role) (old : Node) (e : Effect) (Rest : Type 0) → (role ≡ only → ⊥) → e ≡ refused old WrongRole → OnlyAt only role old e Rest
elsewhere Serving Serving old e Rest other is = absurd (other refl)
elsewhere Packet Packet old e Rest other is = absurd (other refl)
elsewhere only role old e Rest other is = is

goes_here : (only role : Role) (old : Node) (e : Effect) (P Rest : Type 0) → role ≡ only → P ↔ Rest → P ↔ OnlyAt only role old e Rest
goes_here Serving Packet old e P Rest is rest = absurd cc
goes_here Packet Serving old e P Rest is rest = absurd cc
goes_here only role old e P Rest is rest = rest

module _ (only : Role) (s : GatewayState) (session : ℕ) (Rest : Effect → Session → Type 0) where
  old : Node
  old = s.node

  -- the rules of a command about an active session
  abbrev pub Rules : Effect → Type 0
  Rules e = OnlyAt only s.role s.node e (OfActiveSession session s.node e (Rest e))

  pub reaches : (at : Session) (e : Effect) → IsActiveSession only s session at → Rest e at → Rules e
  reaches at e is rest = here only s.role s.node e _ is.role (inr (record { session = at; stands = is.stands }, inr (is.active, rest)))

  -- of an active session the other rules decide
  pub goes_active : (at : Session) (r : Result Begun CommandFault) → IsActiveSession only s session at → (why : Refusal) → Told r why ↔ Rest (refused s.node why) at
      → Told r why ↔ Rules (refused s.node why)
  goes_active at r is why rest =
      goes_here only s.role s.node (refused s.node why) _ _ is.role
      (goes_session s.node r _ session at NoSuchContext why is.stands
      (goes s.node r NotActive why is.active (λ _. rest)))

  -- the first rule that applies decides
  one_reason_of : (reason why : Refusal) → OfActiveSession session s.node (refused s.node reason) (λ at. ⊥)
      → OfActiveSession session s.node (refused s.node why) (Rest (refused s.node why)) → why ≡ reason
  one_reason_of reason why (inl none) (inl other) = same_reason s.node why reason (other.1 ∙ sym none.1)
  one_reason_of reason why (inl none) (inr at) = absurd (none.0 at.0)
  one_reason_of reason why (inr at) (inl none) = absurd (none.0 at.0)
  one_reason_of reason why (inr (at, inl idle)) (inr (also, inl other)) = same_reason s.node why reason (other.1 ∙ sym idle.1)
  one_reason_of reason why (inr (at, inl idle)) (inr (also, inr active)) =
      absurd
      (idle.0 (ap (λ (x : Session). x.state) (one_value (get s.node.sessions session) at.session also.session at.stands also.stands) ∙ active.0))
  one_reason_of reason why (inr (at, inr active)) also = absurd active.1

  one_reason : (by role : Role) (reason why : Refusal)
      → OnlyAt by role s.node (refused s.node reason) (OfActiveSession session s.node (refused s.node reason) (λ at. ⊥))
      → OnlyAt by role s.node (refused s.node why) (OfActiveSession session s.node (refused s.node why) (Rest (refused s.node why))) → why ≡ reason
  one_reason Serving Packet reason why first other = same_reason s.node why reason (other ∙ sym first)
  one_reason Packet Serving reason why first other = same_reason s.node why reason (other ∙ sym first)
  one_reason by role reason why first other = one_reason_of reason why first other

  further_of : (e : Effect) → OfActiveSession session s.node e (λ at. ⊥) → OfActiveSession session s.node e (Rest e)
  further_of e (inl none) = inl none
  further_of e (inr (at, inl idle)) = inr (at, inl idle)
  further_of e (inr (at, inr active)) = absurd active.1

  further : (by role : Role) (e : Effect) → OnlyAt by role s.node e (OfActiveSession session s.node e (λ at. ⊥)) → OnlyAt by role s.node e (OfActiveSession session s.node e (Rest e))
  further Serving Packet e first = first
  further Packet Serving e first = first
  further by role e first = further_of e first

  -- what is refused first is what the command is refused for
  pub refused_first : (fault : CommandFault) (r : Result Begun CommandFault) → IsErrAnd r (λ e. e ≡ fault) → IsRefusedFirst only s session fault → (why : Refusal)
      → Told r why ↔ Rules (refused s.node why)
  refused_first fault (Ok x) is first why = absurd is
  refused_first fault (Err e) is first why = (
    λ told. let same : first.why ≡ why = (let one : e ≡ Refused why = cc in let two : e ≡ Refused first.why = is ∙ first.is in cc) in
        subst (λ (x : Refusal). Rules (refused s.node x)) same (further only s.role (refused s.node first.why) first.first),
    λ rules. let same : why ≡ first.why = one_reason only s.role first.why why first.first rules in
        ap (λ (x : CommandFault). Err x) (is ∙ first.is) ∙ ap (λ (x : Refusal). Err (Refused x)) (sym same),
  )

-- a command about an active session whose last rule asks for a request, which is no refusal
module _ (only : Role) (s : GatewayState) (session : ℕ) (Asks : Session → Effect → Type 0) (goes_on : (at : Session) (why : Refusal) → Asks at (refused s.node why) → ⊥) where
  -- what is left of it for an active session
  abbrev pub Asked : Effect → Session → Type 0
  Asked e at = WhereRoom s.node e (Asks at e)

  pub last_refused : (at : Session) (r : Result Begun CommandFault) → IsActiveSession only s session at → IsLastRefused s r → (why : Refusal)
      → Told r why ↔ Rules only s session Asked (refused s.node why)
  last_refused at r active rule why = goes_active only s session Asked at r active why (last s r (Asks at) why rule (goes_on at why))
