-- Requests that commands send, and the last rule of a command.
use Rattle.std.proofs.Common.{◌≡◌, ◌↔◌, inl, inr, Result, Ok, Err, sym, ◌∙◌, ap}
use Rattle.std.specs.Prelude.{IsErrAnd}
use Rattle.gtp_machine.specs.Ordered.{Unless}
use Rattle.gtp_machine.specs.Choice.{HasPendingRoom}
use Rattle.gtp_machine.specs.Input.{Effect, refused}
use Rattle.gtp_machine.specs.declared.outcome.Refusal.{Refusal}
use Rattle.gtp_machine.specs.declared.outcome.Refusal.TheVariants.{PendingFull}
use Rattle.gtp_gateway.specs.declared.fault.CommandFault.{CommandFault}
use Rattle.gtp_gateway.specs.declared.fault.CommandFault.TheVariants.{Refused, Memory}
use Rattle.gtp_gateway.specs.declared.sent.Begun.{Begun}
use Rattle.gtp_gateway.specs.command.Command.{IsLastRefused}
use Rattle.gtp_gateway.specs.GatewayState.{GatewayState}
use Rattle.gtp_gateway.proofs.Refusals.{same_reason}

-- where fewer than 256 are pending, nothing is refused by the last rule
module _ {A : Type 0} (s : GatewayState) (room : HasPendingRoom s.node) where
  pub begun : (x : A) → IsLastRefused s (Ok x)
  begun x why = (λ is. absurd cc, λ full. absurd (full.0 room))

  pub no_memory : (r : Result A CommandFault) → IsErrAnd r (λ e. e ≡ Memory) → IsLastRefused s r
  no_memory (Ok x) is = absurd is
  no_memory (Err e) is = λ why. (λ told. absurd cc, λ full. absurd (full.0 room))

-- and where 256 are, that is why
pub full : {A : Type 0} (s : GatewayState) → (HasPendingRoom s.node → ⊥) → IsLastRefused {A = A} s (Err (Refused PendingFull))
full s none why = (λ is. let one : why ≡ PendingFull = cc in (none, one), λ is. ap (λ (x : Refusal). Err (Refused x)) (sym is.1))

-- the error of the number is the error of the command
pub as_err : {A B : Type 0} (s : GatewayState) (f : CommandFault) (r : Result B CommandFault) → IsErrAnd r (λ e. e ≡ f) → IsLastRefused {A = A} s (Err f) → IsLastRefused s r
as_err s f (Ok x) is rule = absurd is
as_err s f (Err e) is rule = λ why. (
  λ told. (rule why).0 (let one : f ≡ Refused why = cc in ap (λ (x : CommandFault). Err x) one),
  λ none. let one : f ≡ Refused why = (let so = (rule why).1 none in cc) in ap (λ (x : CommandFault). Err x) (is ∙ one),
)

-- the last rule of a command, where what is asked for is no refusal
pub last : (s : GatewayState) (r : Result Begun CommandFault) (Asks : Effect → Type 0) (why : Refusal) → IsLastRefused s r → (Asks (refused s.node why) → ⊥)
    → (r ≡ Err (Refused why)) ↔ Unless (HasPendingRoom s.node) (refused s.node why ≡ refused s.node PendingFull) (λ few. Asks (refused s.node why))
last s r Asks why rule asks_on = (λ told. let full = (rule why).0 told in inl (full.0, ap (refused s.node) full.1), back)
  where
    back : Unless (HasPendingRoom s.node) (refused s.node why ≡ refused s.node PendingFull) (λ few. Asks (refused s.node why)) → r ≡ Err (Refused why)
    back (inl none) = (rule why).1 (none.0, same_reason s.node why PendingFull none.1)
    back (inr asks) = absurd (asks_on asks.1)
