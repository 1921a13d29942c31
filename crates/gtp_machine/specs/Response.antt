-- Responses that a gateway gets (TS 29.274, 7.6): a response fits a pending request, or is dropped.
use Rattle.std.specs.Prelude.{◌≡◌, ◌≢◌, ◌⊎◌, ℕ, Some}
use Rattle.gtp_values.specs.declared.cause.Cause.{Cause}
use Rattle.gtp_machine.specs.declared.causes.TheConstants.{CONTEXT_NOT_FOUND}
use Rattle.gtp_machine.specs.Ordered.{Unless}
use Rattle.gtp_machine.specs.Message.{Echo, Echo_request, header_of}
use Rattle.gtp_machine.specs.Node.{PendingRequest, Node}
use Rattle.gtp_machine.specs.Input.{Effect, Outcome, Came_to, Alive, nothing, dropped, NoPending, Mismatch}
use Rattle.gtp_machine.specs.Choice.{HasPending}
use Rattle.gtp_machine.specs.Removal.{finished}

-- the header names the session that the request is about; or it is 0 with the cause that no context was found, where the request's own was not
abbrev pub Named : PendingRequest → ℕ → Cause → Type 0
Named p header cause = (p.session ≡ Some header) ⊎ ((header ≡ 0) × (cause.value ≡ CONTEXT_NOT_FOUND) × (header_of p.request ≢ 0))

-- the request with this number is finished, and what it was about goes
abbrev pub finishing : Node → ℕ → PendingRequest → Outcome → Effect
finishing old number p outcome = record { out = nothing; outcome = Came_to outcome; node = finished old number p }

-- A response that only ends its request, which is the pending one with its number: it is dropped where there is none, or where it does not fit that.
abbrev pub EndsRequest : (old : Node) (number : ℕ) → (HasPending old number → Type 0) → Outcome → Effect → Type 0
EndsRequest old number Fits outcome e =
    Unless (HasPending old number) (e ≡ dropped old NoPending) (λ at.
    Unless (Fits at) (e ≡ dropped old Mismatch) (λ fits.
    e ≡ finishing old number at.pending outcome))

-- the request is an Echo Request
pub record IsEcho (p : PendingRequest) : Type 0 where
  pub request : Echo
  pub asked : p.request ≡ Echo_request request

-- An Echo Response: its number and kind are enough.
abbrev pub EchoAnswered : Echo → Node → Effect → Type 0
EchoAnswered a old e = EndsRequest old a.number (λ at. IsEcho at.pending) Alive e
