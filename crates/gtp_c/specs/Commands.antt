-- What a command comes to.
use Rattle.std.specs.Prelude.{◌≡◌, ◌≢◌, ℕ, [], ◌∷◌, ◌++◌, Option, Result, Err, IsSomeAnd, IsOkAnd, OnOk}
use Rattle.std.specs.VecDeque.{deque_len}
use Rattle.gtp_machine.specs.Input.{Command}
use Rattle.gtp_machine.specs.declared.outcome.Refusal.{Refusal}
use Rattle.gtp_gateway.specs.declared.fault.CommandFault.{CommandFault}
use Rattle.gtp_gateway.specs.declared.fault.CommandFault.TheVariants.{Refused, Memory}
use Rattle.gtp_gateway.specs.declared.sent.Begun.{Begun}
use Rattle.gtp_c.specs.Common.{IsOneOf}
use Rattle.gtp_c.specs.Handles.{Goes, Stays}
use Rattle.gtp_c.specs.Statuses.{HasStatus, command_statuses, CommandMayRunOut}
use Rattle.gtp_c.specs.Steps.{HasBegun, IsRefused, KeepsRoom}
use Rattle.gtp_c.specs.Told.{begun_told, refused_told}
use Rattle.gtp_c.specs.declared.gateway_with_queue.GatewayWithQueue.{GatewayWithQueue}
use Rattle.gtp_c.specs.declared.told.Told.{Told}

-- A command to the gateway behind a handle, by values that may be bad: 0 where it was carried out; 6 only where the machine refuses it; 7, 1 and 3 exactly for
-- their reasons; 2 only where memory may run out. After any status but 0 nothing has happened; after any but 0 and 6 what C is told is as it was.
pub record IsCommanded (command : Command) (Bad : Type 0) (before told : Told) (old new : Option GatewayWithQueue) (status : ℕ) : Type 0 where
  pub done : status ≡ 0 → Goes (HasBegun command told) old new
  pub refused : status ≡ 6 → Goes (IsRefused command told) old new
  pub kept : status ≢ 0 → Stays old new
  pub untold : status ≢ 0 → status ≢ 6 → told ≡ before
  pub has : HasStatus command_statuses Bad old status
  pub memory : status ≡ 2 → IsSomeAnd old (CommandMayRunOut command)

-- what the gateway answered to a command is told, under a number, and the datagram that it sends waits behind all that waited
pub record IsSettled (begun : Result Begun CommandFault) (number : ℕ) (before told : Told) (old new : GatewayWithQueue) (status : ℕ) : Type 0 where
  pub gateway : new.gateway ≡ old.gateway
  pub waiting : status ≡ 0 → IsOkAnd begun (λ b. new.waiting.items ≡ old.waiting.items ++ b.out ∷ [])
  pub tells : status ≡ 0 → IsOkAnd begun (λ b. told ≡ begun_told number b (deque_len new.waiting))
  pub refused : status ≡ 6 → (why : Refusal) × (begun ≡ Err (Refused why)) × (told ≡ refused_told why (deque_len new.waiting))
  pub kept : status ≢ 0 → OnOk begun ⊥ × (new.waiting.items ≡ old.waiting.items)
  pub untold : status ≡ 2 → told ≡ before
  pub memory : status ≡ 2 → begun ≡ Err Memory
  pub room : KeepsRoom old new
  pub known : IsOneOf (0 ∷ 2 ∷ 6 ∷ []) status
