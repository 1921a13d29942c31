-- How the answer goes to a session that is made: alone, or with the request of its template's bearer.
use Rattle.std.proofs.Common.{◌≡◌, ◌⊎◌, inl, inr, ℕ, [], ◌∷◌, Option, Some, None, refl}
use Rattle.gtp_machine.specs.Config.{Template}
use Rattle.gtp_machine.specs.Message.{CreateSessionResponse, Create_session_response}
use Rattle.gtp_machine.specs.Node.{Session, Arrival, Node}
use Rattle.gtp_machine.specs.Input.{Effect}
use Rattle.gtp_machine.specs.Choice.{HasDraws, HasPendingRoom}
use Rattle.gtp_machine.specs.Answer.{making}
use Rattle.gtp_machine.specs.Packet.{AddsBearer, AnswersWith}

-- the template's bearer is begun
pub record IsAdded (found : Option Template) (request : Arrival) (a : CreateSessionResponse) (cause session : ℕ) (s : Session) (made : Node) (e : Effect) : Type 0 where
  pub template : Template
  pub is : found ≡ Some template
  pub draws : HasDraws made 1
  pub room : HasPendingRoom made
  pub adds : AddsBearer template request a cause session s made e

module _ (request : Arrival) (a : CreateSessionResponse) (cause session : ℕ) (s : Session) (made : Node) (e : Effect) where
  pub goes : (found : Option Template) → AnswersWith found request a cause session s made e
      → (e ≡ making request (Create_session_response a ∷ []) cause made) ⊎ IsAdded found request a cause session s made e
  goes None r = inl r
  goes (Some t) (inl f) = inl f.1
  goes (Some t) (inr (can, r)) = inr (record { template = t; is = refl; draws = can.0; room = can.1; adds = r })
