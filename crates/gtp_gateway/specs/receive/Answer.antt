-- An answer that is held.
use Rattle.std.specs.Prelude.{ℕ, Bool, List, [], ◌∷◌, ◌++◌}
use Rattle.gtp_values.specs.declared.address.Endpoint.{Endpoint}
use Rattle.gtp_reliable.specs.Held.{HeldPair, just_kept}
use Rattle.gtp_machine.specs.Input.{Came_to, Effect, says_all}
use Rattle.gtp_machine.specs.Message.{Message}
use Rattle.gtp_machine.specs.Node.{Arrival, Node, holding}
use Rattle.gtp_machine.specs.declared.outcome.Outcome.TheVariants.{Answered}
use Rattle.gtp_gateway.specs.receive.Taken.{made_for}

-- the answers that are held, once the answer to a request is
abbrev pub after_held : Endpoint → List ℕ → List ℕ → List HeldPair → List HeldPair
after_held source request answer pairs = pairs ++ (just_kept source request answer ∷ [])

-- an answer goes to where the request came from, as one datagram, and is held; a context may have been made for the request
abbrev pub answering : Bool → Arrival → List Message → ℕ → Node → Effect
answering made request answer cause new = record {
  out = record (says_all request.source answer) { made = made_for request made };
  outcome = Came_to (Answered cause);
  node = holding request answer new;
}
