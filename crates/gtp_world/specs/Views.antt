-- What the views of a world tell.
use Rattle.std.specs.Prelude.{◌≡◌, ℕ, ◌+◌, ◌≤◌, List, [], ◌∷◌}
use Rattle.gtp_values.specs.FiniteMap.{Among}
use Rattle.gtp_machine.specs.Input.{datagrams}
use Rattle.gtp_machine.specs.Laws.{Follow}
use Rattle.gtp_machine.specs.Message.{Message}
use Rattle.gtp_machine.specs.Node.{Arrival}
use Rattle.gtp_machine.specs.Once.{Makes, TookRequest}
use Rattle.gtp_machine.specs.Ordered.{Unless}
use Rattle.gtp_machine.specs.Spelling.{Datagram, spelled_all}
use Rattle.gtp_machine.specs.Step.{Done}
use Rattle.gtp_machine.specs.World.{By, Event, other, side_of, steps_of}
use Rattle.gtp_machine.specs.declared.role.Role.{Role}
use Rattle.gtp_gateway.specs.Parts.{arrival_of}
use Rattle.gtp_world.specs.Record.{WorldRecord, gateway_in}
use Rattle.gtp_world.specs.Last.{last_octets}
use Rattle.gtp_world.specs.Runs.{Setup, LeftByRun}
use Rattle.gtp_world.specs.Stepped.{IsThere}

-- so many of the list are this
abbrev pub IsCount : {X : Type 0} → X → List X → ℕ → Type 0
IsCount x [] count = count ≡ 0
IsCount x (y ∷ ys) count = Unless (y ≡ x) (IsCount x ys count) (λ is. (others : ℕ) × IsCount x ys others × (count ≡ others + 1))

-- the last message of a datagram of the control plane, as its receiver keeps it
abbrev pub as_it_came : By Datagram → Arrival
as_it_came d = arrival_of d.what.from (last_octets d.what.octets)

-- the gateway that did not send the datagram made so many contexts for its last message since it started
pub record IsMade (v : WorldRecord) (number count : ℕ) : Type 0 where
  pub found : IsThere v.log.datagrams number
  pub counts : IsCount (as_it_came found.sent) (gateway_in v (other found.sent.role)).made count

-- at the end of a run in which no delivery of the datagram was late, since its receiver started, at most one context was made for it
abbrev pub IsMadeOnce : WorldRecord → ℕ → ℕ → Type 0
IsMadeOnce v number count =
    (setup : Setup) (events : List Event) (r : LeftByRun setup events v) (found : IsThere v.log.datagrams number)
    → (Among (as_it_came found.sent) (side_of r.world (other found.sent.role)).late_requests → ⊥) → count ≤ 1

-- a step of a gateway that took the last message of the datagram, as a create request, and the messages of a datagram that was sent in answer to it
pub record IsAnswer (receiver : Role) (d : By Datagram) (request : Message) (done : Done) (answer : List Message) : Type 0 where
  pub makes : Makes receiver request
  pub takes : TookRequest done (as_it_came d) request
  pub sends : Among answer (datagrams done.effect.out.sent)

-- at the end of a run in which no delivery of the datagram was late, since its receiver started, all that was sent in answer to it since then is the same octets
abbrev pub IsAnsweredAlike : WorldRecord → ℕ → Type 0
IsAnsweredAlike v number =
    (setup : Setup) (events : List Event) (r : LeftByRun setup events v) (found : IsThere v.log.datagrams number)
    → (Among (as_it_came found.sent) (side_of r.world (other found.sent.role)).late_requests → ⊥)
    → (first second : Done) → Follow (steps_of r.world (other found.sent.role)) first second
    → (request : Message) (a b : List Message) → IsAnswer (other found.sent.role) found.sent request first a
    → IsAnswer (other found.sent.role) found.sent request second b → spelled_all a ≡ spelled_all b
