-- What has happened before an entry, and what a name stands for then.
use Rattle.std.specs.Prelude.{◌≡◌, ℕ, zero, suc, ◌-◌, ◌==◌, List, [], ◌∷◌, ◌++◌, length, map, not, Bool, false, ◌&&◌, bytes_eq, Option, Some, None}
use Rattle.std.specs.FinMap.{entries}
use Rattle.std.specs.List.{filter, range_with_len, last_or}
use Rattle.std.specs.Option.{option_map_or}
use Rattle.gtp_machine.specs.declared.role.Role.{Role}
use Rattle.gtp_machine.specs.Node.{Node, Session, Bearer}
use Rattle.gtp_machine.specs.World.{Event, Deliver}
use Rattle.gtp_world.specs.Record.{WorldRecord, gateway_in}
use Rattle.gtp_world.specs.Runs.{Setup, begun}
use Rattle.gtp_world.specs.Stepped.{EventLeaves}
use Rattle.gtp_scenario.specs.declared.name.SessionName.{SessionName}
use Rattle.gtp_scenario.specs.declared.name.BearerName.{BearerName}
use Rattle.gtp_scenario.specs.Steps.{◌>>=◌}

-- both gateways, and the numbers of the datagrams that were sent and not delivered since, in the order in which they were sent
pub record Past : Type 0 where
  pub world : WorldRecord
  pub waiting : List ℕ

-- nothing has happened
abbrev pub just_begun : Setup → Past
just_begun setup = record { world = begun setup; waiting = [] }

abbrev pub sent_in : WorldRecord → ℕ
sent_in world = length world.log.datagrams

-- the datagrams that were sent between
abbrev pub sent_between : WorldRecord → WorldRecord → List ℕ
sent_between old new = range_with_len (sent_in old) (sent_in new - sent_in old)

-- those that wait, but for the one that an event delivers
abbrev pub undelivered : Event → List ℕ → List ℕ
undelivered (Deliver number) waiting = filter (λ n. not (n == number)) waiting
undelivered event waiting = waiting

-- an event happens
pub record Happens (old : Past) (event : Event) (new : Past) : Type 0 where
  pub leaves : EventLeaves old.world event new.world
  pub waiting : new.waiting ≡ undelivered event old.waiting ++ sent_between old.world new.world

-- events happen, one after the other
abbrev pub Happen : Past → List Event → Past → Type 0
Happen old [] new = new ≡ old
Happen old (event ∷ events) new = (mid : Past) × Happens old event mid × Happen mid events new

-- ---- what names stand for

-- the datagram that was sent last
abbrev pub last_before : ℕ → Option ℕ
last_before zero = None
last_before (suc number) = Some number

abbrev pub newest : Past → Option ℕ
newest past = last_before (sent_in past.world)

-- the last of the keys under which it holds
abbrev pub last_where : {X : Type 0} → (X → Bool) → List (ℕ × X) → Option ℕ
last_where holds es = last_or None (map (λ e. e.0) (filter (λ e. holds e.1) es))

abbrev pub is_session_of : SessionName → Session → Bool
is_session_of name s = bytes_eq s.subscriber.imsi name.imsi && bytes_eq s.subscriber.access_point name.access_point

-- the session of this name at a gateway, by its own TEID: of several the one with the highest, which was begun last
abbrev pub session_named : SessionName → Node → Option ℕ
session_named name node = last_where (is_session_of name) (entries node.sessions)

abbrev pub is_identity : ℕ → Option ℕ → Bool
is_identity identity found = option_map_or (λ n. n == identity) found false

abbrev pub is_bearer_of : ℕ → ℕ → Bearer → Bool
is_bearer_of session identity b = (b.session == session) && is_identity identity b.identity

-- the bearer of this name at a gateway: of several of that session the one with the highest TEID
abbrev pub bearer_named : BearerName → Node → Option ℕ
bearer_named name node = do
  session ← session_named name.session node
  last_where (is_bearer_of session name.identity) (entries node.bearers)

-- the gateway of this role
abbrev pub node_in : Past → Role → Node
node_in past role = (gateway_in past.world role).state.node

-- ---- all that wait

-- these are delivered one after the other, and each is the first of those that wait then
abbrev pub DeliversFirst : Past → List ℕ → Past → Type 0
DeliversFirst old [] new = new ≡ old
DeliversFirst old (number ∷ numbers) new = (others : List ℕ) × (old.waiting ≡ number ∷ others) × (mid : Past) × Happens old (Deliver number) mid × DeliversFirst mid numbers new
