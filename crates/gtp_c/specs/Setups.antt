-- Which gateway C's setup is.
use Rattle.std.specs.Prelude.{◌≡◌, ℕ, ◌≤◌, ◌==◌, ◌/◌, ◌%◌, List, [], ◌∷◌, Some, IsSome, length, take}
use Rattle.std.specs.VecDeque.{deque_capacity}
use Rattle.gtp_machine.specs.declared.role.Role.{Role}
use Rattle.gtp_machine.specs.declared.role.Role.TheVariants.{Serving, Packet}
use Rattle.gtp_machine.specs.declared.switches.Switches.{Switches}
use Rattle.gtp_gateway.specs.Settings.{Settings, AreSettings, settings_of, switched}
use Rattle.gtp_gateway.specs.GatewayState.{GatewayState, starting}
use Rattle.gtp_gateway.specs.declared.config.Addresses.{Addresses}
use Rattle.gtp_gateway.specs.declared.config.Timers.{Timers}
use Rattle.gtp_tables.specs.Pool.{IsPool, ArePrefixes}
use Rattle.gtp_tables.specs.declared.pool.Pools.{Pools}
use Rattle.gtp_c.specs.Ends.{ip_at}
use Rattle.gtp_c.specs.Names.{AreNames, AreGoodNames, names_in}
use Rattle.gtp_c.specs.Templates.{AreGoodTemplates, with_each}
use Rattle.gtp_c.specs.declared.gateway_with_queue.GatewayWithQueue.{GatewayWithQueue}
use Rattle.gtp_c.specs.declared.ends.Address.{Address}
use Rattle.gtp_c.specs.declared.setup.Setup.{Setup}
use Rattle.gtp_c.specs.declared.template.Template.{Template}

-- a role's number
abbrev pub role_at : Role → ℕ
role_at Serving = 0
role_at Packet = 1

-- C's addresses of both planes are these
pub record AreAddresses (control user : Address) (a : Addresses) : Type 0 where
  pub control_is : ip_at control ≡ Some a.control
  pub user_is : ip_at user ≡ Some a.user

abbrev pub timers_at : Setup → Timers
timers_at s = record { t3 = s.t3; n3 = s.n3; hold = s.hold }

-- the addresses that sessions are given
abbrev pub pools_at : Setup → Pools
pools_at s = record { v4 = record { start = s.pool; count = s.pool_count }; v6 = record { start = s.pool6; count = s.pool6_count } }

-- C's switches: 1 and 2, added
abbrev pub switches_at : Setup → Switches
switches_at s = record { network_identifiers = s.switches % 2 == 1; version_not_supported = s.switches / 2 % 2 == 1 }

-- C's templates, of which later ones take the place of earlier ones of the same access point
abbrev pub templates_in : Setup → List Template
templates_in s = take s.template_count s.templates

-- the settings are C's, with these access points and without templates
pub record IsConfigured (s : Setup) (names : List (List ℕ)) (settings : Settings) : Type 0 where
  pub own : Addresses
  pub is_own : AreAddresses s.own_control s.own_user own
  pub peer : Addresses
  pub is_peer : AreAddresses s.peer_control s.peer_user peer
  pub all : settings ≡ switched (switches_at s) (settings_of own peer names (pools_at s) (timers_at s))

-- a gateway that has just started, of C's role, settings, templates and restart counter, with the access points of the text
pub record IsStarted (s : Setup) (text : List ℕ) (g : GatewayState) : Type 0 where
  pub role : Role
  pub is_role : role_at role ≡ s.role
  pub names : List (List ℕ)
  pub are_names : AreNames text names
  pub settings : Settings
  pub configured : IsConfigured s names settings
  pub started : g ≡ starting role (with_each (templates_in s) settings) s.counter

-- Such a gateway. No datagram waits, and there is room for all that ever do: a step is refused while more than 4,096 wait, and a
-- tick adds at most 256. So no later call asks for memory for what waits.
pub record Starts (s : Setup) (text : List ℕ) (d : GatewayWithQueue) : Type 0 where
  pub gateway : IsStarted s text d.gateway
  pub waiting : d.waiting.items ≡ []
  pub room : 4352 ≤ deque_capacity d.waiting

-- C's addresses are addresses
pub record HasAddresses (control user : Address) : Type 0 where
  pub control_is : IsSome (ip_at control)
  pub user_is : IsSome (ip_at user)

-- both ends have addresses, there are at most 16 access points, the timers are in their ranges, and so are the addresses to give and the switches
pub record IsGoodConfig (s : Setup) (names : List (List ℕ)) : Type 0 where
  pub own : HasAddresses s.own_control s.own_user
  pub peer : HasAddresses s.peer_control s.peer_user
  pub settings : AreSettings names (timers_at s)
  pub pool : IsPool (pools_at s).v4
  pub prefixes : ArePrefixes (pools_at s).v6
  pub switches : s.switches ≤ 3

-- a gateway can be set up so: the role is one, the text has names of access points, each template is of one of them, and the rest is in its range
pub record IsGoodSetup (s : Setup) (text : List ℕ) : Type 0 where
  pub role : s.role ≤ 1
  pub names : AreGoodNames text
  pub config : IsGoodConfig s (names_in text)
  pub few : s.template_count ≤ 16
  pub templates : AreGoodTemplates (length (names_in text)) (templates_in s)

-- the statuses of a call that starts a gateway, where it does not
abbrev pub no_gateway : List ℕ
no_gateway = 1 ∷ 2 ∷ []

-- the statuses of `gtp_gateway_new`
abbrev pub new_statuses : List ℕ
new_statuses = 0 ∷ 1 ∷ 2 ∷ 8 ∷ []
