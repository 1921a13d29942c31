-- What a gateway is set up with.
use Rattle.std.specs.Prelude.{◌≡◌, ◌≢◌, ℕ, zero, suc, ◌≤◌, List, [], ◌∷◌, Option, Some, None, option_map, length}
use Rattle.std.specs.List.{cons_option}
use Rattle.gtp_tables.specs.Pool.{Prefixes}
use Rattle.gtp_tables.specs.declared.pool.Pools.{Pools}
use Rattle.gtp_reliable.specs.Pending.{AreLimits}
use Rattle.gtp_reliable.specs.Held.{IsHold}
use Rattle.gtp_machine.specs.declared.switches.Switches.{Switches}
use Rattle.gtp_machine.specs.Config as machine
use Rattle.gtp_machine.specs.Config.{no_switches}
use Rattle.gtp_gateway.specs.declared.config.Addresses.{Addresses}
use Rattle.gtp_gateway.specs.declared.config.access_points.Template.{Template}
use Rattle.gtp_gateway.specs.declared.config.Timers.{Timers}

-- what the machine knows of it, and the times
pub record Settings : Type 0 where
  pub config : machine.Config
  pub timers : Timers

abbrev pub addresses_of : Addresses → machine.Addresses
addresses_of a = record { control = a.control; user = a.user }

abbrev pub settings_of : Addresses → Addresses → List (List ℕ) → Pools → Timers → Settings
settings_of own peer access_points pools timers =
    record {
      config = record { own = addresses_of own; peer = addresses_of peer; access_points = access_points; switches = no_switches; pools = pools; templates = [] };
      timers = timers;
    }

-- the same settings with these switches
abbrev pub switched : Switches → Settings → Settings
switched switches s = record s { config = record s.config { switches = switches } }

-- a template of the access point with this name
abbrev pub template_of : List ℕ → Template → machine.Template
template_of name t = record { access_point = name; tft = t.tft; qos = t.qos }

-- the same, where there is one
abbrev pub template_by : List ℕ → Option Template → Option machine.Template
template_by name template = option_map (template_of name) template

-- the templates of these access points, of which each may have one at its place
abbrev pub templates_in : List (List ℕ) → List (Option Template) → List machine.Template
templates_in [] places = []
templates_in (name ∷ names) [] = []
templates_in (name ∷ names) (None ∷ places) = templates_in names places
templates_in (name ∷ names) (Some t ∷ places) = template_of name t ∷ templates_in names places

-- the template of each access point that has one, in the order of the access points
abbrev pub in_order : List (List ℕ) → List machine.Template → List machine.Template
in_order [] templates = []
in_order (name ∷ names) templates = cons_option (machine.template_for name templates) (in_order names templates)

-- settings with these templates
abbrev pub with_templates : List machine.Template → Settings → Settings
with_templates templates s = record s { config = record s.config { templates = in_order s.config.access_points templates } }

-- the same settings, where the access point of this template has it, and the others have those that they had
abbrev pub with_template : machine.Template → Settings → Settings
with_template t s = with_templates (t ∷ s.config.templates) s

-- the place of the first of the access points that has the name
abbrev pub IsPlaceOf : List ℕ → List (List ℕ) → ℕ → Type 0
IsPlaceOf name [] place = ⊥
IsPlaceOf name (n ∷ names) zero = n ≡ name
IsPlaceOf name (n ∷ names) (suc place) = (n ≢ name) × IsPlaceOf name names place

-- the same, with this pool of IPv6 addresses
abbrev pub with_prefixes : Prefixes → Settings → Settings
with_prefixes pool s = record s { config = record s.config { pools = record s.config.pools { v6 = pool } } }

-- at most 16 access points, and each time in its range
pub record AreSettings (access_points : List (List ℕ)) (timers : Timers) : Type 0 where
  pub few : length access_points ≤ 16
  pub requests : AreLimits timers.t3 timers.n3
  pub answers : IsHold timers.hold
