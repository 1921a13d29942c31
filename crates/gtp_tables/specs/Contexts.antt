-- Sessions and bearers, and what a restart of the peer leaves of them (TS 23.007 18).
use Rattle.std.specs.Prelude.{ℕ, Bool, true, false, not, ◌&&◌, ◌||◌, List, Option, Some, None, if◌then◌else◌, refl}
use Rattle.std.specs.FinMap as map
use Rattle.std.specs.FinMap.{get}
use Rattle.std.specs.Coded.{Coded, code_by, coded×, coded_ℕ}
use Rattle.gtp_tables.specs.declared.context.Bearer.{Bearer}
use Rattle.gtp_tables.specs.declared.context.Session.{Session}
use Rattle.gtp_tables.specs.declared.context.State.{State}
use Rattle.gtp_tables.specs.declared.context.State.TheVariants.{Pending, Active, Closing}
use Rattle.gtp_values.specs.FiniteMap.{FiniteMap, kept}
use Rattle.gtp_tables.specs.declared.pool.IpVersion.{IpVersion}
use Rattle.gtp_tables.specs.Part.{part_of, are_octets}

-- sessions and bearers, each by own TEID
pub record Contexts : Type 0 where
  pub sessions : FiniteMap Session
  pub bearers : FiniteMap Bearer

-- the state is pending
abbrev pub is_pending : State → Bool
is_pending Pending = true
is_pending Active = false
is_pending Closing = false

-- a session that was opened stands there
abbrev pub is_opened : Option Session → Bool
is_opened None = false
is_opened (Some s) = not (is_pending s.state)

-- The peer has restarted: all active and closing sessions go with their bearers, and pending ones stay.
abbrev pub left : Contexts → Contexts
left c = record {
  sessions = kept (λ t (s : Session). not (is_opened (get c.sessions t))) c.sessions;
  bearers = kept (λ t (b : Bearer). not (is_opened (get c.sessions b.session))) c.bearers;
}

abbrev pub contexts_code : Coded Session → Coded Bearer → Coded Contexts
contexts_code session bearer =
    code_by (FiniteMap Session × FiniteMap Bearer) (coded× (map.code coded_ℕ session) (map.code coded_ℕ bearer))
    (λ c. (c.sessions, c.bearers)) (λ p. record { sessions = p.0; bearers = p.1 }) (λ _. refl)

-- all that stands, or what a restart leaves of it
abbrev pub seen : Bool → Contexts → Contexts
seen restarted c = if restarted then left c else c

-- whether a session is seen: a pending one also after a restart
abbrev pub is_seen : Bool → Session → Bool
is_seen restarted s = not restarted || is_pending s.state

-- whether a session is seen that has the address, as its part of this version
abbrev pub takes : Bool → IpVersion → List ℕ → Session → Bool
takes restarted version address s = is_seen restarted s && are_octets address (part_of version s.address)

-- whether the bearers of what stands there are seen: those of an opened session not after a restart
abbrev pub are_seen : Bool → Option Session → Bool
are_seen restarted there = not restarted || not (is_opened there)
