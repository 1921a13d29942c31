-- Bearers by the peer's TEID.
use Rattle.std.specs.Prelude.{◌≡◌, ◌≢◌, ℕ, ◌&&◌, Bool, true, false, Option, Some, None, nat_eq}
use Rattle.std.specs.FinMap.{get}
use Rattle.std.specs.declared.cmp.Ordering.{Ordering}
use Rattle.std.specs.Ordering.{nat_cmp, ordering_then}
use Rattle.std.specs.BTreeSet.{BTreeSet, contains}
use Rattle.gtp_tables.specs.declared.context.Bearer.{Bearer}
use Rattle.gtp_tables.specs.declared.context.Kind.{Kind}
use Rattle.gtp_tables.specs.declared.context.Kind.TheVariants.{Default, Dedicated}
use Rattle.gtp_values.specs.FiniteMap.{FiniteMap}
use Rattle.gtp_values.specs.Number.{is_number}

-- by remote and then by own TEID
abbrev pub pair_cmp : ℕ × ℕ → ℕ × ℕ → Ordering
pair_cmp p q = ordering_then (nat_cmp p.0 q.0) (nat_cmp p.1 q.1)

-- the remote of what stands at a place
abbrev pub remote_at : Option Bearer → Option ℕ
remote_at None = None
remote_at (Some b) = b.remote

-- whether a bearer with this remote stands at a place
abbrev pub names : ℕ → Option Bearer → Bool
names remote None = false
names remote (Some b) = is_number remote b.remote

-- the index has exactly the bearers that have a remote
abbrev pub IsIndexed : FiniteMap Bearer → BTreeSet (ℕ × ℕ) → Type 0
IsIndexed bearers index = (remote own : ℕ) → contains pair_cmp index (remote, own) ≡ names remote (get bearers own)

-- a bearer has this remote
pub record HasRemote (bearers : FiniteMap Bearer) (remote teid : ℕ) : Type 0 where
  pub bearer : Bearer
  pub stands : get bearers teid ≡ Some bearer
  pub has : bearer.remote ≡ Some remote

-- the default bearer of a session has this remote
pub record HasDefault (bearers : FiniteMap Bearer) (remote session : ℕ) : Type 0 where
  pub teid : ℕ
  pub at : HasRemote bearers remote teid
  pub default : at.bearer.kind ≡ Default
  pub of : at.bearer.session ≡ session

-- the bearer is the default one
abbrev pub is_default : Kind → Bool
is_default Default = true
is_default Dedicated = false

-- whether what stands at a place is the default bearer of the session
abbrev pub default_of : ℕ → Option Bearer → Bool
default_of session None = false
default_of session (Some b) = is_default b.kind && nat_eq b.session session

-- no bearer has this remote
abbrev pub IsUnnamed : FiniteMap Bearer → ℕ → Type 0
IsUnnamed bearers remote = (t : ℕ) (b : Bearer) → get bearers t ≡ Some b → b.remote ≢ Some remote

-- a bearer without a remote stands there
pub record IsUnopened (bearers : FiniteMap Bearer) (teid : ℕ) : Type 0 where
  pub bearer : Bearer
  pub stands : get bearers teid ≡ Some bearer
  pub blank : bearer.remote ≡ None

-- a bearer with this remote, or with none, stands there
pub record IsAt (bearers : FiniteMap Bearer) (teid : ℕ) (remote : Option ℕ) : Type 0 where
  pub bearer : Bearer
  pub stands : get bearers teid ≡ Some bearer
  pub same : bearer.remote ≡ remote
