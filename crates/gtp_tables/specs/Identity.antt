-- EPS bearer identities that the bearers of a session have.
use Rattle.std.specs.Prelude.{◌≡◌, ◌≢◌, ◌==◌, ℕ, ◌≤◌, ◌<◌, Bool, ◌&&◌, nat_eq, Some, if◌then◌else◌}
use Rattle.std.specs.FinMap.{get}
use Rattle.gtp_values.specs.Ebi.{IsEbi}
use Rattle.gtp_tables.specs.declared.context.Bearer.{Bearer}
use Rattle.gtp_tables.specs.declared.context.State.TheVariants.{Closing}
use Rattle.gtp_values.specs.FiniteMap.{FiniteMap}
use Rattle.gtp_values.specs.Number.{is_number}

-- a bearer of the session has the identity, whatever its state
pub record HasIdentity (bearers : FiniteMap Bearer) (session identity : ℕ) : Type 0 where
  pub teid : ℕ
  pub bearer : Bearer
  pub stands : get bearers teid ≡ Some bearer
  pub of : bearer.session ≡ session
  pub has : bearer.identity ≡ Some identity

-- the bearer of the session under this TEID has the identity, and none under a lower one
pub record IsBearerWith (bearers : FiniteMap Bearer) (session identity teid : ℕ) : Type 0 where
  pub bearer : Bearer
  pub stands : get bearers teid ≡ Some bearer
  pub of : bearer.session ≡ session
  pub has : bearer.identity ≡ Some identity
  pub lowest : (t : ℕ) (b : Bearer) → get bearers t ≡ Some b → b.session ≡ session → b.identity ≡ Some identity → teid ≤ t

-- no bearer of the session has the identity
abbrev pub IsUnused : FiniteMap Bearer → ℕ → ℕ → Type 0
IsUnused bearers session identity = (t : ℕ) (b : Bearer) → get bearers t ≡ Some b → b.session ≡ session → b.identity ≢ Some identity

-- an identity that no bearer of the session has, and bearers of it have all lower ones
pub record IsLowestUnused (bearers : FiniteMap Bearer) (session identity : ℕ) : Type 0 where
  pub range : IsEbi identity
  pub unused : IsUnused bearers session identity
  pub lower : (i : ℕ) → 5 ≤ i → i < identity → HasIdentity bearers session i

-- bearers of the session have all identities
abbrev pub HasAll : FiniteMap Bearer → ℕ → Type 0
HasAll bearers session = (i : ℕ) → IsEbi i → HasIdentity bearers session i

-- whether it is a bearer of the session, with the identity
abbrev pub has_number : ℕ → ℕ → Bearer → Bool
has_number session identity b = nat_eq b.session session && is_number identity b.identity

-- each bearer of the session is closing, whatever it was
abbrev pub closing_bearer : ℕ → Bearer → Bearer
closing_bearer session b = if b.session == session then record b { state = Closing } else b
