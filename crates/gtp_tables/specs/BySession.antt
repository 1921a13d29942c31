-- Bearers by their session.
use Rattle.std.specs.Prelude.{◌≡◌, ℕ, Bool, false, Option, Some, None, nat_eq}
use Rattle.std.specs.FinMap.{get}
use Rattle.std.specs.BTreeSet.{BTreeSet, contains}
use Rattle.gtp_values.specs.FiniteMap.{FiniteMap}
use Rattle.gtp_tables.specs.declared.context.Bearer.{Bearer}
use Rattle.gtp_tables.specs.declared.context.State.TheVariants.{Closing}
use Rattle.gtp_tables.specs.Identity.{has_number}
use Rattle.gtp_tables.specs.Index.{pair_cmp}

-- whether a bearer of this session stands at a place
abbrev pub is_of : ℕ → Option Bearer → Bool
is_of session None = false
is_of session (Some b) = nat_eq b.session session

-- the index has exactly the bearers, each under its session
abbrev pub AreBySession : FiniteMap Bearer → BTreeSet (ℕ × ℕ) → Type 0
AreBySession bearers index = (session own : ℕ) → contains pair_cmp index (session, own) ≡ is_of session (get bearers own)

-- a bearer of this session stands there
pub record IsOfSession (bearers : FiniteMap Bearer) (teid session : ℕ) : Type 0 where
  pub bearer : Bearer
  pub stands : get bearers teid ≡ Some bearer
  pub of : bearer.session ≡ session

-- a bearer of the same session and with the same remote, or with none, stands there
pub record IsInPlace (bearers : FiniteMap Bearer) (teid : ℕ) (b : Bearer) : Type 0 where
  pub bearer : Bearer
  pub stands : get bearers teid ≡ Some bearer
  pub same : bearer.remote ≡ b.remote
  pub of : bearer.session ≡ b.session

-- whether what stands at a place is a bearer of the session, with the identity
abbrev pub with_number : ℕ → ℕ → Option Bearer → Bool
with_number session identity None = false
with_number session identity (Some b) = has_number session identity b

-- the bearer, closing
abbrev pub shut : Bearer → Bearer
shut b = record b { state = Closing }
