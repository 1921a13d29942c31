-- The default bearer of a session among the bearers with a remote.
use Rattle.std.proofs.Common.{◌≡◌, ℕ, ◌<◌, ◌≤◌, ◌-◌, ◌&&◌, true, false, Option, Some, None, refl, sym, ap, ◌∙◌, nat_eq, arith}
use Rattle.std.specs.Prelude.{IfSome, IfNone}
use Rattle.std.specs.FinMap.{get}
use Rattle.gtp_values.specs.declared.identifiers.Teid.{Teid}
use Rattle.gtp_tables.specs.declared.context.Bearer.{Bearer}
use Rattle.gtp_tables.specs.declared.context.Kind.{Kind}
use Rattle.gtp_tables.specs.declared.context.Kind.TheVariants.{Default, Dedicated}
use Rattle.gtp_values.specs.FiniteMap.{FiniteMap}
use Rattle.gtp_tables.specs.Index.{HasRemote, HasDefault, IsUnnamed, is_default, default_of}
use Rattle.gtp_values.proofs.Tests.{both, itself, same_number}

-- the bearer that is looked at next is not past this TEID
abbrev pub IsAhead : Option Teid → ℕ → Type 0
IsAhead None t = ⊥
IsAhead (Some next) t = next ≤ t

-- how many TEIDs there are from the one that is looked at next
abbrev pub left_from : Option Teid → ℕ
left_from None = 0
left_from (Some next) = 4294967296 - next

pub kind_is : (k : Kind) → is_default k ≡ true → k ≡ Default
kind_is Default h = refl
kind_is Dedicated h = absurd cc

-- a default bearer that was found
pub has_default : (m : FiniteMap Bearer) (remote session teid : ℕ) → HasRemote m remote teid → default_of session (get m teid) ≡ true → HasDefault m remote session
has_default m remote session teid at is =
    let parts = both (is_default at.bearer.kind) (nat_eq at.bearer.session session) (ap (default_of session) (sym at.stands) ∙ is) in
    record { teid = teid; at = at; default = kind_is at.bearer.kind parts.left; of = same_number at.bearer.session session parts.right }

is_found : (m : FiniteMap Bearer) (remote session : ℕ) (d : HasDefault m remote session) → default_of session (get m d.teid) ≡ true
is_found m remote session d =
    ap (default_of session) d.at.stands
    ∙ (ap (λ (k : Kind). is_default k && nat_eq d.at.bearer.session session) d.default
    ∙ (ap (λ (n : ℕ). nat_eq n session) d.of ∙ itself session))

module _ (m : FiniteMap Bearer) (remote session : ℕ) (d : HasDefault m remote session) where
  -- it is not before the first one
  pub ahead_first : (o : Option Teid) → IfSome o (λ teid. (t : ℕ) → HasRemote m remote t → teid ≤ t) → IfNone o (IsUnnamed m remote) → IsAhead o d.teid
  ahead_first None lowest none = none d.teid d.at.bearer d.at.stands d.at.has
  ahead_first (Some teid) lowest none = lowest d.teid d.at

  past_other : (t : ℕ) → t ≤ d.teid → default_of session (get m t) ≡ false → t < d.teid
  past_other t upto is =
      let other : t ≡ d.teid → ⊥ = λ here. (let wrong : true ≡ false = sym (is_found m remote session d) ∙ (ap (λ (k : ℕ). default_of session (get m k)) (sym here) ∙ is) in cc) in
      omega (arith, upto, other)

  -- where it is not the one that was looked at, it is not before the next one
  pub ahead_next : (t : Teid) (o : Option Teid) → t ≤ d.teid → default_of session (get m t) ≡ false
      → IfSome o (λ teid. (k : ℕ) → t < k → HasRemote m remote k → teid ≤ k) → IfNone o ((k : ℕ) → t < k → HasRemote m remote k → ⊥)
      → IsAhead o d.teid
  ahead_next t None upto is next none = none d.teid (past_other t upto is) d.at
  ahead_next t (Some teid) upto is next none = next d.teid (past_other t upto is) d.at
