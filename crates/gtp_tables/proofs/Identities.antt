-- Identities that bearers of a session have.
use Rattle.std.proofs.Common.{◌≡◌, ◌<◌, ℕ, true, false, Option, Some, None, ap, ◌∙◌, nat_eq}
use Rattle.std.specs.Prelude.{slice_get, is_some, IfSome}
use Rattle.std.specs.FinMap.{entries}
use Rattle.std.proofs.lemmas.Bool.{and_from}
use Rattle.gtp_tables.specs.declared.context.Bearer.{Bearer}
use Rattle.gtp_values.specs.declared.identifiers.Teid.{Teid}
use Rattle.gtp_values.specs.FiniteMap.{FiniteMap}
use Rattle.gtp_values.specs.Number.{is_number}
use Rattle.gtp_values.proofs.Tests.{both, itself, same_number, number_is}
use Rattle.gtp_tables.specs.Identity.{has_number, HasIdentity, IsUnused, IsBearerWith}
use Rattle.gtp_tables.proofs.Found.{meets_nowhere, meets_from, stands_at}

pub has_it : (session identity : ℕ) (b : Bearer) → b.session ≡ session → b.identity ≡ Some identity → has_number session identity b ≡ true
has_it session identity b of has =
    and_from (nat_eq b.session session) (is_number identity b.identity) (ap (λ (n : ℕ). nat_eq n session) of ∙ itself session)
    (ap (is_number identity) has ∙ itself identity)

-- a bearer that has the identity, and none at an earlier place does
pub is_bearer_with : (m : FiniteMap Bearer) (session identity i : ℕ) (e : ℕ × Bearer) → slice_get (entries m) i ≡ Some e → has_number session identity e.1 ≡ true
    → ((j : ℕ) (f : ℕ × Bearer) → j < i → slice_get (entries m) j ≡ Some f → has_number session identity f.1 ≡ false) → IsBearerWith m session identity e.0
is_bearer_with m session identity i e at meets before =
    let is = both (nat_eq e.1.session session) (is_number identity e.1.identity) meets in
    record {
      bearer = e.1;
      stands = stands_at m i e at;
      of = same_number e.1.session session is.left;
      has = number_is identity e.1.identity is.right;
      lowest = λ t b stands of has. meets_from (has_number session identity) m i e at before t b stands (has_it session identity b of has);
    }

-- bearers at no place have the identity
pub is_unused : (m : FiniteMap Bearer) (session identity : ℕ) → ((j : ℕ) (f : ℕ × Bearer) → slice_get (entries m) j ≡ Some f → has_number session identity f.1 ≡ false) → IsUnused m session identity
is_unused m session identity none t b stands of has =
    let not_it : has_number session identity b ≡ false = meets_nowhere (has_number session identity) m none t b stands in
    let it : has_number session identity b ≡ true = has_it session identity b of has in
    cc

-- where a bearer was found that has the identity, the session has it
pub some_has : (m : FiniteMap Bearer) (session identity : ℕ) (found : Option Teid) → IfSome found (λ teid. IsBearerWith m session identity teid) → is_some found ≡ true → HasIdentity m session identity
some_has m session identity None h is = absurd cc
some_has m session identity (Some teid) h is = record { teid = teid; bearer = h.bearer; stands = h.stands; of = h.of; has = h.has }
