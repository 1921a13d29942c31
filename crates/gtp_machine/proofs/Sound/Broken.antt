-- Which session goes with an Error Indication.
use Rattle.std.proofs.Common.{◌≡◌, ℕ, ◌<◌, true, nat_lt, cond, List, [], ◌∷◌, length, Some, refl, sym, ◌∙◌, ap, subst, arith}
use Rattle.std.proofs.lemmas.Bool.Decides.{nat_tests}
use Rattle.std.specs.FinMap.{get, len, entries, len-entries, get-entries, find}
use Rattle.std.specs.Ordering.{nat_cmp}
use Rattle.gtp_values.specs.FiniteMap.{FiniteMap, kept}
use Rattle.gtp_tables.proofs.Found.{key_itself}
use Rattle.gtp_machine.specs.Node.{Bearer}
use Rattle.gtp_machine.specs.User.{is_default_to}
use Rattle.gtp_machine.specs.Sound.{BreaksByDefault}
use Rattle.gtp_machine.proofs.Basics.FiniteMaps.{found-kept, get-kept}

-- what stands first in a table
first_there : {X : Type 0} (m : FiniteMap X) (es : List (ℕ × X)) → entries m ≡ es → 0 < length es → (key : ℕ) × (x : X) × (get m key ≡ Some x)
first_there m [] is some = absurd (omega (arith, some))
first_there m (e ∷ es) is some = (e.0, e.1, get-entries m e.0 ∙ ap (find nat_cmp e.0) is ∙ ap (λ b. cond b (Some e.1) (find nat_cmp e.0 es)) (key_itself e.0))

some_there : {X : Type 0} (m : FiniteMap X) → nat_lt 0 (len m) ≡ true → (key : ℕ) × (x : X) × (get m key ≡ Some x)
some_there m more = let some : 0 < length (entries m) = subst (λ n. 0 < n) (len-entries m) (let lt : 0 < len m = grind (arith, nat_tests) in lt) in first_there m (entries m) refl some

-- a table with an entry has some
has_some : {X : Type 0} (m : FiniteMap X) (key : ℕ) (x : X) → get m key ≡ Some x → nat_lt 0 (len m) ≡ true
has_some {X = X} m key x stands =
    let some = more (entries m) (sym (get-entries m key) ∙ stands) in
    let lt : 0 < len m = subst (λ n. 0 < n) (sym (len-entries m)) some in
    grind (arith, nat_tests)
  where
    more : (es : List (ℕ × X)) → find nat_cmp key es ≡ Some x → 0 < length es
    more [] none = absurd (cc none)
    more (e ∷ es) found = omega arith

pub breaks_by_default : BreaksByDefault
breaks_by_default remote session bearers = (
  λ is. let at = some_there (kept (λ t (b : Bearer). is_default_to remote session b) bearers) is in
      let passes = found-kept (λ t (b : Bearer). is_default_to remote session b) bearers at.0 at.1 at.2 in
      (at.0, at.1, passes.1, passes.0),
  λ at. has_some (kept (λ t (b : Bearer). is_default_to remote session b) bearers) at.0 at.1 (get-kept (λ t (b : Bearer). is_default_to remote session b) bearers at.0 at.1 at.2 at.3),
)
