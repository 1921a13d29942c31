-- Sessions, bearers and requests that go, as the machine's finite maps.
use Rattle.std.proofs.Common.{◌≡◌, ℕ, Bool, true, false, cond, List, [], ◌∷◌, map, Option, Some, None, refl, sym, ◌∙◌, ap, subst, arith}
use Rattle.std.specs.Prelude.{◌==◌, ◌||◌, not, filter}
use Rattle.std.proofs.lemmas.Bool.Decides.{nat_tests}
use Rattle.std.proofs.lemmas.List.Elements.{All-filter}
use Rattle.std.specs.FinMap.{get, remove, get-remove, find, get-from_entries, same_map, nat_cmp-IsAntisymmetric}
use Rattle.std.specs.Ordering.{nat_cmp, eq_by_cmp}
use Rattle.std.specs.Cmp.{nat_cmp_total}
use Rattle.gtp_values.specs.declared.address.Ip.{Ip}
use Rattle.gtp_values.specs.FiniteMap.{FiniteMap, kept}
use Rattle.gtp_tables.proofs.Kept.{passing, get_kept}
use Rattle.gtp_reliable.specs.Waiting.{Waiting}
use Rattle.gtp_reliable.specs.Pending.{is_pending, AreDistinct}
use Rattle.gtp_machine.specs.Node.{PendingRequest}
use Rattle.gtp_machine.proofs.Basics.Counting.{tied}
use Rattle.gtp_gateway.specs.declared.command.purpose.Purpose.{Purpose}
use Rattle.gtp_gateway.specs.Parts.{pending_of, pending_in}
use Rattle.gtp_gateway.specs.messages.Spelled.{IsAsked, AreAsked}
use Rattle.gtp_gateway.proofs.Requests.{not_found}

-- ---- sessions and bearers

-- an entry passes each test that is true of all
passes_all : {X : Type 0} (test : ℕ → X → Bool) (q : ℕ) (o : Option X) → ((x : X) → test q x ≡ true) → o ≡ passing test q o
passes_all test q None each = refl
passes_all test q (Some x) each = rw (each x) refl

-- nothing goes by a test that is true of all
pub all_kept : {X : Type 0} (test : ℕ → X → Bool) (m : FiniteMap X) → ((q : ℕ) (x : X) → test q x ≡ true) → m ≡ kept test m
all_kept test m each = same_map nat_cmp_total nat_cmp-IsAntisymmetric _ _ (λ q. passes_all test q (get m q) (each q) ∙ sym (get_kept test m q))

gone : {X : Type 0} (test : ℕ → X → Bool) (q : ℕ) (o : Option X) → ((x : X) → test q x ≡ false) → None ≡ passing test q o
gone test q None each = refl
gone test q (Some x) each = rw (each x) refl

same_key : (a b : ℕ) → eq_by_cmp nat_cmp a b ≡ true → (a == b) ≡ true
same_key a b h = grind (arith, nat_tests)

other_key : (a b : ℕ) → eq_by_cmp nat_cmp a b ≡ false → (a == b) ≡ false
other_key a b h = grind (arith, nat_tests)

-- what stands under one key goes, by a test that looks at the key alone
pub one_removed : {X : Type 0} (test : ℕ → X → Bool) (m : FiniteMap X) (k : ℕ) → ((q : ℕ) (x : X) → (q == k) ≡ true → test q x ≡ false)
    → ((q : ℕ) (x : X) → (q == k) ≡ false → test q x ≡ true) → remove m k ≡ kept test m
one_removed {X} test m k goes stay = same_map nat_cmp_total nat_cmp-IsAntisymmetric _ _ (λ q. at q (eq_by_cmp nat_cmp q k) refl ∙ sym (get_kept test m q))
  where
    at : (q : ℕ) (b : Bool) → eq_by_cmp nat_cmp q k ≡ b → get (remove m k) q ≡ passing test q (get m q)
    at q true is = get-remove nat_cmp_total m k q ∙ (ap (λ (b : Bool). cond b None (get m q)) is ∙ gone test q (get m q) (λ x. goes q x (same_key q k is)))
    at q false is = get-remove nat_cmp_total m k q ∙ (ap (λ (b : Bool). cond b None (get m q)) is ∙ passes_all test q (get m q) (λ x. stay q x (other_key q k is)))

pub session_kept : {X : Type 0} (m : FiniteMap X) (k : ℕ) → remove m k ≡ kept (λ t x. not (t == k)) m
session_kept m k = one_removed (λ t x. not (t == k)) m k (λ q x is. rw is refl) (λ q x is. rw is refl)

pub bearer_kept : {X : Type 0} (m : FiniteMap X) (k : ℕ) → remove m k ≡ kept (λ t x. not ((t == k) || false)) m
bearer_kept m k = one_removed (λ t x. not ((t == k) || false)) m k (λ q x is. rw is refl) (λ q x is. rw is refl)

-- ---- requests

module _ (test : PendingRequest → Bool) where
  -- the requests that pass
  abbrev pub passed : List (Waiting Purpose) → List (Waiting Purpose)
  passed ws = filter (λ w. test (pending_of w).1) ws

  found : (ws : List (Waiting Purpose)) (q : ℕ) → AreDistinct ws → find nat_cmp q (map pending_of (passed ws)) ≡ passing (λ _ p. test p) q (find nat_cmp q (map pending_of ws))
  found [] q d = refl
  found (w ∷ ws) q d = by (eq_by_cmp nat_cmp q w.seq) (test (pending_of w).1) refl refl (found ws q d.1)
    where
      by : (same keeps : Bool) → eq_by_cmp nat_cmp q w.seq ≡ same → test (pending_of w).1 ≡ keeps
          → find nat_cmp q (map pending_of (passed ws)) ≡ passing (λ _ p. test p) q (find nat_cmp q (map pending_of ws))
          → find nat_cmp q (map pending_of (cond keeps (w ∷ passed ws) (passed ws))) ≡ passing (λ _ p. test p) q (cond same (Some (pending_of w).1) (find nat_cmp q (map pending_of ws)))
      by true true is keep rest = rw (is, keep) refl
      by true false is keep rest =
          let none : find nat_cmp q (map pending_of ws) ≡ None = not_found ws q (subst (λ (n : ℕ). is_pending n ws ≡ false) (sym (tied q w.seq is)) d.0) in
          rest ∙ (ap (passing (λ _ (p : PendingRequest). test p) q) none ∙ sym (ap (λ (b : Bool). cond b (Some (pending_of w).1) None) keep))
      by false true is keep rest = rw is rest
      by false false is keep rest = rest

  -- what waits on are the requests that pass
  pub pending_kept : (ws : List (Waiting Purpose)) → AreDistinct ws → pending_in (passed ws) ≡ kept (λ _ p. test p) (pending_in ws)
  pending_kept ws d = same_map nat_cmp_total nat_cmp-IsAntisymmetric _ _ (λ q.
      get-from_entries nat_cmp_total (map pending_of (passed ws)) q
      ∙ (found ws q d
      ∙ (ap (passing (λ _ (p : PendingRequest). test p) q) (sym (get-from_entries nat_cmp_total (map pending_of ws) q))
      ∙ sym (get_kept (λ _ (p : PendingRequest). test p) (pending_in ws) q))))

-- the requests that stay are kept as they are spelled
pub asked_stay : (peer : Ip) (stays : Waiting Purpose → Bool) (ws left : List (Waiting Purpose)) → left ≡ filter stays ws → AreAsked peer ws → AreAsked peer left
asked_stay peer stays ws left is asked = subst (AreAsked peer) (sym is) (All-filter stays (IsAsked peer) ws asked)

both : (q n m : ℕ) → eq_by_cmp nat_cmp q m ≡ true → (m == n) ≡ true → eq_by_cmp nat_cmp q n ≡ true
both q n m a b = grind (arith, nat_tests)

other : (q n m : ℕ) → eq_by_cmp nat_cmp q m ≡ true → (m == n) ≡ false → eq_by_cmp nat_cmp q n ≡ false
other q n m a b = grind (arith, nat_tests)

abbrev without : ℕ → List (Waiting Purpose) → List (Waiting Purpose)
without n ws = filter (λ w. not (w.seq == n)) ws

found_without : (ws : List (Waiting Purpose)) (n q : ℕ) → find nat_cmp q (map pending_of (without n ws)) ≡ cond (eq_by_cmp nat_cmp q n) None (find nat_cmp q (map pending_of ws))
found_without [] n q = by (eq_by_cmp nat_cmp q n)
  where
    by : (b : Bool) → ◌≡◌ {A = Option PendingRequest} None (cond b None None)
    by true = refl
    by false = refl
found_without (w ∷ ws) n q = by (w.seq == n) (eq_by_cmp nat_cmp q w.seq) (eq_by_cmp nat_cmp q n) refl refl refl (found_without ws n q)
  where
    by : (goes same is : Bool) → (w.seq == n) ≡ goes → eq_by_cmp nat_cmp q w.seq ≡ same → eq_by_cmp nat_cmp q n ≡ is
        → find nat_cmp q (map pending_of (without n ws)) ≡ cond is None (find nat_cmp q (map pending_of ws))
        → find nat_cmp q (map pending_of (cond (not goes) (w ∷ without n ws) (without n ws))) ≡ cond is None (cond same (Some (pending_of w).1) (find nat_cmp q (map pending_of ws)))
    by true true false a b c rest = absurd (let t : true ≡ false = sym (both q n w.seq b a) ∙ c in cc)
    by true same is a b c rest = rest
    by false true true a b c rest = absurd (let t : true ≡ false = sym c ∙ other q n w.seq b a in cc)
    by false true false a b c rest = rw b refl
    by false false is a b c rest = rw b rest

-- without the request of one number
pub pending_removed : (ws : List (Waiting Purpose)) (n : ℕ) → pending_in (without n ws) ≡ remove (pending_in ws) n
pending_removed ws n = same_map nat_cmp_total nat_cmp-IsAntisymmetric _ _ (λ q.
    get-from_entries nat_cmp_total (map pending_of (without n ws)) q
    ∙ (found_without ws n q
    ∙ (ap (λ (o : Option PendingRequest). cond (eq_by_cmp nat_cmp q n) None o) (sym (get-from_entries nat_cmp_total (map pending_of ws) q))
    ∙ sym (get-remove nat_cmp_total (pending_in ws) n q))))
