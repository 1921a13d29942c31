-- Requests that wait, as the machine's finite map.
use Rattle.std.proofs.Common.{◌≡◌, inl, inr, ℕ, ◌≤◌, Bool, true, false, cond, filter, List, [], ◌∷◌, ◌++◌, length, map, Option, Some, None, refl, sym, ◌∙◌, ap, subst, arith}
use Rattle.std.specs.Prelude.{◌==◌, All}
use Rattle.std.specs.List.{list_any, AllByRecursion}
use Rattle.std.proofs.lemmas.List.Elements.{All-from_recursion, recursion_from_All}
use Rattle.std.proofs.lemmas.List.{map_push}
use Rattle.std.proofs.lemmas.Bool.Decides.{nat_tests}
use Rattle.std.specs.FinMap.{find, get, insert, len, from_entries, from_entries_push, get-from_entries, len-empty, gets, nat_cmp-IsAntisymmetric}
use Rattle.std.specs.Ordering.{nat_cmp}
use Rattle.std.specs.Cmp.{nat_cmp_total}
use Rattle.std.proofs.lemmas.Bool.{or_parts}
use Rattle.gtp_values.specs.FiniteMap.{Among}
use Rattle.gtp_values.proofs.Outcomes.{none_some}
use Rattle.gtp_values.proofs.Tests.{itself, same_number}
use Rattle.gtp_tables.proofs.Rows.{turned}
use Rattle.gtp_reliable.specs.Waiting.{Waiting}
use Rattle.gtp_reliable.specs.Pending.{is_pending, AreDistinct, IsNextFree}
use Rattle.gtp_machine.specs.Node.{PendingRequest}
use Rattle.gtp_gateway.specs.declared.command.purpose.Purpose.{Purpose}
use Rattle.gtp_gateway.specs.Parts.{pending_of, pending_in}

pub not_found : (ws : List (Waiting Purpose)) (n : ℕ) → is_pending n ws ≡ false → find nat_cmp n (map pending_of ws) ≡ None
unfolding is_pending
not_found [] n h = refl
not_found (w ∷ ws) n h =
    let both = or_parts (w.seq == n) (list_any (λ (x : Waiting Purpose). x.seq == n) ws) h in
    ap (λ (b : Bool). cond b (Some (pending_of w).1) (find nat_cmp n (map pending_of ws))) (turned n w.seq ∙ both.0) ∙ not_found ws n both.1

-- under a number that no request has nothing stands
pub none_pending : (ws : List (Waiting Purpose)) (n : ℕ) → is_pending n ws ≡ false → get (pending_in ws) n ≡ None
none_pending ws n free = get-from_entries nat_cmp_total (map pending_of ws) n ∙ not_found ws n free

-- what stands after a first request: it, or what stands among the others
first_found : (w : Waiting Purpose) (ws : List (Waiting Purpose)) (n : ℕ) → find nat_cmp n (map pending_of (w ∷ ws)) ≡ cond (w.seq == n) (Some (pending_of w).1) (find nat_cmp n (map pending_of ws))
first_found w ws n = ap (λ (b : Bool). cond b (Some (pending_of w).1) (find nat_cmp n (map pending_of ws))) (turned n w.seq)

later_found : (w : Waiting Purpose) (ws : List (Waiting Purpose)) (n : ℕ) (p : PendingRequest) → is_pending w.seq ws ≡ false
    → find nat_cmp n (map pending_of ws) ≡ Some p → find nat_cmp n (map pending_of (w ∷ ws)) ≡ Some p
later_found w ws n p apart found = first_found w ws n ∙ by (w.seq == n) refl
  where
    by : (here : Bool) → (w.seq == n) ≡ here → cond here (Some (pending_of w).1) (find nat_cmp n (map pending_of ws)) ≡ Some p
    by true is = absurd (none_some p (sym (subst (λ (k : ℕ). find nat_cmp k (map pending_of ws) ≡ None) (same_number w.seq n is) (not_found ws w.seq apart)) ∙ found))
    by false is = found

kept_found : (stays : Waiting Purpose → Bool) (ws : List (Waiting Purpose)) (n : ℕ) (p : PendingRequest) → AreDistinct ws
    → find nat_cmp n (map pending_of (filter stays ws)) ≡ Some p → find nat_cmp n (map pending_of ws) ≡ Some p
kept_found stays [] n p distinct found = found
kept_found stays (w ∷ ws) n p distinct found = by (stays w) (λ e. later_found w ws n p distinct.0 (kept_found stays ws n p distinct.1 e)) found
  where
    first : (here : Bool) → (find nat_cmp n (map pending_of (filter stays ws)) ≡ Some p → find nat_cmp n (map pending_of (w ∷ ws)) ≡ Some p)
        → (w.seq == n) ≡ here → cond here (Some (pending_of w).1) (find nat_cmp n (map pending_of (filter stays ws))) ≡ Some p
        → find nat_cmp n (map pending_of (w ∷ ws)) ≡ Some p
    first true later is e = first_found w ws n ∙ (ap (λ (b : Bool). cond b (Some (pending_of w).1) (find nat_cmp n (map pending_of ws))) is ∙ e)
    first false later is e = later e

    by : (b : Bool) → (find nat_cmp n (map pending_of (filter stays ws)) ≡ Some p → find nat_cmp n (map pending_of (w ∷ ws)) ≡ Some p)
        → find nat_cmp n (map pending_of (cond b (w ∷ filter stays ws) (filter stays ws))) ≡ Some p
        → find nat_cmp n (map pending_of (w ∷ ws)) ≡ Some p
    by true later e = first (w.seq == n) later refl (sym (first_found w (filter stays ws) n) ∙ e)
    by false later e = later e

-- what stands among those that stay stood there
pub found_before : (stays : Waiting Purpose → Bool) (ws : List (Waiting Purpose)) (n : ℕ) (p : PendingRequest) → AreDistinct ws
    → get (pending_in (filter stays ws)) n ≡ Some p → get (pending_in ws) n ≡ Some p
found_before stays ws n p distinct found =
    get-from_entries nat_cmp_total (map pending_of ws) n
    ∙ kept_found stays ws n p distinct (sym (get-from_entries nat_cmp_total (map pending_of (filter stays ws)) n) ∙ found)

-- each that waits stands under its number
each_by_recursion : {P : Waiting Purpose → Type 0} (ws : List (Waiting Purpose)) → AreDistinct ws
    → ((w : Waiting Purpose) → get (pending_in ws) w.seq ≡ Some (pending_of w).1 → P w) → AllByRecursion P ws
each_by_recursion [] distinct holds = tt
each_by_recursion (w ∷ ws) distinct holds = (
  holds w (get-from_entries nat_cmp_total (map pending_of (w ∷ ws)) w.seq
      ∙ (first_found w ws w.seq ∙ ap (λ (b : Bool). cond b (Some (pending_of w).1) (find nat_cmp w.seq (map pending_of ws))) (itself w.seq))),
  each_by_recursion ws distinct.1 (λ v found. holds v (get-from_entries nat_cmp_total (map pending_of (w ∷ ws)) v.seq
      ∙ later_found w ws v.seq (pending_of v).1 distinct.0 (sym (get-from_entries nat_cmp_total (map pending_of ws) v.seq) ∙ found))),
)

pub each_found : {P : Waiting Purpose → Type 0} (ws : List (Waiting Purpose)) → AreDistinct ws → ((w : Waiting Purpose) → get (pending_in ws) w.seq ≡ Some (pending_of w).1 → P w) → All P ws
each_found {P} ws distinct holds = All-from_recursion P ws (each_by_recursion ws distinct holds)

-- what holds of each holds of one among them
pub of_among : (P : Waiting Purpose → Type 0) (ws : List (Waiting Purpose)) (w : Waiting Purpose) → AllByRecursion P ws → Among w ws → P w
of_among P [] w each among = absurd among
of_among P (v ∷ ws) w each (inl is) = subst P (sym is) each.0
of_among P (v ∷ ws) w each (inr there) = of_among P ws w each.1 there

pub stands_there : (ws : List (Waiting Purpose)) (w : Waiting Purpose) → AreDistinct ws → Among w ws → get (pending_in ws) w.seq ≡ Some (pending_of w).1
stands_there ws w distinct among = of_among (λ v. get (pending_in ws) v.seq ≡ Some (pending_of v).1) ws w (each_by_recursion ws distinct (λ v found. found)) among

of_first : (P : PendingRequest → Type 0) (x p : PendingRequest) (here : Bool) (rest : Option PendingRequest) → cond here (Some x) rest ≡ Some p → P x → (rest ≡ Some p → P p) → P p
of_first P x p true rest is first later = let same : x ≡ p = cc in subst P same first
of_first P x p false rest is first later = later is

found_by_recursion : (P : PendingRequest → Type 0) (ws : List (Waiting Purpose)) (n : ℕ) (p : PendingRequest)
    → AllByRecursion (λ (w : Waiting Purpose). P (pending_of w).1) ws → find nat_cmp n (map pending_of ws) ≡ Some p → P p
found_by_recursion P [] n p all found = absurd (none_some p found)
found_by_recursion P (w ∷ ws) n p all found =
    of_first P (pending_of w).1 p (w.seq == n) (find nat_cmp n (map pending_of ws)) (sym (first_found w ws n) ∙ found) all.0
    (found_by_recursion P ws n p all.1)

-- what holds of each that waits holds of what stands under a number
pub of_found : (P : PendingRequest → Type 0) (ws : List (Waiting Purpose)) (n : ℕ) (p : PendingRequest) → All (λ (w : Waiting Purpose). P (pending_of w).1) ws → get (pending_in ws) n ≡ Some p → P p
of_found P ws n p all found = found_by_recursion P ws n p (recursion_from_All (λ (w : Waiting Purpose). P (pending_of w).1) ws all) (sym (get-from_entries nat_cmp_total (map pending_of ws) n) ∙ found)

-- there are as many as wait
pub len_pending : (ws : List (Waiting Purpose)) → AreDistinct ws → len (pending_in ws) ≡ length ws
len_pending [] d = len-empty nat_cmp PendingRequest
len_pending (w ∷ ws) d =
    let none : get (pending_in ws) w.seq ≡ None = none_pending ws w.seq d.0 in
    let rest = len_pending ws d.1 in
    grind (arith, gets, nat_tests, none, rest)

-- one more request
pub pending_push : (ws : List (Waiting Purpose)) (w : Waiting Purpose) (p : PendingRequest) → is_pending w.seq ws ≡ false → (pending_of w).1 ≡ p
    → pending_in (ws ++ w ∷ []) ≡ insert (pending_in ws) w.seq p
pending_push ws w p free is =
    ap (from_entries {R = nat_cmp}) (map_push pending_of ws w)
    ∙ from_entries_push nat_cmp_total nat_cmp-IsAntisymmetric (map pending_of ws) w.seq (pending_of w).1 (not_found ws w.seq free)
    ∙ ap (insert (pending_in ws) w.seq) is

-- a number that is free for a request is small
pub small_number : (start : ℕ) (ws : List (Waiting Purpose)) (n : ℕ) → IsNextFree start ws n → n ≤ 8388607
small_number start ws n next = let place = next.place in omega arith
