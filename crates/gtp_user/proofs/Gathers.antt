-- Elements read one after the other, as a loop does, and the first one of each type.
use Rattle.std.proofs.Common.{◌≡◌, ℕ, zero, suc, ◌-◌, ◌<◌, ◌≤◌, Bool, true, false, List, [], ◌∷◌, length, Option, Some, None, Result, Ok, Err, refl, sym, ap, ◌∙◌, arith}
use Rattle.std.specs.Prelude.{◌||◌}
use Rattle.gtp_user.specs.declared.fault.UserFault.{UserFault}
use Rattle.gtp_user.specs.declared.fault.UserFault.TheVariants as faults
use Rattle.gtp_values.specs.Steps.{◌>>=◌}
use Rattle.gtp_user.specs.Element.{Element, Recovery, TeidData, Peer, Types, Skipped, has_recovery, first_teid, first_peer, first_types}
use Rattle.gtp_user.specs.reading.Elements.{Found, found_in, or_else, and_found, elements_at, elements_in, element_at, go_on}
use Rattle.gtp_user.specs.reading.Gathered.{found_at}
use Rattle.gtp_user.proofs.Begun.{element_shorter}

-- what follows an element, where both ways agree on what follows
go_on_alike : (at : ℕ) (f g : List ℕ → Result (List Element) UserFault) (o : Option (Element × List ℕ))
    → ((e : Element) (rest : List ℕ) → o ≡ Some (e, rest) → f rest ≡ g rest) → go_on at f o ≡ go_on at g o
go_on_alike at f g None h = refl
go_on_alike at f g (Some p) h = ap (λ r. r >>= λ es. Ok (p.0 ∷ es)) (h p.0 p.1 refl)

-- steps beyond the length change nothing
pub in_enough : (n m end : ℕ) (octets : List ℕ) → length octets ≤ n → length octets ≤ m → elements_in n end octets ≡ elements_in m end octets
unfolding elements_in
in_enough n m end [] l k = refl
in_enough zero m end (x ∷ xs) l k = absurd (omega arith)
in_enough (suc n) zero end (x ∷ xs) l k = absurd (omega arith)
in_enough (suc n) (suc m) end (x ∷ xs) l k =
    go_on_alike (end - length (x ∷ xs)) (elements_in n end) (elements_in m end) (element_at (x ∷ xs)) (λ e rest h.
    let s = element_shorter (x ∷ xs) e rest h in
    in_enough n m end rest (omega (arith, s)) (omega (arith, s)))

-- one element
elements_on : (end : ℕ) (octets : List ℕ) (e : Element) (rest : List ℕ) → element_at octets ≡ Some (e, rest) → elements_at end octets ≡ (elements_at end rest >>= λ es. Ok (e ∷ es))
unfolding elements_in elements_at element_at
elements_on end [] e rest h = absurd cc
elements_on end (x ∷ xs) e rest h =
    let s = element_shorter (x ∷ xs) e rest h in
    ap (go_on (end - length (x ∷ xs)) (elements_in (length xs) end)) h
    ∙ ap (λ r. r >>= λ es. Ok (e ∷ es)) (in_enough (length xs) (length rest) end rest (omega (arith, s)) (omega arith))

-- no element
elements_stop : (end : ℕ) (octets : List ℕ) → 0 < length octets → element_at octets ≡ None → elements_at end octets ≡ Err (faults.Element (end - length octets))
unfolding elements_in elements_at
elements_stop end [] l h = absurd (omega arith)
elements_stop end (x ∷ xs) l h = ap (go_on (end - length (x ∷ xs)) (elements_in (length xs) end)) h

elements_end : (end : ℕ) (octets : List ℕ) → length octets ≡ 0 → elements_at end octets ≡ Ok []
unfolding elements_in elements_at
elements_end end [] l = refl
elements_end end (x ∷ xs) l = absurd (omega arith)

-- ---- the first of each type

-- what was found before, and then what the others have
abbrev pub found_before : Found → Result (List Element) UserFault → Result Found UserFault
found_before f r = r >>= λ es. Ok (and_found f (found_in es))

abbrev nothing : Found
nothing = record { recovery = false; teid = None; peer = None; types = None }

pub found_first : (end : ℕ) (octets : List ℕ) → found_before nothing (elements_at end octets) ≡ found_at end octets
unfolding found_at found_in
found_first end octets = refl

or_false : (b : Bool) → (b || false) ≡ b
or_false true = refl
or_false false = refl

or_true : (b c : Bool) → ((b || true) || c) ≡ (b || true)
or_true true c = refl
or_true false c = refl

or_none : {X : Type 0} (o : Option X) → or_else o None ≡ o
or_none None = refl
or_none (Some x) = refl

or_some : {X : Type 0} (o p : Option X) (x : X) → or_else (or_else o (Some x)) p ≡ or_else o (Some x)
or_some None p x = refl
or_some (Some y) p x = refl

-- an element more
pub found_more : (f : Found) (e : Element) (es : List Element) → and_found (and_found f (found_in (e ∷ []))) (found_in es) ≡ and_found f (found_in (e ∷ es))
unfolding found_in
found_more f Recovery es =
    rw (or_true f.recovery (has_recovery es), or_none f.teid, or_none f.peer, or_none f.types) (ap (λ b.
    record { recovery = b; teid = or_else f.teid (first_teid es); peer = or_else f.peer (first_peer es); types = or_else f.types (first_types es) })
    refl)
found_more f (TeidData teid) es = rw (or_false f.recovery, or_some f.teid (first_teid es) teid, or_none f.peer, or_none f.types) refl
found_more f (Peer peer) es = rw (or_false f.recovery, or_none f.teid, or_some f.peer (first_peer es) peer, or_none f.types) refl
found_more f (Types types) es = rw (or_false f.recovery, or_none f.teid, or_none f.peer, or_some f.types (first_types es) types) refl
found_more f Skipped es = rw (or_false f.recovery, or_none f.teid, or_none f.peer, or_none f.types) refl

-- ---- the loop

before_more : (f : Found) (e : Element) (r : Result (List Element) UserFault) → found_before (and_found f (found_in (e ∷ []))) r ≡ found_before f (r >>= λ es. Ok (e ∷ es))
before_more f e (Ok es) = ap (λ (g : Found). Ok g) (found_more f e es)
before_more f e (Err at) = refl

pub found_on : (f : Found) (end : ℕ) (octets : List ℕ) (e : Element) (rest : List ℕ) → element_at octets ≡ Some (e, rest)
    → found_before (and_found f (found_in (e ∷ []))) (elements_at end rest) ≡ found_before f (elements_at end octets)
found_on f end octets e rest h = before_more f e (elements_at end rest) ∙ ap (found_before f) (sym (elements_on end octets e rest h))

pub found_stop : (f : Found) (end : ℕ) (octets : List ℕ) → 0 < length octets → element_at octets ≡ None → found_before f (elements_at end octets) ≡ Err (faults.Element (end - length octets))
found_stop f end octets l h = ap (found_before f) (elements_stop end octets l h)

pub found_end : (f : Found) (end : ℕ) (octets : List ℕ) → length octets ≡ 0 → found_before f (elements_at end octets) ≡ Ok f
unfolding found_in
found_end f end octets l = ap (found_before f) (elements_end end octets l) ∙ rw (or_false f.recovery, or_none f.teid, or_none f.peer, or_none f.types) refl
