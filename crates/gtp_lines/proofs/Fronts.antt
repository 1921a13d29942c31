-- Extension headers at the front of octets, one further.
use Rattle.std.proofs.Common.{◌≡◌, ◌≤◌, ◌<◌, ◌-◌, ◌*◌, ◌+◌, ℕ, zero, suc, Bool, true, false, List, [], ◌∷◌, length, take, drop, ◌++◌, Option, Some, None, refl, sym, ap, subst, ◌∙◌, arith, append_assoc, append-nil}
use Rattle.std.specs.Prelude.{◌==◌, nat_lt, get_or, if◌then◌else◌}
use Rattle.std.proofs.lemmas.List.{length-drop}
use Rattle.std.proofs.lemmas.Option.{same_Some}
use Rattle.gtp_user.specs.Chain.{Extension}
use Rattle.gtp_lines.specs.Fronts.{Begun, begun_by, begun_at, header_of, Front, after_headers, goes_on, front_from, front_of}

-- ---- a header is shorter than the octets that it begins

chosen : (x y : Bool) (v b : Begun) → (if x then None else (if y then None else Some v)) ≡ Some b → v ≡ b
chosen true y v b is = absurd cc
chosen false true v b is = absurd cc
chosen false false v b is = same_Some v b is

begun_by_small : (size : ℕ) (octets : List ℕ) (b : Begun) → begun_by size octets ≡ Some b → length b.rest ≤ length octets
begun_by_small size octets b is =
    let found : Begun = record { content = take (size - 2) octets; next = get_or octets (size - 2) 0; rest = drop (size - 1) octets } in
    let same = chosen (nat_lt size 4) (nat_lt (length octets) (size - 1)) found b is in
    subst (λ (x : Begun). length x.rest ≤ length octets) same (omega (arith, length-drop (size - 1) octets))

begun_small : (octets : List ℕ) (b : Begun) → begun_at octets ≡ Some b → length b.rest < length octets
begun_small [] b is = absurd cc
begun_small (units ∷ octets) b is = let small = begun_by_small (4 * units) octets b is in omega (arith, small)

chosen_other : (x : Bool) (w : Option Begun) (b : Begun) → (if x then None else w) ≡ Some b → w ≡ Some b
chosen_other true w b is = absurd cc
chosen_other false w b is = is

pub header_small : (kind : ℕ) (octets : List ℕ) (b : Begun) → header_of kind octets ≡ Some b → length b.rest < length octets
unfolding header_of
header_small kind octets b is = begun_small octets b (chosen_other (kind == 0) (begun_at octets) b is)

either_none : (x : Bool) (w : Option Begun) → w ≡ None → (if x then None else w) ≡ None
either_none true w is = refl
either_none false w is = is

none_left : (kind : ℕ) → header_of kind [] ≡ None
unfolding header_of
none_left kind = either_none (kind == 0) None refl

-- ---- the number of headers that is allowed does not matter

alike : (f g : ℕ → List ℕ → Front) (kind : ℕ) (octets : List ℕ) (w : Option Begun) → ((b : Begun) → w ≡ Some b → f b.next b.rest ≡ g b.next b.rest)
    → goes_on f kind octets w ≡ goes_on g kind octets w
alike f g kind octets None h = refl
alike f g kind octets (Some b) h = ap (after_headers (record { kind = kind; content = b.content } ∷ [])) (h b refl)

stopped : ℕ → List ℕ → Front
stopped kind octets = record { headers = []; next = kind; rest = octets }

enough : (n m kind : ℕ) (octets : List ℕ) → length octets ≤ n → length octets ≤ m → front_from n kind octets ≡ front_from m kind octets
enough zero zero kind octets l k = refl
enough zero (suc m) kind [] l k = sym (ap (goes_on (λ next rest. front_from m next rest) kind []) (none_left kind))
enough zero (suc m) kind (octet ∷ octets) l k = absurd (omega (arith, l))
enough (suc n) zero kind [] l k = ap (goes_on (λ next rest. front_from n next rest) kind []) (none_left kind)
enough (suc n) zero kind (octet ∷ octets) l k = absurd (omega (arith, k))
enough (suc n) (suc m) kind octets l k =
    alike (λ next rest. front_from n next rest) (λ next rest. front_from m next rest) kind octets (header_of kind octets)
    (λ b is. let small = header_small kind octets b is in enough n m b.next b.rest (omega (arith, l, small)) (omega (arith, k, small)))

-- a header, and then those after it
pub front_step : (kind : ℕ) (octets : List ℕ) (b : Begun) → header_of kind octets ≡ Some b
    → front_of kind octets ≡ after_headers (record { kind = kind; content = b.content } ∷ []) (front_of b.next b.rest)
unfolding front_of
front_step kind [] b is = absurd (nothing (sym (none_left kind) ∙ is)) where
  nothing : None ≡ Some b → ⊥
  nothing h = absurd cc
front_step kind (octet ∷ octets) b is =
    let small = header_small kind (octet ∷ octets) b is in
    let same = enough (length octets) (length b.rest) b.next b.rest (omega (arith, small)) (omega arith) in
    ap (goes_on (λ next rest. front_from (length octets) next rest) kind (octet ∷ octets)) is
    ∙ ap (after_headers (record { kind = kind; content = b.content } ∷ [])) same

-- no header, and nothing else
pub front_end : (kind : ℕ) (octets : List ℕ) → header_of kind octets ≡ None → front_of kind octets ≡ record { headers = []; next = kind; rest = octets }
unfolding front_of
front_end kind [] is = refl
front_end kind (octet ∷ octets) is = ap (goes_on (λ next rest. front_from (length octets) next rest) kind (octet ∷ octets)) is

-- one header more
pub onto : (es : List Extension) (e : Extension) (f : Front) → after_headers (es ++ e ∷ []) f ≡ after_headers es (after_headers (e ∷ []) f)
onto es e f = ap (λ (hs : List Extension). record { headers = hs; next = f.next; rest = f.rest }) (append_assoc es (e ∷ []) f.headers)

-- and none
pub all_of : (es : List Extension) (kind : ℕ) (rest : List ℕ) → after_headers es (record { headers = []; next = kind; rest = rest }) ≡ record { headers = es; next = kind; rest = rest }
all_of es kind rest = ap (λ (hs : List Extension). record { headers = hs; next = kind; rest = rest }) (append-nil es)
