-- The first list of types among elements of the user plane, found by going from one to the next.
use Rattle.std.proofs.Common.{◌≡◌, ◌≢◌, ℕ, ◌+◌, ◌*◌, ◌<◌, false, List, [], ◌∷◌, ◌++◌, length, take, drop, Some, refl, sym, ap, ◌∙◌, subst, length-append, arith}
use Rattle.std.specs.Prelude.{◌==◌, slice_index}
use Rattle.std.proofs.lemmas.Bool.Decides.{nat_tests}
use Rattle.std.proofs.lemmas.List.{drop-drop, drop_at, take_at, length-drop}
use Rattle.std.proofs.lemmas.Option.{same_Some}
use Rattle.gtp_values.proofs.Outcomes.{none_some}
use Rattle.gtp_values.specs.declared.address.Ip.TheVariants as addresses
use Rattle.gtp_user.proofs.Begun.{begins_shorter}
use Rattle.gtp_user.specs.Element.{Element, Recovery, TeidData, Peer, Types, Skipped, BeginsElement, Spans, first_types}
use Rattle.gtp_c.specs.Reading.{AreTypesAt}
use Rattle.gtp_c.specs.Sizes.{HasTypes, element_size}

-- the first octet of these
first_of : (octets others : List ℕ) → octets ≡ others → slice_index octets 0 ≡ slice_index others 0
first_of octets others is = ap (λ (xs : List ℕ). slice_index xs 0) is

-- no octets have a list
pub none_left : (types octets : List ℕ) → length octets ≡ 0 → HasTypes types octets → ⊥
none_left types octets short ([], spans, is) = none_some types is
none_left types octets short (e ∷ es, (after, begins, spans), is) = let less = begins_shorter octets e after begins in omega (arith, less)

two_on : (counter : ℕ) (rest : List ℕ) → drop (element_size (14 ∷ counter ∷ rest)) (14 ∷ counter ∷ rest) ≡ rest
two_on counter [] = refl
two_on counter (x ∷ rest) = refl

-- an element that is no list has this size
behind : (octets : List ℕ) (e : Element) (after : List ℕ) → slice_index octets 0 ≢ 141 → BeginsElement octets e after → drop (element_size octets) octets ≡ after
behind octets Recovery after other b = subst (λ (xs : List ℕ). drop (element_size xs) xs ≡ after) (sym b.1) (two_on b.0 after)
behind octets (TeidData teid) after other b = subst (λ (xs : List ℕ). drop (element_size xs) xs ≡ after) (sym b.4) refl
behind octets (Peer (addresses.V4 address)) after other b =
    subst (λ (xs : List ℕ). drop (element_size xs) xs ≡ after) (sym (b.1 ∙ ap (λ (xs : List ℕ). 133 ∷ xs) b.2.0)) (drop_at address after 4 b.2.1)
behind octets (Peer (addresses.V6 address)) after other b =
    subst (λ (xs : List ℕ). drop (element_size xs) xs ≡ after) (sym (b.1 ∙ ap (λ (xs : List ℕ). 133 ∷ xs) b.2.0)) (drop_at address after 16 b.2.1)
behind octets (Types types) after other b = absurd (other (first_of octets (141 ∷ length types ∷ (types ++ after)) b))
behind octets Skipped after other (kind, high, low, body, is, size, least, no_peer, no_list) =
    let t14 : (kind == 14) ≡ false = grind (arith, nat_tests) in
    let t16 : (kind == 16) ≡ false = grind (arith, nat_tests) in
    let whole = kind ∷ high ∷ low ∷ (body ++ after) in
    let on : drop (3 + (256 * high + low)) whole ≡ after = sym (drop-drop (256 * high + low) 3 whole) ∙ drop_at body after (256 * high + low) size in
    subst (λ (xs : List ℕ). drop (element_size xs) xs ≡ after) (sym is) (rw (t14, t16) on)

on_from : (types octets : List ℕ) (e : Element) (es : List Element) (after : List ℕ) → slice_index octets 0 ≢ 141 → BeginsElement octets e after
    → Spans after es [] → first_types es ≡ Some types → HasTypes types (drop (element_size octets) octets)
on_from types octets e es after other begins spans is = subst (λ (xs : List ℕ). HasTypes types xs) (sym (behind octets e after other begins)) (es, spans, is)

-- behind an element that is no list the same list is the first
pub further : (types octets : List ℕ) → slice_index octets 0 ≢ 141 → HasTypes types octets → HasTypes types (drop (element_size octets) octets)
further types octets other ([], spans, is) = absurd (none_some types is)
further types octets other (Types ts ∷ es, (after, begins, spans), is) = absurd (other (first_of octets (141 ∷ length ts ∷ (ts ++ after)) begins))
further types octets other (Recovery ∷ es, (after, begins, spans), is) = on_from types octets Recovery es after other begins spans is
further types octets other (TeidData teid ∷ es, (after, begins, spans), is) = on_from types octets (TeidData teid) es after other begins spans is
further types octets other (Peer peer ∷ es, (after, begins, spans), is) = on_from types octets (Peer peer) es after other begins spans is
further types octets other (Skipped ∷ es, (after, begins, spans), is) = on_from types octets Skipped es after other begins spans is

-- a list is at the front
abbrev Leads : List ℕ → List ℕ → Type 0
Leads types octets = (after : List ℕ) × (octets ≡ 141 ∷ length types ∷ (types ++ after))

not_first : (octets others : List ℕ) → slice_index octets 0 ≡ 141 → octets ≡ others → slice_index others 0 ≡ 141
not_first octets others here is = sym (first_of octets others is) ∙ here

here_is : (types octets : List ℕ) → slice_index octets 0 ≡ 141 → HasTypes types octets → Leads types octets
here_is types octets here ([], spans, is) = absurd (none_some types is)
here_is types octets here (Types ts ∷ es, (after, begins, spans), is) = subst (λ (xs : List ℕ). Leads xs octets) (same_Some ts types is) (after, begins)
here_is types octets here (Recovery ∷ es, (after, begins, spans), is) = let no : 14 ≡ 141 = not_first octets _ here begins.1 in absurd (omega (arith, no))
here_is types octets here (TeidData teid ∷ es, (after, begins, spans), is) = let no : 16 ≡ 141 = not_first octets _ here begins.4 in absurd (omega (arith, no))
here_is types octets here (Peer peer ∷ es, (after, begins, spans), is) = let no : 133 ≡ 141 = not_first octets _ here begins.1 in absurd (omega (arith, no))
here_is types octets here (Skipped ∷ es, (after, begins, spans), is) = absurd (begins.8 (not_first octets _ here begins.4))

-- the list at the front begins at this place
pub list_at : (octets : List ℕ) (at : ℕ) (types : List ℕ) → at < length octets → slice_index (drop at octets) 0 ≡ 141 → HasTypes types (drop at octets) → AreTypesAt types octets (at + 2)
list_at octets at types within here has =
    let leads = here_is types (drop at octets) here has in
    let whole : List ℕ = 141 ∷ length types ∷ types in
    let size = ap length leads.1 in
    let rest = length-drop at octets in
    let sum = length-append types leads.0 in
    (at, omega arith, (omega (arith, size, rest, sum), ap (λ (xs : List ℕ). take (length whole) xs) leads.1 ∙ take_at whole leads.0 (length whole) refl))

-- so many octets further
pub further_at : (octets : List ℕ) (at : ℕ) (types : List ℕ) → slice_index (drop at octets) 0 ≢ 141 → HasTypes types (drop at octets)
    → HasTypes types (drop (at + element_size (drop at octets)) octets)
further_at octets at types other has =
    subst (λ (xs : List ℕ). HasTypes types xs) (drop-drop (element_size (drop at octets)) at octets) (further types (drop at octets) other has)
