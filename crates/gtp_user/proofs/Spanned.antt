-- Reading elements decides which ones octets are.
use Rattle.std.proofs.Common.{◌≡◌, ℕ, zero, suc, ◌-◌, ◌<◌, ◌≤◌, List, [], ◌∷◌, length, Option, Some, None, Result, Ok, Err, refl, sym, ap, subst, ◌∙◌, arith}
use Rattle.std.proofs.lemmas.Option.{same_Some}
use Rattle.gtp_user.specs.declared.fault.UserFault.{UserFault}
use Rattle.gtp_user.specs.declared.fault.UserFault.TheVariants as faults
use Rattle.gtp_values.specs.Steps.{◌>>=◌}
use Rattle.gtp_values.specs.Decides.{Decides}
use Rattle.gtp_user.specs.Element.{Element, BeginsElement, Spans, AreElements, IsCut}
use Rattle.gtp_user.specs.reading.Elements.{element_at, go_on, elements_in, elements_at}
use Rattle.gtp_user.proofs.Begun.{found, element_begins, begins_element, begins_shorter}
use Rattle.gtp_values.proofs.Decided.{decide_map, decide_as, known_ok, known_err}
use Rattle.gtp_values.proofs.Outcomes.{none_some}

abbrev whole_so_far : List Element → Result (List Element) UserFault
whole_so_far es = Ok es

abbrev cut : UserFault → Result (List Element) UserFault
cut f = Err f

begin_alike : (octets : List ℕ) (e d : Element) (rest after : List ℕ) → element_at octets ≡ Some (found e rest) → BeginsElement octets d after → found d after ≡ found e rest
begin_alike octets e d rest after h b = same_Some (found d after) (found e rest) (sym (begins_element octets d after b) ∙ h)

-- no octets are no elements
empty_decided : (end : ℕ) → Decides (whole_so_far []) (AreElements []) (IsCut end [])
empty_decided end = known_ok [] (AreElements []) (IsCut end []) refl only none where
  only : (es : List Element) → AreElements [] es → es ≡ []
  only [] h = refl
  only (e ∷ es) (after, b, s) = absurd (omega (arith, begins_shorter [] e after b))

  none : (f : UserFault) → IsCut end [] f → ⊥
  none f ([], rest, spans, some, nothing, e) = omega (arith, ap length spans)
  none f (e ∷ es, rest, (after, b, s), some, nothing, is) = omega (arith, begins_shorter [] e after b)

-- octets that begin with no element are cut there
stuck_decided : (end x : ℕ) (xs : List ℕ) → element_at (x ∷ xs) ≡ None → Decides (cut (faults.Element (end - length (x ∷ xs)))) (AreElements (x ∷ xs)) (IsCut end (x ∷ xs))
stuck_decided end x xs h =
    known_err (faults.Element (end - length (x ∷ xs))) (AreElements (x ∷ xs)) (IsCut end (x ∷ xs))
    ([], x ∷ xs, refl, omega arith, λ e after b. stuck e after b, refl) none one where
      stuck : (e : Element) (after : List ℕ) → BeginsElement (x ∷ xs) e after → ⊥
      stuck e after b = none_some (found e after) (sym h ∙ begins_element (x ∷ xs) e after b)

      none : (es : List Element) → AreElements (x ∷ xs) es → ⊥
      none [] p = omega (arith, ap length p)
      none (e ∷ es) (after, b, s) = stuck e after b

      one : (f : UserFault) → IsCut end (x ∷ xs) f → f ≡ faults.Element (end - length (x ∷ xs))
      one f ([], rest, spans, some, nothing, is) = is ∙ ap (λ (ys : List ℕ). faults.Element (end - length ys)) (sym spans)
      one f (e ∷ es, rest, (after, b, s), some, nothing, is) = absurd (stuck e after b)

-- after an element the others decide
rest_decided : (end : ℕ) (octets : List ℕ) (e : Element) (rest : List ℕ) (r : Result (List Element) UserFault) → 0 < length octets → element_at octets ≡ Some (found e rest)
    → Decides r (AreElements rest) (IsCut end rest) → Decides (r >>= λ es. Ok (e ∷ es)) (AreElements octets) (IsCut end octets)
rest_decided end octets e rest r some h d =
    decide_as (r >>= λ es. Ok (e ∷ es)) (λ all. (es : List Element) × AreElements rest es × (all ≡ e ∷ es)) (AreElements octets) (IsCut end rest) (IsCut end octets) to_all from_all to_cut from_cut
    (decide_map r (λ es. e ∷ es) (AreElements rest) (IsCut end rest) d)
  where
    to_all : (all : List Element) → ((es : List Element) × AreElements rest es × (all ≡ e ∷ es)) → AreElements octets all
    to_all all p = subst (AreElements octets) (sym p.2) (rest, element_begins octets e rest h, p.1)

    from_all : (all : List Element) → AreElements octets all → (es : List Element) × AreElements rest es × (all ≡ e ∷ es)
    from_all [] p = absurd (omega (arith, ap length p))
    from_all (c ∷ es) (after, b, spans) =
        let same = begin_alike octets e c rest after h b in
        (es, subst (λ (q : Element × List ℕ). Spans q.1 es []) same spans, ap (λ (q : Element × List ℕ). q.0 ∷ es) same)

    to_cut : (f : UserFault) → IsCut end rest f → IsCut end octets f
    to_cut f (es, last, spans, left, nothing, is) = (e ∷ es, last, (rest, element_begins octets e rest h, spans), left, nothing, is)

    from_cut : (f : UserFault) → IsCut end octets f → IsCut end rest f
    from_cut f ([], last, spans, left, nothing, is) = absurd (nothing e rest (subst (λ (xs : List ℕ). BeginsElement xs e rest) spans (element_begins octets e rest h)))
    from_cut f (c ∷ es, last, (after, b, spans), left, nothing, is) =
        let same = begin_alike octets e c rest after h b in
        (es, last, subst (λ (q : Element × List ℕ). Spans q.1 es last) same spans, left, nothing, is)

by_front : (steps end x : ℕ) (xs : List ℕ) → length (x ∷ xs) ≤ suc steps → ((rest : List ℕ) → length rest ≤ steps → Decides (elements_in steps end rest) (AreElements rest) (IsCut end rest))
    → (o : Option (Element × List ℕ)) → element_at (x ∷ xs) ≡ o → Decides (go_on (end - length (x ∷ xs)) (elements_in steps end) o) (AreElements (x ∷ xs)) (IsCut end (x ∷ xs))
by_front steps end x xs l others None h = stuck_decided end x xs h
by_front steps end x xs l others (Some p) h =
    let s = begins_shorter (x ∷ xs) p.0 p.1 (element_begins (x ∷ xs) p.0 p.1 h) in
    rest_decided end (x ∷ xs) p.0 p.1 (elements_in steps end p.1) (omega arith) h (others p.1 (omega (arith, s)))

in_decided : (steps end : ℕ) (octets : List ℕ) → length octets ≤ steps → Decides (elements_in steps end octets) (AreElements octets) (IsCut end octets)
unfolding elements_in
in_decided steps end [] l = empty_decided end
in_decided zero end (x ∷ xs) l = absurd (omega arith)
in_decided (suc steps) end (x ∷ xs) l = by_front steps end x xs l (λ rest k. in_decided steps end rest k) (element_at (x ∷ xs)) refl

-- reading elements decides which ones octets are
pub elements_decided : (end : ℕ) (octets : List ℕ) → Decides (elements_at end octets) (AreElements octets) (IsCut end octets)
unfolding elements_at
elements_decided end octets = in_decided (length octets) end octets (omega arith)
