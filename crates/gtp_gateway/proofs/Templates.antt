-- The templates of access points.
use Rattle.std.proofs.Common.{◌≡◌, ◌≢◌, ◌⊎◌, inl, inr, nat_eq, ◌<◌, ◌≤◌, ◌+◌, ℕ, zero, suc, Bool, true, false, cond, List, [], ◌∷◌, length, drop}
use Rattle.std.proofs.Common.{Option, Some, None, refl, sym, ◌∙◌, ap, subst, arith, replicate}
use Rattle.std.specs.Prelude.{slice_set, slice_index_or}
use Rattle.std.proofs.Math.ListN.{drop_of_length-le}
use Rattle.std.proofs.lemmas.List.{drop_more}
use Rattle.std.specs.List.{cons_option}
use Rattle.std.specs.Cmp.Lexicographic.{pointwise, same_text}
use Rattle.gtp_values.proofs.Tests.{itself}
use Rattle.gtp_values.specs.FiniteMap.{Among}
use Rattle.gtp_machine.specs.Config as machine
use Rattle.gtp_machine.specs.Config.{template_for}
use Rattle.gtp_gateway.specs.declared.config.access_points.Template.{Template}
use Rattle.gtp_gateway.specs.Settings.{template_of, templates_in, in_order, IsPlaceOf}

-- ---- names

pub same_octets : (xs : List ℕ) → pointwise nat_eq xs xs ≡ true
same_octets [] = refl
same_octets (x ∷ xs) = rw (itself x) (same_octets xs)

pub are_apart : (a b : List ℕ) → pointwise nat_eq a b ≡ false → a ≢ b
are_apart a b other same = let no : false ≡ true = sym other ∙ (ap (λ (x : List ℕ). pointwise nat_eq x b) same ∙ same_octets b) in cc

-- ---- the place of an access point

-- none of the access points before this place has the name
pub record IsSought (name : List ℕ) (points : List (List ℕ)) (place : ℕ) : Type 0 where
  pub later : (k : ℕ) → IsPlaceOf name (drop place points) k → IsPlaceOf name points (place + k)
  pub among : Among name points → Among name (drop place points)

pub sought_first : (name : List ℕ) (points : List (List ℕ)) → IsSought name points 0
sought_first name points = record { later = λ k is. subst (IsPlaceOf name points) (omega arith) is; among = λ among. among }

module _ (name : List ℕ) (points : List (List ℕ)) (place : ℕ) (d : List ℕ) (more : place < length points) (so : IsSought name points place) where
  here : drop place points ≡ slice_index_or points place d ∷ drop (place + 1) points
  here = drop_more points place d more

  pub sought_found : slice_index_or points place d ≡ name → IsPlaceOf name points place
  sought_found is = subst (IsPlaceOf name points) (omega arith) (so.later 0 (subst (λ (ps : List (List ℕ)). IsPlaceOf name ps 0) (sym here) is))

  pub sought_next : slice_index_or points place d ≢ name → IsSought name points (place + 1)
  sought_next not = record {
    later = λ k is. subst (IsPlaceOf name points) (omega arith) (so.later (suc k) (subst (λ (ps : List (List ℕ)). IsPlaceOf name ps (suc k)) (sym here) (not, is)));
    among = λ among. by (subst (λ (ps : List (List ℕ)). Among name ps) here (so.among among));
  }
    where
      by : (name ≡ slice_index_or points place d) ⊎ Among name (drop (place + 1) points) → Among name (drop (place + 1) points)
      by (inl is) = absurd (not (sym is))
      by (inr there) = there

pub sought_ended : (name : List ℕ) (points : List (List ℕ)) (place : ℕ) → length points ≤ place → IsSought name points place → Among name points → ⊥
sought_ended name points place ended so among = subst (λ (ps : List (List ℕ)). Among name ps) (drop_of_length-le points ended) (so.among among)

pub place_within : (name : List ℕ) (points : List (List ℕ)) (place : ℕ) → IsPlaceOf name points place → place < length points
place_within name [] place is = absurd is
place_within name (n ∷ names) zero is = omega arith
place_within name (n ∷ names) (suc place) is = let within = place_within name names place is.1 in omega (arith, within)

pub place_among : (name : List ℕ) (points : List (List ℕ)) (place : ℕ) → IsPlaceOf name points place → Among name points
place_among name [] place is = absurd is
place_among name (n ∷ names) zero is = inl (sym is)
place_among name (n ∷ names) (suc place) is = inr (place_among name names place is.1)

-- ---- the template of an access point

-- where no place has one, there are none
pub no_templates : (points : List (List ℕ)) (n : ℕ) → templates_in points (replicate n None) ≡ []
no_templates (name ∷ names) (suc n) = no_templates names n
no_templates points n = refl

-- the template of a name is the one that stands first of the same name
first_named : (name : List ℕ) (t : machine.Template) (templates : List machine.Template) → t.access_point ≡ name → template_for name (t ∷ templates) ≡ Some t
first_named name t templates is = ap (λ (b : Bool). cond b (Some t) (template_for name templates)) (subst (λ (n : List ℕ). pointwise nat_eq n name ≡ true) (sym is) (same_octets name))

first_other : (name : List ℕ) (t : machine.Template) (templates : List machine.Template) → t.access_point ≢ name → template_for name (t ∷ templates) ≡ template_for name templates
first_other name t templates not = by (pointwise nat_eq t.access_point name) refl
  where
    by : (b : Bool) → pointwise nat_eq t.access_point name ≡ b → template_for name (t ∷ templates) ≡ template_for name templates
    by true same = absurd (not (same_text t.access_point name (sym same)))
    by false apart = ap (λ (b : Bool). cond b (Some t) (template_for name templates)) apart

-- a place of another name, or with nothing
pub place_otherwise : (name other : List ℕ) (names : List (List ℕ)) (s : Option Template) (places : List (Option Template)) → other ≢ name
    → template_for name (templates_in (other ∷ names) (s ∷ places)) ≡ template_for name (templates_in names places)
place_otherwise name other names None places not = refl
place_otherwise name other names (Some t) places not = first_other name (template_of other t) (templates_in names places) not

-- what is put at the place of an access point is its template
pub put_this : (name : List ℕ) (names : List (List ℕ)) (places : List (Option Template)) (place : ℕ) (t : Template) → IsPlaceOf name names place
    → place < length places → template_for name (templates_in names (slice_set places place (Some t))) ≡ Some (template_of name t)
put_this name [] places place t is few = absurd is
put_this name (n ∷ names) [] place t is few = absurd (omega (arith, few))
put_this name (n ∷ names) (s ∷ places) zero t is few =
    subst (λ (m : List ℕ). template_for name (template_of m t ∷ templates_in names places) ≡ Some (template_of name t)) (sym is)
    (first_named name (template_of name t) (templates_in names places) refl)
put_this name (n ∷ names) (s ∷ places) (suc place) t is few = place_otherwise name n names s (slice_set places place (Some t)) is.0 ∙ put_this name names places place t is.1 (omega (arith, few))

-- and no other's
pub put_others : (name other : List ℕ) (names : List (List ℕ)) (places : List (Option Template)) (place : ℕ) (t : Template) → IsPlaceOf name names place
    → other ≢ name → template_for other (templates_in names (slice_set places place (Some t))) ≡ template_for other (templates_in names places)
put_others name other [] places place t is not = absurd is
put_others name other (n ∷ names) [] place t is not = refl
put_others name other (n ∷ names) (s ∷ places) zero t is not =
    let apart : n ≢ other = λ same. not (sym same ∙ is) in
    first_other other (template_of n t) (templates_in names places) apart ∙ sym (place_otherwise other n names s places apart)
put_others name other (n ∷ names) (None ∷ places) (suc place) t is not = put_others name other names places place t is.1 not
put_others name other (n ∷ names) (Some u ∷ places) (suc place) t is not =
    ap (λ (o : Option machine.Template). cond (pointwise nat_eq n other) (Some (template_of n u)) o)
    (put_others name other names places place t is.1 not)

-- ---- the search for it

module _ (name : List ℕ) (points : List (List ℕ)) (places : List (Option Template)) (place : ℕ) (d : List ℕ) (e : Option Template) (more : place < length points) (room : place < length places) where
  point : drop place points ≡ slice_index_or points place d ∷ drop (place + 1) points
  point = drop_more points place d more

  stands : drop place places ≡ slice_index_or places place e ∷ drop (place + 1) places
  stands = drop_more places place e room

  both : template_for name (templates_in (drop place points) (drop place places)) ≡ template_for name
      (templates_in (slice_index_or points place d ∷ drop (place + 1) points) (slice_index_or places place e ∷ drop (place + 1) places))
  both = λ i. template_for name (templates_in (point i) (stands i))

  pub template_otherwise : slice_index_or points place d ≢ name → template_for name (templates_in (drop place points) (drop place places))
      ≡ template_for name (templates_in (drop (place + 1) points) (drop (place + 1) places))
  template_otherwise not = both ∙ place_otherwise name (slice_index_or points place d) (drop (place + 1) points) (slice_index_or places place e) (drop (place + 1) places) not

  pub template_absent : slice_index_or places place e ≡ None → template_for name (templates_in (drop place points) (drop place places))
      ≡ template_for name (templates_in (drop (place + 1) points) (drop (place + 1) places))
  template_absent none = both ∙ ap (λ (s : Option Template). template_for name (templates_in (slice_index_or points place d ∷ drop (place + 1) points) (s ∷ drop (place + 1) places))) none

  pub template_found : (t : Template) → slice_index_or points place d ≡ name → slice_index_or places place e ≡ Some t
      → template_for name (templates_in (drop place points) (drop place places)) ≡ Some (template_of name t)
  template_found t is has =
      both
      ∙ ((λ i. template_for name (templates_in (is i ∷ drop (place + 1) points) (has i ∷ drop (place + 1) places)))
      ∙ first_named name (template_of name t) (templates_in (drop (place + 1) points) (drop (place + 1) places)) refl)

-- ---- templates in the order of the access points

-- what is found for a name has it
pub found_named : (name : List ℕ) (templates : List machine.Template) (t : machine.Template) → template_for name templates ≡ Some t → t.access_point ≡ name
found_named name [] t found = cc
found_named name (u ∷ templates) t found = by (pointwise nat_eq u.access_point name) refl found (found_named name templates t)
  where
    by : (b : Bool) → pointwise nat_eq u.access_point name ≡ b → cond b (Some u) (template_for name templates) ≡ Some t
        → (template_for name templates ≡ Some t → t.access_point ≡ name) → t.access_point ≡ name
    by true same is later = let first : u ≡ t = cc in sym (ap (λ (k : machine.Template). k.access_point) first) ∙ same_text u.access_point name (sym same)
    by false apart is later = later is

-- a name that has none has none
none_in_order : (name : List ℕ) (names : List (List ℕ)) (templates : List machine.Template) → template_for name templates ≡ None → template_for name (in_order names templates) ≡ None
none_in_order name [] templates none = refl
none_in_order name (n ∷ names) templates none = by (template_for n templates) refl (none_in_order name names templates none)
  where
    by : (found : Option machine.Template) → template_for n templates ≡ found → template_for name (in_order names templates) ≡ None
        → template_for name (cons_option found (in_order names templates)) ≡ None
    by None is later = later
    by (Some t) is later =
        let named = found_named n templates t is in
        let apart : t.access_point ≢ name = λ same. (let both : Some t ≡ None = sym is ∙ (ap (λ (k : List ℕ). template_for k templates) (sym named ∙ same) ∙ none) in cc) in
        first_other name t (in_order names templates) apart ∙ later

-- and one of the access points has what it had
kept_in_order : (name : List ℕ) (names : List (List ℕ)) (templates : List machine.Template) (t : machine.Template) → Among name names
    → template_for name templates ≡ Some t → template_for name (in_order names templates) ≡ Some t
kept_in_order name [] templates t among is = absurd among
kept_in_order name (n ∷ names) templates t among is = by (pointwise nat_eq n name) refl among (λ there. kept_in_order name names templates t there is)
  where
    here : n ≡ name → template_for name (in_order (n ∷ names) templates) ≡ Some t
    here same =
        let found : template_for n templates ≡ Some t = ap (λ (k : List ℕ). template_for k templates) same ∙ is in
        ap (λ (o : Option machine.Template). template_for name (cons_option o (in_order names templates))) found ∙ first_named name t (in_order names templates) (found_named name templates t is)

    after : n ≢ name → (found : Option machine.Template) → template_for n templates ≡ found → template_for name (in_order names templates) ≡ Some t
        → template_for name (cons_option found (in_order names templates)) ≡ Some t
    after apart None none later = later
    after apart (Some u) other later = first_other name u (in_order names templates) (λ same. apart (sym (found_named n templates u other) ∙ same)) ∙ later

    by : (b : Bool) → pointwise nat_eq n name ≡ b → (name ≡ n) ⊎ Among name names
        → (Among name names → template_for name (in_order names templates) ≡ Some t) → template_for name (in_order (n ∷ names) templates) ≡ Some t
    by true same among later = here (same_text n name (sym same))
    by false apart (inl same) later = absurd (are_apart n name apart (sym same))
    by false apart (inr there) later = after (are_apart n name apart) (template_for n templates) refl (later there)

-- a template stands at the place of an access point
named_among : (name : List ℕ) (names : List (List ℕ)) (places : List (Option Template)) (t : machine.Template) → template_for name (templates_in names places) ≡ Some t → Among name names
named_among name (n ∷ names) (None ∷ places) t found = inr (named_among name names places t found)
named_among name (n ∷ names) (Some u ∷ places) t found = by (pointwise nat_eq n name) refl found (named_among name names places t)
  where
    by : (b : Bool) → pointwise nat_eq n name ≡ b → cond b (Some (template_of n u)) (template_for name (templates_in names places)) ≡ Some t
        → (template_for name (templates_in names places) ≡ Some t → Among name names) → (name ≡ n) ⊎ Among name names
    by true same is later = inl (sym (same_text n name (sym same)))
    by false apart is later = inr (later is)
named_among name names places t found = cc

-- the order changes no access point's template
pub same_in_order : (name : List ℕ) (names : List (List ℕ)) (places : List (Option Template))
    → template_for name (in_order names (templates_in names places)) ≡ template_for name (templates_in names places)
same_in_order name names places = by (template_for name (templates_in names places)) refl
  where
    by : (found : Option machine.Template) → template_for name (templates_in names places) ≡ found → template_for name (in_order names (templates_in names places)) ≡ found
    by None none = none_in_order name names (templates_in names places) none
    by (Some t) is = kept_in_order name names (templates_in names places) t (named_among name names places t is) is

one_order : (names : List (List ℕ)) (templates others : List machine.Template) → ((name : List ℕ) → template_for name templates ≡ template_for name others)
    → in_order names templates ≡ in_order names others
one_order [] templates others same = refl
one_order (n ∷ names) templates others same = λ i. cons_option (same n i) (one_order names templates others same i)

-- what is put at the place of an access point is put before the templates that were there
pub put_in_order : (name : List ℕ) (names : List (List ℕ)) (places : List (Option Template)) (place : ℕ) (t : Template) → IsPlaceOf name names place
    → place < length places → in_order names (templates_in names (slice_set places place (Some t)))
    ≡ in_order names (template_of name t ∷ in_order names (templates_in names places))
put_in_order name names places place t is few = one_order names _ _ (λ other. by other (pointwise nat_eq name other) refl)
  where
    by : (other : List ℕ) (b : Bool) → pointwise nat_eq name other ≡ b → template_for other (templates_in names (slice_set places place (Some t)))
        ≡ template_for other (template_of name t ∷ in_order names (templates_in names places))
    by other true same =
        let here : name ≡ other = same_text name other (sym same) in
        subst (λ (k : List ℕ). template_for k (templates_in names (slice_set places place (Some t))) ≡ template_for k (template_of name t ∷ in_order names (templates_in names places))) here
        (put_this name names places place t is few ∙ sym (first_named name (template_of name t) (in_order names (templates_in names places)) refl))
    by other false apart =
        let not : name ≢ other = are_apart name other apart in
        put_others name other names places place t is (λ same. not (sym same))
        ∙ (sym (same_in_order other names places)
        ∙ sym (first_other other (template_of name t) (in_order names (templates_in names places)) not))

-- where no place has a template, there are none
pub no_order : (names : List (List ℕ)) (n : ℕ) → in_order names (templates_in names (replicate n None)) ≡ []
no_order names n = ap (in_order names) (no_templates names n) ∙ none names
  where
    none : (ns : List (List ℕ)) → in_order ns [] ≡ []
    none [] = refl
    none (m ∷ ns) = none ns
