-- Reading rows decides the grammar.
use Rattle.std.proofs.Common.{◌≡◌, ◌+◌, ◌<◌, ℕ, cond, eqb, length, arith, Bool, true, false, ◌&&◌, List, [], ◌∷◌, Option, Some, None, Result, Ok, Err, refl, sym, ap, subst, ◌∙◌}
use Rattle.std.specs.Prelude.{option_to_list}
use Rattle.std.proofs.lemmas.Bool.Decides.{nat_tests}
use Rattle.gtp_ie.specs.declared.fault.ReadFault.{ReadFault}
use Rattle.gtp_ie.specs.declared.fault.ReadFault.TheVariants.{Short, Bad}
use Rattle.gtp_ie.specs.declared.fault.IeFault.TheVariants.{Truncated, ShortValue, BadValue}
use Rattle.gtp_values.specs.Steps.{◌>>=◌}
use Rattle.gtp_values.specs.Decides.{Decides}
use Rattle.gtp_ie.specs.Element.{Element, elements_of, first_of, all_of}
use Rattle.gtp_ie.specs.Octets.{AreElements, IsCut}
use Rattle.gtp_ie.proofs.Walked.{elements_decided}
use Rattle.gtp_v2.specs.declared.fault.Need.{Need}
use Rattle.gtp_v2.specs.declared.fault.Need.TheVariants as needs
use Rattle.gtp_ie.specs.Value.{Value, value_at}
use Rattle.gtp_ie.specs.Spelling.{Spells}
use Rattle.gtp_ie.specs.reading.Spelling.{SpellsNone}
use Rattle.gtp_ie.proofs.Spelled.{value_decided}
use Rattle.gtp_values.proofs.Outcomes.{done, ok_same, err_same, apart}
use Rattle.gtp_values.proofs.Decided.{decide_bind, decide_map, decide_cons, decide_ok, decide_as, known_ok, known_err}
use Rattle.gtp_v2.specs.declared.fault.RowFault.{RowFault}
use Rattle.gtp_v2.specs.declared.fault.RowFault.TheVariants as faults
use Rattle.gtp_v2.specs.Table.{Row, Mandatory, Conditional, Accepted, Optional, Line, Single, Grouped, Several, Plain, Groups, State, accepts, need_of, kind_of, instance_of, after}
use Rattle.gtp_v2.specs.reading.Rows.{named, fault_as, needed, needed_at, needed_if_at, row_at, rows_at, whole, one_at, each_at, values_at, inner_at}
use Rattle.gtp_v2.specs.reading.Rows.{group_at, groups_at, no_group, some_groups, no_value, several_at, line_at, lines_at}
use Rattle.gtp_v2.specs.Viewed.{welcome, value_or_none, optional_at}
use Rattle.gtp_v2.specs.Grammar.{Says, SaysNothing, One, AtMostOne, NeededFails, absent, short, bad, RowIs, RowFails, RowsAre, RowsFail, IsCutShort}
use Rattle.gtp_v2.specs.Grammar.{GroupIs, in_group, InnerFails, GroupFails, EachIs, SomeFails, GroupsAre, GroupsFail, OneIs, OneFails, short_one}
use Rattle.gtp_v2.specs.Grammar.{bad_one, SeveralAre, SeveralFail, IsEnough, NoGroup, SomeGroups, SomeGroupsFail, LineIs, LineFails, LinesAre}
use Rattle.gtp_v2.specs.Grammar.{LinesFail}

abbrev free_at : ℕ → ℕ → List Element → Result (List Value) RowFault
free_at kind instance es = Ok (option_to_list (optional_at kind instance es))

-- a value, first as an option and then as a list
some_decided : (r : Result Value RowFault) (P : Value → Type 0) (F : RowFault → Type 0) → Decides r P F
    → Decides (r >>= (λ v. Ok (Some v)) >>= λ o. Ok (option_to_list o)) (λ vs. (v : Value) × P v × (vs ≡ v ∷ [])) F
some_decided r P F d = subst (λ (q : Result (List Value) RowFault). Decides q (λ vs. (v : Value) × P v × (vs ≡ v ∷ [])) F) (twice r) (decide_map r (λ v. v ∷ []) P F d) where
  twice : (r : Result Value RowFault) → (r >>= λ v. Ok (v ∷ [])) ≡ (r >>= (λ v. Ok (Some v)) >>= λ o. Ok (option_to_list o))
  twice (Ok v) = refl
  twice (Err f) = refl

-- a row that is needed
pub needed_decided : (conditional : Bool) (kind instance : ℕ) (es : List Element) → Decides (needed_at conditional kind instance es) (Says kind instance es) (NeededFails conditional kind instance es)
unfolding needed_at one_at
needed_decided conditional kind instance es = by_first (first_of kind instance es) refl where
  by_reading : (e : Element) → first_of kind instance es ≡ Some e → (r : Result Value ReadFault) → value_at kind e.body ≡ r
      → Decides (named kind instance e.at r) (Says kind instance es) (NeededFails conditional kind instance es)
  by_reading e h (Ok v) s =
      known_ok v (Says kind instance es) (NeededFails conditional kind instance es) (e, h, (value_decided kind e.body).ok v s)
      (λ x p. let q = (value_decided kind p.0.body).is x p.2 in cc)
      (λ f q. elim q [
        | absent a b ↦ cc
        | short d a b c ↦ let q = (value_decided kind d.body).fails Short b in cc
        | bad d a b c ↦ let q = (value_decided kind d.body).fails Bad b in cc
      ])
  by_reading e h (Err Short) s =
      known_err (faults.Element (ShortValue kind instance e.at)) (Says kind instance es) (NeededFails conditional kind instance es)
      (short e h ((value_decided kind e.body).err Short s) refl) (λ x p. let q = (value_decided kind p.0.body).is x p.2 in cc)
      (λ f q. elim q [
        | absent a b ↦ cc
        | short d a b c ↦ let q = (value_decided kind d.body).fails Short b in cc
        | bad d a b c ↦ let q = (value_decided kind d.body).fails Bad b in cc
      ])
  by_reading e h (Err Bad) s =
      known_err (faults.Element (BadValue kind instance e.at)) (Says kind instance es) (NeededFails conditional kind instance es)
      (bad e h ((value_decided kind e.body).err Bad s) refl) (λ x p. let q = (value_decided kind p.0.body).is x p.2 in cc)
      (λ f q. elim q [
        | absent a b ↦ cc
        | short d a b c ↦ let q = (value_decided kind d.body).fails Short b in cc
        | bad d a b c ↦ let q = (value_decided kind d.body).fails Bad b in cc
      ])

  by_first : (o : Option Element) → first_of kind instance es ≡ o → Decides (needed conditional kind instance o) (Says kind instance es) (NeededFails conditional kind instance es)
  by_first None h =
      known_err (faults.Missing kind instance conditional None) (Says kind instance es) (NeededFails conditional kind instance es) (absent h refl)
      (λ x p. cc) (λ f q. elim q [ absent a b ↦ cc | short d a b c ↦ cc | bad d a b c ↦ cc ])
  by_first (Some e) h = by_reading e h (value_at kind e.body) refl

-- a needed row, its value alone in a list
one_decided : (conditional : Bool) (kind instance : ℕ) (es : List Element)
    → Decides (needed_at conditional kind instance es >>= λ v. Ok (v ∷ [])) (One kind instance es) (NeededFails conditional kind instance es)
one_decided conditional kind instance es =
    decide_map (needed_at conditional kind instance es) (λ v. v ∷ []) (Says kind instance es) (NeededFails conditional kind instance es)
    (needed_decided conditional kind instance es)

-- a row that isn't needed
pub optional_decided : (kind instance : ℕ) (es : List Element) → Decides (free_at kind instance es) (AtMostOne kind instance es) (λ f. ⊥)
unfolding optional_at
optional_decided kind instance es = by_first (first_of kind instance es) refl where
  one : (v : Value) → Says kind instance es v → (vs : List Value) → AtMostOne kind instance es vs → vs ≡ v ∷ []
  one v s [] p = absurd (p v s)
  one v s (x ∷ []) p = let q = (value_decided kind p.0.body).is x p.2 in let t = (value_decided kind s.0.body).is v s.2 in let e : x ≡ v = cc in ap (λ (y : Value). y ∷ []) e
  one v s (x ∷ y ∷ vs) p = absurd p

  none : SaysNothing kind instance es → (vs : List Value) → AtMostOne kind instance es vs → vs ≡ []
  none s [] p = refl
  none s (x ∷ []) p = absurd (s x p)
  none s (x ∷ y ∷ vs) p = absurd p

  by_reading : (e : Element) → first_of kind instance es ≡ Some e → (r : Result Value ReadFault) → value_at kind e.body ≡ r
      → Decides (done RowFault (option_to_list (value_or_none r))) (AtMostOne kind instance es) (λ f. ⊥)
  by_reading e h (Ok v) s = known_ok (v ∷ []) (AtMostOne kind instance es) (λ f. ⊥) (e, h, (value_decided kind e.body).ok v s) (one v (e, h, (value_decided kind e.body).ok v s)) (λ f q. q)
  by_reading e h (Err x) s =
      let silent : SaysNothing kind instance es = λ v p. let q = (value_decided kind p.0.body).is v p.2 in
      cc in known_ok [] (AtMostOne kind instance es) (λ f. ⊥) silent (none silent) (λ f q. q)

  by_first : (o : Option Element) → first_of kind instance es ≡ o → Decides (done RowFault (option_to_list (welcome kind o))) (AtMostOne kind instance es) (λ f. ⊥)
  by_first None h = let silent : SaysNothing kind instance es = λ v p. cc in known_ok [] (AtMostOne kind instance es) (λ f. ⊥) silent (none silent) (λ f q. q)
  by_first (Some e) h = by_reading e h (value_at kind e.body) refl

-- any row
row_decided : (accepting : Bool) (row : Row) (es : List Element) → Decides (row_at accepting row es) (RowIs accepting row es) (RowFails accepting row es)
unfolding needed_if_at
row_decided accepting (Mandatory kind instance) es = one_decided false kind instance es
row_decided accepting (Conditional kind instance) es = one_decided true kind instance es
row_decided true (Accepted kind instance) es = some_decided (needed_at true kind instance es) (Says kind instance es) (NeededFails true kind instance es) (needed_decided true kind instance es)
row_decided false (Accepted kind instance) es = optional_decided kind instance es
row_decided accepting (Optional kind instance) es = optional_decided kind instance es

pub rows_decided : (accepting : Bool) (rows : List Row) (es : List Element) → Decides (rows_at accepting rows es) (RowsAre accepting rows es) (RowsFail accepting rows es)
unfolding rows_at
rows_decided accepting [] es = decide_ok []
rows_decided accepting (row ∷ rows) es =
    decide_cons (row_at accepting row es) (λ values. rows_at (accepting && accepts values) rows es) (RowIs accepting row es) (RowFails accepting row es)
    (λ values. RowsAre (accepting && accepts values) rows es) (λ values. RowsFail (accepting && accepts values) rows es)
    (row_decided accepting row es) (λ values. rows_decided (accepting && accepts values) rows es)

-- ---- groups

-- the elements of a list
pub whole_decided : (at : ℕ) (octets : List ℕ) → Decides (whole (elements_of at octets)) (AreElements at octets) (IsCutShort at octets)
whole_decided at octets = by_walk (elements_of at octets) (elements_decided at octets) where
  by_walk : (r : Result (List Element) ℕ) → Decides r (AreElements at octets) (IsCut at octets) → Decides (whole r) (AreElements at octets) (IsCutShort at octets)
  by_walk (Ok es) d = known_ok es (AreElements at octets) (IsCutShort at octets) (d.ok es refl) (λ all h. sym (ok_same ℕ es all (d.is all h))) (λ f h. apart es h.0 (d.fails h.0 h.1))
  by_walk (Err p) d =
      known_err (faults.Element (Truncated p)) (AreElements at octets) (IsCutShort at octets) (p, d.err p refl, refl)
      (λ all h. apart all p (sym (d.is all h)))
      (λ f h. h.2 ∙ ap (λ (n : ℕ). faults.Element (Truncated n)) (sym (err_same (List Element) p h.0 (d.fails h.0 h.1))))

-- a fault that is told in another way
pub fault_as_decided : {X E : Type 0} (told : E → E) (r : Result X E) (P : X → Type 0) (F : E → Type 0) → Decides r P F → Decides (fault_as told r) P (λ f. (g : E) × F g × (f ≡ told g))
fault_as_decided {E = E} told (Ok x) P F d = known_ok x P (λ f. (g : E) × F g × (f ≡ told g)) (d.ok x refl) (λ y p. sym (ok_same E x y (d.is y p))) (λ f q. apart x q.0 (d.fails q.0 q.1))
fault_as_decided {X = X} {E = E} told (Err e) P F d =
    known_err (told e) P (λ f. (g : E) × F g × (f ≡ told g)) (e, d.err e refl, refl) (λ y p. apart y e (sym (d.is y p)))
    (λ f q. q.2 ∙ ap told (sym (err_same X e q.0 (d.fails q.0 q.1))))

inner_decided : (accepting : Bool) (rows : List Row) (e : Element) → Decides (inner_at accepting rows e) (GroupIs accepting rows e) (InnerFails accepting rows e)
inner_decided accepting rows e =
    decide_bind (whole (elements_of (e.at + 4) e.body)) (λ es. rows_at accepting rows es) (AreElements (e.at + 4) e.body)
    (IsCutShort (e.at + 4) e.body) (λ es. RowsAre accepting rows es) (λ es. RowsFail accepting rows es)
    (whole_decided (e.at + 4) e.body) (λ es. rows_decided accepting rows es)

group_decided : (accepting : Bool) (rows : List Row) (e : Element) → Decides (group_at accepting rows e) (GroupIs accepting rows e) (GroupFails accepting rows e)
unfolding group_at
group_decided accepting rows e =
    fault_as_decided (in_group e.at) (inner_at accepting rows e) (GroupIs accepting rows e) (InnerFails accepting rows e) (inner_decided accepting rows e)

-- each element in order
pub each_decided : {X : Type 0} (read : Element → Result X RowFault) (Is : Element → X → Type 0) (Fails : Element → RowFault → Type 0) → ((e : Element) → Decides (read e) (Is e) (Fails e))
    → (es : List Element) → Decides (each_at read es) (EachIs Is es) (SomeFails Is Fails es)
unfolding each_at
each_decided read Is Fails one [] = decide_ok []
each_decided read Is Fails one (e ∷ es) =
    decide_cons (read e) (λ first. each_at read es) (Is e) (Fails e) (λ first. EachIs Is es) (λ first. SomeFails Is Fails es) (one e) (λ first. each_decided read Is Fails one es)

groups_decided : (accepting : Bool) (rows : List Row) (es : List Element) → Decides (groups_at accepting rows es) (GroupsAre accepting rows es) (GroupsFail accepting rows es)
groups_decided accepting rows es = each_decided (group_at accepting rows) (GroupIs accepting rows) (GroupFails accepting rows) (group_decided accepting rows) es

-- whether there are enough groups
abbrev enough : Need → ℕ → ℕ → List (List (List Value)) → Result (List (List (List Value))) RowFault
enough need kind instance groups = cond (eqb (length groups) 0) (no_group need kind instance) (Ok groups)

some_left : (n : ℕ) → 0 < n → eqb n 0 ≡ false
some_left n h = grind (arith, nat_tests)

some_enough : (need : Need) (kind instance : ℕ) (groups : List (List (List Value))) → 0 < length groups → IsEnough need groups → ((f : RowFault) → NoGroup need kind instance groups f → ⊥)
    → Decides (enough need kind instance groups) (λ all. (all ≡ groups) × IsEnough need groups) (NoGroup need kind instance groups)
some_enough need kind instance groups some is_enough none =
    let e : enough need kind instance groups ≡ Ok groups = ap (λ b. cond b (no_group need kind instance) (Ok groups)) (some_left (length groups) some) in
    subst (λ (q : Result (List (List (List Value))) RowFault). Decides q (λ all. (all ≡ groups) × IsEnough need groups) (NoGroup need kind instance groups)) (sym e)
    (known_ok groups (λ all. (all ≡ groups) × IsEnough need groups) (NoGroup need kind instance groups) (refl, is_enough) (λ all h. h.0) none)

enough_decided : (need : Need) (kind instance : ℕ) (groups : List (List (List Value)))
    → Decides (enough need kind instance groups) (λ all. (all ≡ groups) × IsEnough need groups) (NoGroup need kind instance groups)
enough_decided needs.Optional kind instance [] = known_ok [] (λ all. (all ≡ []) × Unit {0}) (λ f. ⊥) (refl, tt) (λ all h. h.0) (λ f h. h)
enough_decided needs.Mandatory kind instance [] =
    known_err (faults.Missing kind instance false None) (λ all. (all ≡ []) × (0 < 0)) (λ f. ([] ≡ []) × (f ≡ faults.Missing kind instance false None))
    (refl, refl) (λ all h. omega (arith, h.1)) (λ f h. h.1)
enough_decided needs.Conditional kind instance [] =
    known_err (faults.Missing kind instance true None) (λ all. (all ≡ []) × (0 < 0)) (λ f. ([] ≡ []) × (f ≡ faults.Missing kind instance true None))
    (refl, refl) (λ all h. omega (arith, h.1)) (λ f h. h.1)
enough_decided needs.Optional kind instance (g ∷ gs) = some_enough needs.Optional kind instance (g ∷ gs) (omega arith) tt (λ f h. h)
enough_decided needs.Mandatory kind instance (g ∷ gs) = some_enough needs.Mandatory kind instance (g ∷ gs) (omega arith) (omega arith) (λ f h. omega (arith, ap length h.0))
enough_decided needs.Conditional kind instance (g ∷ gs) = some_enough needs.Conditional kind instance (g ∷ gs) (omega arith) (omega arith) (λ f h. omega (arith, ap length h.0))

some_groups_decided : (need : Need) (kind instance : ℕ) (accepting : Bool) (rows : List Row) (es : List Element)
    → Decides (some_groups need kind instance accepting rows es) (SomeGroups need kind instance accepting rows es)
    (SomeGroupsFail need kind instance accepting rows es)
unfolding some_groups
some_groups_decided need kind instance accepting rows es =
    decide_as (groups_at accepting rows es >>= enough need kind instance)
    (λ all. (groups : List (List (List Value))) × GroupsAre accepting rows es groups × ((all ≡ groups) × IsEnough need groups))
    (SomeGroups need kind instance accepting rows es)
    (SomeGroupsFail need kind instance accepting rows es) (SomeGroupsFail need kind instance accepting rows es)
    (λ all h. subst (SomeGroups need kind instance accepting rows es) (sym h.2.0) (h.1, h.2.1)) (λ all h. (all, h.0, (refl, h.1))) (λ f h. h) (λ f h. h)
    (decide_bind (groups_at accepting rows es) (enough need kind instance) (GroupsAre accepting rows es) (GroupsFail accepting rows es)
    (λ groups all. (all ≡ groups) × IsEnough need groups) (NoGroup need kind instance)
    (groups_decided accepting rows es) (enough_decided need kind instance))

-- ---- several values

one_element_decided : (kind instance : ℕ) (e : Element) → Decides (one_at kind instance e) (OneIs kind e) (OneFails kind instance e)
unfolding one_at
one_element_decided kind instance e = by_reading (value_at kind e.body) (value_decided kind e.body) where
  by_reading : (r : Result Value ReadFault) → Decides r (Spells kind e.body) (SpellsNone kind e.body) → Decides (named kind instance e.at r) (OneIs kind e) (OneFails kind instance e)
  by_reading (Ok v) d =
      known_ok v (OneIs kind e) (OneFails kind instance e) (d.ok v refl) (λ x p. let q = d.is x p in cc)
      (λ f q. elim q [ short_one a b ↦ let t = d.fails Short a in cc | bad_one a b ↦ let t = d.fails Bad a in cc ])
  by_reading (Err Short) d =
      known_err (faults.Element (ShortValue kind instance e.at)) (OneIs kind e) (OneFails kind instance e) (short_one (d.err Short refl) refl)
      (λ x p. let q = d.is x p in cc) (λ f q. elim q [ short_one a b ↦ cc | bad_one a b ↦ let t = d.fails Bad a in cc ])
  by_reading (Err Bad) d =
      known_err (faults.Element (BadValue kind instance e.at)) (OneIs kind e) (OneFails kind instance e) (bad_one (d.err Bad refl) refl)
      (λ x p. let q = d.is x p in cc) (λ f q. elim q [ short_one a b ↦ let t = d.fails Short a in cc | bad_one a b ↦ cc ])

-- whether there are enough values
abbrev enough_values : Bool → ℕ → ℕ → List Value → Result (List Value) RowFault
enough_values needed kind missed values = cond (eqb (length values) 0) (no_value needed kind missed) (Ok values)

abbrev NoValue : Bool → ℕ → ℕ → List Value → RowFault → Type 0
NoValue needed kind missed values f = (values ≡ []) × (needed ≡ true) × (f ≡ faults.Missing kind missed true None)

values_enough : (needed : Bool) (kind missed : ℕ) (values : List Value)
    → Decides (enough_values needed kind missed values) (λ all. (all ≡ values) × (needed ≡ true → 0 < length all)) (NoValue needed kind missed values)
values_enough true kind missed [] =
    known_err (faults.Missing kind missed true None) (λ all. (all ≡ []) × (true ≡ true → 0 < length all)) (NoValue true kind missed [])
    (refl, refl, refl) (λ all h. let some = h.1 refl in omega (arith, some, ap length h.0)) (λ f h. h.2)
values_enough false kind missed [] = known_ok [] (λ all. (all ≡ []) × (false ≡ true → 0 < length all)) (NoValue false kind missed []) (refl, λ h. absurd cc) (λ all h. h.0) (λ f h. let t = h.1 in cc)
values_enough needed kind missed (v ∷ vs) =
    let e : enough_values needed kind missed (v ∷ vs) ≡ Ok (v ∷ vs) = ap (λ b. cond b (no_value needed kind missed) (Ok (v ∷ vs))) (some_left (length (v ∷ vs)) (omega arith)) in
    subst (λ (q : Result (List Value) RowFault). Decides q (λ all. (all ≡ v ∷ vs) × (needed ≡ true → 0 < length all)) (NoValue needed kind missed (v ∷ vs))) (sym e)
    (known_ok (v ∷ vs) (λ all. (all ≡ v ∷ vs) × (needed ≡ true → 0 < length all)) (NoValue needed kind missed (v ∷ vs)) (refl, λ h. omega arith)
    (λ all h. h.0) (λ f h. let t = ap length h.0 in omega (arith, t)))

several_decided : (needed : Bool) (kind instance missed : ℕ) (es : List Element)
    → Decides (several_at needed kind instance missed es) (SeveralAre needed kind instance es) (SeveralFail needed kind instance missed es)
unfolding several_at
several_decided needed kind instance missed es =
    let of_row = all_of kind instance es in
    decide_as (values_at kind instance of_row >>= enough_values needed kind missed)
    (λ all. (values : List Value) × EachIs (OneIs kind) of_row values × ((all ≡ values) × (needed ≡ true → 0 < length all)))
    (SeveralAre needed kind instance es)
    (SeveralFail needed kind instance missed es) (SeveralFail needed kind instance missed es)
    (λ all h. (subst (EachIs (OneIs kind) of_row) (sym h.2.0) h.1, h.2.1)) (λ all h. (all, h.0, (refl, h.1))) (λ f h. h) (λ f h. h)
    (decide_bind (values_at kind instance of_row) (enough_values needed kind missed) (EachIs (OneIs kind) of_row)
    (SomeFails (OneIs kind) (OneFails kind instance) of_row) (λ values all. (all ≡ values) × (needed ≡ true → 0 < length all))
    (NoValue needed kind missed)
    (each_decided (one_at kind instance) (OneIs kind) (OneFails kind instance) (one_element_decided kind instance) of_row) (values_enough needed kind missed))

-- ---- lines

line_decided : (state : State) (line : Line) (es : List Element) → Decides (line_at state line es) (LineIs state line es) (LineFails state line es)
line_decided state (Single row) es =
    decide_map (row_at state.accepting row es) (λ values. Plain values) (RowIs state.accepting row es) (RowFails state.accepting row es)
    (row_decided state.accepting row es)
line_decided state (Grouped row rows) es =
    let of_row = all_of (kind_of row) (instance_of row) es in
    decide_map (some_groups (need_of state.accepting row) (kind_of row) (instance_of row) state.accepting rows of_row) (λ groups. Groups groups)
    (SomeGroups (need_of state.accepting row) (kind_of row) (instance_of row) state.accepting rows of_row)
    (SomeGroupsFail (need_of state.accepting row) (kind_of row) (instance_of row) state.accepting rows of_row)
    (some_groups_decided (need_of state.accepting row) (kind_of row) (instance_of row) state.accepting rows of_row)
line_decided state (Several kind instance missed) es =
    decide_map (several_at state.silent kind instance missed es) (λ values. Plain values) (SeveralAre state.silent kind instance es)
    (SeveralFail state.silent kind instance missed es) (several_decided state.silent kind instance missed es)

pub lines_decided : (state : State) (lines : List Line) (es : List Element) → Decides (lines_at state lines es) (LinesAre state lines es) (LinesFail state lines es)
unfolding lines_at
lines_decided state [] es = decide_ok []
lines_decided state (line ∷ lines) es =
    decide_cons (line_at state line es) (λ field. lines_at (after state field) lines es) (LineIs state line es) (LineFails state line es)
    (λ field. LinesAre (after state field) lines es) (λ field. LinesFail (after state field) lines es)
    (line_decided state line es) (λ field. lines_decided (after state field) lines es)
