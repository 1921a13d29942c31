-- That elements have what a table asks, from what is read of them.
use Rattle.std.proofs.Common.{◌≡◌, ℕ, Bool, true, false, ◌&&◌, List, [], ◌∷◌, ◌++◌, length, Option, Some, None, Result, Ok, Err, refl, ap, arith, ◌∙◌}
use Rattle.std.proofs.lemmas.Bool.{eqb-true}
use Rattle.std.specs.Bool.{beq}
use Rattle.std.specs.Prelude.{◌==◌, not, IsTrue, IsOk, if◌then◌else◌, is_some, IsSomeAnd}
use Rattle.gtp_values.specs.Steps.{◌>>=◌}
use Rattle.gtp_values.proofs.Decided.{bind_at}
use Rattle.gtp_ie.specs.Element.{Element, elements_of, all_of}
use Rattle.gtp_ie.specs.Value.{Value}
use Rattle.gtp_v2.specs.declared.fault.RowFault.{RowFault}
use Rattle.gtp_v2.specs.declared.fault.Need.{Need}
use Rattle.gtp_v2.specs.declared.fault.Need.TheVariants as needs
use Rattle.gtp_v2.specs.Table.{Row, Groups, Plain, Table, start, is_silent}
use Rattle.gtp_v2.specs.Tables.{table_of}
use Rattle.gtp_v2.specs.Headed.{Headed}
use Rattle.gtp_v2.specs.reading.Message.{content_at, typed_at, list_at}
use Rattle.gtp_v2.specs.reading.Rows.{one_at, lines_at, group_at, groups_at, some_groups, no_group, values_at, several_at, no_value}
use Rattle.gtp_v2.specs.reading.Checked.{forgotten, group_passes, groups_silent, values_silent}
use Rattle.gtp_v2.specs.reading.Viewed.{IsViewed}
use Rattle.gtp_v2.proofs.Checks.{Passes, passes_on, passed}

-- what reads is something
pub ok_is : {X E : Type 0} (r : Result X E) → IsOk r → (x : X) × (r ≡ Ok x)
ok_is (Ok x) h = (x, refl)
ok_is (Err e) h = absurd cc

pub passes_where_read : (accepting : Bool) (rows : List Row) (e : Element) (values : List (List Value)) → group_at accepting rows e ≡ Ok values → group_passes accepting rows e ≡ Ok tt
unfolding group_passes
passes_where_read accepting rows e values h = ap forgotten h

is_false : (b : Bool) → IsTrue (not b) → b ≡ false
is_false true h = absurd cc
is_false false h = refl

some_are : {X E : Type 0} (x : X) (xs : List X) (none : Result (List X) E) (b : Bool) → (length (x ∷ xs) == 0) ≡ b → IsOk (if b then none else Ok (x ∷ xs))
some_are x xs none false is = refl
some_are x xs none true is = let zero : length (x ∷ xs) ≡ 0 = eqb-true (length (x ∷ xs)) 0 is in absurd (omega (arith, zero))

-- groups, of which there is one
pub groups_there : (need : Need) (kind instance : ℕ) (accepting silent : Bool) (rows : List Row) (es : List Element) → groups_silent accepting rows es ≡ Ok silent
    → IsTrue (not silent) → IsOk (some_groups need kind instance accepting rows es)
unfolding groups_silent some_groups
groups_there need kind instance accepting silent rows es h there = by_groups (groups_at accepting rows es) (h ∙ ap (λ b. Ok b) (is_false silent there)) where
  by_groups : (r : Result (List (List (List Value))) RowFault) → (r >>= λ groups. Ok (is_silent (Groups groups))) ≡ Ok false
      → IsOk (r >>= λ groups. if length groups == 0 then no_group need kind instance else Ok groups)
  by_groups (Ok []) h = absurd cc
  by_groups (Ok (group ∷ groups)) h = some_are group groups (no_group need kind instance) (length (group ∷ groups) == 0) refl
  by_groups (Err f) h = absurd cc

-- groups, of which none is needed
pub groups_optional : (kind instance : ℕ) (accepting silent : Bool) (rows : List Row) (es : List Element) → groups_silent accepting rows es ≡ Ok silent
    → IsOk (some_groups needs.Optional kind instance accepting rows es)
unfolding groups_silent some_groups
groups_optional kind instance accepting silent rows es h = by_groups (groups_at accepting rows es) h where
  by_groups : (r : Result (List (List (List Value))) RowFault) → (r >>= λ groups. Ok (is_silent (Groups groups))) ≡ Ok silent
      → IsOk (r >>= λ groups. if length groups == 0 then no_group needs.Optional kind instance else Ok groups)
  by_groups (Ok []) h = refl
  by_groups (Ok (group ∷ groups)) h = some_are group groups (no_group needs.Optional kind instance) (length (group ∷ groups) == 0) refl
  by_groups (Err f) h = absurd cc

-- values, of which there is one where one is needed
pub values_pass : (needed silent : Bool) (kind instance missed : ℕ) (es : List Element) → values_silent kind instance (all_of kind instance es) ≡ Ok silent
    → IsTrue (not (needed && silent)) → IsOk (several_at needed kind instance missed es)
unfolding values_silent several_at
values_pass needed silent kind instance missed es h both = by_values (values_at kind instance (all_of kind instance es)) h where
  none_needed : (a s : Bool) → s ≡ true → IsTrue (not (a && s)) → IsOk (no_value a kind missed)
  none_needed true true is both = absurd cc
  none_needed true false is both = absurd cc
  none_needed false s is both = refl

  by_values : (r : Result (List Value) RowFault) → (r >>= λ values. Ok (is_silent (Plain values))) ≡ Ok silent
      → IsOk (r >>= λ values. if length values == 0 then no_value needed kind missed else Ok values)
  by_values (Ok []) h = let none : silent ≡ true = cc in none_needed needed silent none both
  by_values (Ok (v ∷ values)) h = some_are v values (no_value needed kind missed) (length (v ∷ values) == 0) refl
  by_values (Err f) h = absurd cc

one_there : (values : List Value) (v : Value) → is_silent (Plain (values ++ v ∷ [])) ≡ false
one_there [] v = refl
one_there (w ∷ values) v = refl

abbrev pub no_values : List Value → Bool
no_values values = is_silent (Plain values)

pub value_there : (kind instance : ℕ) (silent : Bool) (e : Element) (es left : List Element) (v : Value) (total : Result (List Value) RowFault)
    → left ≡ e ∷ es → one_at kind instance e ≡ Ok v → Passes (one_at kind instance) no_values silent left total → Passes (one_at kind instance) no_values false es total
value_there kind instance silent e es left v total split reads so_far =
    passes_on (one_at kind instance) no_values silent false e es left v total split reads (λ front is. one_there front v) so_far

pub values_seen : (kind instance : ℕ) (silent : Bool) (left all : List Element) → left ≡ []
    → Passes (one_at kind instance) no_values silent left (values_at kind instance all) → values_silent kind instance all ≡ Ok silent
unfolding values_silent
values_seen kind instance silent left all none so_far =
    let r = passed (one_at kind instance) no_values silent left (values_at kind instance all) none so_far in
    bind_at (values_at kind instance all) (λ values. Ok (no_values values)) r.0 r.2 ∙ ap (λ b. Ok b) r.1

pub same_form : (b : Bool) → beq b b ≡ true
same_form true = refl
same_form false = refl

-- a header whose elements have what its table asks
pub passing : (h : Headed) (es : List Element) (has_teid : Bool) → is_some h.teid ≡ has_teid → elements_of h.at h.rest ≡ Ok es
    → IsSomeAnd (table_of h.kind) (λ t. (has_teid ≡ t.has_teid) × IsOk (lines_at start t.lines es)) → IsViewed h (Some es)
unfolding content_at typed_at list_at
passing h es has_teid form walked passes = by_table (table_of h.kind) refl passes where
  by_table : (o : Option Table) → table_of h.kind ≡ o → IsSomeAnd o (λ t. (has_teid ≡ t.has_teid) × IsOk (lines_at start t.lines es)) → IsViewed h (Some es)
  by_table (Some t) is p =
      let fields = ok_is _ p.1 in
      record { reads = rw (is, form ∙ p.0, same_form t.has_teid, walked, fields.1) refl; walked = rw (is, walked) refl }
  by_table None is p = absurd p
