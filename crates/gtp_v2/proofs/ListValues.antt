-- What lists of values have, by their elements.
use Rattle.std.proofs.Common.{rules, ◌≡◌, ℕ, Bool, true, false, List, [], ◌∷◌, ◌++◌, Option, Some, option_map, Result, Ok, Err, sym, ap, ◌∙◌}
use Rattle.std.specs.Prelude.{◌==◌, if◌then◌else◌, option_to_list, length, unwrap_or}
use Rattle.gtp_values.specs.Steps.{◌>>=◌}
use Rattle.gtp_values.proofs.Decided.{bind_ok}
use Rattle.gtp_values.proofs.Outcomes.{done, ok_same}
use Rattle.gtp_ie.specs.Element.{Element, all_of}
use Rattle.gtp_ie.specs.Value.{Value}
use Rattle.gtp_v2.specs.declared.fault.RowFault.{RowFault}
use Rattle.gtp_v2.specs.Tables.{table_of}
use Rattle.gtp_v2.specs.Table.{Line, Single, Grouped, Several, Field, Plain, State}
use Rattle.gtp_v2.specs.reading.Rows.{line_at, one_at, values_at, each_at, no_value, several_at}
use Rattle.gtp_v2.specs.Viewed.{Viewed, values_of, found_by, plain_of, is_list, in_list, has_several, several_of}
use Rattle.gtp_v2.proofs.Views.{one_is, both_same, IsRead, made_of, there_by, found_is}

each_value : (kind instance : ℕ) (es : List Element) (values : List Value) → values_at kind instance es ≡ Ok values → values_of kind es ≡ values
unfolding each_at
each_value kind instance [] values h = ok_same RowFault [] values h
each_value kind instance (e ∷ es) values h =
    let b = bind_ok (one_at kind instance e) (λ first. each_at (one_at kind instance) es >>= λ others. done RowFault (first ∷ others)) values h in
    let d = bind_ok (each_at (one_at kind instance) es) (λ others. done RowFault (b.0 ∷ others)) values b.2 in
    ap (λ (o : Option Value). option_to_list o ++ values_of kind es) (one_is kind instance e b.0 b.1)
    ∙ ap (λ others. b.0 ∷ others) (each_value kind instance es d.0 d.1) ∙ ok_same RowFault (b.0 ∷ d.0) values d.2

kept_are : (needed : Bool) (kind missed : ℕ) (r : Result (List Value) RowFault) (values : List Value)
    → (r >>= λ vs. if length vs == 0 then no_value needed kind missed else Ok vs) ≡ Ok values → r ≡ Ok values
kept_are true kind missed (Ok []) values h = absurd cc
kept_are false kind missed (Ok []) values h = h
kept_are needed kind missed (Ok (v ∷ vs)) values h = by_length (length (v ∷ vs) == 0) (search rules) h where
  by_length : (b : Bool) → b ≡ false → (if b then no_value needed kind missed else Ok (v ∷ vs)) ≡ Ok values → done RowFault (v ∷ vs) ≡ Ok values
  by_length true is h = absurd cc
  by_length false is h = h
kept_are needed kind missed (Err f) values h = absurd cc

list_found : (kind instance : ℕ) (es : List Element) (line : Line) (field : Field) (state : State) → line_at state line es ≡ Ok field
    → is_list kind instance line ≡ true → values_of kind (all_of kind instance es) ≡ plain_of field
unfolding several_at
list_found kind instance es (Several k i missed) field state one same =
    let of = all_of k i es in
    let g = bind_ok (several_at state.silent k i missed es) (λ vs. done RowFault (Plain vs)) field one in
    let p = both_same k kind i instance same in
    (λ j. values_of (sym p.0 j) (all_of (sym p.0 j) (sym p.1 j) es))
    ∙ each_value k i of g.0 (kept_are state.silent k missed (values_at k i of) g.0 g.1) ∙ ap plain_of (ok_same RowFault (Plain g.0) field g.2)
list_found kind instance es (Single row) field state one same = absurd cc
list_found kind instance es (Grouped row rows) field state one same = absurd cc

-- a list of the message has the values of its elements
pub list_is : (kind instance : ℕ) (v : Viewed) → IsRead v → (values : List Value) → in_list kind instance v.message ≡ Some values → values_of kind (all_of kind instance v.elements) ≡ values
list_is kind instance v read values is =
    let q = made_of (λ (p : Line × Field). plain_of p.1) (found_by (is_list kind instance) (table_of v.message.kind) v.message.content) values is in
    let f = found_is (is_list kind instance) v read q.0 q.1 in
    list_found kind instance v.elements q.0.0 q.0.1 f.0 f.1 f.2 ∙ q.2

-- where its table has the list, it is what its elements say
pub several_are : (kind instance : ℕ) (v : Viewed) → IsRead v → has_several v.message.kind kind instance ≡ true → values_of kind (all_of kind instance v.elements) ≡ several_of kind instance v.message
several_are kind instance v read has =
    let t = there_by (is_list kind instance) (table_of v.message.kind) v.message.content v.elements read has in
    let list : in_list kind instance v.message ≡ Some (plain_of t.0.1) = ap (option_map (λ (p : Line × Field). plain_of p.1)) t.1 in
    list_is kind instance v read (plain_of t.0.1) list ∙ sym (ap (λ (o : Option (List Value)). unwrap_or o []) list)
