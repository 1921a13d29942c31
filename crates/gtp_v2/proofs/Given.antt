-- What elements give a message that is built as it is read.
use Rattle.std.proofs.Common.{◌≡◌, ℕ, Bool, true, false, ◌&&◌, List, [], ◌∷◌, map, length, Option, Some, None, Result, Ok, Err, refl, ap, arith, ◌∙◌}
use Rattle.std.proofs.lemmas.Bool.{eqb-true}
use Rattle.std.specs.Prelude.{◌==◌, not, IsTrue, if◌then◌else◌, is_some, IsSomeAnd}
use Rattle.gtp_ie.specs.Element.{Element, elements_of, all_of}
use Rattle.gtp_ie.specs.Value.{Value}
use Rattle.gtp_values.specs.Steps.{◌>>=◌}
use Rattle.gtp_v2.specs.declared.fault.RowFault.{RowFault}
use Rattle.gtp_v2.specs.declared.fault.Need.{Need}
use Rattle.gtp_v2.specs.declared.fault.Need.TheVariants as needs
use Rattle.gtp_v2.specs.declared.header.Header.{Header}
use Rattle.gtp_v2.specs.declared.message.Message.{Message}
use Rattle.gtp_v2.specs.Body.{content_of, kind_of, message_value}
use Rattle.gtp_v2.specs.Headed.{Headed}
use Rattle.gtp_v2.specs.Message.{Content, Fields}
use Rattle.gtp_v2.specs.Table.{Row, Field, Table}
use Rattle.gtp_v2.specs.Tables.{table_of}
use Rattle.gtp_v2.specs.reading.Headed.{headed_of, header_at, HasHeader}
use Rattle.gtp_v2.specs.reading.Message.{told, carried_at, content_at, typed_at, list_at, message_at}
use Rattle.gtp_v2.specs.reading.Rows.{groups_at, some_groups, no_group, values_at, several_at, no_value}
use Rattle.gtp_v2.proofs.Passing.{same_form}

module _ {X E : Type 0} where
  some_so : (x : X) (xs : List X) (none : Result (List X) E) (b : Bool) → (length (x ∷ xs) == 0) ≡ b → (if b then none else Ok (x ∷ xs)) ≡ Ok (x ∷ xs)
  some_so x xs none false is = refl
  some_so x xs none true is = let zero : length (x ∷ xs) ≡ 0 = eqb-true (length (x ∷ xs)) 0 is in absurd (omega (arith, zero))

  -- a list that has a member is given
  some_given : {C : Type 0} (view : C → X) (cs : List C) (none : Result (List X) E) → (length cs ≡ 0 → ⊥) → (if length (map view cs) == 0 then none else Ok (map view cs)) ≡ Ok (map view cs)
  some_given view [] none h = absurd (h refl)
  some_given view (c ∷ cs) none h = some_so (view c) (map view cs) none (length (view c ∷ map view cs) == 0) refl

  -- and so is any, where it may have none
  any_given : {C : Type 0} (view : C → X) (cs : List C) (none : Result (List X) E) → none ≡ Ok [] → (if length (map view cs) == 0 then none else Ok (map view cs)) ≡ Ok (map view cs)
  any_given view [] none h = h
  any_given view (c ∷ cs) none h = some_so (view c) (map view cs) none (length (view c ∷ map view cs) == 0) refl

-- groups, of which there is one
pub groups_given : {C : Type 0} (view : C → List (List Value)) (need : Need) (kind instance : ℕ) (accepting : Bool) (rows : List Row) (es : List Element) (cs : List C)
    → groups_at accepting rows es ≡ Ok (map view cs) → (length cs ≡ 0 → ⊥) → some_groups need kind instance accepting rows es ≡ Ok (map view cs)
unfolding some_groups
groups_given view need kind instance accepting rows es cs reads there = rw reads (some_given view cs (no_group need kind instance) there)

-- groups, of which none is needed
pub optional_given : {C : Type 0} (view : C → List (List Value)) (kind instance : ℕ) (accepting : Bool) (rows : List Row) (es : List Element) (cs : List C)
    → groups_at accepting rows es ≡ Ok (map view cs) → some_groups needs.Optional kind instance accepting rows es ≡ Ok (map view cs)
unfolding some_groups
optional_given view kind instance accepting rows es cs reads = rw reads (any_given view cs (no_group needs.Optional kind instance) refl)

-- values, of which there is one where one is needed
pub several_given : {C : Type 0} (view : C → Value) (needed empty : Bool) (kind instance missed : ℕ) (es : List Element) (cs : List C)
    → values_at kind instance (all_of kind instance es) ≡ Ok (map view cs) → (length cs ≡ 0 → IsTrue empty) → IsTrue (not (needed && empty))
    → several_at needed kind instance missed es ≡ Ok (map view cs)
unfolding several_at
several_given view true true kind instance missed es cs reads none some = absurd cc
several_given view true false kind instance missed es cs reads none some = rw reads (some_given view cs (no_value true kind missed) (λ e. let bad = none e in absurd cc))
several_given view false empty kind instance missed es cs reads none some = rw reads (any_given view cs (no_value false kind missed) refl)

-- what a message carries, from the lines of its table
pub content_given : (h : Headed) (es : List Element) (has_teid : Bool) (content : Content) → is_some h.teid ≡ has_teid → elements_of h.at h.rest ≡ Ok es
    → IsSomeAnd (table_of h.kind) (λ t. (has_teid ≡ t.has_teid) × (carried_at t.lines es ≡ Ok content)) → content_at h ≡ Ok content
unfolding content_at typed_at list_at
content_given h es has_teid content form walked given = by_table (table_of h.kind) refl given where
  by_lines : (head : _) (r : Result (List Field) RowFault) → (r >>= λ fields. Ok (Fields fields)) ≡ Ok content → (told head r >>= λ fields. Ok (Fields fields)) ≡ Ok content
  by_lines head (Ok fields) e = ap (λ c. Ok c) cc
  by_lines head (Err f) e = absurd cc

  by_table : (o : Option Table) → table_of h.kind ≡ o → IsSomeAnd o (λ t. (has_teid ≡ t.has_teid) × (carried_at t.lines es ≡ Ok content)) → content_at h ≡ Ok content
  by_table (Some t) is p = rw (is, form ∙ p.0, same_form t.has_teid, walked) (by_lines _ _ p.1)
  by_table None is p = absurd p

-- the message that is built of what carries its header and content
pub message_given : (octets : List ℕ) (h : Header) (m : Message) → header_at octets ≡ Ok (headed_of h) → content_at (headed_of h) ≡ Ok (content_of m.body)
    → kind_of m.body ≡ h.kind → HasHeader h m → message_at octets ≡ Ok (message_value m)
unfolding message_at
message_given octets h m header content kind has = rw (header, content, kind, has.0, has.1, has.2) refl
