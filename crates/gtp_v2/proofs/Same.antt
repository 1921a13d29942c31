-- Where `==` of messages is true, contracts see the same message.
use Rattle.std.proofs.Common.{◌≡◌, ◌∙◌, ℕ, Bool, true, false, List, [], ◌∷◌, Option, Some, None, map, refl, ap, sym}
use Rattle.std.specs.Prelude.{◌&&◌, nat_eq, option_map, option_to_list}
use Rattle.std.specs.Bool.{Decides}
use Rattle.std.specs.Option.{option_eq}
use Rattle.std.specs.Cmp.Lexicographic.{pointwise}
use Rattle.std.proofs.lemmas.Bool.Decides.{Decides-eqb}
use Rattle.gtp_values.proofs.Same.{app, and_then, whole_by, options_same}
use Rattle.gtp_ie.specs.Value.{Value}
use Rattle.gtp_v2.specs.Table.{Field, Plain, Groups, Table}
use Rattle.gtp_v2.specs.Message.{Content, Fields, Raw}
use Rattle.gtp_v2.specs.Body.{Said, by}

-- the value of a row
pub row_same : {p : Bool} {v w : Value} → Decides p (v ≡ w) → Decides p ((v ∷ []) ≡ (w ∷ []))
row_same d = whole_by (λ e. ap (λ x. x ∷ []) e) (λ e. cc) d

-- the value of a row, where there is one
pub option_same : {X : Type 0} {eq : X → X → Bool} {view : X → Value} → ((a b : X) → Decides (eq a b) (view a ≡ view b)) → (o p : Option X)
    → Decides (option_eq eq o p) (option_to_list (option_map view o) ≡ option_to_list (option_map view p))
option_same same (Some x) (Some y) = row_same (same x y)
option_same same None None = (λ e. refl, λ e. refl)
option_same same o p = (λ e. absurd cc, λ e. absurd cc)

-- the members of a list
pub list_same : {X Y : Type 0} {eq : X → X → Bool} {view : X → Y} → ((a b : X) → Decides (eq a b) (view a ≡ view b)) → (xs ys : List X)
    → Decides (pointwise eq xs ys) (map view xs ≡ map view ys)
list_same same [] [] = (λ e. refl, λ e. refl)
list_same {view = view} same (x ∷ xs) (y ∷ ys) = whole_by (λ e. app (ap (λ z zs. z ∷ zs) e.0) e.1) (λ e. (cc, cc)) (and_then (same x y) (list_same same xs ys))
list_same same xs ys = (λ e. absurd cc, λ e. absurd cc)

pub plain_same : {p : Bool} {xs ys : List Value} → Decides p (xs ≡ ys) → Decides p (Plain xs ≡ Plain ys)
plain_same d = whole_by (λ e. ap (λ zs. Plain zs) e) (λ e. cc) d

pub groups_same : {p : Bool} {xs ys : List (List (List Value))} → Decides p (xs ≡ ys) → Decides p (Groups xs ≡ Groups ys)
groups_same d = whole_by (λ e. ap (λ zs. Groups zs) e) (λ e. cc) d

-- the last row
pub last_same : {X : Type 0} {p : Bool} {x y : X} → Decides p (x ≡ y) → Decides p ((x ∷ []) ≡ (y ∷ []))
last_same d = whole_by (λ e. ap (λ z. z ∷ []) e) (λ e. cc) d

-- a row, and the rows after it
pub first_same : {X : Type 0} {p q : Bool} {x y : X} {xs ys : List X} → Decides p (x ≡ y) → Decides q (xs ≡ ys) → Decides (p && q) ((x ∷ xs) ≡ (y ∷ ys))
first_same d others = whole_by (λ e. app (ap (λ z zs. z ∷ zs) e.0) e.1) (λ e. (cc, cc)) (and_then d others)

-- the fields of a table
pub same_fields : (f g : List Field) → Fields f ≡ Fields g → f ≡ g
same_fields f g e = cc

pub kind_same : {p : Bool} {f g : List Field} (table : Table) → Decides p (f ≡ g) → Decides p (by table f ≡ by table g)
kind_same {f = f} {g = g} table d = whole_by (λ e. ap (λ fields. by table fields) e) (λ e. same_fields f g (ap (λ s. s.content) e)) d

-- octets that are kept
pub same_octets : (xs ys : List ℕ) → Raw xs ≡ Raw ys → xs ≡ ys
same_octets xs ys e = cc

abbrev pub kept : ℕ → List ℕ → Said
kept kind octets = record { kind = kind; content = Raw octets }

pub kept_same : {p q : Bool} {k l : ℕ} {xs ys : List ℕ} → Decides p (k ≡ l) → Decides q (xs ≡ ys) → Decides (p && q) (kept k xs ≡ kept l ys)
kept_same {xs = xs} {ys = ys} d e = whole_by (λ s. app (ap kept s.0) s.1) (λ s. (ap (λ w. w.kind) s, same_octets xs ys (ap (λ w. w.content) s))) (and_then d e)

-- the type of what has a table
abbrev tag_by : ℕ → Content → Option ℕ
tag_by kind (Fields fields) = Some kind
tag_by kind (Raw octets) = None

abbrev pub tag_of : Said → Option ℕ
tag_of s = tag_by s.kind s.content

pub tags_apart : (m n : Option ℕ) → option_eq nat_eq m n ≡ false → m ≡ n → ⊥
tags_apart m n differ same = by_test ((options_same nat_eq Decides-eqb m n).1 same) where
  by_test : option_eq nat_eq m n ≡ true → ⊥
  by_test h = let bad = sym differ ∙ h in absurd cc

-- what is false and can't be
pub apart_same : {A B : Type 0} → (B → ⊥) → (A → B) → Decides false A
apart_same none to = (λ e. absurd cc, λ a. absurd (none (to a)))
