-- What contracts see of a message's parts determines them.
use Rattle.std.proofs.Common.{◌≡◌, ℕ, List, [], ◌∷◌, Option, Some, None, map, refl, ap}
use Rattle.std.specs.Prelude.{option_map, option_to_list}
use Rattle.gtp_values.proofs.Same.{app}
use Rattle.gtp_ie.specs.Value.{Value}
use Rattle.gtp_v2.specs.Table.{Field, Plain, Groups, Table}
use Rattle.gtp_v2.specs.Body.{by}
use Rattle.gtp_v2.proofs.Same.{kept, same_fields, same_octets}

-- a view by which no two are the same
abbrev pub Determines : {X Y : Type 0} → (X → Y) → Type 0
Determines {X} view = (a b : X) → view a ≡ view b → a ≡ b

pub first_one : {X : Type 0} {x y : X} {xs ys : List X} → (x ∷ xs) ≡ (y ∷ ys) → x ≡ y
first_one e = cc

pub others_one : {X : Type 0} {x y : X} {xs ys : List X} → (x ∷ xs) ≡ (y ∷ ys) → xs ≡ ys
others_one e = cc

pub plain_one : {xs ys : List Value} → Plain xs ≡ Plain ys → xs ≡ ys
plain_one e = cc

pub groups_one : {xs ys : List (List (List Value))} → Groups xs ≡ Groups ys → xs ≡ ys
groups_one e = cc

-- the value of a row
pub row_one : {X : Type 0} (a b : X) (view : X → Value) → Determines view → (view a ∷ []) ≡ (view b ∷ []) → a ≡ b
row_one a b view one e = one a b (first_one e)

-- the value of a row, where there is one
pub option_one : {X : Type 0} (o p : Option X) (view : X → Value) → Determines view → option_to_list (option_map view o) ≡ option_to_list (option_map view p) → o ≡ p
option_one (Some x) (Some y) view one e = ap (λ z. Some z) (one x y (first_one e))
option_one None None view one e = refl
option_one o p view one e = absurd cc

-- the members of a list
pub list_one : {X Y : Type 0} (xs ys : List X) (view : X → Y) → Determines view → map view xs ≡ map view ys → xs ≡ ys
list_one [] [] view one e = refl
list_one (x ∷ xs) (y ∷ ys) view one e = app (ap (λ z zs. z ∷ zs) (one x y (first_one e))) (list_one xs ys view one (others_one e))
list_one xs ys view one e = absurd cc

pub kind_one : {f g : List Field} (table : Table) → by table f ≡ by table g → f ≡ g
kind_one {f = f} {g = g} table e = same_fields f g (ap (λ s. s.content) e)

-- octets that are kept
pub kept_one : {k l : ℕ} {xs ys : List ℕ} → kept k xs ≡ kept l ys → (k ≡ l) × (xs ≡ ys)
kept_one {xs = xs} {ys = ys} e = (ap (λ s. s.kind) e, same_octets xs ys (ap (λ s. s.content) e))
