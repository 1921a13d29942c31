-- What was chosen alike.
use Rattle.std.proofs.Common.{◌≡◌, ℕ, List, ◌∷◌, Option, Some, None, refl, sym, ◌∙◌, ap, ⊎_elim}
use Rattle.std.specs.FinMap.{get, insert}
use Rattle.std.specs.Prelude.{is_some, not, ◌&&◌, ◌==◌, if◌then◌else◌}
use Rattle.gtp_values.specs.FiniteMap.{FiniteMap, Among}
use Rattle.gtp_tables.specs.declared.pool.IpVersion.{IpVersion}
use Rattle.gtp_tables.specs.declared.pool.IpVersion.TheVariants.{V4, V6}
use Rattle.gtp_tables.specs.Part.{part_in}
use Rattle.gtp_machine.specs.Node.{PendingRequest, Node}
use Rattle.gtp_machine.specs.Choice.{HasPending, IsPart, IsGiven}
use Rattle.gtp_machine.specs.Element.{PdnAddress}
use Rattle.gtp_machine.specs.Packet.{session_cause}
use Rattle.gtp_machine.proofs.Basics.FiniteMaps.{found-insert, get-insert_same}
use Rattle.gtp_machine.proofs.Determined.Alike.{ComesBeside}

-- what was drawn last, and what was drawn before it
pub last_drawn : (t u : ℕ) (xs ys : List ℕ) → (t ∷ xs) ≡ (u ∷ ys) → t ≡ u
last_drawn t u xs ys e = cc

pub second_drawn : (s t u v : ℕ) (drawn : List ℕ) → (s ∷ (t ∷ drawn)) ≡ (u ∷ (v ∷ drawn)) → t ≡ v
second_drawn s t u v drawn e = cc

-- all that was drawn before the last
pub rest_drawn : (t u : ℕ) (xs ys : List ℕ) → (t ∷ xs) ≡ (u ∷ ys) → xs ≡ ys
rest_drawn t u xs ys e = cc

-- a number under which nothing waited is that of the new request, where something waits there now
pub new_number : (other : Node) (pending : FiniteMap PendingRequest) (m n : ℕ) (q : PendingRequest) → other.pending ≡ insert pending n q → get pending m ≡ None → HasPending other m → m ≡ n
new_number other pending m n q is_other free here =
    ⊎_elim (λ same. same.0) (λ old. absurd (never old.1))
    (found-insert pending n q m here.pending (sym (ap (λ (k : FiniteMap PendingRequest). get k m) is_other) ∙ here.waits))
  where
    never : {x : PendingRequest} → get pending m ≡ Some x → ⊥
    never {x} e = cc

-- the number of a new request
pub one_number : (one other : Node) (pending : FiniteMap PendingRequest) (m n : ℕ) (p q : PendingRequest) → one.pending ≡ insert pending m p
    → other.pending ≡ insert pending n q → get pending m ≡ None
    → ((number : ℕ) → get pending number ≡ None → HasPending one number → HasPending other number) → m ≡ n
one_number one other pending m n p q is_one is_other free alike =
    let there : HasPending one m = record { pending = p; waits = ap (λ (k : FiniteMap PendingRequest). get k m) is_one ∙ get-insert_same pending m p } in
    new_number other pending m n q is_other free (alike m free there)

-- whether a part of an address is given is no choice
one_side : (node : Node) (pdn : ℕ) (version : IpVersion) (x y : Option (List ℕ)) → IsPart node pdn version x → IsPart node pdn version y → is_some x ≡ is_some y
one_side node pdn version None None r s = refl
one_side node pdn version None (Some b) r s = absurd (r (s.0, record { address = b; free = s.1 }))
one_side node pdn version (Some a) None r s = absurd (s (r.0, record { address = a; free = r.1 }))
one_side node pdn version (Some a) (Some b) r s = refl

-- so two addresses have parts of the same versions
pub one_shape : (node : Node) (pdn : ℕ) (a b : PdnAddress) → IsGiven node pdn a → IsGiven node pdn b → (version : IpVersion) → is_some (part_in version a) ≡ is_some (part_in version b)
one_shape node pdn a b r s V4 = one_side node pdn V4 a.v4 b.v4 r.v4 s.v4
one_shape node pdn a b r s V6 = one_side node pdn V6 a.v6 b.v6 r.v6 s.v6

-- and one cause
pub one_cause : (node : Node) (pdn : ℕ) (a b : PdnAddress) → IsGiven node pdn a → IsGiven node pdn b → session_cause pdn a ≡ session_cause pdn b
one_cause node pdn a b r s = λ i. if (pdn == 3) && not (one_shape node pdn a b r s V4 i && one_shape node pdn a b r s V6 i) then 18 else 16

-- parts that are there alike, and are one where they are
one_part : (x y : Option (List ℕ)) → is_some x ≡ is_some y → ((a b : List ℕ) → x ≡ Some a → y ≡ Some b → a ≡ b) → x ≡ y
one_part None None alike same = refl
one_part None (Some b) alike same = absurd (cc alike)
one_part (Some a) None alike same = absurd (cc alike)
one_part (Some a) (Some b) alike same = ap (λ k. Some k) (same a b refl refl)

-- addresses whose parts are one
pub one_address : (node : Node) (pdn : ℕ) (a b : PdnAddress) → IsGiven node pdn a → IsGiven node pdn b
    → ((version : IpVersion) (x y : List ℕ) → part_in version a ≡ Some x → part_in version b ≡ Some y → x ≡ y) → a ≡ b
one_address node pdn a b r s same =
    let v4 : a.v4 ≡ b.v4 = one_part a.v4 b.v4 (one_shape node pdn a b r s V4) (same V4) in
    let v6 : a.v6 ≡ b.v6 = one_part a.v6 b.v6 (one_shape node pdn a b r s V6) (same V6) in
    λ i. record { v4 = v4 i; v6 = v6 i }

-- where nothing is found
none_found : {X : Type 0} (o : Option X) → ((x : X) → o ≡ Some x → ⊥) → o ≡ None
none_found None never = refl
none_found (Some x) never = absurd (never x refl)

-- a new context, beside what is left of those that stood before
module _ {X : Type 0} (old others : FiniteMap X) (drawn : List ℕ)
    (stood : (key : ℕ) (y : X) → get others key ≡ Some y → (z : X) × (get old key ≡ Some z))
    (own : (t : ℕ) (y : X) → get old t ≡ Some y → (Among t drawn → ⊥) → ⊥) where
  pub comes_beside : (t u : ℕ) (x : X) → t ≡ u → (Among t drawn → ⊥) → ComesBeside old (insert others u x) others t x
  comes_beside t u x same undrawn = record {
    absent = none_found (get old t) (λ y stands. own t y stands undrawn);
    stood = λ key none. none_found (get others key) (λ y found. never key none (stood key y found));
    is = ap (λ k. insert others k x) (sym same);
  }
    where
      never : (key : ℕ) → get old key ≡ None → (z : X) × (get old key ≡ Some z) → ⊥
      never key none was = let there = was.1 in cc

-- it stands there
pub comes_there : {X : Type 0} (old new others : FiniteMap X) (t : ℕ) (x : X) → ComesBeside old new others t x → get new t ≡ Some x
comes_there old new others t x beside = ap (λ (k : FiniteMap _). get k t) beside.is ∙ get-insert_same others t x
