-- What equal numbers, states and values that may be absent tell.
use Rattle.std.proofs.Common.{◌≡◌, ◌+◌, ℕ, Option, Some, Bool, true, false, not, ◌||◌, refl, arith}
use Rattle.gtp_machine.specs.Node.{State, Pending, Active, Closing}

pub one_value : {X : Type 0} (o : Option X) (x y : X) → o ≡ Some x → o ≡ Some y → x ≡ y
one_value o x y a b = cc

pub one_more : (n : ℕ) → 1 + n ≡ 0 → ⊥
one_more n e = omega (arith, e)

infixr 20 ◌⊗◌
-- a pair, written as the first member of a chain
abbrev pub ◌⊗◌ : {A B : Type 0} → A → B → A × B
a ⊗ b = (a, b)

-- ---- truth values

pub false_true : (b : Bool) → b ≡ false → b ≡ true → ⊥
false_true b f t = cc

pub not_or_right : (a b : Bool) → not (a || b) ≡ true → b ≡ false
not_or_right true b e = absurd (cc e)
not_or_right false true e = absurd (cc e)
not_or_right false false e = refl

-- ---- states

pub pending_active : (s : State) → s ≡ Pending → s ≡ Active → ⊥
pending_active s a b = cc

pub pending_closing : (s : State) → s ≡ Pending → s ≡ Closing → ⊥
pending_closing s a b = cc

pub active_not_pending : Active ≡ Pending → ⊥
active_not_pending e = cc

pub pending_not_active : Pending ≡ Active → ⊥
pending_not_active e = cc
