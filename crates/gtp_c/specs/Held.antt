-- What a place holds: nothing, or a box.
use Rattle.std.specs.Prelude.{ℕ, Option, Some, None}
use base.Fml.{Fml, ftrue, fex}
use denote.RattleType.{RattleType}
use denote.RawPtr.{Ptr}
use Rattle.std.specs.Global.{Global}
use Rattle.std.specs.Box.Ownership.{box_owns}
use Rattle.std.specs.contracts.impls.GlobalAllocator.TheImpl.{ghosts}

-- the memory of the box at p with this value, which this allocator may free
abbrev pub boxed : (R : RattleType) → Ptr → R.Denot → Global → Fml
boxed R p value alloc = box_owns (ghosts.dealloc_token alloc) R p value

-- the memory of the box at p with this value, or none; some `Global` may free it, and they all free alike
abbrev pub held : (R : RattleType) → Ptr → Option R.Denot → Fml
held R p None = ftrue
held R p (Some value) = fex Global (boxed R p value)

-- how many values a place holds
abbrev pub count_of : {X : Type 0} → Option X → ℕ
count_of None = 0
count_of (Some value) = 1
