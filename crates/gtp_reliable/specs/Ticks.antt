-- What a number of ticks makes of a request and of a held pair.
use Rattle.std.specs.Prelude.{ℕ, zero, suc, Option, Some, None}
use Rattle.gtp_reliable.specs.Waiting.{Waiting, after_tick}
use Rattle.gtp_reliable.specs.Held.{HeldPair}
use Rattle.gtp_reliable.specs.Held as held

-- one tick more, where there is something left
abbrev pub then_tick : {X : Type 0} → (X → Option X) → Option X → Option X
then_tick tick None = None
then_tick tick (Some x) = tick x

-- a request after so many ticks, None once it was given up
unfoldable pub after_ticks : {P : Type 0} → ℕ → ℕ → ℕ → Waiting P → Option (Waiting P)
after_ticks t3 n3 zero w = Some w
after_ticks t3 n3 (suc n) w = then_tick (after_tick t3 n3) (after_ticks t3 n3 n w)

-- a held pair after so many ticks
unfoldable pub held_after : ℕ → ℕ → HeldPair → Option HeldPair
held_after hold zero p = Some p
held_after hold (suc n) p = then_tick (held.after_tick hold) (held_after hold n p)
