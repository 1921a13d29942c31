-- The ages of held pairs, told by the tick that it is.
use Rattle.std.specs.Prelude.{ℕ, ◌+◌, ◌<◌, ◌≤◌, Bool, false, not, nat_lt, List, [], ◌∷◌, map}
use Rattle.std.specs.List.{AllByRecursion}
use Rattle.gtp_reliable.specs.declared.held_answer.Pair.{Pair}
use Rattle.gtp_reliable.specs.Index.{after}
use Rattle.gtp_reliable.specs.Held.{HeldPair, Answers}

-- the ticks since it was kept
abbrev pub age : ℕ → Pair → ℕ
age now p = after p.kept now

-- the pair as contracts see it
abbrev pub seen : ℕ → Pair → HeldPair
seen now p =
    record {
      source = p.source;
      request = p.request.items;
      answer = p.answer.items;
      age = age now p;
    }

-- whether the next tick gives up the front pair
abbrev pub is_due : ℕ → ℕ → List Pair → Bool
is_due now hold [] = false
is_due now hold (p ∷ ps) = not (nat_lt (age now p + 1) hold)

-- none is older than it may be, and none is older than one before it
abbrev pub AreAging : ℕ → ℕ → List Pair → Type 0
AreAging now hold [] = Unit {0}
AreAging now hold (p ∷ ps) =
    (age now p < hold) × AllByRecursion (λ (q : Pair). age now q ≤ age now p) ps
    × AreAging now hold ps

-- the answers as contracts see them
abbrev pub answers_of : ℕ → ℕ → List Pair → Bool → Answers
answers_of hold now ps room = record { hold = hold; pairs = map (seen now) ps; has_room = room }
