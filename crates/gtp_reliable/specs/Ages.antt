-- Requests in order of beginning, and in order of their last sending.
use Rattle.std.specs.Prelude.{◌≡◌, ℕ, ◌+◌, ◌*◌, ◌<◌, ◌≤◌, List, [], ◌∷◌, nat_lt, if◌then◌else◌}
use Rattle.std.specs.List.{AllByRecursion}
use Rattle.gtp_reliable.specs.Waiting.{Waiting}

-- grows with the ticks since the beginning, where none waits for 1,000 ticks: of two requests the
-- older one was sent again more often, or as often and waits longer
abbrev pub age : {P : Type 0} → Waiting P → ℕ
age w = w.resent * 1000 + w.waited

-- a request put before the first one that is not older
unfoldable pub put_by_age : {P : Type 0} → Waiting P → List (Waiting P) → List (Waiting P)
put_by_age w [] = w ∷ []
put_by_age w (v ∷ vs) = if nat_lt (age w) (age v) then v ∷ put_by_age w vs else w ∷ v ∷ vs

-- the oldest first; those of one age as they stand
unfoldable pub by_age : {P : Type 0} → List (Waiting P) → List (Waiting P)
by_age [] = []
by_age (w ∷ ws) = put_by_age w (by_age ws)

-- the first waits longer, or as long and was sent again no less often
abbrev pub IsBefore : {P : Type 0} → Waiting P → Waiting P → Type 0
IsBefore w v = (v.waited ≤ w.waited) × (v.waited ≡ w.waited → v.resent ≤ w.resent)

-- none waits for t3 ticks, and each stands after those that are before it
abbrev pub AreInTurn : {P : Type 0} → ℕ → List (Waiting P) → Type 0
AreInTurn t3 [] = Unit {0}
AreInTurn t3 (w ∷ ws) = (w.waited < t3) × AllByRecursion (IsBefore w) ws × AreInTurn t3 ws
