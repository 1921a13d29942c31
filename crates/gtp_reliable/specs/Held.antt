-- Answers that are held for requests which come again (TS 29.274 7.6).
use Rattle.std.specs.Prelude.{◌≡◌, ℕ, ◌+◌, ◌<◌, ◌≤◌, Bool, true, List, [], ◌∷◌, length, Option}
use Rattle.std.specs.Prelude.{Some, None, ◌⊎◌, nat_lt, if◌then◌else◌, All}
use Rattle.std.specs.List.{filter_map}
use Rattle.gtp_values.specs.declared.address.Endpoint.{Endpoint}

-- where a request came from, its whole octets, the octets of its answer, and the ticks since the
-- answer was kept
pub record HeldPair : Type 0 where
  pub source : Endpoint
  pub request : List ℕ
  pub answer : List ℕ
  pub age : ℕ

-- a pair that was just kept
abbrev pub just_kept : Endpoint → List ℕ → List ℕ → HeldPair
just_kept source request answer =
    record { source = source; request = request; answer = answer; age = 0 }

-- what a tick makes of it: it is given up in the hold-th tick
abbrev pub after_tick : ℕ → HeldPair → Option HeldPair
after_tick hold p = if nat_lt (p.age + 1) hold then Some (record p { age = p.age + 1 }) else None

-- a request: where it came from, and its octets
pub record Question : Type 0 where
  pub source : Endpoint
  pub octets : List ℕ

-- the request that the tick forgets
abbrev pub forgotten : ℕ → HeldPair → Option Question
forgotten hold p =
    if nat_lt (p.age + 1) hold then None
    else Some (record { source = p.source; octets = p.request })

-- how long an answer is held, the pairs in order of keeping, and whether one more can be kept
-- without an allocation
pub record Answers : Type 0 where
  pub hold : ℕ
  pub pairs : List HeldPair
  pub has_room : Bool

-- the pair is for a request from this source with these octets
abbrev pub IsFor : Endpoint → List ℕ → HeldPair → Type 0
IsFor source request p = (p.source ≡ source) × (p.request ≡ request)

-- a pair is for the request
abbrev pub IsHeld : Endpoint → List ℕ → List HeldPair → Type 0
IsHeld source request [] = ⊥
IsHeld source request (p ∷ ps) = IsFor source request p ⊎ IsHeld source request ps

-- a pair is for the request, and has this answer
abbrev pub HasAnswer : Endpoint → List ℕ → List ℕ → List HeldPair → Type 0
HasAnswer source request answer [] = ⊥
HasAnswer source request answer (p ∷ ps) =
    (IsFor source request p × (p.answer ≡ answer)) ⊎ HasAnswer source request answer ps

-- no two pairs are for the same request
abbrev pub AreApart : List HeldPair → Type 0
AreApart [] = Unit {0}
AreApart (p ∷ ps) = (IsHeld p.source p.request ps → ⊥) × AreApart ps

-- hold is 1 to 100,000
abbrev pub IsHold : ℕ → Type 0
IsHold hold = (1 ≤ hold) × (hold ≤ 100000)

-- what is true of the answers at all times
pub record AreAnswers (a : Answers) : Type 0 where
  pub hold : IsHold a.hold
  pub count : length a.pairs ≤ 4096
  pub apart : AreApart a.pairs

-- an answer may be kept: fewer than 4,096 are held, and there is room
pub record IsReady (a : Answers) : Type 0 where
  pub count : length a.pairs < 4096
  pub room : a.has_room ≡ true

-- nothing is given up in the next tick
abbrev pub IsQuiet : Answers → Type 0
IsQuiet a = All (λ p. p.age + 1 < a.hold) a.pairs

-- the requests that the next tick forgets, in order of keeping
abbrev pub forgets : Answers → List Question
forgets a = filter_map (forgotten a.hold) a.pairs
