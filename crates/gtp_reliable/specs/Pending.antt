-- The requests that are pending, and their numbers (TS 29.274 7.6).
use Rattle.std.specs.Prelude.{◌≡◌, ℕ, ◌+◌, ◌%◌, ◌<◌, ◌≤◌, Bool, true, false, not, List, [], ◌∷◌, filter, length}
use Rattle.std.specs.Prelude.{Option, Some, None, ◌==◌, if◌then◌else◌, All}
use Rattle.std.specs.List.{list_any, filter_map}
use Rattle.gtp_reliable.specs.Waiting.{Waiting, Message, sent_again, given_up}

-- how long a request waits and how often it is sent again, the number from which the next one is
-- sought, the requests in order of beginning, and whether one more can be begun without an
-- allocation
pub record Requests (P : Type 0) : Type 0 where
  pub t3 : ℕ
  pub n3 : ℕ
  pub next : ℕ
  pub waiting : List (Waiting P)
  pub has_room : Bool

-- how many numbers there are: 0 to 8,388,607
abbrev pub numbers : ℕ
numbers = 8388608

-- the number after a number: 0 after the last one
abbrev pub number_after : ℕ → ℕ
number_after n = (n + 1) % numbers

-- whether a request of this number is pending
unfoldable pub is_pending : {P : Type 0} → ℕ → List (Waiting P) → Bool
is_pending seq ws = list_any (λ w. w.seq == seq) ws

-- the first number from start on, 0 after the last one, that no pending request has: so many before
-- it are taken
pub record IsNextFree {P : Type 0} (start : ℕ) (ws : List (Waiting P)) (seq : ℕ) : Type 0 where
  pub free : is_pending seq ws ≡ false
  pub passed : ℕ
  pub few : passed < numbers
  pub place : seq ≡ (start + passed) % numbers
  pub taken : (j : ℕ) → j < passed → is_pending ((start + j) % numbers) ws ≡ true

-- the purpose of the request of this number
unfoldable pub purpose_of : {P : Type 0} → ℕ → List (Waiting P) → Option P
purpose_of seq [] = None
purpose_of seq (w ∷ ws) = if w.seq == seq then Some w.purpose else purpose_of seq ws

-- the requests whose purpose does not meet a test
abbrev pub others : {P : Type 0} → (P → Bool) → List (Waiting P) → List (Waiting P)
others meets ws = filter (λ w. not (meets w.purpose)) ws

-- the number may be begun: it is the next free one, fewer than 256 requests are pending, and there
-- is room
pub record IsPrepared {P : Type 0} (r : Requests P) (seq : ℕ) : Type 0 where
  pub number : IsNextFree r.next r.waiting seq
  pub count : length r.waiting < 256
  pub room : r.has_room ≡ true

-- t3 is 1 to 1,000, and n3 at most 100
abbrev pub AreLimits : ℕ → ℕ → Type 0
AreLimits t3 n3 = (1 ≤ t3) × (t3 ≤ 1000) × (n3 ≤ 100)

-- no pair of requests has the same number
abbrev pub AreDistinct : {P : Type 0} → List (Waiting P) → Type 0
AreDistinct [] = Unit {0}
AreDistinct (w ∷ ws) = (is_pending w.seq ws ≡ false) × AreDistinct ws

-- what is true of the requests at all times
pub record AreRequests {P : Type 0} (r : Requests P) : Type 0 where
  pub limits : AreLimits r.t3 r.n3
  pub next : r.next < numbers
  pub count : length r.waiting ≤ 256
  pub distinct : AreDistinct r.waiting

-- how long a request waits and how often it is sent again stay; the next number may change
abbrev pub SameTimes : {P : Type 0} → Requests P → Requests P → Type 0
SameTimes old new = (new.t3 ≡ old.t3) × (new.n3 ≡ old.n3)

-- nothing is due in the next tick
abbrev pub IsQuiet : {P : Type 0} → Requests P → Type 0
IsQuiet r = All (λ w. w.waited + 1 < r.t3) r.waiting

-- what the next tick sends again, and what it gives up, in order of beginning
abbrev pub resends : {P : Type 0} → Requests P → List Message
resends r = filter_map (sent_again r.t3 r.n3) r.waiting

abbrev pub given_ups : {P : Type 0} → Requests P → List (ℕ × P)
given_ups r = filter_map (given_up r.t3 r.n3) r.waiting
