-- The requests of `Rows`, in order of their last sending; a slot without a request stands for one that
-- ended.
use Rattle.std.specs.Prelude.{◌≡◌, ℕ, zero, suc, ◌+◌, ◌-◌, ◌^◌, ◌%◌, ◌==◌, nat_eq, nat_lt}
use Rattle.std.specs.Prelude.{Bool, true, false, not, List, [], ◌∷◌, ◌++◌, filter}
use Rattle.std.specs.Prelude.{Option, Some, None, option_to_list, if◌then◌else◌}
use Rattle.std.specs.List.{filter_map}
use Rattle.std.specs.Map.{lookup}
use Rattle.gtp_values.specs.declared.address.Endpoint.{Endpoint}
use Rattle.gtp_reliable.specs.Waiting.{Waiting}

-- a request: its number, the place that it was sent to, its octets, what it is for, the tick in
-- which it was sent last, modulo 2^32, and how often it was sent again
pub record Sent (P : Type 0) : Type 0 where
  pub seq : ℕ
  pub to : Endpoint
  pub octets : List ℕ
  pub purpose : P
  pub sent : ℕ
  pub resent : ℕ

-- the requests, and whether there is room for one more
pub record Queued (P : Type 0) : Type 0 where
  pub rows : List (Sent P)
  pub has_room : Bool

-- the ticks since a tick, modulo 2^32
abbrev pub since : ℕ → ℕ → ℕ
since sent now = (now + (2 ^ 32 - sent)) % 2 ^ 32

-- the request as contracts see it in a tick
abbrev pub seen : {P : Type 0} → ℕ → Sent P → Waiting P
seen now r =
    record {
      seq = r.seq;
      to = r.to;
      octets = r.octets;
      purpose = r.purpose;
      waited = since r.sent now;
      resent = r.resent;
    }

-- the request of a number
unfoldable pub row_of : {P : Type 0} → ℕ → List (Sent P) → Option (Sent P)
row_of seq [] = None
row_of seq (r ∷ rs) = if r.seq == seq then Some r else row_of seq rs

-- the requests whose number is another
abbrev pub without : {P : Type 0} → ℕ → List (Sent P) → List (Sent P)
without seq rs = filter (λ r. not (r.seq == seq)) rs

-- the requests whose purpose does not meet a test
abbrev pub others_of : {P : Type 0} → (P → Bool) → List (Sent P) → List (Sent P)
others_of meets rs = filter (λ r. not (meets r.purpose)) rs

-- what becomes of a request that is due: it is sent again where that was done fewer than n3 times
abbrev pub again : {P : Type 0} → ℕ → ℕ → Sent P → Option (Sent P)
again now n3 r =
    if nat_lt r.resent n3 then Some (record r { sent = now; resent = r.resent + 1 }) else None

-- the front request behind all others, with a tick of sending and a count
abbrev pub moved : {P : Type 0} → ℕ → ℕ → List (Sent P) → List (Sent P)
moved sent resent [] = []
moved sent resent (r ∷ rs) = rs ++ record r { sent = sent; resent = resent } ∷ []

-- whether the tick after now does something with the front request
abbrev pub front_is_due : {P : Type 0} → ℕ → ℕ → List (Sent P) → Bool
front_is_due t3 now [] = false
front_is_due t3 now (r ∷ rs) = not (nat_lt (since r.sent now + 1) t3)

-- the front request is sent again in the tick after now, or given up
abbrev pub ticked_front : {P : Type 0} → ℕ → ℕ → List (Sent P) → List (Sent P)
ticked_front n3 now [] = []
ticked_front n3 now (r ∷ rs) = rs ++ option_to_list (again ((now + 1) % 2 ^ 32) n3 r)

-- so often, or until the front request is not due
unfoldable pub ticked : {P : Type 0} → ℕ → ℕ → ℕ → ℕ → List (Sent P) → List (Sent P)
ticked t3 n3 now zero rs = rs
ticked t3 n3 now (suc n) rs =
    if front_is_due t3 now rs then ticked t3 n3 now n (ticked_front n3 now rs) else rs

-- the requests of some slots
abbrev pub rows_of : {P : Type 0} → List (Option (Sent P)) → List (Sent P)
rows_of slots = filter_map (λ slot. slot) slots

-- whether there is a gap in front
abbrev pub has_gap : {P : Type 0} → List (Option (Sent P)) → Bool
has_gap [] = false
has_gap (None ∷ slots) = true
has_gap (Some r ∷ slots) = false

-- the number of a request whose purpose meets a test
abbrev pub number_where : {P : Type 0} → (P → Bool) → Option (Sent P) → Option ℕ
number_where meets None = None
number_where meets (Some r) = if meets r.purpose then Some r.seq else None

-- whether there is a request whose purpose does not meet it
abbrev pub is_other : {P : Type 0} → (P → Bool) → Option (Sent P) → Bool
is_other meets None = false
is_other meets (Some r) = not (meets r.purpose)

-- whether a slot has the request of a number
abbrev pub has_number : {P : Type 0} → ℕ → Option (Sent P) → Bool
has_number seq None = false
has_number seq (Some r) = r.seq == seq

-- the number of the slot that has the request of a number; the front slot has the number first
unfoldable pub slot_of : {P : Type 0} → ℕ → ℕ → List (Option (Sent P)) → Option ℕ
slot_of seq first [] = None
slot_of seq first (slot ∷ slots) =
    if has_number seq slot then Some first else slot_of seq ((first + 1) % 2 ^ 64) slots

-- no pair of requests has the same number
abbrev pub AreApart : {P : Type 0} → List (Sent P) → Type 0
AreApart [] = Unit {0}
AreApart (r ∷ rs) = (row_of r.seq rs ≡ None) × AreApart rs

-- the entries name the slot of each request by its number
abbrev pub AreNamed : {P : Type 0} → List (ℕ × ℕ) → ℕ → List (Option (Sent P)) → Type 0
AreNamed names first slots = (seq : ℕ) → lookup (nat_eq seq) names ≡ slot_of seq first slots
