-- The index of a queue: numbers that name its entries, in order of their requests.
use Rattle.std.specs.Prelude.{◌≡◌, ℕ, ◌+◌, ◌-◌, ◌^◌, ◌%◌, ◌<◌, ◌≤◌, All, List, [], length, map}
use Rattle.std.specs.Prelude.{slice_index_or}
use Rattle.std.specs.declared.cmp.Ordering.TheVariants.{Less, Greater}
use Rattle.gtp_values.specs.declared.address.Ip.TheVariants.{V4}
use Rattle.gtp_values.specs.declared.address.Endpoint.{Endpoint}
use Rattle.gtp_reliable.specs.declared.held_answer.Pair.{Pair}
use Rattle.gtp_reliable.specs.Held.{Question}
use Rattle.gtp_reliable.specs.Order.{question_cmp}

-- how far a number is after another one, modulo 2^64
abbrev pub after : ℕ → ℕ → ℕ
after first n = (n + (2 ^ 64 - first)) % 2 ^ 64

abbrev pub question : Endpoint → List ℕ → Question
question source octets = record { source = source; octets = octets }

-- the request that a pair is for
abbrev pub asked : Pair → Question
asked p = question p.source p.request.items

-- the requests of a queue, in order of keeping
abbrev pub questions : List Pair → List Question
questions ps = map asked ps

-- what stands in for a request outside of the queue
abbrev pub nobody : Question
nobody = question (record { ip = V4 []; port = 0 }) []

-- the request at a place of the queue
abbrev pub question_at : List Question → ℕ → Question
question_at qs k = slice_index_or qs k nobody

-- the request that the index names at i, where the front was kept under the number first
abbrev pub named_at : ℕ → List ℕ → List Question → ℕ → Question
named_at first index qs i = question_at qs (after first (slice_index_or index i 0))

-- each number names an entry
abbrev pub AreNames : ℕ → List ℕ → List Question → Type 0
AreNames first index qs = All (λ n. after first n < length qs) index

-- the requests that the index names ascend
abbrev pub AreAscending : ℕ → List ℕ → List Question → Type 0
AreAscending first index qs = (i j : ℕ) → i < j → j < length index
    → question_cmp (named_at first index qs i) (named_at first index qs j) ≡ Less

-- the index names an entry for the request at i
abbrev pub IsNamed : ℕ → List ℕ → List Question → Question → ℕ → Type 0
IsNamed first index qs q i = (i < length index) × (named_at first index qs i ≡ q)

-- the index names the entry at a place
pub record Names (first : ℕ) (index : List ℕ) (k : ℕ) : Type 0 where
  pub at : ℕ
  pub within : at < length index
  pub is : after first (slice_index_or index at 0) ≡ k

-- all numbers before i name lower requests
abbrev pub AreLower : ℕ → List ℕ → List Question → Question → ℕ → Type 0
AreLower first index qs q i = (k : ℕ) → k < i
    → question_cmp (named_at first index qs k) q ≡ Less

-- all numbers from i on name higher requests
abbrev pub AreHigher : ℕ → List ℕ → List Question → Question → ℕ → Type 0
AreHigher first index qs q i = (k : ℕ) → i ≤ k → k < length index
    → question_cmp (named_at first index qs k) q ≡ Greater

-- all numbers before i name lower requests, and all from i on higher ones
pub record IsGap (first : ℕ) (index : List ℕ) (qs : List Question) (q : Question) (i : ℕ)
    : Type 0 where
  pub within : i ≤ length index
  pub lower : AreLower first index qs q i
  pub higher : AreHigher first index qs q i

-- the index names each entry of the queue once, in ascending order of their requests
pub record IsIndex (first : ℕ) (index : List ℕ) (qs : List Question) : Type 0 where
  pub names : AreNames first index qs
  pub order : AreAscending first index qs
  pub covers : (k : ℕ) → k < length qs → Names first index k
  pub count : length index ≡ length qs
