-- Reading functions, for private contracts, models of private fields and proofs: a chain of extension headers, one after the other.
use Rattle.std.specs.Prelude.{◌≡◌, ℕ, zero, suc, ◌+◌, ◌-◌, ◌*◌, List, [], ◌∷◌, length, take, drop, slice_index, Bool, false, ◌||◌, Option, Some, None, Result, Ok, Err, nat_lt, nat_le, ◌==◌, if◌then◌else◌}
use Rattle.gtp_user.specs.declared.fault.UserFault.{UserFault}
use Rattle.gtp_user.specs.declared.fault.UserFault.TheVariants as faults
use Rattle.gtp_values.specs.Steps.{◌>>=◌}
use Rattle.gtp_user.specs.Chain.{Extension}

-- the content of the header at the start, the type of the next one, and the octets after it
pub record Front : Type 0 where
  pub content : List ℕ
  pub next : ℕ
  pub rest : List ℕ

abbrev pub front_at : ℕ → ℕ → List ℕ → Result Front UserFault
front_at end kind [] = Err (faults.ExtensionPast end)
front_at end kind (units ∷ tail) =
    if units == 0 then Err (faults.ExtensionZero (end - length (units ∷ tail)))
    else (if nat_le (length tail) (4 * units - 2) then Err (faults.ExtensionPast (end - length (units ∷ tail)))
    else (if nat_lt kind 128
    then Ok (record { content = take (4 * units - 2) tail; next = slice_index tail (4 * units - 2); rest = drop (4 * units - 2 + 1) tail })
    else Err (faults.ExtensionNeeded kind (end - length (units ∷ tail)))))

-- the headers of a chain, and the octets after it
pub record Chained : Type 0 where
  pub headers : List Extension
  pub rest : List ℕ

abbrev pub with_front : ℕ → Front → Chained → Chained
with_front kind front c = record { headers = record { kind = kind; content = front.content } ∷ c.headers; rest = c.rest }

-- whether a type is one of these
abbrev pub is_understood : List ℕ → ℕ → Bool
is_understood [] kind = false
is_understood (known ∷ understood) kind = (kind == known) || is_understood understood kind

-- the type as which a header is read: one that is understood as the first one, which need not be understood
abbrev pub read_as : List ℕ → ℕ → ℕ
read_as understood kind = if is_understood understood kind then 1 else kind

-- the header at the start, where these types are understood
abbrev pub front_by : List ℕ → ℕ → ℕ → List ℕ → Result Front UserFault
front_by understood end kind octets = front_at end (read_as understood kind) octets

-- the chain from this type on, in at most so many steps
unfoldable pub walk : List ℕ → ℕ → ℕ → ℕ → List ℕ → Result Chained UserFault
walk understood zero end kind octets = if kind == 0 then Ok (record { headers = []; rest = octets }) else Err (faults.ExtensionPast end)
walk understood (suc steps) end kind octets =
    if kind == 0 then Ok (record { headers = []; rest = octets })
    else (front_by understood end kind octets >>= λ front. walk understood steps end front.next front.rest >>= λ c. Ok (with_front kind front c))

-- the chain that begins the octets
unfoldable pub chain_by : List ℕ → ℕ → ℕ → List ℕ → Result Chained UserFault
chain_by understood end kind octets = walk understood (length octets) end kind octets

-- the octets after it
unfoldable pub tail_by : List ℕ → ℕ → ℕ → List ℕ → Result (List ℕ) UserFault
tail_by understood end kind octets = chain_by understood end kind octets >>= λ c. Ok c.rest

-- where no type from 128 on is understood
abbrev pub chain_at : ℕ → ℕ → List ℕ → Result Chained UserFault
chain_at = chain_by []

-- the headers, or none
abbrev pub headers_of : Result Chained UserFault → List Extension
headers_of (Ok c) = c.headers
headers_of (Err f) = []

-- the octets after the chain, where there is one
abbrev pub rest_of : Result Chained UserFault → Option (List ℕ)
rest_of (Ok c) = Some c.rest
rest_of (Err f) = None

-- the headers of the chain that octets begin with
abbrev pub headers_in : ℕ → List ℕ → List Extension
headers_in first octets = headers_of (chain_at (length octets) first octets)

-- there is a chain, and no octets are left after it
abbrev pub HasNoRest : ℕ → List ℕ → Type 0
HasNoRest first octets = rest_of (chain_at (length octets) first octets) ≡ Some []

-- the headers of a chain with nothing after it
abbrev pub with_no_rest : ℕ → Chained → Result (List Extension) UserFault
with_no_rest end c = if length c.rest == 0 then Ok c.headers else Err (faults.Length (end - length c.rest) end)

unfoldable pub whole_at : ℕ → List ℕ → Result (List Extension) UserFault
whole_at first octets = chain_at (length octets) first octets >>= λ c. with_no_rest (length octets) c
