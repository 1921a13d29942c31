-- The header of a datagram (TS 29.281 5.1), and which fault of one is the first.
use Rattle.std.specs.Prelude.{◌≡◌, ◌≢◌, ℕ, ◌+◌, ◌*◌, ◌/◌, ◌%◌, ◌<◌, false, List, [], ◌∷◌, length, None, ◌⊎◌, if◌then◌else◌}
use Rattle.std.specs.Int.{w32, from_be_bytes}
use Rattle.gtp_user.specs.declared.fault.UserFault.{UserFault}
use Rattle.gtp_user.specs.declared.fault.UserFault.TheVariants as faults
use Rattle.gtp_user.specs.Flags.{Flags, bits, version_1, protocol_type, spare_bit}
use Rattle.gtp_user.specs.Headed.{Headed, where_set}

-- the first eight octets: version 1, protocol type 1, a spare bit, the flags; the type; the length of the octets after them; the TEID
abbrev pub Opens : List ℕ → Flags → ℕ → ℕ → List ℕ → Type 0
Opens octets flags kind teid tail =
    (spare : ℕ) × (high : ℕ) × (low : ℕ) × (a : ℕ) × (b : ℕ) × (c : ℕ) × (d : ℕ)
    × (octets ≡ (version_1 + protocol_type + spare_bit * spare + bits flags) ∷ kind ∷ high ∷ low ∷ a ∷ b ∷ c ∷ d ∷ tail) × (spare < 2)
    × (256 * high + low ≡ length tail) × (teid ≡ from_be_bytes w32 (a ∷ b ∷ c ∷ d ∷ []))

-- no flag is set, and the octets after the first eight follow
abbrev pub HeadedPlain : List ℕ → Headed → Type 0
HeadedPlain octets h = Opens octets (record { chain = false; seq = false; npdu = false }) h.kind h.teid h.rest × (h.seq ≡ None) × (h.npdu ≡ None) × (h.first ≡ 0)

-- a flag is set: a sequence number in two octets, an N-PDU number, and the type of the first extension header, each evaluated where its own flag is set
abbrev pub HeadedByFlags : List ℕ → Headed → Type 0
HeadedByFlags octets h =
    (flags : Flags) × (a : ℕ) × (b : ℕ) × (c : ℕ) × (d : ℕ) × (0 < bits flags) × Opens octets flags h.kind h.teid (a ∷ b ∷ c ∷ d ∷ h.rest)
    × (h.seq ≡ where_set flags.seq (256 * a + b)) × (h.npdu ≡ where_set flags.npdu c) × (h.first ≡ (if flags.chain then d else 0))

-- the octets are a header and what follows it
abbrev pub IsHeaded : List ℕ → Headed → Type 0
IsHeaded octets h = HeadedPlain octets h ⊎ HeadedByFlags octets h

-- the first fault of a header: fewer than eight octets, another version, another protocol, another length, fewer than twelve octets where a flag is set
abbrev pub HeaderFails : List ℕ → UserFault → Type 0
HeaderFails octets f =
    ((length octets < 8) × (f ≡ faults.Short (length octets)))
    ⊎ ((first : ℕ) × (kind : ℕ) × (high : ℕ) × (low : ℕ) × (a : ℕ) × (b : ℕ) × (c : ℕ) × (d : ℕ) × (tail : List ℕ)
    × (octets ≡ first ∷ kind ∷ high ∷ low ∷ a ∷ b ∷ c ∷ d ∷ tail)
    × (((first / 32 ≢ 1) × (f ≡ faults.Version (first / 32)))
    ⊎ (((flags : ℕ) × (flags < 16) × (first ≡ version_1 + flags) × (f ≡ faults.Protocol))
    ⊎ (((flags : ℕ) × (flags < 16) × (first ≡ version_1 + protocol_type + flags) × (256 * high + low ≢ length tail) × (f ≡ faults.Length (256 * high + low) (length tail)))
    ⊎ ((flags : ℕ) × (flags < 16) × (first ≡ version_1 + protocol_type + flags) × (0 < flags % 8)
    × (256 * high + low ≡ length tail) × (length tail < 4) × (f ≡ faults.Short (8 + length tail)))))))
