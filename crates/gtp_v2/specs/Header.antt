-- The two forms of header, and which fault of one is the first.
use Rattle.std.specs.Prelude.{◌≡◌, ◌≢◌, ℕ, ◌+◌, ◌*◌, ◌/◌, ◌<◌, List, [], ◌∷◌, length, Some, None, ◌⊎◌, nat_le, if◌then◌else◌}
use Rattle.byteorder.specs.Endian.{big_number}
use Rattle.gtp_v2.specs.declared.fault.V2Fault.{V2Fault}
use Rattle.gtp_v2.specs.declared.fault.V2Fault.TheVariants as faults
use Rattle.gtp_v2.specs.Flags.{version_2, piggybacking, with_teid, with_priority}
use Rattle.gtp_v2.specs.Headed.{Headed}

-- the first four octets of a message of version 2 that announces no other: flags, kind, and the length of the octets after them
abbrev pub Opens : List ℕ → ℕ → ℕ → List ℕ → Type 0
Opens octets flags kind following = (high : ℕ) × (low : ℕ) × (flags < 16) × (octets ≡ (version_2 + flags) ∷ kind ∷ high ∷ low ∷ following) × (256 * high + low ≡ length following)

-- without a TEID: a number in three octets, and one that is spare
abbrev pub HeadedPlain : List ℕ → Headed → Type 0
HeadedPlain octets h =
    (flags : ℕ) × (a : ℕ) × (b : ℕ) × (c : ℕ) × (spare : ℕ) × (flags < 8) × Opens octets flags h.kind (a ∷ b ∷ c ∷ spare ∷ h.rest)
    × (h ≡ record { kind = h.kind; teid = None; seq = big_number 3 (a ∷ b ∷ c ∷ []); priority = None; rest = h.rest; at = 8 })

-- with a TEID in four octets; the last octet has the priority where the third flag says so
abbrev pub HeadedByTeid : List ℕ → Headed → Type 0
HeadedByTeid octets h =
    (flags : ℕ) × (a : ℕ) × (b : ℕ) × (c : ℕ) × (d : ℕ) × (e : ℕ) × (f : ℕ) × (g : ℕ) × (last : ℕ) × (flags < 8)
    × Opens octets (with_teid + flags) h.kind (a ∷ b ∷ c ∷ d ∷ e ∷ f ∷ g ∷ last ∷ h.rest)
    × (h ≡ record {
      kind = h.kind;
      teid = Some (big_number 4 (a ∷ b ∷ c ∷ d ∷ []));
      seq = big_number 3 (e ∷ f ∷ g ∷ []);
      priority = if nat_le with_priority flags then Some (last / 16) else None;
      rest = h.rest;
      at = 12;
    })

-- the octets are a header and what follows it
abbrev pub IsHeaded : List ℕ → Headed → Type 0
IsHeaded octets h = HeadedPlain octets h ⊎ HeadedByTeid octets h

-- the first fault of a header: fewer than four octets, another version, a further message announced, another length, fewer octets than the form has
abbrev pub HeaderFails : List ℕ → V2Fault → Type 0
HeaderFails octets f =
    ((length octets < 4) × (f ≡ faults.Short (length octets)))
    ⊎ ((first : ℕ) × (kind : ℕ) × (high : ℕ) × (low : ℕ) × (following : List ℕ) × (octets ≡ first ∷ kind ∷ high ∷ low ∷ following)
    × (((first / 32 ≢ 2) × (f ≡ faults.Version (first / 32)))
    ⊎ (((flags : ℕ) × (flags < 16) × (first ≡ version_2 + piggybacking + flags) × (f ≡ faults.BadPiggyback 0))
    ⊎ (((flags : ℕ) × (flags < 16) × (first ≡ version_2 + flags) × (256 * high + low ≢ length following) × (f ≡ faults.Length (256 * high + low) (length following)))
    ⊎ (((flags : ℕ) × (flags < 8) × (first ≡ version_2 + flags) × (256 * high + low ≡ length following) × (length following < 4)
    × (f ≡ faults.Short (4 + length following)))
    ⊎ ((flags : ℕ) × (flags < 8) × (first ≡ version_2 + with_teid + flags) × (256 * high + low ≡ length following)
    × (length following < 8) × (f ≡ faults.Short (4 + length following))))))))
