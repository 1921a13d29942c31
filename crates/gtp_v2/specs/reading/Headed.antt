-- Reading functions, for private contracts and proofs: the octets before a message's elements.
use Rattle.std.specs.Prelude.{◌≡◌, ℕ, ◌+◌, ◌*◌, ◌/◌, ◌%◌, List, [], ◌∷◌, length, Some, None, Result, Ok, Err, ◌==◌, if◌then◌else◌}
use Rattle.byteorder.specs.Endian.{big_number}
use Rattle.gtp_v2.specs.declared.header.Header.{Header}
use Rattle.gtp_v2.specs.declared.message.Message.{Message}
use Rattle.gtp_v2.specs.declared.fault.V2Fault.{V2Fault}
use Rattle.gtp_v2.specs.declared.fault.V2Fault.TheVariants.{Short, Version, BadPiggyback, Length}
use Rattle.gtp_v2.specs.Headed.{Headed}

abbrev pub headed_of : Header → Headed
headed_of h = record { kind = h.kind; teid = h.teid; seq = h.seq; priority = h.priority; rest = h.rest.now; at = h.at }

-- a message has this header
abbrev pub HasHeader : Header → Message → Type 0
HasHeader h m = (m.teid ≡ h.teid) × (m.seq ≡ h.seq) × (m.priority ≡ h.priority)

-- after the first four octets of a message with a TEID
abbrev pub after_teid : ℕ → ℕ → List ℕ → Result Headed V2Fault
after_teid first kind (a ∷ b ∷ c ∷ d ∷ e ∷ f ∷ g ∷ last ∷ rest) =
    Ok (record {
      kind = kind;
      teid = Some (big_number 4 (a ∷ b ∷ c ∷ d ∷ []));
      seq = big_number 3 (e ∷ f ∷ g ∷ []);
      priority = if (first / 4) % 2 == 1 then Some (last / 16) else None;
      rest = rest;
      at = 12;
    })
after_teid first kind octets = Err (Short (4 + length octets))

-- after the first four octets of a message without one
abbrev pub after_no_teid : ℕ → List ℕ → Result Headed V2Fault
after_no_teid kind (a ∷ b ∷ c ∷ d ∷ rest) =
    Ok (record { kind = kind; teid = None; seq = big_number 3 (a ∷ b ∷ c ∷ []); priority = None; rest = rest; at = 8 })
after_no_teid kind octets = Err (Short (4 + length octets))

abbrev pub header_at : List ℕ → Result Headed V2Fault
header_at (first ∷ kind ∷ high ∷ low ∷ rest) =
    if first / 32 == 2
    then (if (first / 16) % 2 == 1 then Err (BadPiggyback 0)
    else (if 256 * high + low == length rest
    then (if (first / 8) % 2 == 1 then after_teid first kind rest else after_no_teid kind rest)
    else Err (Length (256 * high + low) (length rest))))
    else Err (Version (first / 32))
header_at octets = Err (Short (length octets))
