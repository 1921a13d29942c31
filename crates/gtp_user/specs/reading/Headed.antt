-- Reading functions, for private contracts and proofs: the octets before a chain or a payload.
use Rattle.std.specs.Prelude.{ℕ, ◌+◌, ◌*◌, ◌/◌, ◌%◌, List, [], ◌∷◌, length, None, Result, Ok, Err, ◌==◌, if◌then◌else◌}
use Rattle.std.specs.Int.{w32, from_be_bytes}
use Rattle.gtp_user.specs.declared.header.Header.{Header}
use Rattle.gtp_user.specs.declared.fault.UserFault.{UserFault}
use Rattle.gtp_user.specs.declared.fault.UserFault.TheVariants.{Short, Version, Protocol, Length}
use Rattle.gtp_user.specs.Headed.{Headed, where_set}

abbrev pub headed_of : Header → Headed
headed_of h = record { kind = h.kind; teid = h.teid; seq = h.seq; npdu = h.npdu; first = h.first; rest = h.rest.now }

-- after the first eight octets, where a flag is set
abbrev pub after_flags : ℕ → ℕ → ℕ → List ℕ → Result Headed UserFault
after_flags flags kind teid (a ∷ b ∷ c ∷ d ∷ rest) =
    Ok (record {
      kind = kind;
      teid = teid;
      seq = where_set ((flags / 2) % 2 == 1) (256 * a + b);
      npdu = where_set (flags % 2 == 1) c;
      first = if (flags / 4) % 2 == 1 then d else 0;
      rest = rest;
    })
after_flags flags kind teid octets = Err (Short (8 + length octets))

abbrev pub header_at : List ℕ → Result Headed UserFault
header_at (flags ∷ kind ∷ high ∷ low ∷ a ∷ b ∷ c ∷ d ∷ tail) =
    if flags / 32 == 1
    then (if (flags / 16) % 2 == 0 then Err Protocol
    else (if 256 * high + low == length tail
    then (if flags % 8 == 0
    then Ok (record { kind = kind; teid = from_be_bytes w32 (a ∷ b ∷ c ∷ d ∷ []); seq = None; npdu = None; first = 0; rest = tail })
    else after_flags flags kind (from_be_bytes w32 (a ∷ b ∷ c ∷ d ∷ [])) tail)
    else Err (Length (256 * high + low) (length tail))))
    else Err (Version (flags / 32))
header_at octets = Err (Short (length octets))
