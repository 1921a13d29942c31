-- The extension headers of a datagram of the user plane at fault, as far as they are whole (TS 29.281 5.2.1).
use Rattle.std.specs.Prelude.{ℕ, suc, zero, ◌+◌, ◌-◌, ◌*◌, ◌/◌, ◌%◌, ◌==◌, ◌&&◌, not, nat_lt, if◌then◌else◌, List, [], ◌∷◌, ◌++◌, length, take, drop, get_or, Option, Some, None, codes}
use Rattle.std.specs.List.{flat_map}
use Rattle.hex.specs.Hex.{encode_lower}
use Rattle.gtp_user.specs.Chain.{Extension}
use Rattle.gtp_names.specs.declared.names.Names.{Names}
use Rattle.gtp_lines.specs.Text.{octets_text}
use Rattle.gtp_lines.specs.Named.{extension_lines}

-- a header, the type of the next one, and the octets after that
pub record Begun : Type 0 where
  pub content : List ℕ
  pub next : ℕ
  pub rest : List ℕ

-- octets behind one that states so many, itself counted: the content, and the type of the next header
abbrev pub begun_by : ℕ → List ℕ → Option Begun
begun_by size octets =
    if nat_lt size 4 then None
    else (if nat_lt (length octets) (size - 1) then None
    else Some (record { content = take (size - 2) octets; next = get_or octets (size - 2) 0; rest = drop (size - 1) octets }))

-- the header at the front of octets, which states its size in units of four
abbrev pub begun_at : List ℕ → Option Begun
begun_at [] = None
begun_at (units ∷ octets) = begun_by (4 * units) octets

-- the header of a type; of type 0 there is none
unfoldable pub header_of : ℕ → List ℕ → Option Begun
header_of kind octets = if kind == 0 then None else begun_at octets

-- the headers that are whole, in order; the type of the next one, which is not, or 0; and the octets after them
pub record Front : Type 0 where
  pub headers : List Extension
  pub next : ℕ
  pub rest : List ℕ

abbrev pub after_headers : List Extension → Front → Front
after_headers es f = record { headers = es ++ f.headers; next = f.next; rest = f.rest }

-- a header of this type, and then others
abbrev pub goes_on : (ℕ → List ℕ → Front) → ℕ → List ℕ → Option Begun → Front
goes_on others kind octets None = record { headers = []; next = kind; rest = octets }
goes_on others kind octets (Some b) = after_headers (record { kind = kind; content = b.content } ∷ []) (others b.next b.rest)

-- of at most so many headers
abbrev pub front_from : ℕ → ℕ → List ℕ → Front
front_from zero kind octets = record { headers = []; next = kind; rest = octets }
front_from (suc n) kind octets = goes_on (λ next rest. front_from n next rest) kind octets (header_of kind octets)

-- of octets, whose first header has this type: each header is four of them, or more
unfoldable pub front_of : ℕ → List ℕ → Front
front_of kind octets = front_from (length octets) kind octets

-- where a datagram says that extension headers follow (E is set, and the type of the first one is not 0): that type, and the octets behind it
abbrev pub chain_at : List ℕ → Option (ℕ × List ℕ)
chain_at (first ∷ kind ∷ high ∷ low ∷ a ∷ b ∷ c ∷ d ∷ number ∷ more ∷ npdu ∷ next ∷ rest) =
    if (first / 16 == 3) && ((first / 4) % 2 == 1) && not (next == 0) then Some (next, rest) else None
chain_at octets = None

-- ---- lines

-- octets that are no whole header
abbrev pub broken_line : ℕ → List ℕ → List ℕ
broken_line kind rest = codes "ext " ++ (encode_lower (kind ∷ []) ++ (codes " short rest " ++ (octets_text rest ++ codes "\n")))

-- what follows the headers: one that is not whole; else what the message carries, of a G-PDU its packet
abbrev pub carried_line : ℕ → List ℕ → List ℕ
carried_line kind rest = (if kind == 255 then codes "payload " else codes "rest ") ++ (octets_text rest ++ codes "\n")

abbrev pub end_line : ℕ → ℕ → List ℕ → List ℕ
end_line kind next rest = if next == 0 then carried_line kind rest else broken_line next rest

-- the headers by their names, and what follows them
abbrev pub front_lines : Names → ℕ → Front → List ℕ
front_lines names kind f = flat_map (extension_lines names) f.headers ++ end_line kind f.next f.rest
