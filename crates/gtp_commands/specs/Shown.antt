-- What showing datagrams writes and answers.
use Rattle.std.specs.Prelude.{◌≡◌, ℕ, Bool, true, false, if◌then◌else◌, List, [], Option, Ok}
use Rattle.std.specs.Io.KnownBytes.{Appends}
use Rattle.hex.specs.Hex.{decode_of}
use Rattle.gtp_counted.specs.Streams.{WritesFront}
use Rattle.gtp_values.specs.declared.plane.Plane.{Plane}
use Rattle.gtp_lines.specs.Lines.{LinesOf}
use Rattle.gtp_dump.specs.Decoded.{ShowsWord, AreTold}
use Rattle.gtp_dump.specs.declared.decoding.Asked.{Asked}
use Rattle.gtp_dump.specs.declared.decoding.Tally.{Tally}
use Rattle.gtp_commands.specs.declared.showing.DumpShown.{DumpShown}

-- the exit status where lines were shown: 1 for those of a fault
abbrev pub status_shown : Bool → ℕ
status_shown true = 1
status_shown false = 0

-- the digits are those of octets whose lines have this exit status, and a writer whose contents are known has these lines after what it had
abbrev pub IsShown : Plane → List ℕ → Option (List ℕ) → Option (List ℕ) → ℕ → Type 0
IsShown plane digits before now status =
    (octets : List ℕ) × (text : List ℕ) × (faulty : Bool) × (decode_of digits ≡ Ok octets) × LinesOf plane octets text faulty
    × Appends before now text × (status ≡ status_shown faulty)

-- or a beginning of them
abbrev pub IsShownInPart : Plane → List ℕ → Option (List ℕ) → Option (List ℕ) → Type 0
IsShownInPart plane digits before now =
    (octets : List ℕ) × (text : List ℕ) × (faulty : Bool) × (decode_of digits ≡ Ok octets) × LinesOf plane octets text faulty × WritesFront before now text

-- the word spells a datagram, and this was written of it
abbrev pub IsWordShown : Asked → List ℕ → Option (List ℕ) → Option (List ℕ) → ℕ → Type 0
IsWordShown asked word before now status =
    (text : List ℕ) × (faulty : Bool) × ShowsWord asked word text faulty × Appends before now text × (status ≡ status_shown faulty)

-- or a beginning of this
abbrev pub IsWordShownInPart : Asked → List ℕ → Option (List ℕ) → Option (List ℕ) → Type 0
IsWordShownInPart asked word before now = (text : List ℕ) × (faulty : Bool) × ShowsWord asked word text faulty × WritesFront before now text

-- the exit status of a dump: 2 where a line was bad
abbrev pub dump_status : Tally → ℕ
dump_status tally = if tally.bad then 2 else status_shown tally.faulty

-- all lines of a dump were told
abbrev pub IsDumpShown : Asked → List ℕ → (out out_after err err_after : Option (List ℕ)) → DumpShown → Type 0
IsDumpShown asked octets out out_after err err_after shown =
    (tally : Tally) × AreTold asked octets [] tally out out_after err err_after × (shown ≡ record { status = dump_status tally; elsewhere = tally.elsewhere })
