-- What is told of the lines of a hex dump.
use Rattle.std.specs.Prelude.{◌≡◌, ℕ, ◌+◌, ◌-◌, ◌^◌, min, ◌||◌, ◌⊎◌, Bool, true, false, List, [], ◌∷◌, ◌++◌, map, length, take, Option, codes, decimal}
use Rattle.std.specs.List.{flat_map}
use Rattle.std.specs.Io.BufRead.{take_through}
use Rattle.std.specs.Io.KnownBytes.{Appends}
use Rattle.gtp_counted.specs.Counts.{NoneFailed, FailedOnce, ClosedOnce}
use Rattle.gtp_counted.specs.Lines.{BeginsWithLines}
use Rattle.gtp_counted.specs.Streams.{WritesFront}
use Rattle.gtp_counted.specs.declared.counted.Counted.{Counted}
use Rattle.gtp_values.specs.declared.plane.Plane.{Plane}
use Rattle.gtp_lines.specs.Lines.{LinesOf}
use Rattle.gtp_lines.specs.All.{AllLines}
use Rattle.gtp_json.specs.Datagram.{DatagramJson}
use Rattle.gtp_dump.specs.Text.{SpellsWord}
use Rattle.gtp_dump.specs.Elsewhere.{CountsElsewhere}
use Rattle.gtp_dump.specs.Flaw.{flaw_text}
use Rattle.gtp_dump.specs.Entries.{Reading, Nothing, Bad, Datagram, IsEntry}
use Rattle.gtp_dump.specs.declared.flaw.Flaw.{Flaw}
use Rattle.gtp_dump.specs.declared.decoding.Asked.{Asked}
use Rattle.gtp_dump.specs.declared.decoding.Form.{Form}
use Rattle.gtp_dump.specs.declared.decoding.Form.TheVariants as forms
use Rattle.gtp_dump.specs.declared.decoding.Tally.{Tally}

-- the line before those of a datagram
abbrev pub datagram_line : ℕ → List ℕ
datagram_line index = codes "datagram " ++ (decimal index ++ codes "\n")

-- the line on a bad line
abbrev pub bad_line : ℕ → List ℕ
bad_line number = codes "bad hex line " ++ (decimal number ++ codes "\n")

-- and a second one, which says why
abbrev pub flaw_line : ℕ → Flaw → List ℕ
flaw_line number flaw = codes "gtpshow: standard input, line " ++ (decimal number ++ (codes ": " ++ (flaw_text flaw ++ codes "\n")))

abbrev pub bad_text : ℕ → Flaw → List ℕ
bad_text number flaw = bad_line number ++ flaw_line number flaw

-- a datagram in a form
abbrev pub ShowsAs : Form → Plane → List ℕ → List ℕ → Bool → Type 0
ShowsAs forms.Lines plane octets text faulty = LinesOf plane octets text faulty
ShowsAs (forms.All names interface) plane octets text faulty = AllLines names interface plane octets text faulty
ShowsAs (forms.Json members) plane octets text faulty = DatagramJson members plane octets text faulty

-- this of the datagram of a word
abbrev pub ShowsWord : Asked → List ℕ → List ℕ → Bool → Type 0
ShowsWord asked word text faulty = (plane : Plane) × (octets : List ℕ) × SpellsWord asked.plane word plane octets × ShowsAs asked.form plane octets text faulty

-- the line before those of a datagram; none before an object
abbrev pub index_line : Form → ℕ → List ℕ
index_line forms.Lines index = datagram_line index
index_line (forms.All names interface) index = datagram_line index
index_line (forms.Json members) index = []

-- of a datagram its index, and then this
abbrev pub Shows : Form → Plane → List ℕ → ℕ → List ℕ → Bool → Type 0
Shows form plane octets index text faulty = (lines : List ℕ) × ShowsAs form plane octets lines faulty × (text ≡ index_line form index ++ lines)

-- nothing was read yet
abbrev pub nothing_read : Tally
nothing_read = record { lines = 0; datagrams = 0; faulty = false; elsewhere = 0; bad = false }

-- lines without digits tell nothing
pub record TellsNothing (before : Tally) (count : ℕ) (after : Tally) (out err : List ℕ) : Type 0 where
  pub tally : after ≡ record before { lines = before.lines + count }
  pub output : out ≡ []
  pub error : err ≡ []

-- of a bad line its number is told, as an error, and why it is bad
pub record TellsBad (before : Tally) (count number : ℕ) (flaw : Flaw) (after : Tally) (out err : List ℕ) : Type 0 where
  pub tally : after ≡ record before { lines = before.lines + count; bad = true }
  pub output : out ≡ []
  pub error : err ≡ bad_text number flaw

-- a datagram is shown, and its index told, which counts from 0
pub record TellsDatagram (form : Form) (before : Tally) (count : ℕ) (plane : Plane) (octets : List ℕ) (after : Tally) (out err : List ℕ) : Type 0 where
  pub faulty : Bool
  pub elsewhere : ℕ
  pub shows : Shows form plane octets before.datagrams out faulty
  pub counts : CountsElsewhere faulty plane octets elsewhere
  pub tally : after ≡ record before {
    lines = before.lines + count;
    datagrams = before.datagrams + 1;
    faulty = before.faulty || faulty;
    elsewhere = min (before.elsewhere + elsewhere) (2 ^ 64 - 1);
  }
  pub error : err ≡ []

-- what is told of so many lines that give this: what they add to the output and to the errors
abbrev pub Tells : Form → Tally → ℕ → Reading → Tally → List ℕ → List ℕ → Type 0
Tells form before count Nothing after out err = TellsNothing before count after out err
Tells form before count (Bad number flaw) after out err = TellsBad before count number flaw after out err
Tells form before count (Datagram plane octets) after out err = TellsDatagram form before count plane octets after out err

-- the lines of entries
abbrev pub lines_of : List (List (List ℕ)) → List (List ℕ)
lines_of entries = flat_map (λ entry. entry) entries

-- the first of lines that are followed by this one
abbrev pub first : List (List ℕ) → List ℕ → List ℕ
first [] next = next
first (line ∷ lines) next = line

-- entries are told, one after the other, before the next line
abbrev pub TellAll : Asked → Tally → List (List (List ℕ)) → List ℕ → Tally → List ℕ → List ℕ → Type 0
TellAll asked before [] next after out err = (after ≡ before) × (out ≡ []) × (err ≡ [])
TellAll asked before (entry ∷ entries) next after out err =
    (reading : Reading) × (told : Tally) × (o : List ℕ) × (os : List ℕ) × (e : List ℕ) × (es : List ℕ)
    × IsEntry asked.plane asked.join before.lines entry (first (lines_of entries) next) reading × Tells asked.form before (length entry) reading told o e
    × TellAll asked told entries next after os es × (out ≡ o ++ os) × (err ≡ e ++ es)

-- what is looked at of a line: one that is cut is too long
abbrev pub seen : List ℕ → List ℕ
seen line = take 1048577 line

-- the lines before the rest are entries, each up to where the next line does not go on, and this is told of them
pub record TellLines (asked : Asked) (octets rest : List ℕ) (tally : Tally) (text errors : List ℕ) : Type 0 where
  pub lines : List (List ℕ)
  pub entries : List (List (List ℕ))
  pub begins : BeginsWithLines octets lines rest
  pub split : map seen lines ≡ lines_of entries
  pub tells : TellAll asked nothing_read entries (seen (take_through 10 rest)) tally text errors

-- the lines before the rest were told, and nothing else
pub record AreTold (asked : Asked) (octets rest : List ℕ) (tally : Tally) (out out_after err err_after : Option (List ℕ)) : Type 0 where
  pub text : List ℕ
  pub errors : List ℕ
  pub tells : TellLines asked octets rest tally text errors
  pub output : Appends out out_after text
  pub error : Appends err err_after errors

-- this was told of so many lines
pub record IsTold (form : Form) (before : Tally) (count : ℕ) (reading : Reading) (after : Tally) (out out_after err err_after : Option (List ℕ)) : Type 0 where
  pub text : List ℕ
  pub errors : List ℕ
  pub tells : Tells form before count reading after text errors
  pub output : Appends out out_after text
  pub error : Appends err err_after errors

-- one write failed, to the output or to the errors
abbrev pub WriteFailed : {W E : Type 0} → (out out_after : Counted W) → (err err_after : Counted E) → Type 0
WriteFailed out out_after err err_after = (FailedOnce out out_after × NoneFailed err err_after) ⊎ (NoneFailed out out_after × FailedOnce err err_after)

-- or found one of them closed by whoever reads it
abbrev pub WriteClosed : {W E : Type 0} → (out out_after : Counted W) → (err err_after : Counted E) → Type 0
WriteClosed out out_after err err_after = (ClosedOnce out out_after × NoneFailed err err_after) ⊎ (NoneFailed out out_after × ClosedOnce err err_after)

-- the first lines were told, and nothing else
abbrev pub AreFirstTold : Asked → List ℕ → (out out_after err err_after : Option (List ℕ)) → Type 0
AreFirstTold asked octets out out_after err err_after = (rest : List ℕ) × (tally : Tally) × AreTold asked octets rest tally out out_after err err_after

-- of so many lines a beginning was told
pub record IsToldInPart (form : Form) (before : Tally) (count : ℕ) (reading : Reading) (out out_after err err_after : Option (List ℕ)) : Type 0 where
  pub after : Tally
  pub text : List ℕ
  pub errors : List ℕ
  pub tells : Tells form before count reading after text errors
  pub output : WritesFront out out_after text
  pub error : WritesFront err err_after errors

-- a beginning of what is told of the first lines was written, and nothing else
pub record AreToldInPart (asked : Asked) (octets : List ℕ) (out out_after err err_after : Option (List ℕ)) : Type 0 where
  pub rest : List ℕ
  pub tally : Tally
  pub text : List ℕ
  pub errors : List ℕ
  pub tells : TellLines asked octets rest tally text errors
  pub output : WritesFront out out_after text
  pub error : WritesFront err err_after errors
