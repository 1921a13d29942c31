-- What showing a capture writes and answers.
use Rattle.std.specs.Prelude.{◌≡◌, ℕ, suc, ◌+◌, ◌-◌, ◌^◌, ◌<◌, ◌==◌, ◌⊎◌, nat_lt, if◌then◌else◌, Bool, true, false, List, [], ◌∷◌, ◌++◌, length, Option, Some, codes, decimal}
use Rattle.std.specs.Int.{from_bool}
use Rattle.std.specs.Io.KnownBytes.{Appends}
use Rattle.gtp_counted.specs.Counts.{inner_of, failures_of, NoneFailed, FailedOnce, ClosedOnce}
use Rattle.gtp_counted.specs.Streams.{WritesFront}
use Rattle.gtp_capture.specs.Frame.{Frame}
use Rattle.gtp_capture.specs.Capture.{State, Holds, IsPiece, IsBroken, IsCapture}
use Rattle.gtp_capture.specs.Packet.{Packet}
use Rattle.gtp_capture.specs.Seen.{Seen, seen_in, datagrams}
use Rattle.gtp_capture.specs.declared.ports.Ports.{Ports}
use Rattle.gtp_lines.specs.Filter.{IsChosen}
use Rattle.gtp_lines.specs.Frames.{FrameLines}
use Rattle.gtp_json.specs.Frames.{FrameJson}
use Rattle.gtp_commands.specs.declared.command.Failure.{Failure}
use Rattle.gtp_commands.specs.declared.command.Failure.TheVariants.{Memory, TooLong, Write, Closed}
use Rattle.gtp_commands.specs.declared.capturing.CaptureForm.{CaptureForm}
use Rattle.gtp_commands.specs.declared.capturing.CaptureForm.TheVariants.{Text, Json}
use Rattle.gtp_commands.specs.declared.capturing.FramesAsked.{FramesAsked}
use Rattle.gtp_commands.specs.declared.capturing.Counts.{Counts}
use Rattle.gtp_commands.specs.declared.capturing.FrameWriter.{FrameWriter}

-- nothing was shown yet
abbrev pub nothing_shown : Counts
nothing_shown = record { gtp = 0; faults = 0; cut = 0; fragments = 0 }

-- the capture has not all octets of a datagram, which is in no fragments
abbrev pub is_cut : Packet → Bool
is_cut p = if p.fragment then false else nat_lt (length p.octets) p.had

-- with one datagram more
abbrev pub counted : Counts → Packet → Bool → Counts
counted c p faulty = record { gtp = c.gtp + 1; faults = c.faults + from_bool faulty; cut = c.cut + from_bool (is_cut p); fragments = c.fragments + from_bool p.fragment }

-- the line that counts
abbrev pub counts_line : ℕ → Counts → List ℕ
counts_line frames c =
    codes "frames " ++ (decimal frames ++ (codes " gtp " ++ (decimal c.gtp
    ++ (codes " faults " ++ (decimal c.faults ++ (codes " cut " ++ (decimal c.cut ++ (codes " fragments " ++ (decimal c.fragments ++ codes "\n")))))))))

-- and the same as a JSON object
abbrev pub counts_json : ℕ → Counts → List ℕ
counts_json frames c =
    codes "{\"frames\":" ++ (decimal frames ++ (codes ",\"gtp\":" ++ (decimal c.gtp
    ++ (codes ",\"faults\":" ++ (decimal c.faults ++ (codes ",\"cut\":" ++ (decimal c.cut ++ (codes ",\"fragments\":" ++ (decimal c.fragments ++ codes "}\n")))))))))

-- in each form
abbrev pub last_line : CaptureForm → ℕ → Counts → List ℕ
last_line (Text form) frames c = counts_line frames c
last_line (Json members) frames c = counts_json frames c

-- a datagram in a form: its lines, or its object, and whether it has a fault
abbrev pub IsShownAs : CaptureForm → Seen → List ℕ → Bool → Type 0
IsShownAs (Text form) d text faulty = FrameLines form d text faulty
IsShownAs (Json members) d text faulty = FrameJson members d text faulty

-- the exit status: 1 where a datagram has a fault
abbrev pub capture_status : Counts → ℕ
capture_status c = if c.faults == 0 then 0 else 1

-- a datagram is left out: the filter does not choose it; or only those at fault are shown, and it has none
abbrev pub IsLeftOut : FramesAsked → Seen → Type 0
IsLeftOut asked d = (IsChosen asked.filter d.packet → ⊥) ⊎ ((asked.only_faults ≡ true) × ((lines : List ℕ) × IsShownAs asked.form d lines false))

-- any other is shown so
pub record IsShownSo (asked : FramesAsked) (d : Seen) (lines : List ℕ) (faulty : Bool) : Type 0 where
  pub chosen : IsChosen asked.filter d.packet
  pub shown : IsShownAs asked.form d lines faulty
  pub fault : asked.only_faults ≡ true → faulty ≡ true

-- the lines of those datagrams that are not left out, one after the other, and the counts after them
abbrev pub AreShown : FramesAsked → Counts → List Seen → List ℕ → Counts → Type 0
AreShown asked before [] text after = (text ≡ []) × (after ≡ before)
AreShown asked before (d ∷ ds) text after =
    (IsLeftOut asked d × AreShown asked before ds text after)
    ⊎ ((lines : List ℕ) × (faulty : Bool) × (rest : List ℕ)
    × IsShownSo asked d lines faulty × AreShown asked (counted before d.packet faulty) ds rest after × (text ≡ lines ++ rest))

-- a writer that takes a datagram is as it was, where that is left out; and else it has its lines after what it had
abbrev pub TakesFrame : {W : Type 0} → (W → Option (List ℕ)) → FrameWriter W → Seen → FrameWriter W → Type 0
TakesFrame contents before d after =
    (IsLeftOut before.asked.now d × (after ≡ before))
    ⊎ ((lines : List ℕ) × (faulty : Bool)
    × IsShownSo before.asked.now d lines faulty × (after.asked ≡ before.asked) × Appends (contents (inner_of before.out)) (contents (inner_of after.out)) lines
    × (after.counts ≡ counted before.counts d.packet faulty) × NoneFailed before.out after.out)

-- one of the counts is at its end
abbrev pub IsFull : Counts → Type 0
IsFull c = (c.gtp ≡ 2 ^ 64 - 1) ⊎ (c.faults ≡ 2 ^ 64 - 1) ⊎ (c.cut ≡ 2 ^ 64 - 1) ⊎ (c.fragments ≡ 2 ^ 64 - 1)

-- why a writer does not show a datagram: it wants memory, or a count is at its end, and it has written nothing more; or a write failed, which counts up to 2^64 - 1
abbrev pub IsUnshown : {W : Type 0} → Failure → FrameWriter W → FrameWriter W → Type 0
IsUnshown Memory before after = after.out ≡ before.out
IsUnshown TooLong before after = (after.out ≡ before.out) × IsFull before.counts
IsUnshown Write before after = failures_of before.out < 2 ^ 64 - 1 → FailedOnce before.out after.out
IsUnshown Closed before after = failures_of before.out < 2 ^ 64 - 1 → ClosedOnce before.out after.out
IsUnshown other before after = ⊥

-- a beginning of what shows a datagram was written
abbrev pub IsFrameInPart : FramesAsked → Seen → Option (List ℕ) → Option (List ℕ) → Type 0
IsFrameInPart asked d before now = (lines : List ℕ) × (faulty : Bool) × IsShownSo asked d lines faulty × WritesFront before now lines

-- a writer that does not show one notes why; where a write failed, it has a beginning of its lines
abbrev pub RefusesFrame : {W : Type 0} → (W → Option (List ℕ)) → FrameWriter W → Seen → FrameWriter W → Type 0
RefusesFrame contents before d after = (why : Failure) × (after.unshown ≡ Some why) × IsUnshown why before after
    × ((why ≡ Write) ⊎ (why ≡ Closed) → IsFrameInPart before.asked.now d (contents (inner_of before.out)) (contents (inner_of after.out)))

-- The writer has the lines of the datagrams that these frames carry, in their order, and no others.
pub record AreWritten (asked : FramesAsked) (ports : Ports) (frames : List Frame) (before now : Option (List ℕ)) (counts : Counts) : Type 0 where
  pub text : List ℕ
  pub lines : AreShown asked nothing_shown (datagrams ports 1 frames) text counts
  pub written : Appends before now text

-- The file is a capture of so many frames, whose datagrams were shown.
abbrev pub AreFramesShown : FramesAsked → Ports → List ℕ → Option (List ℕ) → Option (List ℕ) → ℕ → Counts → Type 0
AreFramesShown asked ports file before now count counts = (state : State) × (frames : List Frame)
    × IsCapture file state frames [] × AreWritten asked ports frames before now counts × (count ≡ length frames)

-- Then came the line that counts.
abbrev pub IsCaptureShown : FramesAsked → Ports → List ℕ → Option (List ℕ) → Option (List ℕ) → ℕ → Type 0
IsCaptureShown asked ports file before now status = (shown : Option (List ℕ)) × (count : ℕ) × (counts : Counts)
    × AreFramesShown asked ports file before shown count counts × Appends shown now (last_line asked.form count counts) × (status ≡ capture_status counts)

-- The datagrams of the first frames were shown; from this octet of the file on, no record or block stands.
abbrev pub IsBrokenShown : FramesAsked → Ports → List ℕ → Option (List ℕ) → Option (List ℕ) → ℕ → Type 0
IsBrokenShown asked ports file before now at = (state : State) × (frames : List Frame) × (rest : List ℕ) × (counts : Counts)
    × IsCapture file state frames rest × IsBroken state rest × (at + length rest ≡ length file) × AreWritten asked ports frames before now counts

-- The datagrams of some first frames were shown, or nothing was.
abbrev pub IsFirstShown : FramesAsked → Ports → List ℕ → Option (List ℕ) → Option (List ℕ) → Type 0
IsFirstShown asked ports file before now =
    (before ≡ now)
    ⊎ ((state : State) × (frames : List Frame) × (rest : List ℕ) × (counts : Counts)
    × IsCapture file state frames rest × AreWritten asked ports frames before now counts)

-- The datagrams of the first frames were shown, and a beginning of that of the next one.
pub record IsNextShown (asked : FramesAsked) (ports : Ports) (file : List ℕ) (before now : Option (List ℕ)) : Type 0 where
  pub state : State
  pub frames : List Frame
  pub rest : List ℕ
  pub capture : IsCapture file state frames rest
  pub shown : Option (List ℕ)
  pub counts : Counts
  pub written : AreWritten asked ports frames before shown counts
  pub next : Frame
  pub later : List ℕ
  pub stands : IsPiece state rest (Holds next) later
  pub datagram : Seen
  pub carries : seen_in ports (suc (length frames)) next ≡ datagram ∷ []
  pub front : IsFrameInPart asked datagram shown now

-- Or those of all frames, and a beginning of the line that counts.
abbrev pub IsCountShown : FramesAsked → Ports → List ℕ → Option (List ℕ) → Option (List ℕ) → Type 0
IsCountShown asked ports file before now = (shown : Option (List ℕ)) × (count : ℕ) × (counts : Counts)
    × AreFramesShown asked ports file before shown count counts × WritesFront shown now (last_line asked.form count counts)

-- The file is no capture, and nothing was shown.
abbrev pub IsNoCapture : List ℕ → Option (List ℕ) → Option (List ℕ) → Type 0
IsNoCapture file before now = (before ≡ now) × ((state : State) (frames : List Frame) (rest : List ℕ) → IsCapture file state frames rest → ⊥)
