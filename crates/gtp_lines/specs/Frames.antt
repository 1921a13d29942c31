-- The lines of a datagram of a capture.
use Rattle.std.specs.Prelude.{◌≡◌, ℕ, ◌+◌, ◌-◌, ◌/◌, ◌%◌, nat_lt, nat_le, Bool, true, false, List, [], ◌++◌, length, replicate, ◌⊎◌, if◌then◌else◌, codes, decimal}
use Rattle.gtp_values.specs.Address.{ip_text}
use Rattle.gtp_values.specs.declared.address.Endpoint.{Endpoint}
use Rattle.gtp_values.specs.declared.plane.Plane.{Plane}
use Rattle.gtp_values.specs.declared.plane.Plane.TheVariants.{Control, User}
use Rattle.gtp_capture.specs.declared.captured.Time.{Time}
use Rattle.gtp_capture.specs.declared.head.Unit.{Unit as Fraction}
use Rattle.gtp_capture.specs.declared.head.Unit.TheVariants.{Microseconds, Nanoseconds}
use Rattle.gtp_capture.specs.Packet.{Packet}
use Rattle.gtp_capture.specs.Seen.{Seen}
use Rattle.gtp_lines.specs.Lines.{LinesOf}
use Rattle.gtp_lines.specs.All.{AllLines}
use Rattle.gtp_lines.specs.Brief.{BriefLine}
use Rattle.gtp_lines.specs.declared.frames.Form.{Form}
use Rattle.gtp_lines.specs.declared.frames.Form.TheVariants as forms

-- how many digits a fraction of a second has, and how many of them make a second
abbrev pub width_of : Fraction → ℕ
width_of Microseconds = 6
width_of Nanoseconds = 9

abbrev pub second_in : Fraction → ℕ
second_in Microseconds = 1000000
second_in Nanoseconds = 1000000000

-- with zeros before it
abbrev pub fraction_text : Fraction → ℕ → List ℕ
fraction_text unit fraction = replicate (width_of unit - length (decimal fraction)) 48 ++ decimal fraction

-- seconds and a fraction of one; what a fraction has beyond a second counts as seconds
abbrev pub time_text : Time → List ℕ
time_text time = decimal (time.seconds + time.fraction / second_in time.unit) ++ (codes "." ++ fraction_text time.unit (time.fraction % second_in time.unit))

abbrev pub end_text : Endpoint → List ℕ
end_text end = ip_text end.ip ++ (codes " " ++ decimal end.port)

abbrev pub plane_text : Plane → List ℕ
plane_text Control = codes " control"
plane_text User = codes " user"

-- how many octets the capture has of a datagram, where it has not all
abbrev pub cut_text : ℕ → ℕ → List ℕ
cut_text held had = if nat_lt held had then codes " cut " ++ (decimal held ++ (codes " of " ++ decimal had)) else []

-- the capture has all of a datagram: it is no fragment, and is not cut
abbrev pub is_whole : Packet → Bool
is_whole p = if p.fragment then false else nat_le p.had (length p.octets)

-- why it has not
abbrev pub part_text : Packet → List ℕ
part_text p = if p.fragment then codes " fragment" else cut_text (length p.octets) p.had

-- where a datagram is from and to, its plane, and whether the capture has all of it
abbrev pub path_text : Packet → List ℕ
path_text p = codes " from " ++ (end_text p.from ++ (codes " to " ++ (end_text p.to ++ (plane_text p.plane ++ part_text p))))

-- the line of a datagram's frame
abbrev pub frame_line : Seen → List ℕ
frame_line d = codes "frame " ++ (decimal d.frame ++ (codes " time " ++ (time_text d.time ++ (path_text d.packet ++ codes "\n"))))

-- what follows the ends in a brief line: why the capture has not all of a datagram, which ends it
abbrev pub brief_mark : Packet → List ℕ
brief_mark p = if is_whole p then codes " " else part_text p ++ codes "\n"

-- what stands before a brief line: frame, time and ends
abbrev pub brief_start : Seen → List ℕ
brief_start d =
    decimal d.frame ++ (codes " " ++ (time_text d.time ++ (codes " " ++ (end_text d.packet.from ++ (codes " " ++ (end_text d.packet.to ++ brief_mark d.packet))))))

-- what each form shows first
abbrev pub start_of : Form → Seen → List ℕ
start_of forms.Lines d = frame_line d
start_of (forms.All names interface) d = frame_line d
start_of (forms.Brief names) d = brief_start d

-- and then of the datagram, and whether it has a fault
abbrev pub LinesIn : Form → Plane → List ℕ → List ℕ → Bool → Type 0
LinesIn forms.Lines plane octets text faulty = LinesOf plane octets text faulty
LinesIn (forms.All names interface) plane octets text faulty = AllLines names interface plane octets text faulty
LinesIn (forms.Brief names) plane octets text faulty = BriefLine names plane octets text faulty

-- Frame, time and ends; and then, where the capture has all its octets, the datagram's lines in this form, which may be those of a fault.
abbrev pub FrameLines : Form → Seen → List ℕ → Bool → Type 0
FrameLines form d text faulty =
    ((is_whole d.packet ≡ false) × (text ≡ start_of form d) × (faulty ≡ false))
    ⊎ ((is_whole d.packet ≡ true) × ((lines : List ℕ) × LinesIn form d.packet.plane d.packet.octets lines faulty × (text ≡ start_of form d ++ lines)))
