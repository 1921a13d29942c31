-- A datagram of a capture as JSON.
use Rattle.std.specs.Prelude.{◌≡◌, ℕ, Bool, true, false, List, ◌++◌, length, ◌⊎◌, if◌then◌else◌, codes}
use Rattle.json.specs.Json.{Json, string, boolean}
use Rattle.gtp_values.specs.Address.{ip_text}
use Rattle.gtp_values.specs.declared.address.Endpoint.{Endpoint}
use Rattle.gtp_capture.specs.Packet.{Packet}
use Rattle.gtp_capture.specs.Seen.{Seen}
use Rattle.gtp_lines.specs.Frames.{time_text, is_whole}
use Rattle.gtp_json.specs.Tree.{member, object_of, number_of, line_of}
use Rattle.gtp_json.specs.declared.datagram.Members.{Members}
use Rattle.gtp_json.specs.Datagram.{plane_member, WholeMembers}

-- where a datagram is from or to
abbrev pub end_members : Endpoint → List (List ℕ × Json)
end_members end = member (codes "address") (string (ip_text end.ip)) ++ member (codes "port") (number_of end.port)

abbrev pub path_members : Packet → List (List ℕ × Json)
path_members p = member (codes "from") (object_of (end_members p.from)) ++ (member (codes "to") (object_of (end_members p.to)) ++ plane_member p.plane)

-- frame, time, ends and plane
abbrev pub frame_members : Seen → List (List ℕ × Json)
frame_members d = member (codes "frame") (number_of d.frame) ++ (member (codes "time") (string (time_text d.time)) ++ path_members d.packet)

-- how many octets the capture has of a datagram that is cut
abbrev pub held_members : Packet → List (List ℕ × Json)
held_members p = member (codes "held") (number_of (length p.octets)) ++ member (codes "of") (number_of p.had)

-- why the capture has not all of a datagram
abbrev pub part_members : Packet → List (List ℕ × Json)
part_members p = if p.fragment then member (codes "fragment") (boolean true) else member (codes "cut") (object_of (held_members p))

-- the members after those of the frame: the datagram's, where the capture has all its octets; else why it has not
abbrev pub RestMembers : Members → Packet → List (List ℕ × Json) → Bool → Type 0
RestMembers members p ms faulty = ((is_whole p ≡ false) × (faulty ≡ false) × (ms ≡ part_members p)) ⊎ ((is_whole p ≡ true) × WholeMembers members p.plane p.octets ms faulty)

-- the JSON of a datagram of a capture, and whether it has a fault
abbrev pub IsFrameJson : Members → Seen → Json → Bool → Type 0
IsFrameJson members d j faulty = (ms : List (List ℕ × Json)) × RestMembers members d.packet ms faulty × (j ≡ object_of (frame_members d ++ ms))

-- and its line
abbrev pub FrameJson : Members → Seen → List ℕ → Bool → Type 0
FrameJson members d text faulty = (j : Json) × IsFrameJson members d j faulty × (text ≡ line_of j)
