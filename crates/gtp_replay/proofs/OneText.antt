-- One diagram, one picture, one capture and one JSON of worlds that are alike.
use Rattle.std.proofs.Common.{◌≡◌, ℕ, ◌+◌, Bool, List, [], ◌∷◌, ◌++◌, length, Result, inl, inr, refl, sym, ◌∙◌, ap, subst, codes, arith}
use Rattle.std.specs.Prelude.{decimal}
use Rattle.std.specs.FinMap.{entries}
use Rattle.std.specs.List.{enumerate_from, flat_map}
use Rattle.json.specs.Json.{Json}
use Rattle.gtp_values.specs.Decides.{Decides}
use Rattle.gtp_values.proofs.Outcomes.{ok_same, apart}
use Rattle.gtp_values.specs.declared.plane.Plane.{Plane}
use Rattle.gtp_values.specs.declared.plane.Plane.TheVariants as planes
use Rattle.gtp_v2.specs.Pair.{DatagramValue, IsDatagram, IsDatagramFault}
use Rattle.gtp_v2.proofs.Pairs.{datagram_decided}
use Rattle.gtp_user.specs.Datagram.{IsUserMessage, IsUserFault}
use Rattle.gtp_user.specs.Message.{MessageValue as UserMessage}
use Rattle.gtp_user.proofs.Messages.{message_decided}
use Rattle.gtp_machine.specs.declared.role.Role.TheVariants.{Serving, Packet}
use Rattle.gtp_machine.specs.World.{Event}
use Rattle.gtp_capture.specs.declared.writing.Ends.{Ends}
use Rattle.gtp_capture.specs.declared.writing.Ends.TheVariants.{V4, V6}
use Rattle.gtp_capture.specs.Writing.{Sent, head_octets, header_v4, header_v6, udp_octets, pseudo_header, IsChecksum, IsUdpChecksum, IsPacket, record_head, AreWritten}
use Rattle.gtp_world.specs.Record.{Log, WorldRecord}
use Rattle.gtp_world.specs.Determined.{WorldsAlike}
use Rattle.gtp_world.specs.Naming.{Pair, mutual_pairs, session_pairs, bearer_pairs, AgreeAt, DoAgree}
use Rattle.gtp_outcomes.specs.Owed.{WasOwed}
use Rattle.gtp_gateway.specs.Settings.{Settings}
use Rattle.gtp_json.specs.Tree.{member, object_of, array_of, line_of}
use Rattle.gtp_run_json.specs.Members.{number_member}
use Rattle.gtp_run_json.specs.Contexts.{sessions_of, bearers_of}
use Rattle.gtp_run_json.specs.Happened.{events_json}
use Rattle.gtp_run_json.specs.Ending.{IsEndJson}
use Rattle.gtp_run_json.specs.Run.{IsRunJson}
use Rattle.gtp_run_json.specs.Verdicts.{JudgesEach, mutual_json, accepted_json}
use Rattle.gtp_replay.specs.Captures.{IsCaptureOf, frames_of}
use Rattle.gtp_replay.specs.Diagram.{EachHas, IsLine, IsDiagram, diagram_head, arrow, place_text, coming_text, short_arrow}
use Rattle.gtp_replay.specs.Events.{told_text}
use Rattle.gtp_replay.specs.Labels.{AreNames, IsLabel, control_names, user_names}
use Rattle.gtp_replay.specs.Rows.{Numbered, Row, Comes, Lost, Happens, Idles, rows_of}
use Rattle.gtp_replay.specs.Svg.{IsRowSvg, IsGroup, IsSvg, place_svg, arrow_svg, coming_class, arrow_path, short_path, told_svg, svg_head, height_of}
use Rattle.gtp_replay.specs.Told.{own_in, rows_in}
use Rattle.gtp_replay.proofs.Determined.{one_verdict}

-- ---- what a datagram is called

decided_one : {X E : Type 0} (r : Result X E) (Is : X → Type 0) (Fails : E → Type 0) → Decides r Is Fails → (x y : X) → Is x → Is y → x ≡ y
decided_one {X} {E} r Is Fails d x y a b = ok_same E x y (sym (d.is x a) ∙ d.is y b)

decided_either : {X E : Type 0} (r : Result X E) (Is : X → Type 0) (Fails : E → Type 0) → Decides r Is Fails → (x : X) (f : E) → Is x → Fails f → ⊥
decided_either r Is Fails d x f a b = apart x f (sym (d.is x a) ∙ d.fails f b)

names_one : (plane : Plane) (octets a b : List ℕ) → AreNames plane octets a → AreNames plane octets b → a ≡ b
names_one planes.Control octets a b (inl (d, is, names)) (inl (e, also, others)) =
    names ∙ (ap (λ (x : DatagramValue). control_names x.first x.second) (decided_one _ (IsDatagram octets) (IsDatagramFault octets) (datagram_decided octets) d e is also) ∙ sym others)
names_one planes.Control octets a b (inl (d, is, names)) (inr (f, fails, others)) = absurd (decided_either _ (IsDatagram octets) (IsDatagramFault octets) (datagram_decided octets) d f is fails)
names_one planes.Control octets a b (inr (f, fails, names)) (inl (d, is, others)) = absurd (decided_either _ (IsDatagram octets) (IsDatagramFault octets) (datagram_decided octets) d f is fails)
names_one planes.Control octets a b (inr (f, fails, names)) (inr (g, also, others)) = names ∙ sym others
names_one planes.User octets a b (inl (m, is, names)) (inl (n, also, others)) =
    names ∙ (ap (λ (x : UserMessage). user_names x.content) (decided_one _ (IsUserMessage octets) (IsUserFault octets) (message_decided octets) m n is also) ∙ sym others)
names_one planes.User octets a b (inl (m, is, names)) (inr (f, fails, others)) = absurd (decided_either _ (IsUserMessage octets) (IsUserFault octets) (message_decided octets) m f is fails)
names_one planes.User octets a b (inr (f, fails, names)) (inl (m, is, others)) = absurd (decided_either _ (IsUserMessage octets) (IsUserFault octets) (message_decided octets) m f is fails)
names_one planes.User octets a b (inr (f, fails, names)) (inr (g, also, others)) = names ∙ sym others

label_one : (d : Numbered) (a b : List ℕ) → IsLabel d a → IsLabel d b → a ≡ b
label_one d a b (names, are, is) (others, also, is_too) =
    is ∙ (ap (λ (l : List ℕ). decimal d.0 ++ codes " " ++ l) (names_one d.1.what.plane d.1.what.octets names others are also) ∙ sym is_too)

-- ---- diagrams and pictures

each_one : {X : Type 0} (Is : X → List ℕ → Type 0) → ((x : X) (a b : List ℕ) → Is x a → Is x b → a ≡ b) → (xs : List X) (a b : List ℕ) → EachHas Is xs a → EachHas Is xs b → a ≡ b
each_one Is one [] a b r s = r ∙ sym s
each_one Is one (x ∷ xs) a b (piece, others, is, rest, whole) (fragment, more, is_too, rest_too, whole_too) =
    whole ∙ ((λ i. one x piece fragment is is_too i ++ each_one Is one xs others more rest rest_too i) ∙ sym whole_too)

line_one : (row : Row) (a b : List ℕ) → IsLine row a → IsLine row b → a ≡ b
line_one (Comes place d coming told) a b (label, is, line) (other, is_too, line_too) =
    line ∙ (ap (λ (l : List ℕ). arrow (place_text place) d.1.role (l ++ coming_text coming) ++ codes "  " ++ told_text told) (label_one d label other is is_too) ∙ sym line_too)
line_one (Lost d) a b (label, is, line) (other, is_too, line_too) =
    line ∙ (ap (λ (l : List ℕ). short_arrow d.1.role l ++ codes "  lost\n") (label_one d label other is is_too) ∙ sym line_too)
line_one (Happens place event told) a b line line_too = line ∙ sym line_too
line_one (Idles place node count) a b line line_too = line ∙ sym line_too

row_svg_one : (row : Row) (a b : List ℕ) → IsRowSvg row a → IsRowSvg row b → a ≡ b
row_svg_one (Comes place d coming told) a b (label, is, piece) (other, is_too, piece_too) =
    piece
    ∙ (ap (λ (l : List ℕ). place_svg place ++ (arrow_svg d (coming_class coming) (arrow_path d.1.role) (l ++ coming_text coming) ++ told_svg told))
    (label_one d label other is is_too) ∙ sym piece_too)
row_svg_one (Lost d) a b (label, is, piece) (other, is_too, piece_too) =
    piece ∙ (ap (λ (l : List ℕ). arrow_svg d (codes " lost") (short_path d.1.role) l) (label_one d label other is is_too) ∙ sym piece_too)
row_svg_one (Happens place event told) a b piece piece_too = piece ∙ sym piece_too
row_svg_one (Idles place node count) a b piece piece_too = piece ∙ sym piece_too

group_one : (r : ℕ × Row) (a b : List ℕ) → IsGroup r a → IsGroup r b → a ≡ b
group_one r a b (row, is, piece) (other, is_too, piece_too) =
    piece ∙ (ap (λ (l : List ℕ). codes "<g transform=\"translate(0," ++ (decimal (height_of r.0) ++ (codes ")\">" ++ (l ++ codes "</g>\n")))) (row_svg_one r.1 row other is is_too) ∙ sym piece_too)

diagram_same : (rows : List Row) (a b : List ℕ) → IsDiagram rows a → IsDiagram rows b → a ≡ b
diagram_same rows a b (lines, each, is) (others, each_too, is_too) = is ∙ (ap (λ (l : List ℕ). diagram_head ++ l) (each_one IsLine line_one rows lines others each each_too) ∙ sym is_too)

rows_alike : (events : List Event) (one other : WorldRecord) → WorldsAlike one other → rows_in events one ≡ rows_in events other
rows_alike events one other alike = ap (λ (l : Log). rows_of events l.datagrams l.notes) alike.log

pub diagram_one : (events : List Event) (one other : WorldRecord) (a b : List ℕ) → WorldsAlike one other → IsDiagram (rows_in events one) a → IsDiagram (rows_in events other) b → a ≡ b
diagram_one events one other a b alike r s = diagram_same (rows_in events other) a b (subst (λ (rows : List Row). IsDiagram rows a) (rows_alike events one other alike) r) s

svg_same : (events : List Event) (world : WorldRecord) (a b : List ℕ)
    → IsSvg (own_in world Serving) (own_in world Packet) (rows_in events world) a → IsSvg (own_in world Serving) (own_in world Packet) (rows_in events world) b → a ≡ b
svg_same events world a b (groups, each, is) (others, each_too, is_too) =
    is ∙ (ap
    (λ (l : List ℕ). svg_head (own_in world Serving) (own_in world Packet) (height_of (length (rows_in events world))) ++ (l ++ codes "</svg>\n"))
    (each_one IsGroup group_one (enumerate_from 0 (rows_in events world)) groups others each each_too) ∙ sym is_too)

pub svg_one : (events : List Event) (one other : WorldRecord) (a b : List ℕ) → WorldsAlike one other
    → IsSvg (own_in one Serving) (own_in one Packet) (rows_in events one) a → IsSvg (own_in other Serving) (own_in other Packet) (rows_in events other) b → a ≡ b
svg_one events one other a b alike r s =
    svg_same events other a b
    (subst (λ (settings : Settings). IsSvg settings.config.own (own_in other Packet) (rows_in events other) a) alike.serving.settings
    (subst (λ (settings : Settings). IsSvg (own_in one Serving) settings.config.own (rows_in events other) a) alike.packet.settings
    (subst (λ (rows : List Row). IsSvg (own_in one Serving) (own_in one Packet) rows a) (rows_alike events one other alike) r)))
    s

-- ---- captures

checksum_one : (octets : List ℕ) (m n : ℕ) → IsChecksum octets m → IsChecksum octets n → m ≡ n
checksum_one octets m n a b = omega (arith, a, b)

udp_checksum_one : (octets : List ℕ) (m n : ℕ) → IsUdpChecksum octets m → IsUdpChecksum octets n → m ≡ n
udp_checksum_one octets m n (some, inl a) (some_too, inl b) = omega (arith, a, b)
udp_checksum_one octets m n (some, inl a) (some_too, inr (is, b)) = let none : m ≡ 0 = omega (arith, a, b) in absurd (some none)
udp_checksum_one octets m n (some, inr (is, a)) (some_too, inl b) = let none : n ≡ 0 = omega (arith, a, b) in absurd (some_too none)
udp_checksum_one octets m n (some, inr (is, a)) (some_too, inr (is_too, b)) = is ∙ sym is_too

packet_one : (ends : Ends) (d : Sent) (a b : List ℕ) → IsPacket ends d a → IsPacket ends d b → a ≡ b
packet_one (V4 from to) d a b (m, sum, is) (n, sum_too, is_too) =
    is ∙ (ap (λ (k : ℕ). header_v4 k d from to ++ udp_octets 0 d) (checksum_one (header_v4 0 d from to) m n sum sum_too) ∙ sym is_too)
packet_one (V6 from to) d a b (m, sum, is) (n, sum_too, is_too) =
    is ∙ (ap (λ (k : ℕ). header_v6 d from to ++ udp_octets k d) (udp_checksum_one (pseudo_header d from to ++ udp_octets 0 d) m n sum sum_too) ∙ sym is_too)

written_one : (ds : List Sent) (a b : List ℕ) → AreWritten ds a → AreWritten ds b → a ≡ b
written_one [] a b r s = r ∙ sym s
written_one (d ∷ ds) a b (packet, rest, is, whole, more) (other, left, is_too, whole_too, more_too) =
    whole ∙ ((λ i. record_head d (length (packet_one d.ends d packet other is is_too i)) ++ (packet_one d.ends d packet other is is_too i ++ written_one ds rest left more more_too i)) ∙ sym whole_too)

pub capture_one : (one other : WorldRecord) (a b : List ℕ) → WorldsAlike one other → IsCaptureOf one a → IsCaptureOf other b → a ≡ b
capture_one one other a b alike r s =
    let written : AreWritten (frames_of other.log) r.body = subst (λ (l : Log). AreWritten (frames_of l) r.body) alike.log r.written in
    r.head ∙ (ap (λ (body : List ℕ). head_octets ++ body) (written_one (frames_of other.log) r.body s.body written s.written) ∙ sym s.head)

-- ---- JSON

-- what is said of each is one
judged_one : {X : Type 0} (P Q : X → Type 0) (shape : X → Bool → Json) (xs : List X) (a b : List Json) → ((x : X) → P x → Q x) → ((x : X) → Q x → P x)
    → JudgesEach P shape xs a → JudgesEach Q shape xs b → a ≡ b
judged_one P Q shape [] a b there back r s = r ∙ sym s
judged_one P Q shape (x ∷ xs) a b there back (v, others, holds, rest, is) (w, others_too, holds_too, rest_too, is_too) =
    let verdict : v ≡ w = one_verdict v w (λ t. holds_too.1 (there x (holds.0 t))) (λ t. holds.1 (back x (holds_too.0 t))) in
    let left : others ≡ others_too = judged_one P Q shape xs others others_too there back rest rest_too in
    is ∙ ((λ i. (shape x (verdict i) ∷ []) ++ left i) ∙ sym is_too)

end_one : (one other : WorldRecord) (a b : Json) → WorldsAlike one other → IsEndJson one a → IsEndJson other b → a ≡ b
end_one one other a b alike r s =
    let serving : one.serving.state.node ≡ other.serving.state.node = alike.serving.state.node in
    let packet : one.packet.state.node ≡ other.packet.state.node = alike.packet.state.node in
    let pairs : mutual_pairs one ≡ mutual_pairs other = λ i. session_pairs (packet i).sessions (entries (serving i).sessions) ++ bearer_pairs (packet i).bearers (entries (serving i).bearers) in
    let agreeing : r.pairs ≡ s.pairs =
    judged_one (DoAgree one) (DoAgree other) mutual_json (mutual_pairs one) r.pairs s.pairs
    (λ p a. subst (λ n. AgreeAt n other.packet.state.node p) serving (subst (λ n. AgreeAt one.serving.state.node n p) packet a))
    (λ p a. subst (λ n. AgreeAt n one.packet.state.node p) (sym serving) (subst (λ n. AgreeAt other.serving.state.node n p) (sym packet) a))
    r.agreeing (subst (λ (l : List Pair). JudgesEach (DoAgree other) mutual_json l s.pairs) (sym pairs) s.agreeing) in
    let owed : r.packets ≡ s.packets =
    judged_one (WasOwed one.log) (WasOwed other.log) accepted_json one.log.accepted r.packets s.packets
    (λ e o. subst (λ (l : Log). WasOwed l e) alike.log o)
    (λ e o. subst (λ (l : Log). WasOwed l e) (sym alike.log) o)
    r.owed (subst (λ (l : Log). JudgesEach (WasOwed other.log) accepted_json l.accepted s.packets) (sym alike.log) s.owed) in
    r.whole ∙ ((λ i. object_of (member (codes "sessions") (array_of (sessions_of Serving (serving i) ++ sessions_of Packet (packet i)))
    ++ (member (codes "bearers") (array_of (bearers_of Serving (serving i) ++ bearers_of Packet (packet i)))
    ++ (member (codes "mutual") (array_of (agreeing i)) ++ (member (codes "accepted") (array_of (owed i)) ++ number_member (codes "late") (alike.log i).late))))) ∙ sym s.whole)

pub json_one : (events : List Event) (one other : WorldRecord) (a b : List ℕ) → WorldsAlike one other → IsRunJson events one a → IsRunJson events other b → a ≡ b
json_one events one other a b alike (objects, (end, is_end, are), is) (others, (last, is_last, are_too), is_too) =
    let ends : end ≡ last = end_one one other end last alike is_end is_last in
    let same : objects ≡ others = are ∙ ((λ i. events_json events (alike.log i).datagrams (alike.log i).notes ++ ends i ∷ []) ∙ sym are_too) in
    is ∙ (ap (flat_map line_of) same ∙ sym is_too)
