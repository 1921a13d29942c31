-- A diagram as a picture (SVG 1.1): a group a row, 30 units high. The line of the serving gateway stands at x 150, that of the packet gateway at x 650.
use Rattle.std.specs.Prelude.{◌≡◌, ℕ, ◌+◌, ◌*◌, List, [], ◌++◌, length, if◌then◌else◌, codes, decimal}
use Rattle.std.specs.List.{enumerate_from}
use Rattle.gtp_machine.specs.declared.role.Role.{Role}
use Rattle.gtp_machine.specs.declared.role.Role.TheVariants.{Serving, Packet}
use Rattle.gtp_machine.specs.Config.{Addresses}
use Rattle.gtp_machine.specs.World.{Event, Tick, Restart}
use Rattle.gtp_values.specs.Address.{ip_text}
use Rattle.gtp_values.specs.declared.address.Ip.{Ip}
use Rattle.gtp_world.specs.Record.{EventRecord}
use Rattle.gtp_lines.specs.Text.{octets_text}
use Rattle.gtp_outcomes.specs.Outcomes.{is_refused, plane_word}
use Rattle.gtp_replay.specs.Events.{told_words}
use Rattle.gtp_replay.specs.Labels.{IsLabel}
use Rattle.gtp_replay.specs.Rows.{Numbered, Row, Comes, Lost, Happens, Idles}
use Rattle.gtp_replay.specs.Diagram.{coming_text, counted, stands_at, event_label, EachHas}
use Rattle.gtp_replay.specs.declared.rows.Coming.{Coming}
use Rattle.gtp_replay.specs.declared.rows.Coming.TheVariants.{First, Again, CutTo}

-- ---- pieces of a row

-- the place of an event
unfoldable pub place_svg : ℕ → List ℕ
place_svg place = codes "<text class=\"place\" x=\"60\" y=\"4\">" ++ decimal place ++ codes "</text>"

-- what an event came to, which is marked where it is a refusal
unfoldable pub outcome_class : EventRecord → List ℕ
outcome_class told = if is_refused told.outcome then codes "refused" else codes "outcome"

abbrev pub told_start : List ℕ → List ℕ
told_start class = codes "<text class=\"" ++ (class ++ codes "\" x=\"680\" y=\"4\">")

unfoldable pub told_svg : EventRecord → List ℕ
told_svg told = told_start (outcome_class told) ++ (told_words told ++ codes "</text>")

unfoldable pub coming_class : Coming → List ℕ
coming_class First = []
coming_class Again = codes " again"
coming_class (CutTo size) = codes " cut"

-- from the line of this gateway to that of the other
unfoldable pub arrow_path : Role → List ℕ
arrow_path Serving = codes "M150 0H650\" marker-end=\"url(#arrow)"
arrow_path Packet = codes "M650 0H150\" marker-end=\"url(#arrow)"

-- and so that it ends before the line of the other
unfoldable pub short_path : Role → List ℕ
short_path Serving = codes "M150 0H600\" marker-end=\"url(#cross)"
short_path Packet = codes "M650 0H200\" marker-end=\"url(#cross)"

-- the arrow of a datagram, of which the octets are the tooltip
abbrev pub arrow_start : List ℕ → List ℕ → List ℕ
arrow_start plane class = codes "<g class=\"" ++ (plane ++ (class ++ codes "\"><title>"))

abbrev pub arrow_end : List ℕ → List ℕ → List ℕ
arrow_end path label = codes "</title><path d=\"" ++ path ++ codes "\"/><text class=\"label\" x=\"400\" y=\"-8\">" ++ label ++ codes "</text></g>"

unfoldable pub arrow_svg : Numbered → List ℕ → List ℕ → List ℕ → List ℕ
arrow_svg d class path label = arrow_start (plane_word d.1.what.plane) class ++ (octets_text d.1.what.octets ++ arrow_end path label)

-- what happens at a gateway
unfoldable pub mark_svg : Role → List ℕ → List ℕ → List ℕ
mark_svg Serving class label =
    codes "<g class=\"" ++ (class ++ (codes "\"><rect x=\"145\" y=\"-5\" width=\"10\" height=\"10\"/><text x=\"162\" y=\"4\">" ++ (label ++ codes "</text></g>")))
mark_svg Packet class label =
    codes "<g class=\"" ++ (class ++ (codes "\"><rect x=\"645\" y=\"-5\" width=\"10\" height=\"10\"/><text class=\"end\" x=\"638\" y=\"4\">" ++ (label ++ codes "</text></g>")))

unfoldable pub event_class : Event → List ℕ
event_class (Restart node) = codes "restart"
event_class (Tick node) = codes "tick"
event_class event = codes "event"

-- what an event came to; of a tick nothing is said
unfoldable pub event_svg : Event → EventRecord → List ℕ
event_svg (Tick node) told = []
event_svg event told = told_svg told

-- ---- rows

abbrev pub IsRowSvg : Row → List ℕ → Type 0
IsRowSvg (Comes place d coming told) piece =
    (label : List ℕ) × IsLabel d label
    × (piece ≡ place_svg place ++ (arrow_svg d (coming_class coming) (arrow_path d.1.role) (label ++ coming_text coming) ++ told_svg told))
IsRowSvg (Lost d) piece = (label : List ℕ) × IsLabel d label × (piece ≡ arrow_svg d (codes " lost") (short_path d.1.role) label)
IsRowSvg (Happens place event told) piece = piece ≡ place_svg place ++ (mark_svg (stands_at event) (event_class event) (event_label event told) ++ event_svg event told)
IsRowSvg (Idles place node count) piece = piece ≡ place_svg place ++ mark_svg node (codes "tick") (counted count (codes "tick"))

-- how high the picture of so many rows is: the next one stands there
abbrev pub height_of : ℕ → ℕ
height_of rows = 130 + 30 * rows

-- a row moved down to its height
abbrev pub IsGroup : ℕ × Row → List ℕ → Type 0
IsGroup r piece = (row : List ℕ) × IsRowSvg r.1 row × (piece ≡ codes "<g transform=\"translate(0," ++ (decimal (height_of r.0) ++ (codes ")\">" ++ (row ++ codes "</g>\n"))))

-- how lines and texts look, the two ends of arrows, and the ground
unfoldable pub svg_style : List ℕ
svg_style =
    codes "<style>path{stroke:#333;fill:none}.user path{stroke:#06c;stroke-dasharray:6 3}"
    ++ codes ".again path{stroke:#999}.lost path,.cut path{stroke:#b00}.life{stroke:#bbb}"
    ++ codes ".label{text-anchor:middle}.place,.end{text-anchor:end}.place,.tick text{fill:#777}"
    ++ codes ".tick rect{fill:#bbb}.restart rect,.refused{fill:#b00}</style>\n"
    ++ codes "<defs><marker id=\"arrow\" viewBox=\"0 0 8 8\" refX=\"8\" refY=\"4\" markerWidth=\"8\" markerHeight=\"8\" orient=\"auto\">"
    ++ codes "<path d=\"M0 0L8 4L0 8\"/></marker>"
    ++ codes "<marker id=\"cross\" viewBox=\"0 0 8 8\" refX=\"4\" refY=\"4\" markerWidth=\"8\" markerHeight=\"8\">"
    ++ codes "<path d=\"M0 0L8 8M8 0L0 8\"/></marker></defs>\n"
    ++ codes "<rect width=\"100%\" height=\"100%\" fill=\"#fff\"/>\n"

-- what lines and squares mean, and the heads of the columns
unfoldable pub svg_legend : List ℕ
svg_legend =
    codes "<g class=\"control\" transform=\"translate(150,20)\"><path d=\"M0 0H40\" marker-end=\"url(#arrow)\"/><text x=\"48\" y=\"4\">control</text></g>"
    ++ codes "<g class=\"user\" transform=\"translate(270,20)\"><path d=\"M0 0H40\" marker-end=\"url(#arrow)\"/><text x=\"48\" y=\"4\">user</text></g>"
    ++ codes "<g class=\"again\" transform=\"translate(370,20)\"><path d=\"M0 0H40\" marker-end=\"url(#arrow)\"/><text x=\"48\" y=\"4\">again</text></g>"
    ++ codes "<g class=\"cut\" transform=\"translate(470,20)\"><path d=\"M0 0H40\" marker-end=\"url(#arrow)\"/><text x=\"48\" y=\"4\">cut</text></g>"
    ++ codes "<g class=\"lost\" transform=\"translate(570,20)\"><path d=\"M0 0H36\" marker-end=\"url(#cross)\"/><text x=\"48\" y=\"4\">lost</text></g>\n"
    ++ codes "<g class=\"event\" transform=\"translate(150,40)\"><rect x=\"0\" y=\"-5\" width=\"10\" height=\"10\"/><text x=\"18\" y=\"4\">event</text></g>"
    ++ codes "<g class=\"restart\" transform=\"translate(270,40)\"><rect x=\"0\" y=\"-5\" width=\"10\" height=\"10\"/><text x=\"18\" y=\"4\">restart</text></g>"
    ++ codes "<g class=\"tick\" transform=\"translate(370,40)\"><rect x=\"0\" y=\"-5\" width=\"10\" height=\"10\"/><text x=\"18\" y=\"4\">tick</text></g>"
    ++ codes "<text class=\"refused\" x=\"470\" y=\"44\">refused or dropped</text>\n"
    ++ codes "<text class=\"place\" x=\"60\" y=\"66\">event</text><text class=\"label\" x=\"150\" y=\"66\">serving</text><text class=\"label\" x=\"650\" y=\"66\">packet</text><text x=\"680\" y=\"66\">outcome</text>\n"

-- under the name of a gateway, its addresses on both planes
abbrev pub life_of : Role → List ℕ
life_of Serving = codes "150"
life_of Packet = codes "650"

unfoldable pub address_start : Role → List ℕ → List ℕ
address_start role height = codes "<text class=\"label\" x=\"" ++ (life_of role ++ (codes "\" y=\"" ++ (height ++ codes "\">")))

unfoldable pub address_svg : Role → List ℕ → List ℕ → Ip → List ℕ
address_svg role height plane ip = address_start role height ++ (plane ++ (ip_text ip ++ codes "</text>\n"))

abbrev pub addresses_svg : Role → Addresses → List ℕ
addresses_svg role own = address_svg role (codes "82") (codes "control ") own.control ++ address_svg role (codes "98") (codes "user ") own.user

-- the tag that opens a picture of this height
abbrev pub svg_opening : ℕ → List ℕ
svg_opening height = codes "<svg xmlns=\"http://www.w3.org/2000/svg\" width=\"1000\" height=\"" ++ decimal height ++ codes "\" font-family=\"monospace\" font-size=\"12\">\n"

-- the lines of both gateways
abbrev pub svg_lives : ℕ → List ℕ
svg_lives height = codes "<path class=\"life\" d=\"M150 105V" ++ (decimal height ++ (codes "M650 105V" ++ (decimal height ++ codes "\"/>\n")))

-- what stands over the addresses
unfoldable pub svg_front : ℕ → List ℕ
svg_front height = svg_opening height ++ (svg_style ++ svg_legend)

-- the addresses of both gateways
unfoldable pub svg_ends : Addresses → Addresses → List ℕ
svg_ends serving packet = addresses_svg Serving serving ++ addresses_svg Packet packet

-- the picture before its rows, of gateways with these addresses
unfoldable pub svg_head : Addresses → Addresses → ℕ → List ℕ
svg_head serving packet height = svg_front height ++ (svg_ends serving packet ++ svg_lives height)

-- A picture: its head, the group of each row, and its end.
abbrev pub IsSvg : Addresses → Addresses → List Row → List ℕ → Type 0
IsSvg serving packet rows text =
    (groups : List ℕ) × EachHas IsGroup (enumerate_from 0 rows) groups × (text ≡ svg_head serving packet (height_of (length rows)) ++ (groups ++ codes "</svg>\n"))
