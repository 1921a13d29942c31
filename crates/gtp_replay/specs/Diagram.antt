-- A diagram as text: a line a row, in which the line of the serving gateway stands in column 7 and that of the packet gateway in column 72, both counted from 0.
use Rattle.std.specs.Prelude.{◌≡◌, ℕ, ◌-◌, ◌==◌, List, [], ◌∷◌, ◌++◌, length, replicate, if◌then◌else◌, codes, decimal}
use Rattle.gtp_machine.specs.declared.role.Role.{Role}
use Rattle.gtp_machine.specs.declared.role.Role.TheVariants.{Serving, Packet}
use Rattle.gtp_machine.specs.World.{Event, Does, Tick, Deliver, Cut, Restart}
use Rattle.gtp_world.specs.Record.{EventRecord}
use Rattle.gtp_scenario.specs.Words.{word_of}
use Rattle.gtp_replay.specs.Events.{told_text}
use Rattle.gtp_replay.specs.Labels.{IsLabel}
use Rattle.gtp_replay.specs.Rows.{Row, Comes, Lost, Happens, Idles}
use Rattle.gtp_replay.specs.declared.rows.Coming.{Coming}
use Rattle.gtp_replay.specs.declared.rows.Coming.TheVariants.{First, Again, CutTo}

-- ---- pieces of a line

-- a text with so many of a character behind it that it ends before a column
abbrev pub filled : ℕ → ℕ → List ℕ → List ℕ
filled column c text = text ++ replicate (column - length text) c

-- the place of an event, which ends before column 5, up to the line of the serving gateway
abbrev pub place_text : ℕ → List ℕ
place_text place = filled 7 32 (replicate (5 - length (decimal place)) 32 ++ decimal place)

-- no place
abbrev pub no_place : List ℕ
no_place = replicate 7 32

-- a mark on the line of a gateway, and what it means beside it
abbrev pub marked : List ℕ → Role → List ℕ → List ℕ → List ℕ
marked place Serving mark label = filled 72 32 (place ++ mark ++ codes " " ++ label) ++ codes "|"
marked place Packet mark label = filled (71 - length label) 32 (place ++ codes "|") ++ label ++ codes " " ++ mark

-- an arrow from the line of this gateway to that of the other
abbrev pub arrow : List ℕ → Role → List ℕ → List ℕ
arrow place Serving label = filled 71 45 (place ++ codes "|--- " ++ label ++ codes " ") ++ codes ">|"
arrow place Packet label = filled 72 45 (place ++ codes "|<-- " ++ label ++ codes " ") ++ codes "|"

-- an arrow that ends before the line of the other
abbrev pub short_arrow : Role → List ℕ → List ℕ
short_arrow Serving label = filled 72 32 (no_place ++ codes "|--- " ++ label ++ codes " ---x") ++ codes "|"
short_arrow Packet label = filled (63 - length label) 32 (no_place ++ codes "|") ++ codes "x--- " ++ label ++ codes " ---|"

-- ---- words

abbrev pub coming_text : Coming → List ℕ
coming_text First = []
coming_text Again = codes " (again)"
coming_text (CutTo size) = codes " (cut to " ++ decimal size ++ codes ")"

-- a number and a word, which is in its plural where the number is not 1
abbrev pub counted : ℕ → List ℕ → List ℕ
counted count word = decimal count ++ codes " " ++ word ++ (if count == 1 then [] else codes "s")

-- the gateway at whose line an event stands by which no datagram comes
abbrev pub stands_at : Event → Role
stands_at (Does node command) = node
stands_at (Tick node) = node
stands_at (Restart node) = node
stands_at event = Serving

abbrev pub mark_of : Event → List ℕ
mark_of (Restart node) = codes "#"
mark_of (Tick node) = codes "~"
mark_of event = codes "o"

-- how many of these, where there are some
abbrev pub some_of : List ℕ → ℕ → List ℕ
some_of words count = if count == 0 then [] else (words ++ decimal count)

-- what a tick did
abbrev pub tick_label : EventRecord → List ℕ
tick_label told = codes "tick" ++ some_of (codes ", sends again ") told.sent ++ some_of (codes ", gives up ") (length told.gave_up) ++ some_of (codes ", forgets ") (length told.forgot)

-- what an event is: a tick with what it did, and a datagram that cannot come with its number
abbrev pub event_label : Event → EventRecord → List ℕ
event_label (Tick node) told = tick_label told
event_label (Deliver number) told = codes "deliver " ++ decimal number
event_label (Cut number size) told = codes "cut " ++ decimal number
event_label event told = word_of event

-- what it came to; of a tick nothing is said
abbrev pub event_end : Event → EventRecord → List ℕ
event_end (Tick node) told = codes "\n"
event_end event told = codes "  " ++ told_text told

-- ---- lines

abbrev pub IsLine : Row → List ℕ → Type 0
IsLine (Comes place d coming told) line = (label : List ℕ) × IsLabel d label × (line ≡ arrow (place_text place) d.1.role (label ++ coming_text coming) ++ codes "  " ++ told_text told)
IsLine (Lost d) line = (label : List ℕ) × IsLabel d label × (line ≡ short_arrow d.1.role label ++ codes "  lost\n")
IsLine (Happens place event told) line = line ≡ marked (place_text place) (stands_at event) (mark_of event) (event_label event told) ++ event_end event told
IsLine (Idles place node count) line = line ≡ marked (place_text place) node (codes "~") (counted count (codes "tick")) ++ codes "\n"

-- a piece of text for each, one after the other
abbrev pub EachHas : {X : Type 0} → (X → List ℕ → Type 0) → List X → List ℕ → Type 0
EachHas Is [] text = text ≡ []
EachHas Is (x ∷ xs) text = (piece : List ℕ) × (others : List ℕ) × Is x piece × EachHas Is xs others × (text ≡ piece ++ others)

-- which gateway has which line
abbrev pub diagram_head : List ℕ
diagram_head = codes "event  serving                                                     packet  outcome\n"

-- A diagram: its head, and the line of each row.
abbrev pub IsDiagram : List Row → List ℕ → Type 0
IsDiagram rows text = (lines : List ℕ) × EachHas IsLine rows lines × (text ≡ diagram_head ++ lines)
