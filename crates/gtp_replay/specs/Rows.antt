-- The rows of a diagram of a run: one for each datagram that comes, one for each that never comes, and one for what else happens.
use Rattle.std.specs.Prelude.{ℕ, ◌+◌, ◌==◌, Bool, true, false, ◌&&◌, List, [], ◌∷◌, ◌++◌, take, drop, slice_get, if◌then◌else◌, Option, Some, None, option_and_then}
use Rattle.std.specs.Option.{option_map_or}
use Rattle.std.specs.List.{flat_map, enumerate_from, list_any, prefix_len}
use Rattle.gtp_machine.specs.declared.role.Role.{Role}
use Rattle.gtp_machine.specs.declared.role.Role.TheVariants.{Serving, Packet}
use Rattle.gtp_machine.specs.Spelling.{Datagram}
use Rattle.gtp_machine.specs.World.{By, Event, Tick, Deliver, Cut, EventOutcome, No_such_datagram, Cut_too_long}
use Rattle.gtp_world.specs.Record.{EventRecord}
use Rattle.gtp_replay.specs.declared.rows.Coming.{Coming}
use Rattle.gtp_replay.specs.declared.rows.Coming.TheVariants.{First, Again, CutTo}

-- a datagram under its number
abbrev pub Numbered : Type 0
Numbered = ℕ × By Datagram

-- an event, what it came to, and the datagrams that it sent
pub record Happened : Type 0 where
  pub event : Event
  pub told : EventRecord
  pub sent : List Numbered

-- events, one after the other, and the datagrams that they sent, one after the other
abbrev pub all_from : List Numbered → List Event → List EventRecord → List Happened
all_from sent [] notes = []
all_from sent (event ∷ events) [] = []
all_from sent (event ∷ events) (told ∷ notes) = record { event = event; told = told; sent = take told.sent sent } ∷ all_from (drop told.sent sent) events notes

-- ---- which datagrams come

-- by an event that cannot happen no datagram comes
abbrev pub can_happen : EventOutcome → Bool
can_happen No_such_datagram = false
can_happen Cut_too_long = false
can_happen outcome = true

-- the number of the datagram that an event names
abbrev pub number_in : Event → Option ℕ
number_in (Deliver number) = Some number
number_in (Cut number size) = Some number
number_in event = None

-- the datagram that comes by it
abbrev pub brought_by : List Numbered → Happened → Option Numbered
brought_by datagrams h = if can_happen h.told.outcome then option_and_then (slice_get datagrams) (number_in h.event) else None

abbrev pub brings : List Numbered → ℕ → Happened → Bool
brings datagrams number h = option_map_or (λ d. d.0 == number) (brought_by datagrams h) false

-- whether the datagram with this number comes by one of these
abbrev pub comes_by : List Numbered → List Happened → ℕ → Bool
comes_by datagrams hs number = list_any (brings datagrams number) hs

-- how it comes: cut, or once more, or for the first time
abbrev pub coming_of : Event → Bool → Coming
coming_of (Cut number size) again = CutTo size
coming_of event true = Again
coming_of event false = First

-- ---- ticks in which nothing is done

abbrev pub is_none_left : {X : Type 0} → List X → Bool
is_none_left [] = true
is_none_left (x ∷ xs) = false

-- nothing was sent, given up or forgotten
abbrev pub is_idle : EventRecord → Bool
is_idle told = (told.sent == 0) && (is_none_left told.gave_up && is_none_left told.forgot)

abbrev pub ticks_at : Event → Option Role
ticks_at (Tick node) = Some node
ticks_at event = None

-- the gateway at which this is such a tick
abbrev pub idle_node : Happened → Option Role
idle_node h = if is_idle h.told then ticks_at h.event else None

abbrev pub is_same : Role → Role → Bool
is_same Serving Serving = true
is_same Packet Packet = true
is_same Serving Packet = false
is_same Packet Serving = false

-- whether it is one at this gateway
abbrev pub is_idle_at : Role → Option Role → Bool
is_idle_at node found = option_map_or (is_same node) found false

-- how many such ticks come next at this gateway, one after the other
abbrev pub idle_next : Role → List Happened → ℕ
idle_next node hs = prefix_len (λ h. is_idle_at node (idle_node h)) hs

-- ---- rows

pub data Row : Type 0 where
  Comes : ℕ → Numbered → Coming → EventRecord → Row  -- by the event at this place a datagram comes
  Lost : Numbered → Row  -- a datagram never comes
  Happens : ℕ → Event → EventRecord → Row  -- any other event at this place
  Idles : ℕ → Role → ℕ → Row  -- so many ticks from this place on, in which nothing is done

-- the row of an event, after these
abbrev pub event_row : List Numbered → List Happened → ℕ → Happened → Row
event_row datagrams before place h =
    option_map_or (λ d. Comes place d (coming_of h.event (comes_by datagrams before d.0)) h.told) (brought_by datagrams h) (Happens place h.event h.told)

-- the row of a datagram that never comes
abbrev pub lost_rows : List Numbered → List Happened → Numbered → List Row
lost_rows datagrams all d = if comes_by datagrams all d.0 then [] else (Lost d ∷ [])

-- idle ticks at one gateway that follow one another have one row
abbrev pub idle_rows : ℕ → Option Role → Role → List Happened → List Row
idle_rows place last node after = if is_idle_at node last then [] else (Idles place node (1 + idle_next node after) ∷ [])

-- the rows at a place: last is the gateway at which the event before was an idle tick
abbrev pub rows_at : List Numbered → List Happened → ℕ → Option Role → Happened → List Happened → List Row
rows_at datagrams all place last h after =
    option_map_or (λ node. idle_rows place last node after) (idle_node h)
    (event_row datagrams (take place all) place h ∷ flat_map (lost_rows datagrams all) h.sent)

-- those from a place on
abbrev pub rows_from : List Numbered → List Happened → ℕ → Option Role → List Happened → List Row
rows_from datagrams all place last [] = []
rows_from datagrams all place last (h ∷ after) = rows_at datagrams all place last h after ++ rows_from datagrams all (place + 1) (idle_node h) after

-- all of them
abbrev pub rows_in : List Numbered → List Happened → List Row
rows_in datagrams all = rows_from datagrams all 0 None all

-- the rows of a run of these events
abbrev pub rows_of : List Event → List (By Datagram) → List EventRecord → List Row
rows_of events datagrams notes = rows_in (enumerate_from 0 datagrams) (all_from (enumerate_from 0 datagrams) events notes)
