-- What the program's values for a diagram say.
use Rattle.std.specs.Prelude.{◌≡◌, ℕ, ◌+◌, ◌<◌, ◌^◌, Bool, true, false, List, map, length, get_or, set, Option, Some, None}
use Rattle.std.specs.List.{enumerate_from}
use Rattle.gtp_world.specs.Events.{event_of}
use Rattle.gtp_world.specs.Record.{sent_by, told_by}
use Rattle.gtp_world.specs.declared.log.Datagram.{Datagram}
use Rattle.gtp_replay.specs.Rows as spec
use Rattle.gtp_replay.specs.Rows.{Numbered}
use Rattle.gtp_replay.specs.declared.happened.Happened.{Happened}
use Rattle.gtp_replay.specs.declared.rows.Row.{Row}
use Rattle.gtp_replay.specs.declared.rows.Row.TheVariants.{Comes, Lost, Happens, Idles}

-- datagrams, numbered from here on
abbrev pub numbered_from : ℕ → List Datagram → List Numbered
numbered_from first datagrams = enumerate_from first (map sent_by datagrams)

abbrev pub numbered : List Datagram → List Numbered
numbered datagrams = numbered_from 0 datagrams

abbrev pub happened_of : Happened → spec.Happened
happened_of h = record { event = event_of h.event.now; told = told_by h.note.now; sent = numbered_from h.first h.sent.now }

-- each of its datagrams has a number below 2^64
abbrev pub IsNumbered : Happened → Type 0
IsNumbered h = h.first + length h.sent.now < 2 ^ 64

abbrev pub row_of : Row → spec.Row
row_of (Comes place number datagram coming note) = spec.Comes place (number, sent_by datagram.now) coming (told_by note.now)
row_of (Lost number datagram) = spec.Lost (number, sent_by datagram.now)
row_of (Happens place event note) = spec.Happens place (event_of event.now) (told_by note.now)
row_of (Idles place node count) = spec.Idles place node count

-- the flag of each number that has one says this of it, and there is none where this is false
abbrev pub AreFlags : (ℕ → Bool) → List Bool → Type 0
AreFlags says flags = (n : ℕ) → get_or flags n false ≡ says n

-- with the flag of a datagram set, where there is one
abbrev pub marked : List Bool → Option Numbered → List Bool
marked flags None = flags
marked flags (Some d) = set flags d.0 true
