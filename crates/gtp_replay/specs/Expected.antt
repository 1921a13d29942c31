-- Whether events came to what a scenario expects.
use Rattle.std.specs.Prelude.{ℕ, ◌+◌, List, [], ◌∷◌, length, Bool, false, ◌&&◌, not, take, drop, bytes_eq, Option, Some, None}
use Rattle.std.specs.List.{position}
use Rattle.gtp_machine.specs.World.{Came_to}
use Rattle.gtp_machine.specs.declared.outcome.Outcome.{Outcome}
use Rattle.gtp_world.specs.Record.{EventRecord}
use Rattle.gtp_scenario.specs.Entries.{Entry}
use Rattle.gtp_outcomes.specs.Outcomes.{first_word, is_refused}

-- what the second of two messages came to is a refusal
abbrev pub is_second_refused : Option Outcome → Bool
is_second_refused None = false
is_second_refused (Some outcome) = is_refused (Came_to outcome)

-- the first word of an outcome is the one that is expected; where none is, it is no refusal, nor is what a second message came to
abbrev pub told_is_met : Option (List ℕ) → EventRecord → Bool
told_is_met None told = not (is_refused told.outcome) && not (is_second_refused told.second)
told_is_met (Some word) told = bytes_eq word (first_word told.outcome)

-- the place of the first of an entry's events that is not as the entry expects
abbrev pub unmet_among : Option (List ℕ) → List EventRecord → Option ℕ
unmet_among expect notes = position (λ told. not (told_is_met expect told)) notes

-- the number of an event, where so many were before; or that of a later one
abbrev pub numbered_or : ℕ → Option ℕ → Option ℕ → Option ℕ
numbered_or before (Some place) later = Some (before + place)
numbered_or before None later = later

-- the number of the first event that is not as its entry expects, where so many were before: the next events are those of the first entry, as many as it has
abbrev pub unmet_after : ℕ → List Entry → List EventRecord → Option ℕ
unmet_after before [] notes = None
unmet_after before (entry ∷ entries) notes =
    let its = take entry.times notes in
    numbered_or before (unmet_among entry.expect its) (unmet_after (before + length its) entries (drop entry.times notes))

abbrev pub first_unmet : List Entry → List EventRecord → Option ℕ
first_unmet entries notes = unmet_after 0 entries notes
