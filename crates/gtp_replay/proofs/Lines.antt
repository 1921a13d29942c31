-- The lines of events, one event after the other.
use Rattle.std.proofs.Common.{◌≡◌, ◌⊎◌, inl, inr, refl, ℕ, ◌+◌, min, List, [], ◌∷◌, ◌++◌, map, length, take, drop, sym, ap, ap₂, ◌∙◌, append_assoc}
use Rattle.std.specs.List.{enumerate_from}
use Rattle.gtp_machine.specs.World.{By, Event}
use Rattle.gtp_machine.specs.Spelling.{Datagram}
use Rattle.gtp_world.specs.Record.{EventRecord}
use Rattle.gtp_replay.specs.Events.{event_lines, lines_from}
use Rattle.gtp_outcomes.proofs.Numbered.{front_is, rest_is}

-- nothing is left once a list has ended
pub no_lines : {D E N : Type 0} (f : D → By Datagram) (event_of : E → Event) (told_by : N → EventRecord) (place next : ℕ) (rest : List D) (events : List E)
    (notes : List N) → (events ≡ []) ⊎ (notes ≡ [])
    → lines_from place (enumerate_from next (map f rest)) (map event_of events) (map told_by notes) ≡ []
no_lines f event_of told_by place next rest events notes (inl is) = ap (λ l. lines_from place (enumerate_from next (map f rest)) (map event_of l) (map told_by notes)) is
no_lines f event_of told_by place next rest [] notes (inr is) = refl
no_lines f event_of told_by place next rest (event ∷ events) notes (inr is) = ap (λ l. lines_from place (enumerate_from next (map f rest)) (map event_of (event ∷ events)) (map told_by l)) is

-- an event more
pub one_event : {D : Type 0} (f : D → By Datagram) (at place after next count : ℕ) (rest front back : List D) (event : Event) (told : EventRecord)
    (events_left events : List Event) (notes_left notes : List EventRecord) (before mid new : List ℕ)
    → place ≡ at → after ≡ at + 1
    → count ≡ min (length rest) told.sent → front ≡ take count rest → back ≡ drop count rest
    → new ≡ mid ++ event_lines place (enumerate_from next (map f front)) event told
    → events_left ≡ event ∷ events → notes_left ≡ told ∷ notes
    → mid ++ lines_from at (enumerate_from next (map f rest)) events_left notes_left ≡ before
    → new ++ lines_from after (enumerate_from (next + count) (map f back)) events notes ≡ before
one_event f at place after next count rest front back event told events_left events notes_left notes before mid new here then is first others lines events_are notes_are so_far =
    let sent = enumerate_from next (map f rest) in
    let fronts : enumerate_from next (map f front) ≡ take told.sent sent = ap (λ l. enumerate_from next (map f l)) first ∙ front_is f next count told.sent rest is in
    let backs : enumerate_from (next + count) (map f back) ≡ drop told.sent sent = ap (λ l. enumerate_from (next + count) (map f l)) others ∙ rest_is f next count told.sent rest is in
    let one : new ≡ mid ++ event_lines at (take told.sent sent) event told = lines ∙ ap₂ (λ n l. mid ++ event_lines n l event told) here fronts in
    ap (λ n. new ++ lines_from n (enumerate_from (next + count) (map f back)) events notes) then
    ∙ (ap₂ (λ a l. a ++ lines_from (at + 1) l events notes) one backs
    ∙ (append_assoc mid (event_lines at (take told.sent sent) event told) (lines_from (at + 1) (drop told.sent sent) events notes)
    ∙ (sym (ap₂ (λ e n. mid ++ lines_from at sent e n) events_are notes_are) ∙ so_far)))
