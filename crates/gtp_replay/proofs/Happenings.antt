-- What happened, event by event.
use Rattle.std.proofs.Common.{◌≡◌, ◌⊎◌, inl, inr, refl, ℕ, ◌+◌, min, List, [], ◌∷◌, ◌++◌, map, length, take, drop, sym, ap, ap₂, ◌∙◌, append_assoc}
use Rattle.std.specs.List.{enumerate_from}
use Rattle.gtp_machine.specs.World.{By, Event}
use Rattle.gtp_machine.specs.Spelling.{Datagram}
use Rattle.gtp_world.specs.Record.{EventRecord}
use Rattle.gtp_replay.specs.Rows.{Happened, all_from}
use Rattle.gtp_outcomes.proofs.Numbered.{front_is, rest_is}

-- nothing is left once a list has ended
pub no_more : {E N : Type 0} (event_of : E → Event) (told_by : N → EventRecord) (sent : List (ℕ × By Datagram)) (events : List E) (notes : List N)
    → (events ≡ []) ⊎ (notes ≡ []) → all_from sent (map event_of events) (map told_by notes) ≡ []
no_more event_of told_by sent events notes (inl is) = ap (λ l. all_from sent (map event_of l) (map told_by notes)) is
no_more event_of told_by sent [] notes (inr is) = refl
no_more event_of told_by sent (event ∷ events) notes (inr is) = ap (λ l. all_from sent (map event_of (event ∷ events)) (map told_by l)) is

-- an event more
pub one_more : {D : Type 0} (f : D → By Datagram) (next count : ℕ) (rest front back : List D) (event : Event) (told : EventRecord) (h : Happened)
    (events_left events : List Event) (notes_left notes : List EventRecord) (before mid new : List Happened)
    → count ≡ min (length rest) told.sent → front ≡ take count rest → back ≡ drop count rest
    → h ≡ record { event = event; told = told; sent = enumerate_from next (map f front) }
    → new ≡ mid ++ h ∷ []
    → events_left ≡ event ∷ events → notes_left ≡ told ∷ notes
    → mid ++ all_from (enumerate_from next (map f rest)) events_left notes_left ≡ before
    → new ++ all_from (enumerate_from (next + count) (map f back)) events notes ≡ before
one_more f next count rest front back event told h events_left events notes_left notes before mid new is first others one pushed events_are notes_are so_far =
    let sent = enumerate_from next (map f rest) in
    let happened : List (ℕ × By Datagram) → Happened = λ those. record { event = event; told = told; sent = those } in
    let fronts : enumerate_from next (map f front) ≡ take told.sent sent = ap (λ l. enumerate_from next (map f l)) first ∙ front_is f next count told.sent rest is in
    let backs : enumerate_from (next + count) (map f back) ≡ drop told.sent sent = ap (λ l. enumerate_from (next + count) (map f l)) others ∙ rest_is f next count told.sent rest is in
    let here : new ≡ mid ++ happened (take told.sent sent) ∷ [] = pushed ∙ ap (λ x. mid ++ x ∷ []) (one ∙ ap happened fronts) in
    ap₂ (λ a l. a ++ all_from l events notes) here backs
    ∙ (append_assoc mid (happened (take told.sent sent) ∷ []) (all_from (drop told.sent sent) events notes)
    ∙ (sym (ap₂ (λ e n. mid ++ all_from sent e n) events_are notes_are) ∙ so_far))
