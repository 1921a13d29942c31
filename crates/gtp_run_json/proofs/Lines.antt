-- The lines of events, one event after the other.
use Rattle.std.proofs.Common.{◌≡◌, ◌⊎◌, inl, inr, refl, ℕ, ◌+◌, min, List, [], ◌∷◌, ◌++◌, map, length, take, drop, sym, subst, ap, ap₂, ◌∙◌, append_assoc}
use Rattle.std.specs.List.{flat_map, enumerate_from}
use Rattle.gtp_machine.specs.World.{By, Event}
use Rattle.gtp_machine.specs.Spelling.{Datagram}
use Rattle.gtp_world.specs.Record.{EventRecord}
use Rattle.gtp_outcomes.proofs.Numbered.{front_is, rest_is}
use Rattle.gtp_json.specs.Tree.{line_of}
use Rattle.json.specs.Json.{Json}
use Rattle.gtp_run_json.specs.Run.{ReadsAsItself, AllRead}
use Rattle.gtp_run_json.specs.Happened.{event_json, events_from}

-- nothing is left once a list has ended
pub no_lines : {D E N : Type 0} (f : D → By Datagram) (event_of : E → Event) (told_by : N → EventRecord) (place next : ℕ) (rest : List D) (events : List E)
    (notes : List N) → (events ≡ []) ⊎ (notes ≡ [])
    → events_from place (enumerate_from next (map f rest)) (map event_of events) (map told_by notes) ≡ []
no_lines f event_of told_by place next rest events notes (inl is) = ap (λ l. events_from place (enumerate_from next (map f rest)) (map event_of l) (map told_by notes)) is
no_lines f event_of told_by place next rest [] notes (inr is) = refl
no_lines f event_of told_by place next rest (event ∷ events) notes (inr is) = ap (λ l. events_from place (enumerate_from next (map f rest)) (map event_of (event ∷ events)) (map told_by l)) is

-- an event more
pub one_event : {D : Type 0} (f : D → By Datagram) (at place after next count : ℕ) (rest front back : List D) (event : Event) (told : EventRecord)
    (events_left events : List Event) (notes_left notes : List EventRecord) (before mid line new : List ℕ)
    → place ≡ at → after ≡ at + 1
    → count ≡ min (length rest) told.sent → front ≡ take count rest → back ≡ drop count rest
    → line ≡ line_of (event_json place (enumerate_from next (map f front)) event told) → new ≡ mid ++ line
    → events_left ≡ event ∷ events → notes_left ≡ told ∷ notes
    → mid ++ flat_map line_of (events_from at (enumerate_from next (map f rest)) events_left notes_left) ≡ before
    → new ++ flat_map line_of (events_from after (enumerate_from (next + count) (map f back)) events notes) ≡ before
one_event f at place after next count rest front back event told events_left events notes_left notes before mid line new here then is first others line_is more events_are notes_are so_far =
    let sent = enumerate_from next (map f rest) in
    let fronts : enumerate_from next (map f front) ≡ take told.sent sent = ap (λ l. enumerate_from next (map f l)) first ∙ front_is f next count told.sent rest is in
    let backs : enumerate_from (next + count) (map f back) ≡ drop told.sent sent = ap (λ l. enumerate_from (next + count) (map f l)) others ∙ rest_is f next count told.sent rest is in
    let own = line_of (event_json at (take told.sent sent) event told) in
    let one : new ≡ mid ++ own = more ∙ ap (λ (l : List ℕ). mid ++ l) (line_is ∙ ap₂ (λ n l. line_of (event_json n l event told)) here fronts) in
    ap (λ n. new ++ flat_map line_of (events_from n (enumerate_from (next + count) (map f back)) events notes)) then
    ∙ (ap₂ (λ a l. a ++ flat_map line_of (events_from (at + 1) l events notes)) one backs
    ∙ (append_assoc mid own (flat_map line_of (events_from (at + 1) (drop told.sent sent) events notes))
    ∙ (sym (ap₂ (λ e n. mid ++ flat_map line_of (events_from at sent e n)) events_are notes_are) ∙ so_far)))

-- and its line reads back
pub one_read : {D : Type 0} (f : D → By Datagram) (at place after next count : ℕ) (rest front back : List D) (event : Event) (told : EventRecord)
    (events_left events : List Event) (notes_left notes : List EventRecord) (all : List Json)
    → place ≡ at → after ≡ at + 1
    → count ≡ min (length rest) told.sent → front ≡ take count rest → back ≡ drop count rest
    → ReadsAsItself (event_json place (enumerate_from next (map f front)) event told)
    → events_left ≡ event ∷ events → notes_left ≡ told ∷ notes
    → (AllRead (events_from at (enumerate_from next (map f rest)) events_left notes_left) → AllRead all)
    → AllRead (events_from after (enumerate_from (next + count) (map f back)) events notes) → AllRead all
one_read f at place after next count rest front back event told events_left events notes_left notes all here then is first others reads events_are notes_are so_far left =
    let sent = enumerate_from next (map f rest) in
    let fronts : enumerate_from next (map f front) ≡ take told.sent sent = ap (λ l. enumerate_from next (map f l)) first ∙ front_is f next count told.sent rest is in
    let backs : enumerate_from (next + count) (map f back) ≡ drop told.sent sent = ap (λ l. enumerate_from (next + count) (map f l)) others ∙ rest_is f next count told.sent rest is in
    let own : ReadsAsItself (event_json at (take told.sent sent) event told) =
    subst (λ n. ReadsAsItself (event_json n (take told.sent sent) event told)) here
    (subst (λ l. ReadsAsItself (event_json place l event told)) fronts reads) in
    let others : AllRead (events_from (at + 1) (drop told.sent sent) events notes) =
    subst (λ n. AllRead (events_from n (drop told.sent sent) events notes)) then (subst (λ l. AllRead (events_from after l events notes)) backs left) in
    so_far (subst (λ l. AllRead (events_from at sent l notes_left)) (sym events_are) (subst (λ l. AllRead (events_from at sent (event ∷ events) l)) (sym notes_are) (own, others)))

-- of two parts
pub all_read : (front : List Json) (last : Json) → AllRead front → ReadsAsItself last → AllRead (front ++ last ∷ [])
all_read [] last rest reads = (reads, tt)
all_read (j ∷ js) last rest reads = (rest.0, all_read js last rest.1 reads)
