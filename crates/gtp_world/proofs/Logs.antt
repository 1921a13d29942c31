-- One more in a log.
use Rattle.std.proofs.Common.{◌≡◌, ℕ, Bool, true, false, List, [], ◌∷◌, ◌++◌, map, length, count_by, Option, Some, None, option_to_list, refl, ◌∙◌, ap}
use Rattle.std.proofs.lemmas.List.{map-append, length-map}
use Rattle.std.proofs.lemmas.List.Recursion.{is_count_by}
use Rattle.gtp_world.specs.Record.{EventRecord, told_by, entry_by, counted, late_among}
use Rattle.gtp_reliable.specs.Forgotten.{question_of}
use Rattle.gtp_reliable.specs.declared.held.Request.{Request}
use Rattle.gtp_gateway.specs.Tick.{asked_by, arrivals_of}
use Rattle.gtp_world.specs.Inputs.{entries}
use Rattle.gtp_world.specs.declared.log.Entry.{Entry}
use Rattle.gtp_world.specs.declared.log.Note.{Note}

-- it does not matter which of two is counted first
either_first : (a b : Bool) (n : ℕ) → counted a (counted b n) ≡ counted b (counted a n)
either_first true true n = refl
either_first true false n = refl
either_first false true n = refl
either_first false false n = refl

pub late_last : (notes : List Note) (note : Note) → late_among (notes ++ note ∷ []) ≡ counted note.late (late_among notes)
late_last [] note = refl
late_last (n ∷ notes) note = ap (λ k. counted n.late k) (late_last notes note) ∙ either_first n.late note.late (late_among notes)

-- they are those that are late
pub late_are : (notes : List Note) → late_among notes ≡ count_by (λ n. n.late) notes
late_are = is_count_by late_among (λ n. n.late) refl (λ _ _. refl)

pub note_kept : (notes new : List Note) (note : Note) → new ≡ notes ++ note ∷ [] → map told_by new ≡ map told_by notes ++ (told_by note ∷ [])
note_kept notes new note is = ap (map told_by) is ∙ map-append told_by notes (note ∷ [])

pub late_kept : (notes new : List Note) (note : Note) → new ≡ notes ++ note ∷ [] → late_among new ≡ counted note.late (late_among notes)
late_kept notes new note is = ap late_among is ∙ late_last notes note

pub entry_kept : (old new : List Entry) (entry : Option Entry) → new ≡ old ++ option_to_list entry → map entry_by new ≡ map entry_by old ++ entries entry
entry_kept old new None is = ap (map entry_by) is ∙ map-append entry_by old []
entry_kept old new (Some e) is = ap (map entry_by) is ∙ map-append entry_by old (e ∷ [])

pub arrivals_kept : (a b : List Request) → arrivals_of (a ++ b) ≡ arrivals_of a ++ arrivals_of b
arrivals_kept a b = ap (map asked_by) (map-append question_of a b) ∙ map-append asked_by (map question_of a) (map question_of b)

pub as_many_arrivals : (requests : List Request) → length (arrivals_of requests) ≡ length requests
as_many_arrivals requests = length-map (map question_of requests) asked_by ∙ length-map requests question_of

-- the outcomes that are told, with one more
pub told_last : (old new : List EventRecord) (last : EventRecord) → new ≡ old ++ last ∷ [] → map (λ (t : EventRecord). t.outcome) new ≡ map (λ (t : EventRecord). t.outcome) old ++ (last.outcome ∷ [])
told_last old new last is = ap (map (λ (t : EventRecord). t.outcome)) is ∙ map-append (λ (t : EventRecord). t.outcome) old (last ∷ [])
