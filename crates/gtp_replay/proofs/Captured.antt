-- What is captured, one event after the other.
use Rattle.std.proofs.Common.{◌≡◌, ℕ, ◌+◌, ◌≤◌, min, List, [], ◌∷◌, ◌++◌, map, length, take, drop, sym, ◌∙◌, ap, ap₂, subst, append_assoc}
use Rattle.std.specs.Prelude.{All}
use Rattle.std.specs.List.{flat_map, enumerate_from}
use Rattle.std.proofs.lemmas.List.Elements.{All-nil, All-cons, All-head, All-tail}
use Rattle.gtp_capture.specs.Writing.{Sent, sent_of, most_octets}
use Rattle.gtp_capture.specs.declared.writing.WrittenDatagram.{WrittenDatagram}
use Rattle.gtp_machine.specs.Spelling.{Datagram}
use Rattle.gtp_machine.specs.World.{By}
use Rattle.gtp_world.specs.Record.{EventRecord}
use Rattle.gtp_replay.specs.Captures.{frame_in, frames_from, HavePackets}
use Rattle.gtp_outcomes.proofs.Numbered.{front_is, rest_is}
use Rattle.gtp_replay.proofs.Framed.{AllShow, all_framed}

-- an event more
pub one_note : {D : Type 0} (f : D → By Datagram) (event next count : ℕ) (rest front back : List D) (told : EventRecord) (notes_left notes : List EventRecord) (before mid new : List Sent)
    → count ≡ min (length rest) told.sent → front ≡ take count rest → back ≡ drop count rest
    → new ≡ mid ++ flat_map (frame_in event) (enumerate_from next (map f front))
    → notes_left ≡ told ∷ notes
    → mid ++ frames_from event (enumerate_from next (map f rest)) notes_left ≡ before
    → new ++ frames_from (event + 1) (enumerate_from (next + count) (map f back)) notes ≡ before
one_note f event next count rest front back told notes_left notes before mid new is first others adds notes_are so_far =
    let sent = enumerate_from next (map f rest) in
    let fronts : enumerate_from next (map f front) ≡ take told.sent sent = ap (λ l. enumerate_from next (map f l)) first ∙ front_is f next count told.sent rest is in
    let backs : enumerate_from (next + count) (map f back) ≡ drop told.sent sent = ap (λ l. enumerate_from (next + count) (map f l)) others ∙ rest_is f next count told.sent rest is in
    let one : new ≡ mid ++ flat_map (frame_in event) (take told.sent sent) = adds ∙ ap (λ l. mid ++ flat_map (frame_in event) l) fronts in
    ap₂ (λ a l. a ++ frames_from (event + 1) l notes) one backs
    ∙ (append_assoc mid (flat_map (frame_in event) (take told.sent sent)) (frames_from (event + 1) (drop told.sent sent) notes)
    ∙ (sym (ap (λ n. mid ++ frames_from event sent n) notes_are) ∙ so_far))

-- a packet has room for it
abbrev Fits : Sent → Type 0
Fits s = length s.octets ≤ most_octets s.ends

all_fit : (ds : List (ℕ × By Datagram)) (ss : List Sent) → AllShow ds ss → All Fits ss
all_fit [] [] h = All-nil Fits
all_fit [] (s ∷ ss) h = absurd h
all_fit (d ∷ ds) [] h = absurd h
all_fit (d ∷ ds) (s ∷ ss) h = All-cons Fits s ss h.0.0.size (all_fit ds ss h.1)

abbrev IsFitting : WrittenDatagram → Type 0
IsFitting s = length s.octets.now ≤ most_octets s.ends

fitting : (frames : List WrittenDatagram) → All Fits (map sent_of frames) → All IsFitting frames
fitting [] h = All-nil IsFitting
fitting (s ∷ frames) h = All-cons IsFitting s frames (All-head Fits (sent_of s) (map sent_of frames) h) (fitting frames (All-tail Fits (sent_of s) (map sent_of frames) h))

pub all_fitting : (frames held : List WrittenDatagram) (datagrams : List (By Datagram)) (notes : List EventRecord) → HavePackets datagrams → held ≡ frames
    → map sent_of frames ≡ frames_from 0 (enumerate_from 0 datagrams) notes → All IsFitting held
all_fitting frames held datagrams notes has same are =
    subst (λ l. All IsFitting l) (sym same) (fitting frames (subst (λ l. All Fits l) (sym are)
    (all_fit (enumerate_from 0 datagrams) (frames_from 0 (enumerate_from 0 datagrams) notes) (all_framed datagrams notes has))))
