use Rattle.std.proofs.Common.{rules, ◌≡◌, ℕ, List, [], ◌≤◌, ◌+◌, ◌-◌, ◌^◌, refl, length, subst, ap, arith, inr}
use Rattle.gtp_capture.specs.Frame.{Frame}
use Rattle.gtp_capture.specs.Capture.{Holds, frame_in}
use Rattle.gtp_capture.specs.Outcome.{Known, HasBegun, Steps, RefusesNext, piece_of, state_of}
use Rattle.gtp_capture.specs.Seen.{Takes, seen_in, datagrams}
use Rattle.gtp_capture.specs.declared.fault.Stop.TheVariants.{Refused}
use Rattle.gtp_capture.specs.declared.step.Item.{Item}
use Rattle.gtp_capture.specs.declared.step.Item.TheVariants as item
use Rattle.gtp_capture.specs.declared.step.Step.TheVariants as step
use Rattle.gtp_capture.proofs.Going.{begun, goes_on, ends, breaks, ours, stops_by, too_long, begun_long, goes_long, refused_by, takes_more}
use Rattle.gtp_capture.proofs.KnownOctets.{known_map}
use Rattle.gtp_capture.proofs.reading.read_capture.Goals as goal

pub loop-init : goal.loop-init
loop-init g c =
    let left = g.R.Read.remaining in
    record {
      reached =
          begun c.args.ports g.S.Sink.takes (left c.args.reader.now.inner) (left c.read_start.new.reader.inner) c.in-Some.started
          (state_of c.in-Some.started.format c.new-interfaces.result.items) c.from-at.result c.args.sink.now
          (ap (state_of c.in-Some.started.format) c.new-interfaces.ensures.items) c.from-at.ensures
          (subst (λ s. Known (HasBegun s) (left c.args.reader.now.inner) (left c.read_start.new.reader.inner)) c.in-Some.is c.in_ok-started.ensures.ok);
      taken = ([], refl);
      count = search rules;
      few = omega arith;
      some = omega arith;
      long = begun_long (left c.args.reader.now.inner) (left c.read_start.new.reader.inner) c.in-Some.started c.from-at.result c.from-at.ensures
          (subst (λ s. Known (HasBegun s) (left c.args.reader.now.inner) (left c.read_start.new.reader.inner)) c.in-Some.is c.in_ok-started.ensures.ok);
    }

pub returns-in_err-found-clause-read : goal.returns-in_err-found-clause-read
returns-in_err-found-clause-read g c =
    let left = g.R.Read.remaining in
    stops_by c.args.ports g.S.Sink.takes g.S.Sink.refuses (left c.args.reader.now.inner) (left c.loop.reader.inner)
    (state_of c.loop.format c.loop.interfaces.items) c.loop.at c.loop.number c.args.sink.now c.loop.sink c.in_err-found.field-0.0
    c.from_residual-in_err-found.result (ours c.in_err-found.field-0.0 c.in_err-found.ensures.err) c.loop.invariant.reached
    c.from_residual-in_err-found.ensures.1

pub returns-in-End-clause-read : goal.returns-in-End-clause-read
returns-in-End-clause-read g c =
    let left = g.R.Read.remaining in
    let state = state_of c.loop.format c.loop.interfaces.items in
    let room = c.next_step.new.room.items in
    ends c.args.ports g.S.Sink.takes g.S.Sink.refuses (left c.args.reader.now.inner) (left c.loop.reader.inner) (left c.next_step.new.reader.inner)
    state c.loop.at c.loop.number (c.loop.number - 1) c.args.sink.now c.loop.sink room (omega (arith, c.loop.invariant.some)) c.loop.invariant.reached
    (subst (λ is. Steps (state_of c.loop.format is) (left c.loop.reader.inner) (left c.next_step.new.reader.inner) step.End room) c.deref.ensures.value
    (subst (λ s. Steps (state_of c.loop.format c.deref.result.now) (left c.loop.reader.inner) (left c.next_step.new.reader.inner) s room) c.in-End.is c.in_ok-found.ensures.ok))

pub returns-in-Broken-clause-read : goal.returns-in-Broken-clause-read
returns-in-Broken-clause-read g c =
    let left = g.R.Read.remaining in
    let state = state_of c.loop.format c.loop.interfaces.items in
    let room = c.next_step.new.room.items in
    breaks c.args.ports g.S.Sink.takes g.S.Sink.refuses (left c.args.reader.now.inner) (left c.loop.reader.inner) (left c.next_step.new.reader.inner)
    state c.loop.at c.loop.number c.args.sink.now c.loop.sink room c.loop.invariant.reached
    (subst (λ is. Steps (state_of c.loop.format is) (left c.loop.reader.inner) (left c.next_step.new.reader.inner) step.Broken room) c.deref.ensures.value
    (subst (λ s. Steps (state_of c.loop.format c.deref.result.now) (left c.loop.reader.inner) (left c.next_step.new.reader.inner) s room) c.in-Broken.is c.in_ok-found.ensures.ok))

pub returns-clause-read : goal.returns-clause-read
returns-clause-read g c =
    let left = g.R.Read.remaining in
    let long =
    known_map (λ file rest. c.loop.counter ≤ c.loop.at) (λ file rest. 2 ^ 64 - 1 ≤ c.loop.at) (left c.args.reader.now.inner)
    (left c.loop.reader.inner) (λ x y h. omega (arith, h, c.loop-test.false)) c.loop.invariant.long in
    too_long c.args.ports g.S.Sink.takes g.S.Sink.refuses (left c.args.reader.now.inner) (left c.loop.reader.inner)
    (state_of c.loop.format c.loop.interfaces.items) c.loop.at c.loop.number c.args.sink.now c.loop.sink c.loop.invariant.reached long

pub returns-in_err-format-clause-read : goal.returns-in_err-format-clause-read
returns-in_err-format-clause-read g c =
    let left = g.R.Read.remaining in
    stops_by c.args.ports g.S.Sink.takes g.S.Sink.refuses (left c.args.reader.now.inner) (left c.loop.reader.inner)
    (state_of c.loop.format c.loop.interfaces.items) c.loop.at c.loop.number c.args.sink.now c.loop.sink c.in_err-format.field-0.0
    c.from_residual-in_err-format.result (ours c.in_err-format.field-0.0 (inr c.in_err-format.ensures.err)) c.loop.invariant.reached
    c.from_residual-in_err-format.ensures.1

pub returns-in_err-number-clause-read : goal.returns-in_err-number-clause-read
returns-in_err-number-clause-read g c =
    let left = g.R.Read.remaining in
    let state = state_of c.loop.format c.loop.interfaces.items in
    let room = c.next_step.new.room.items in
    let f = c.in-Found.found in
    let stop = c.in_err-number.field-0.0 in
    let steps : Steps state (left c.loop.reader.inner) (left c.next_step.new.reader.inner) (step.Found f) room =
    subst (λ is. Steps (state_of c.loop.format is) (left c.loop.reader.inner) (left c.next_step.new.reader.inner) (step.Found f) room) c.deref.ensures.value
    (subst (λ s. Steps (state_of c.loop.format c.deref.result.now) (left c.loop.reader.inner) (left c.next_step.new.reader.inner) s room) c.in-Found.is c.in_ok-found.ensures.ok) in
    refused_by c.args.ports g.S.Sink.takes g.S.Sink.refuses (left c.args.reader.now.inner) (left c.loop.reader.inner)
    (left c.next_step.new.reader.inner) state c.loop.at c.loop.number c.args.sink.now c.loop.sink c.hand_on_piece.new.sink f room stop
    c.from_residual-in_err-number.result c.loop.invariant.reached steps
    (subst (λ l. (stop ≡ Refused) × (h : Frame) × (piece_of f.item l ≡ Holds h)
    × RefusesNext g.S.Sink.refuses c.loop.sink (seen_in c.args.ports c.loop.number h) c.hand_on_piece.new.sink) c.deref-in-loop.ensures.value
    c.in_err-number.ensures.err)
    c.from_residual-in_err-number.ensures.1

pub returns-in-None-clause-read : goal.returns-in-None-clause-read
returns-in-None-clause-read g c =
    let left = g.R.Read.remaining in
    let state = state_of c.loop.format c.loop.interfaces.items in
    let room = c.next_step.new.room.items in
    let f = c.in-Found.found in
    let later = state_of c.in_ok-format.format c.note.new.interfaces.items in
    let next = c.in_ok-number.number in
    let steps : Steps state (left c.loop.reader.inner) (left c.next_step.new.reader.inner) (step.Found f) room =
    subst (λ is. Steps (state_of c.loop.format is) (left c.loop.reader.inner) (left c.next_step.new.reader.inner) (step.Found f) room) c.deref.ensures.value
    (subst (λ s. Steps (state_of c.loop.format c.deref.result.now) (left c.loop.reader.inner) (left c.next_step.new.reader.inner) s room) c.in-Found.is c.in_ok-found.ensures.ok) in
    too_long c.args.ports g.S.Sink.takes g.S.Sink.refuses (left c.args.reader.now.inner) (left c.next_step.new.reader.inner) later (c.loop.at + f.size) next c.args.sink.now c.hand_on_piece.new.sink
    (goes_on c.args.ports g.S.Sink.takes (left c.args.reader.now.inner) (left c.loop.reader.inner) (left c.next_step.new.reader.inner) state later
    c.loop.at c.loop.number (c.loop.at + f.size) next c.args.sink.now c.loop.sink c.hand_on_piece.new.sink f room c.loop.invariant.reached steps
    (c.in_ok-format.ensures.ok room)
    (subst (λ l. Takes g.S.Sink.takes c.loop.sink (datagrams c.args.ports c.loop.number (frame_in (piece_of f.item l))) c.hand_on_piece.new.sink)
    c.deref-in-loop.ensures.value c.in_ok-number.ensures.ok)
    refl (subst (λ l. next ≡ c.loop.number + length (frame_in (piece_of f.item l))) c.deref-in-loop.ensures.value c.in_ok-number.ensures.count))
    (known_map (λ file rest. c.loop.counter + 1 ≤ c.loop.at + f.size) (λ file rest. 2 ^ 64 - 1 ≤ c.loop.at + f.size) (left c.args.reader.now.inner)
    (left c.next_step.new.reader.inner) (λ x y h. omega (arith, c.in-None.ensures, c.from.ensures))
    (goes_long (left c.args.reader.now.inner) (left c.loop.reader.inner) (left c.next_step.new.reader.inner) state c.loop.at c.loop.counter
    (c.loop.at + f.size) (c.loop.counter + 1) f room c.loop.invariant.long steps refl refl))

frames_few : (i : Item) (room : List ℕ) → length (frame_in (piece_of i room)) ≤ 1
frames_few (item.Frame h) room = omega arith
frames_few (item.Section o) room = omega arith
frames_few (item.Interface i) room = omega arith
frames_few item.Other room = omega arith

pub loop-preserved : goal.loop-preserved
loop-preserved g c =
    let left = g.R.Read.remaining in
    let state = state_of c.loop.format c.loop.interfaces.items in
    let room = c.next_step.new.room.items in
    let f = c.in-Found.found in
    let later = state_of c.in_ok-format.format c.note.new.interfaces.items in
    let next = c.in_ok-number.number in
    let counted = subst (λ l. next ≡ c.loop.number + length (frame_in (piece_of f.item l))) c.deref-in-loop.ensures.value c.in_ok-number.ensures.count in
    let steps : Steps state (left c.loop.reader.inner) (left c.next_step.new.reader.inner) (step.Found f) room =
    subst (λ is. Steps (state_of c.loop.format is) (left c.loop.reader.inner) (left c.next_step.new.reader.inner) (step.Found f) room) c.deref.ensures.value
    (subst (λ s. Steps (state_of c.loop.format c.deref.result.now) (left c.loop.reader.inner) (left c.next_step.new.reader.inner) s room) c.in-Found.is c.in_ok-found.ensures.ok) in
    record {
      reached =
          goes_on c.args.ports g.S.Sink.takes (left c.args.reader.now.inner) (left c.loop.reader.inner) (left c.next_step.new.reader.inner) state
          later c.loop.at c.loop.number c.in-Some-checked_add.at next c.args.sink.now c.loop.sink c.hand_on_piece.new.sink f room
          c.loop.invariant.reached steps (c.in_ok-format.ensures.ok room)
          (subst
          (λ l. Takes g.S.Sink.takes c.loop.sink (datagrams c.args.ports c.loop.number (frame_in (piece_of f.item l))) c.hand_on_piece.new.sink)
          c.deref-in-loop.ensures.value c.in_ok-number.ensures.ok)
          (omega (arith, c.in-Some-checked_add.ensures.1, c.from.ensures)) counted;
      taken = (_, takes_more g.S.Sink.takes c.args.sink.now c.loop.invariant.taken.0 c.loop.sink _ c.hand_on_piece.new.sink c.loop.invariant.taken.1 c.in_ok-number.ensures.ok);
      count = search rules;
      few = omega (arith, counted, frames_few f.item room, c.loop.invariant.few);
      some = omega (arith, counted, c.loop.invariant.some);
      long =
          goes_long (left c.args.reader.now.inner) (left c.loop.reader.inner) (left c.next_step.new.reader.inner) state c.loop.at c.loop.counter
          c.in-Some-checked_add.at (c.loop.counter + 1) f room c.loop.invariant.long steps
          (omega (arith, c.in-Some-checked_add.ensures.1, c.from.ensures)) refl;
    }

pub returns-in-None-clause-taken : goal.returns-in-None-clause-taken
returns-in-None-clause-taken g c other = (
  _,
  takes_more g.S.Sink.takes c.args.sink.now c.loop.invariant.taken.0 c.loop.sink _ c.hand_on_piece.new.sink c.loop.invariant.taken.1
      c.in_ok-number.ensures.ok,
)
