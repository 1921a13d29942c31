-- What a writer of the lines of datagrams has.
use Rattle.std.proofs.Common.{◌≡◌, ◌≢◌, ◌⊎◌, ℕ, suc, ◌+◌, ◌-◌, ◌^◌, ◌<◌, ◌≤◌, Bool, true, false, List, [], ◌∷◌, ◌++◌, length, length-append, Option}
use Rattle.std.proofs.Common.{Some, None, Result, Err, inl, inr, refl, sym, ap, subst, ◌∙◌, arith}
use Rattle.std.specs.Borrow.{Bor}
use Rattle.std.specs.Int.{from_bool}
use Rattle.std.specs.Io.KnownBytes.{Appends}
use Rattle.std.proofs.KnownBytes.{Appends-trans}
use Rattle.std.proofs.lemmas.List.{append-nil}
use Rattle.std.specs.Option.{unwrap_or}
use Rattle.std.specs.declared.io.ErrorKind.{ErrorKind}
use Rattle.std.specs.declared.io.ErrorKind.TheVariants.{BrokenPipe}
use Rattle.gtp_counted.specs.Counts.{inner_of, failures_of, NoneFailed, FailedOnce, ClosedOnce, OneFailed}
use Rattle.gtp_counted.specs.declared.counted.Counted.{Counted}
use Rattle.gtp_capture.specs.Frame.{Frame}
use Rattle.gtp_capture.specs.Packet.{Packet}
use Rattle.gtp_capture.specs.reading.Packet.{packet_in}
use Rattle.gtp_capture.specs.Seen.{Seen, seen_as, seen_in, datagrams, Takes}
use Rattle.gtp_capture.specs.declared.captured.Time.{Time}
use Rattle.gtp_capture.proofs.Lengths.{frames_fit}
use Rattle.gtp_capture.specs.declared.ports.Ports.{Ports}
use Rattle.gtp_commands.specs.declared.capturing.FramesAsked.{FramesAsked}
use Rattle.gtp_capture.specs.Outcome.{IsRead, HandsOnSome, StopsAt, TakesSome, TakesNoMore}
use Rattle.gtp_capture.specs.declared.fault.CaptureFault.TheVariants.{Broken}
use Rattle.gtp_commands.specs.Captured.{nothing_shown, is_cut, counted, AreShown, TakesFrame, IsFull, IsUnshown, IsFrameInPart, RefusesFrame, AreWritten, IsBrokenShown, IsFirstShown, IsNextShown}
use Rattle.gtp_commands.specs.Stops.{StopsCapture}
use Rattle.gtp_commands.specs.declared.command.Failure.{Failure}
use Rattle.gtp_commands.specs.declared.command.Failure.TheVariants.{BadWords, BadPort, BadInterface, BadFilter, BadHex, BadCode, BadGateway, BadNode, BadCapture}
use Rattle.gtp_commands.specs.declared.command.Failure.TheVariants.{BrokenCapture, Memory, Read, TooLong, Write, Closed, NoPacket}
use Rattle.gtp_commands.specs.declared.capturing.Counts.{Counts}
use Rattle.gtp_commands.specs.declared.capturing.FrameWriter.{FrameWriter}

-- what a writer has by datagrams
pub record HasShown {W : Type 0} (contents : W → Option (List ℕ)) (before : FrameWriter W) (ds : List Seen) (after : FrameWriter W) : Type 0 where
  pub text : List ℕ
  pub lines : AreShown before.asked.now before.counts ds text after.counts
  pub written : Appends (contents (inner_of before.out)) (contents (inner_of after.out)) text
  pub failed : NoneFailed before.out after.out
  pub asked : after.asked ≡ before.asked

appends_nothing : (known : Option (List ℕ)) → Appends known known []
appends_nothing None = tt
appends_nothing (Some octets) = sym (append-nil octets)

pub has_shown : {W : Type 0} (contents : W → Option (List ℕ)) (before : FrameWriter W) (ds : List Seen) (after : FrameWriter W)
    → Takes (TakesFrame contents) before ds after → HasShown contents before ds after
has_shown contents before [] after same =
    record {
      text = [];
      lines = (refl, sym (ap (λ (w : FrameWriter _). w.counts) same));
      written = subst (λ (w : FrameWriter _). Appends (contents (inner_of before.out)) (contents (inner_of w.out)) []) same (appends_nothing (contents (inner_of before.out)));
      failed = sym (ap (λ (w : FrameWriter _). failures_of w.out) same);
      asked = sym (ap (λ (w : FrameWriter _). w.asked) same);
    }
has_shown contents before (d ∷ ds) after (next, inl (out, same), later) =
    let rest = has_shown contents next ds after later in
    record {
      text = rest.text;
      lines = inl (out, subst (λ (w : FrameWriter _). AreShown w.asked.now w.counts ds rest.text after.counts) same rest.lines);
      written = subst (λ (w : FrameWriter _). Appends (contents (inner_of w.out)) (contents (inner_of after.out)) rest.text) same rest.written;
      failed = rest.failed ∙ ap (λ (w : FrameWriter _). failures_of w.out) same;
      asked = rest.asked ∙ ap (λ (w : FrameWriter _). w.asked) same;
    }
has_shown contents before (d ∷ ds) after (next, inr (lines, faulty, shows, form, written, counts, failed), later) =
    let rest = has_shown contents next ds after later in
    let others : AreShown before.asked.now (counted before.counts d.packet faulty) ds rest.text after.counts =
    subst (λ (f : Bor FramesAsked). AreShown f.now (counted before.counts d.packet faulty) ds rest.text after.counts) form
    (subst (λ (c : Counts). AreShown next.asked.now c ds rest.text after.counts) counts rest.lines) in
    record {
      text = lines ++ rest.text;
      lines = inr (lines, faulty, rest.text, shows, others, refl);
      written = Appends-trans (contents (inner_of before.out)) (contents (inner_of next.out)) (contents (inner_of after.out)) lines rest.text written rest.written;
      failed = rest.failed ∙ failed;
      asked = rest.asked ∙ form;
    }

pub same_failure : (a b : Failure) → ◌≡◌ {A = Result ℕ Failure} (Err a) (Err b) → a ≡ b
same_failure a b e = cc

-- so the writer has the lines of these frames' datagrams, and counts them
pub frames_shown : {W : Type 0} (contents : W → Option (List ℕ)) (ports : Ports) (before after : FrameWriter W) (frames : List Frame) → before.counts ≡ nothing_shown
    → Takes (TakesFrame contents) before (datagrams ports 1 frames) after
    → AreWritten before.asked.now ports frames (contents (inner_of before.out)) (contents (inner_of after.out)) after.counts
frames_shown contents ports before after frames none taken =
    let shown = has_shown contents before (datagrams ports 1 frames) after taken in
    record {
      text = shown.text;
      lines = subst (λ (c : Counts). AreShown before.asked.now c (datagrams ports 1 frames) shown.text after.counts) none shown.lines;
      written = shown.written;
    }

-- where no record or block stands from an octet on, those of the frames before it
pub broken_shown : {W : Type 0} (contents : W → Option (List ℕ)) (ports : Ports) (file : List ℕ) (before after : FrameWriter W) (at : ℕ)
    → before.counts ≡ nothing_shown → IsRead ports (TakesFrame contents) (RefusesFrame contents) file before after (Err (Broken at))
    → IsBrokenShown before.asked.now ports file (contents (inner_of before.out)) (contents (inner_of after.out)) at
broken_shown contents ports file before after at none (state, frames, rest, hands, broken, place) =
    (state, frames, rest, after.counts, hands.capture, broken, place, frames_shown contents ports before after frames none hands.taken)

-- where a read failed or memory was wanting, those of some first frames, or none
pub first_shown : {W : Type 0} (contents : W → Option (List ℕ)) (ports : Ports) (file : List ℕ) (before after : FrameWriter W) → before.counts ≡ nothing_shown
    → HandsOnSome ports (TakesFrame contents) file before after
    → IsFirstShown before.asked.now ports file (contents (inner_of before.out)) (contents (inner_of after.out))
first_shown contents ports file before after none (inl same) = inl (ap (λ (w : FrameWriter _). contents (inner_of w.out)) same)
first_shown contents ports file before after none (inr (state, frames, rest, hands)) =
    inr (state, frames, rest, after.counts, hands.capture, frames_shown contents ports before after frames none hands.taken)

-- what is known where a writer did not show a datagram
abbrev pub Refusal : {W : Type 0} → Failure → FrameWriter W → FrameWriter W → Type 0
Refusal Memory before after = NoneFailed before.out after.out
Refusal TooLong before after = NoneFailed before.out after.out
Refusal Write before after = FailedOnce before.out after.out
Refusal Closed before after = ClosedOnce before.out after.out
Refusal other before after = ⊥

refusal_by : {W : Type 0} (before middle after : FrameWriter W) (why : Failure) → failures_of before.out < 2 ^ 64 - 1 → NoneFailed before.out middle.out
    → IsUnshown why middle after → Refusal why before after
refusal_by before middle after Memory few kept is = ap failures_of is ∙ kept
refusal_by before middle after TooLong few kept is = ap failures_of is.0 ∙ kept
refusal_by before middle after Write few kept is = let failed = is (omega (arith, few, kept)) in (failed.0 ∙ ap (λ n. n + 1) kept, failed.1)
refusal_by before middle after Closed few kept is = let failed = is (omega (arith, few, kept)) in (failed.0 ∙ ap (λ n. n + 1) kept, failed.1)
refusal_by before middle after BadWords few kept is = absurd is
refusal_by before middle after BadPort few kept is = absurd is
refusal_by before middle after BadInterface few kept is = absurd is
refusal_by before middle after BadFilter few kept is = absurd is
refusal_by before middle after BadHex few kept is = absurd is
refusal_by before middle after BadCode few kept is = absurd is
refusal_by before middle after BadGateway few kept is = absurd is
refusal_by before middle after BadNode few kept is = absurd is
refusal_by before middle after BadCapture few kept is = absurd is
refusal_by before middle after (BrokenCapture at) few kept is = absurd is
refusal_by before middle after Read few kept is = absurd is
refusal_by before middle after (NoPacket number) few kept is = absurd is

-- why the writer notes that it did not show one
noted_why : {W : Type 0} (contents : W → Option (List ℕ)) (middle after : FrameWriter W) (d : Seen) (why : Failure) → RefusesFrame contents middle d after
    → after.unshown ≡ Some why → IsUnshown why middle after
noted_why contents middle after d why (noted, says, is, front) also =
    let same : noted ≡ why = cc in
    subst (λ (f : Failure). IsUnshown f middle after) same is

pub noted_as : {W : Type 0} (contents : W → Option (List ℕ)) (takes : FrameWriter W → Seen → FrameWriter W → Type 0) (before after : FrameWriter W)
    (why : Failure) → TakesNoMore takes (RefusesFrame contents) before after → why ≡ unwrap_or after.unshown Memory → after.unshown ≡ Some why
noted_as contents takes before after why (middle, d, took, (noted, says, is, front)) told = says ∙ ap (λ (f : Failure). Some f) (sym (told ∙ ap (λ (o : Option Failure). unwrap_or o Memory) says))

pub refusal : {W : Type 0} (contents : W → Option (List ℕ)) (before after : FrameWriter W) (why : Failure) → failures_of before.out < 2 ^ 64 - 1
    → TakesNoMore (TakesFrame contents) (RefusesFrame contents) before after → after.unshown ≡ Some why → Refusal why before after
refusal contents before after why few (middle, d, took, refused) noted =
    refusal_by before middle after why few (has_shown contents before took.0 middle took.1).failed (noted_why contents middle after d why refused noted)

-- no write failed, if it is not that
pub refusal_else : {W : Type 0} (before after : FrameWriter W) (why : Failure) → Refusal why before after → why ≢ Write → why ≢ Closed → NoneFailed before.out after.out
refusal_else before after Memory is unwritten unclosed = is
refusal_else before after TooLong is unwritten unclosed = is
refusal_else before after Write is unwritten unclosed = absurd (unwritten refl)
refusal_else before after Closed is unwritten unclosed = absurd (unclosed refl)
refusal_else before after BadWords is unwritten unclosed = absurd is
refusal_else before after BadPort is unwritten unclosed = absurd is
refusal_else before after BadInterface is unwritten unclosed = absurd is
refusal_else before after BadFilter is unwritten unclosed = absurd is
refusal_else before after BadHex is unwritten unclosed = absurd is
refusal_else before after BadCode is unwritten unclosed = absurd is
refusal_else before after BadGateway is unwritten unclosed = absurd is
refusal_else before after BadNode is unwritten unclosed = absurd is
refusal_else before after BadCapture is unwritten unclosed = absurd is
refusal_else before after (BrokenCapture at) is unwritten unclosed = absurd is
refusal_else before after Read is unwritten unclosed = absurd is
refusal_else before after (NoPacket number) is unwritten unclosed = absurd is

pub refusal_stops : {W : Type 0} (before after : FrameWriter W) (why : Failure) → Refusal why before after → StopsCapture why
refusal_stops before after Memory is = tt
refusal_stops before after TooLong is = tt
refusal_stops before after Write is = tt
refusal_stops before after Closed is = tt
refusal_stops before after BadWords is = absurd is
refusal_stops before after BadPort is = absurd is
refusal_stops before after BadInterface is = absurd is
refusal_stops before after BadFilter is = absurd is
refusal_stops before after BadHex is = absurd is
refusal_stops before after BadCode is = absurd is
refusal_stops before after BadGateway is = absurd is
refusal_stops before after BadNode is = absurd is
refusal_stops before after BadCapture is = absurd is
refusal_stops before after (BrokenCapture at) is = absurd is
refusal_stops before after Read is = absurd is
refusal_stops before after (NoPacket number) is = absurd is

pub refusal_first : {W : Type 0} (before after : FrameWriter W) (why : Failure) → Refusal why before after → (why ≡ Memory) ⊎ (why ≡ Read) ⊎ (why ≡ TooLong) → (why ≡ Memory) ⊎ (why ≡ TooLong)
refusal_first before after why is (inl memory) = inl memory
refusal_first before after why is (inr (inl read)) = absurd (subst (λ (f : Failure). Refusal f before after) read is)
refusal_first before after why is (inr (inr long)) = inr long

-- a write that failed is why
pub unwritten_why : {W : Type 0} (before after : FrameWriter W) (kind : ErrorKind) (why : Failure) → OneFailed kind before.out after.out
    → (why ≡ Closed → kind ≡ BrokenPipe) → (why ≡ Write → kind ≢ BrokenPipe) → (why ≡ Closed) ⊎ (why ≡ Write) → IsUnshown why before after
unwritten_why before after kind why failed closed write (inl is) =
    subst (λ (f : Failure). IsUnshown f before after) (sym is) (λ few. (failed.0 few, failed.1 ∙ ap (λ (k : ErrorKind). Some k) (closed is)))
unwritten_why before after kind why failed closed write (inr is) =
    subst (λ (f : Failure). IsUnshown f before after) (sym is) (λ few. (failed.0 few, λ broken. write is (same (sym failed.1 ∙ broken))))
  where
    same : Some kind ≡ Some BrokenPipe → kind ≡ BrokenPipe
    same e = cc

pub took_all : {W : Type 0} (contents : W → Option (List ℕ)) (before after : FrameWriter W) → TakesSome (TakesFrame contents) before after → NoneFailed before.out after.out
took_all contents before after (seen, takes) = (has_shown contents before seen after takes).failed

nothing_more : {W : Type 0} (middle after : FrameWriter W) (why : Failure) → (why ≡ Memory) ⊎ (why ≡ TooLong) → IsUnshown why middle after → after.out ≡ middle.out
nothing_more middle after why (inl memory) is = subst (λ (f : Failure). IsUnshown f middle after) memory is
nothing_more middle after why (inr long) is = (subst (λ (f : Failure). IsUnshown f middle after) long is).0

-- so too where the writer wanted memory, or a count was at its end
pub first_refused : {W : Type 0} (contents : W → Option (List ℕ)) (ports : Ports) (file : List ℕ) (before after : FrameWriter W) (why : Failure)
    → before.counts ≡ nothing_shown → after.unshown ≡ Some why → (why ≡ Memory) ⊎ (why ≡ TooLong)
    → StopsAt ports (TakesFrame contents) (RefusesFrame contents) file before after
    → IsFirstShown before.asked.now ports file (contents (inner_of before.out)) (contents (inner_of after.out))
first_refused contents ports file before after why none noted which stops =
    let same = nothing_more stops.middle after why which (noted_why contents stops.middle after stops.refused.0 why stops.refused.2 noted) in
    let written = frames_shown contents ports before stops.middle stops.frames none stops.taken.taken in
    inr (
      stops.state,
      stops.frames,
      stops.rest,
      stops.middle.counts,
      stops.taken.capture,
      subst
          (λ (w : Counted _). AreWritten before.asked.now ports stops.frames (contents (inner_of before.out)) (contents (inner_of w)) stops.middle.counts)
          (sym same) written,
    )

-- no more is counted than there are datagrams
pub record AtMost (most : ℕ) (c : Counts) : Type 0 where
  pub gtp : c.gtp ≤ most
  pub faults : c.faults ≤ most
  pub cut : c.cut ≤ most
  pub fragments : c.fragments ≤ most

bool_few : (b : Bool) → from_bool b ≤ 1
bool_few true = omega arith
bool_few false = omega arith

one_more : (most : ℕ) (c : Counts) (p : Packet) (faulty : Bool) → AtMost most c → AtMost (most + 1) (counted c p faulty)
one_more most c p faulty few = record {
  gtp = omega (arith, few.gtp);
  faults = omega (arith, few.faults, bool_few faulty);
  cut = omega (arith, few.cut, bool_few (is_cut p));
  fragments = omega (arith, few.fragments, bool_few p.fragment);
}

shown_few : (asked : FramesAsked) (most : ℕ) (before : Counts) (ds : List Seen) (text : List ℕ) (after : Counts) → AtMost most before
    → AreShown asked before ds text after → AtMost (most + length ds) after
shown_few asked most before [] text after few (none, same) = record {
  gtp = omega (arith, few.gtp, ap (λ (c : Counts). c.gtp) same);
  faults = omega (arith, few.faults, ap (λ (c : Counts). c.faults) same);
  cut = omega (arith, few.cut, ap (λ (c : Counts). c.cut) same);
  fragments = omega (arith, few.fragments, ap (λ (c : Counts). c.fragments) same);
}
shown_few asked most before (d ∷ ds) text after few (inl (out, more)) =
    let later = shown_few asked most before ds text after few more in
    record { gtp = omega (arith, later.gtp); faults = omega (arith, later.faults); cut = omega (arith, later.cut); fragments = omega (arith, later.fragments) }
shown_few asked most before (d ∷ ds) text after few (inr (lines, faulty, rest, shows, more, joined)) =
    let later = shown_few asked (most + 1) (counted before d.packet faulty) ds rest after (one_more most before d.packet faulty few) more in
    record { gtp = omega (arith, later.gtp); faults = omega (arith, later.faults); cut = omega (arith, later.cut); fragments = omega (arith, later.fragments) }

seen_few : (n : ℕ) (time : Time) (p : Option Packet) → length (seen_as n time p) ≤ 1
seen_few n time None = omega arith
seen_few n time (Some p) = omega arith

datagrams_few : (ports : Ports) (n : ℕ) (frames : List Frame) → length (datagrams ports n frames) ≤ length frames
datagrams_few ports n [] = omega arith
datagrams_few ports n (f ∷ frames) =
    omega (arith, seen_few n f.time (packet_in ports f.link f.octets), datagrams_few ports (suc n) frames, length-append (seen_in ports n f) (datagrams ports (suc n) frames))

full_long : (most : ℕ) (c : Counts) → AtMost most c → IsFull c → 2 ^ 64 - 1 ≤ most
full_long most c few (inl is) = omega (arith, is, few.gtp)
full_long most c few (inr (inl is)) = omega (arith, is, few.faults)
full_long most c few (inr (inr (inl is))) = omega (arith, is, few.cut)
full_long most c few (inr (inr (inr is))) = omega (arith, is, few.fragments)

-- a count is at its end only in a file of so many octets
pub long_refused : {W : Type 0} (contents : W → Option (List ℕ)) (ports : Ports) (file : List ℕ) (before after : FrameWriter W) → before.counts ≡ nothing_shown
    → after.unshown ≡ Some TooLong → StopsAt ports (TakesFrame contents) (RefusesFrame contents) file before after → 2 ^ 64 - 1 ≤ length file
long_refused contents ports file before after none noted stops =
    let written = frames_shown contents ports before stops.middle stops.frames none stops.taken.taken in
    let full = (noted_why contents stops.middle after stops.refused.0 TooLong stops.refused.2 noted).1 in
    let nothing : AtMost 0 nothing_shown = record { gtp = omega arith; faults = omega arith; cut = omega arith; fragments = omega arith } in
    let few = shown_few before.asked.now 0 nothing_shown (datagrams ports 1 stops.frames) written.text stops.middle.counts nothing written.lines in
    omega (
      arith,
      full_long (0 + length (datagrams ports 1 stops.frames)) stops.middle.counts few full,
      datagrams_few ports 1 stops.frames,
      frames_fit file stops.state stops.frames stops.rest stops.taken.capture,
    )

-- a beginning of the lines of the datagram at which a write failed
front_noted : {W : Type 0} (contents : W → Option (List ℕ)) (middle after : FrameWriter W) (d : Seen) (why : Failure) → RefusesFrame contents middle d after
    → after.unshown ≡ Some why → (why ≡ Write) ⊎ (why ≡ Closed)
    → IsFrameInPart middle.asked.now d (contents (inner_of middle.out)) (contents (inner_of after.out))
front_noted contents middle after d why (noted, says, is, front) also which =
    let same : noted ≡ why = cc in
    front (subst (λ (f : Failure). (f ≡ Write) ⊎ (f ≡ Closed)) (sym same) which)

pub next_shown : {W : Type 0} (contents : W → Option (List ℕ)) (ports : Ports) (file : List ℕ) (before after : FrameWriter W) (why : Failure)
    → before.counts ≡ nothing_shown → after.unshown ≡ Some why → (why ≡ Write) ⊎ (why ≡ Closed)
    → StopsAt ports (TakesFrame contents) (RefusesFrame contents) file before after
    → IsNextShown before.asked.now ports file (contents (inner_of before.out)) (contents (inner_of after.out))
next_shown contents ports file before after why none noted which stops =
    let (d, carries, refuses) = stops.refused in
    let form = (has_shown contents before (datagrams ports 1 stops.frames) stops.middle stops.taken.taken).asked in
    record {
      state = stops.state;
      frames = stops.frames;
      rest = stops.rest;
      capture = stops.taken.capture;
      shown = contents (inner_of stops.middle.out);
      counts = stops.middle.counts;
      written = frames_shown contents ports before stops.middle stops.frames none stops.taken.taken;
      next = stops.next;
      later = stops.later;
      stands = stops.stands;
      datagram = d;
      carries = carries;
      front =
          subst (λ (f : Bor FramesAsked). IsFrameInPart f.now d (contents (inner_of stops.middle.out)) (contents (inner_of after.out))) form
          (front_noted contents stops.middle after d why refuses noted which);
    }
