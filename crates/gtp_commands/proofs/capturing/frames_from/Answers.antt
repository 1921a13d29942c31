use Rattle.std.proofs.Common.{rules, ◌≡◌, Err, Some, inl, inr, ap, subst, ◌∙◌}
use Rattle.std.proofs.lemmas.Option.{IfSome_then}
use Rattle.std.specs.Prelude.{IfSome}
use Rattle.gtp_commands.specs.Captured.{TakesFrame, RefusesFrame, IsBrokenShown}
use Rattle.gtp_capture.specs.Outcome.{IsRead}
use Rattle.gtp_capture.specs.declared.fault.CaptureFault.{CaptureFault}
use Rattle.gtp_capture.specs.declared.fault.CaptureFault.TheVariants.{Stopped}
use Rattle.gtp_capture.specs.declared.fault.Stop.{Stop}
use Rattle.gtp_capture.specs.declared.fault.Stop.TheVariants.{TooLong, Memory, Read, Refused}
use Rattle.gtp_commands.specs.declared.command.Failure.{Failure}
use Rattle.gtp_commands.specs.declared.command.Failure.TheVariants as failures
use Rattle.gtp_commands.proofs.FramesShown.{Refusal, frames_shown, broken_shown, first_shown, first_refused, long_refused, next_shown, noted_as}
use Rattle.gtp_commands.proofs.FramesShown.{refusal, refusal_first, refusal_else, refusal_stops, same_failure, took_all}
use Rattle.gtp_commands.proofs.capturing.frames_from.Goals as goal

pub returns-in-Ok-clause-shown : goal.returns-in-Ok-clause-shown
returns-in-Ok-clause-shown g c =
    IfSome_then (g.I.Read.remaining c.args.reader.now.inner) c.in-Ok.ensures.read (λ file is.
    (is.0, is.1, is.2.capture, frames_shown g.W.Write.contents c.args.ports c.args.writer.now c.read_capture.new.sink is.1 c.requires.counts is.2.taken, is.3))

pub returns-in-Err-Broken-clause-broken : goal.returns-in-Err-Broken-clause-broken
returns-in-Err-Broken-clause-broken g c at same =
    let place : c.in-Err-Broken.at ≡ at = cc in
    subst (λ n. IfSome (g.I.Read.remaining c.args.reader.now.inner)
    (λ file. IsBrokenShown c.args.writer.now.asked.now c.args.ports file (g.W.Write.contents c.args.writer.now.out.inner)
    (g.W.Write.contents c.read_capture.new.sink.out.inner) n)) place
    (IfSome_then (g.I.Read.remaining c.args.reader.now.inner) c.in-Err-Broken.ensures.read (λ file is.
    broken_shown g.W.Write.contents c.args.ports file c.args.writer.now c.read_capture.new.sink c.in-Err-Broken.at c.requires.counts
    (subst (λ (fault : CaptureFault). IsRead c.args.ports (TakesFrame g.W.Write.contents) (RefusesFrame g.W.Write.contents) file c.args.writer.now
    c.read_capture.new.sink (Err fault)) c.in-Err-Broken.field-0-is is)))

pub returns-in-Err-Stopped-Memory-clause-first : goal.returns-in-Err-Stopped-Memory-clause-first
returns-in-Err-Stopped-Memory-clause-first g c any =
    let fault : c.in-Err-Stopped-Memory.field-0 ≡ Stopped Memory = c.in-Err-Stopped-Memory.field-0-is ∙ ap (λ (stop : Stop). Stopped stop) c.in-Err-Stopped-Memory.field-0-0-is in
    IfSome_then (g.I.Read.remaining c.args.reader.now.inner) c.in-Err-Stopped-Memory.ensures.read (λ file is.
    first_shown g.W.Write.contents c.args.ports file c.args.writer.now c.read_capture.new.sink c.requires.counts
    (subst (λ (f : CaptureFault). IsRead c.args.ports (TakesFrame g.W.Write.contents) (RefusesFrame g.W.Write.contents) file c.args.writer.now c.read_capture.new.sink (Err f)) fault is))

pub returns-in-Err-Stopped-Read-clause-first : goal.returns-in-Err-Stopped-Read-clause-first
returns-in-Err-Stopped-Read-clause-first g c any =
    let fault : c.in-Err-Stopped-Read.field-0 ≡ Stopped Read = c.in-Err-Stopped-Read.field-0-is ∙ ap (λ (stop : Stop). Stopped stop) c.in-Err-Stopped-Read.field-0-0-is in
    IfSome_then (g.I.Read.remaining c.args.reader.now.inner) c.in-Err-Stopped-Read.ensures.read (λ file is.
    first_shown g.W.Write.contents c.args.ports file c.args.writer.now c.read_capture.new.sink c.requires.counts
    (subst (λ (f : CaptureFault). IsRead c.args.ports (TakesFrame g.W.Write.contents) (RefusesFrame g.W.Write.contents) file c.args.writer.now c.read_capture.new.sink (Err f)) fault is))

pub returns-in-Err-Stopped-TooLong-clause-first : goal.returns-in-Err-Stopped-TooLong-clause-first
returns-in-Err-Stopped-TooLong-clause-first g c any =
    let fault : c.in-Err-Stopped-TooLong.field-0 ≡ Stopped TooLong = c.in-Err-Stopped-TooLong.field-0-is ∙ ap (λ (stop : Stop). Stopped stop) c.in-Err-Stopped-TooLong.field-0-0-is in
    IfSome_then (g.I.Read.remaining c.args.reader.now.inner) c.in-Err-Stopped-TooLong.ensures.read (λ file is.
    first_shown g.W.Write.contents c.args.ports file c.args.writer.now c.read_capture.new.sink c.requires.counts
    (subst (λ (f : CaptureFault). IsRead c.args.ports (TakesFrame g.W.Write.contents) (RefusesFrame g.W.Write.contents) file c.args.writer.now c.read_capture.new.sink (Err f)) fault is).0)

pub returns-in-Err-Stopped-Refused : goal.returns-in-Err-Stopped-Refused
returns-in-Err-Stopped-Refused g c =
    let before = c.args.writer.now in
    let after = c.read_capture.new.sink in
    let why = c.unwrap_or.result in
    let fault : c.in-Err-Stopped-Refused.field-0 ≡ Stopped Refused = c.in-Err-Stopped-Refused.field-0-is ∙ ap (λ (stop : Stop). Stopped stop) c.in-Err-Stopped-Refused.field-0-0-is in
    let refused = c.in-Err-Stopped-Refused.ensures.refused (ap (λ (f : CaptureFault). Err f) fault) in
    let noted = noted_as g.W.Write.contents (TakesFrame g.W.Write.contents) before after why refused c.unwrap_or.ensures in
    let is = refusal g.W.Write.contents before after why c.requires.writes refused noted in
    let only = same_failure why in
    record {
      shown = tt;
      broken = λ at e. absurd (subst (λ (f : Failure). Refusal f before after) (only (failures.BrokenCapture at) e) is);
      bad = λ e. absurd (subst (λ (f : Failure). Refusal f before after) (only failures.BadCapture e) is);
      first = λ which. IfSome_then (g.I.Read.remaining c.args.reader.now.inner) c.in-Err-Stopped-Refused.ensures.read (λ file read.
          first_refused g.W.Write.contents c.args.ports file before after why c.requires.counts noted
          (refusal_first before after why is (elim which [ inl e ↦ inl (only failures.Memory e) | inr (inl e) ↦ inr (inl (only failures.Read e)) | inr (inr e) ↦ inr (inr (only failures.TooLong e)) ]))
          (subst (λ (f : CaptureFault). IsRead c.args.ports (TakesFrame g.W.Write.contents) (RefusesFrame g.W.Write.contents) file before after (Err f)) fault read));
      next = λ which. IfSome_then (g.I.Read.remaining c.args.reader.now.inner) c.in-Err-Stopped-Refused.ensures.read (λ file read.
          next_shown g.W.Write.contents c.args.ports file before after why c.requires.counts noted
          (elim which [ inl e ↦ inl (only failures.Write e) | inr e ↦ inr (only failures.Closed e) ])
          (subst (λ (f : CaptureFault). IsRead c.args.ports (TakesFrame g.W.Write.contents) (RefusesFrame g.W.Write.contents) file before after (Err f)) fault read));
      long = λ e. IfSome_then (g.I.Read.remaining c.args.reader.now.inner) c.in-Err-Stopped-Refused.ensures.read (λ file read.
          long_refused g.W.Write.contents c.args.ports file before after c.requires.counts (noted ∙ ap (λ (f : Failure). Some f) (only failures.TooLong e))
          (subst (λ (f : CaptureFault). IsRead c.args.ports (TakesFrame g.W.Write.contents) (RefusesFrame g.W.Write.contents) file before after (Err f)) fault read));
      reads = record { read = λ e. absurd (subst (λ (f : Failure). Refusal f before after) (only failures.Read e) is); otherwise = search rules };
      writes = record {
        write = λ e. subst (λ (f : Failure). Refusal f before after) (only failures.Write e) is;
        closed = λ e. subst (λ (f : Failure). Refusal f before after) (only failures.Closed e) is;
        otherwise = λ unwritten unclosed. refusal_else before after why is (λ e. unwritten (ap (λ (f : Failure). Err f) e)) (λ e. unclosed (ap (λ (f : Failure). Err f) e));
      };
      kind = refusal_stops before after why is;
    }

pub returns-in-Ok-clause-writes : goal.returns-in-Ok-clause-writes
returns-in-Ok-clause-writes g c =
    record { write = search rules; closed = search rules; otherwise = λ unwritten unclosed. took_all g.W.Write.contents c.args.writer.now c.read_capture.new.sink (c.in-Ok.ensures.taken (λ e. cc)) }

pub returns-in-Err-NoCapture-clause-writes : goal.returns-in-Err-NoCapture-clause-writes
returns-in-Err-NoCapture-clause-writes g c =
    let is = c.in-Err-NoCapture.field-0-is in
    record {
      write = search rules;
      closed = search rules;
      otherwise =
          λ unwritten unclosed. took_all g.W.Write.contents c.args.writer.now c.read_capture.new.sink (c.in-Err-NoCapture.ensures.taken (λ e. cc));
    }

pub returns-in-Err-Broken-clause-writes : goal.returns-in-Err-Broken-clause-writes
returns-in-Err-Broken-clause-writes g c =
    let is = c.in-Err-Broken.field-0-is in
    record {
      write = search rules;
      closed = search rules;
      otherwise = λ unwritten unclosed. took_all g.W.Write.contents c.args.writer.now c.read_capture.new.sink (c.in-Err-Broken.ensures.taken (λ e. cc));
    }

pub returns-in-Err-Stopped-Memory-clause-writes : goal.returns-in-Err-Stopped-Memory-clause-writes
returns-in-Err-Stopped-Memory-clause-writes g c =
    let is = c.in-Err-Stopped-Memory.field-0-is in
    let stop = c.in-Err-Stopped-Memory.field-0-0-is in
    record {
      write = search rules;
      closed = search rules;
      otherwise =
          λ unwritten unclosed. took_all g.W.Write.contents c.args.writer.now c.read_capture.new.sink (c.in-Err-Stopped-Memory.ensures.taken (λ e. cc));
    }

pub returns-in-Err-Stopped-Read-clause-writes : goal.returns-in-Err-Stopped-Read-clause-writes
returns-in-Err-Stopped-Read-clause-writes g c =
    let is = c.in-Err-Stopped-Read.field-0-is in
    let stop = c.in-Err-Stopped-Read.field-0-0-is in
    record {
      write = search rules;
      closed = search rules;
      otherwise =
          λ unwritten unclosed. took_all g.W.Write.contents c.args.writer.now c.read_capture.new.sink (c.in-Err-Stopped-Read.ensures.taken (λ e. cc));
    }

pub returns-in-Err-Stopped-TooLong-clause-writes : goal.returns-in-Err-Stopped-TooLong-clause-writes
returns-in-Err-Stopped-TooLong-clause-writes g c =
    let is = c.in-Err-Stopped-TooLong.field-0-is in
    let stop = c.in-Err-Stopped-TooLong.field-0-0-is in
    record {
      write = search rules;
      closed = search rules;
      otherwise =
          λ unwritten unclosed. took_all g.W.Write.contents c.args.writer.now c.read_capture.new.sink (c.in-Err-Stopped-TooLong.ensures.taken (λ e. cc));
    }
