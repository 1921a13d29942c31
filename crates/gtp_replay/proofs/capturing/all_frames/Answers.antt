use Rattle.std.proofs.Common.{rules, ◌≡◌, ◌+◌, min, map, take, drop, length, arith}
use Rattle.gtp_capture.specs.Writing.{sent_of}
use Rattle.gtp_world.specs.Record.{sent_by, told_by}
use Rattle.gtp_replay.proofs.Captured.{one_note}
use Rattle.gtp_outcomes.proofs.Numbered.{next_of, stands_at}
use Rattle.gtp_replay.proofs.capturing.all_frames.Goals as goal

pub loop-event-preserved : goal.loop-event-preserved
loop-event-preserved c =
    let l = c.loop-event in
    let note = c.index-notes-event.result in
    let count : c.min-count.result ≡ min (length l.rest.now) note.sent = search rules in
    let front : c.split_at.result.0.now ≡ take c.min-count.result l.rest.now = search rules in
    let back : c.split_at.result.1.now ≡ drop c.min-count.result l.rest.now = search rules in
    let notes = next_of told_by c.args.notes.now l.event note (stands_at c.args.notes.now l.event note c.index-notes-event.is c.loop-event-test.true) in
    record {
      frames = one_note sent_by l.event l.next c.min-count.result l.rest.now c.split_at.result.0.now c.split_at.result.1.now (told_by note)
          _ (map told_by (drop (l.event + 1) c.args.notes.now)) _ (map sent_of l.out.items) (map sent_of c.put_frames.new.out.items)
          count front back c.in_ok-put_frames.ensures.ok notes l.invariant.frames;
      count = omega (arith, l.invariant.count, c.split_at.ensures.back_len);
    }
