use Rattle.std.proofs.Common.{◌≡◌, ◌+◌, ◌++◌, map, drop, length}
use Rattle.std.specs.List.{enumerate_from}
use Rattle.gtp_capture.specs.Writing.{sent_of}
use Rattle.gtp_world.specs.Record.{sent_by, told_by}
use Rattle.gtp_replay.specs.Captures.{frames_from}
use Rattle.gtp_replay.proofs.capturing.all_frames.Given as goal

-- the datagrams so far, and what is left; as many are left as there are from the next number on
abbrev pub invariant-loop-event : goal.invariant-loop-event
invariant-loop-event l = record {
  frames : map sent_of l.out.items ++ frames_from l.event (enumerate_from l.next (map sent_by l.rest)) (map told_by (drop l.event l.notes))
      ≡ frames_from 0 (enumerate_from 0 (map sent_by l.datagrams)) (map told_by l.notes);
  count : l.next + length l.rest ≡ length l.datagrams;
}
