use Rattle.std.proofs.Common.{◌≡◌, ◌+◌, ◌++◌, map, length}
use Rattle.std.specs.List.{enumerate_from}
use Rattle.gtp_world.specs.Events.{event_of}
use Rattle.gtp_world.specs.Record.{sent_by, told_by}
use Rattle.gtp_replay.specs.Events.{lines_from, events_text}
use Rattle.gtp_replay.proofs.reporting.events.put_events.Given as goal

-- the lines so far, and those of what is left; as many datagrams are left as there are from the next number on
abbrev pub invariant-loop-place : goal.invariant-loop-place
invariant-loop-place l =
    let left = l.place-iterator in
    record {
      lines : l.out.items
          ++ lines_from left.count (enumerate_from l.next (map sent_by l.rest)) (map event_of left.iter.a.rest.now) (map told_by left.iter.b.rest.now)
          ≡ l.fn.out.items ++ events_text (map event_of l.events) (map sent_by l.datagrams) (map told_by l.notes);
      count : l.next + length l.rest ≡ length l.datagrams;
    }
