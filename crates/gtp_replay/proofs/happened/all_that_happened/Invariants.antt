use Rattle.std.proofs.Common.{◌≡◌, ◌+◌, ◌++◌, All, map, length}
use Rattle.gtp_world.specs.Events.{event_of}
use Rattle.gtp_world.specs.Record.{told_by}
use Rattle.gtp_replay.specs.Rows.{all_from}
use Rattle.gtp_replay.specs.RowViews.{numbered_from, numbered, happened_of, IsNumbered}
use Rattle.gtp_replay.proofs.happened.all_that_happened.Given as goal

-- what happened so far, and what is left, are all; as many datagrams are left as there are from the next number on
abbrev pub invariant-loop-event : goal.invariant-loop-event
invariant-loop-event l =
    let left = l.event-iterator in
    record {
      all : map happened_of l.all.items ++ all_from (numbered_from l.next l.rest) (map event_of left.a.rest.now) (map told_by left.b.rest.now)
          ≡ all_from (numbered l.datagrams) (map event_of l.events) (map told_by l.notes);
      count : l.next + length l.rest ≡ length l.datagrams;
      each : All IsNumbered l.all.items;
    }
