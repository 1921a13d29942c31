use Rattle.std.proofs.Common.{◌≡◌, ◌+◌, ◌++◌, map, length}
use Rattle.std.specs.List.{flat_map, enumerate_from}
use Rattle.gtp_world.specs.Events.{event_of}
use Rattle.gtp_world.specs.Record.{sent_by, told_by}
use Rattle.gtp_json.specs.Tree.{line_of}
use Rattle.gtp_run_json.specs.Run.{AllRead}
use Rattle.gtp_run_json.specs.Happened.{events_from, events_json}
use Rattle.gtp_run_json.proofs.happened.put_events.Given as goal

-- the lines so far, and those of what is left; all read back, if those that are left do; as many datagrams are left as there are from the next number on
abbrev pub invariant-loop-place : goal.invariant-loop-place
invariant-loop-place l =
    let left = l.place-iterator in
    let those = events_from left.count (enumerate_from l.next (map sent_by l.rest)) (map event_of left.iter.a.rest.now) (map told_by left.iter.b.rest.now) in
    let all = events_json (map event_of l.events) (map sent_by l.datagrams) (map told_by l.notes) in
    record {
      lines : l.out.items ++ flat_map line_of those ≡ l.fn.out.items ++ flat_map line_of all;
      reads : AllRead those → AllRead all;
      count : l.next + length l.rest ≡ length l.datagrams;
    }
