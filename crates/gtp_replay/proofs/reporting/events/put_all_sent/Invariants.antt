use Rattle.std.proofs.Common.{◌≡◌, ◌+◌, ◌++◌, map, drop}
use Rattle.std.specs.List.{flat_map, enumerate_from}
use Rattle.gtp_world.specs.Record.{sent_by}
use Rattle.gtp_replay.specs.Events.{sent_line}
use Rattle.gtp_replay.proofs.reporting.events.put_all_sent.Given as goal

-- the lines so far, and those of what is left
abbrev pub invariant-loop-place : goal.invariant-loop-place
invariant-loop-place l =
    l.out.items ++ flat_map sent_line (enumerate_from (l.first + l.place) (map sent_by (drop l.place l.datagrams)))
    ≡ l.fn.out.items ++ flat_map sent_line (enumerate_from l.first (map sent_by l.datagrams))
