use Rattle.std.proofs.Common.{◌≡◌, ◌+◌, ◌++◌, map, drop}
use Rattle.std.specs.List.{flat_map, enumerate_from}
use Rattle.gtp_capture.specs.Writing.{sent_of}
use Rattle.gtp_world.specs.Record.{sent_by}
use Rattle.gtp_replay.specs.Captures.{frame_in}
use Rattle.gtp_replay.proofs.capturing.put_frames.Given as goal

-- the datagrams so far, and what is left
abbrev pub invariant-loop-place : goal.invariant-loop-place
invariant-loop-place l =
    map sent_of l.out.items ++ flat_map (frame_in l.event) (enumerate_from (l.first + l.place) (map sent_by (drop l.place l.datagrams)))
    ≡ map sent_of l.fn.out.items ++ flat_map (frame_in l.event) (enumerate_from l.first (map sent_by l.datagrams))
