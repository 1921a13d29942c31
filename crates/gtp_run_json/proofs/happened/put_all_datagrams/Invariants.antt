use Rattle.std.proofs.Common.{◌≡◌, ◌+◌, ◌++◌, map, drop}
use Rattle.std.specs.List.{flat_map, enumerate_from}
use Rattle.json.specs.Tree.{json_tokens}
use Rattle.gtp_world.specs.Record.{sent_by}
use Rattle.gtp_run_json.specs.Happened.{sent_json}
use Rattle.gtp_run_json.proofs.happened.put_all_datagrams.Given as goal

-- the objects so far, and those of what is left
abbrev pub invariant-loop-place : goal.invariant-loop-place
invariant-loop-place l =
    l.out ++ flat_map json_tokens (map sent_json (enumerate_from (l.first + l.place) (map sent_by (drop l.place l.datagrams))))
    ≡ l.fn.out ++ flat_map json_tokens (map sent_json (enumerate_from l.first (map sent_by l.datagrams)))
