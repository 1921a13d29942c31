use Rattle.std.proofs.Common.{◌≡◌, ◌++◌, map, drop}
use Rattle.std.specs.List.{flat_map}
use Rattle.json.specs.Tree.{json_tokens}
use Rattle.gtp_json.specs.Tree.{number_of}
use Rattle.gtp_run_json.proofs.happened.put_all_numbers.Given as goal

-- the numbers so far, and those that are left
abbrev pub invariant-loop-seq : goal.invariant-loop-seq
invariant-loop-seq l = l.out ++ flat_map json_tokens (map number_of (drop l.seq-index l.numbers)) ≡ l.fn.out ++ flat_map json_tokens (map number_of l.numbers)
