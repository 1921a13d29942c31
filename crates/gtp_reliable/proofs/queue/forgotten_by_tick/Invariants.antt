use Rattle.std.proofs.Common.{◌≡◌, map, take}
use Rattle.std.specs.List.{filter_map}
use Rattle.gtp_reliable.specs.Held.{forgotten}
use Rattle.gtp_reliable.specs.Forgotten.{question_of}
use Rattle.gtp_reliable.specs.Aging.{seen}
use Rattle.gtp_reliable.proofs.queue.forgotten_by_tick.Given as goal

abbrev pub invariant-loop-at : goal.invariant-loop-at
invariant-loop-at l = map question_of l.requests.items ≡ filter_map (forgotten l.hold) (map (seen l.now) (take l.at l.pairs.items))
