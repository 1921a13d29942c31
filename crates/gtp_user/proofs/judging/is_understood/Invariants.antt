use Rattle.std.proofs.Common.{◌≡◌, drop}
use Rattle.gtp_user.specs.reading.Walk.{is_understood}
use Rattle.gtp_user.proofs.judging.is_understood.Given as goal

abbrev pub invariant-loop-known : goal.invariant-loop-known
invariant-loop-known l = is_understood (drop l.known-index l.understood) l.kind ≡ is_understood l.understood l.kind
