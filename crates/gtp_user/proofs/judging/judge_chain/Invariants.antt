use Rattle.std.proofs.Common.{◌≤◌, length}
use Rattle.gtp_user.proofs.Chains.{SoFarBy}
use Rattle.gtp_user.proofs.judging.judge_chain.Given as goal

abbrev pub invariant-loop-kind : goal.invariant-loop-kind
invariant-loop-kind l = record { within : length l.rest ≤ length l.octets; so_far : SoFarBy l.understood l.first l.octets l.kind l.rest }

abbrev pub decreases-loop-kind : goal.decreases-loop-kind
decreases-loop-kind l = length l.rest
