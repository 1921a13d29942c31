use Rattle.gtp_world.proofs.Repeating.{answered_again}
use Rattle.gtp_world.proofs.laws.repeats_are_answered_alike.Goals as goal

pub returns : goal.returns
returns c = answered_again
