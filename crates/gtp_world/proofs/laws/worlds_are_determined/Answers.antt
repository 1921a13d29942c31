-- The law is proved in `Determined`.
use Rattle.gtp_world.proofs.Determined.Runs.{follow_one}
use Rattle.gtp_world.proofs.laws.worlds_are_determined.Goals as goal

pub returns : goal.returns
returns c = follow_one
