use Rattle.gtp_ie.proofs.Free.{same_as_itself}
use Rattle.gtp_ie.proofs.laws.bodies_say_the_same_as_themselves.Goals as goal

pub returns : goal.returns
returns c = same_as_itself
