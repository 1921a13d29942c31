use Rattle.gtp_ie.proofs.FreeKinds.{free}
use Rattle.gtp_ie.proofs.laws.bodies_that_say_the_same_spell_the_same.Goals as goal

pub returns : goal.returns
returns c = free
