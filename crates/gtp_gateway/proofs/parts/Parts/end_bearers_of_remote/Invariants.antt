use Rattle.gtp_gateway.specs.user.ErrorIndication.{goes_with_remote}
use Rattle.gtp_gateway.proofs.parts.Parts.end_bearers_of_remote.Given as goal

abbrev pub ghost-finish_where : goal.ghost-finish_where
ghost-finish_where a = goes_with_remote a.test.0.now a.test.1.now
