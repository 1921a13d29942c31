use Rattle.gtp_gateway.specs.tables.Removal.{goes_with_bearer}
use Rattle.gtp_gateway.proofs.parts.Parts.remove_bearer.Given as goal

abbrev pub ghost-finish_where : goal.ghost-finish_where
ghost-finish_where a = goes_with_bearer a.test.0.now
