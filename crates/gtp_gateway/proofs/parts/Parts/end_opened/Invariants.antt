use Rattle.gtp_gateway.specs.receive.RestartCounter.{goes_with}
use Rattle.gtp_gateway.proofs.parts.Parts.end_opened.Given as goal

abbrev pub ghost-finish_where : goal.ghost-finish_where
ghost-finish_where a = goes_with a.test.0.now.table
