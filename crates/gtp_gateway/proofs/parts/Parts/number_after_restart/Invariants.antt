use Rattle.gtp_gateway.specs.tables.Opening.{goes_after}
use Rattle.gtp_gateway.proofs.parts.Parts.number_after_restart.Given as goal

abbrev pub ghost-next_without : goal.ghost-next_without
ghost-next_without a = goes_after a.test.0.now a.test.1.now.table
