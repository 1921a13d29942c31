use Rattle.std.proofs.Common.{rules}
use Rattle.gtp_ie.proofs.Again.{ambr_again}
use Rattle.gtp_ie.proofs.value.ambr.AmbrIeValue.write.Goals as goal

pub returns-in_err-extend_from_slice-clause-again : goal.returns-in_err-extend_from_slice-clause-again
returns-in_err-extend_from_slice-clause-again c = ambr_again c.args.self.now (search rules) (search rules)

pub returns-clause-again : goal.returns-clause-again
returns-clause-again c = ambr_again c.args.self.now (search rules) (search rules)
