use Rattle.std.proofs.Common.{rules}
use Rattle.gtp_ie.proofs.Again.{charging_id_again}
use Rattle.gtp_ie.proofs.value.charging_id.ChargingIdIeValue.write.Goals as goal

pub returns-in_err-extend_from_slice-clause-again : goal.returns-in_err-extend_from_slice-clause-again
returns-in_err-extend_from_slice-clause-again c = charging_id_again c.args.self.now.0 (search rules)

pub returns-clause-again : goal.returns-clause-again
returns-clause-again c = charging_id_again c.args.self.now.0 (search rules)
