use Rattle.gtp_ie.specs.Value.{OfApn}
use Rattle.gtp_ie.proofs.AgainNames.{apn_again}
use Rattle.gtp_ie.proofs.FreeKinds.{encoding_free}
use Rattle.gtp_ie.proofs.value.apn.ApnIeValue.write.Goals as goal

pub returns-in_err-extend_from_slice-clause-free : goal.returns-in_err-extend_from_slice-clause-free
returns-in_err-extend_from_slice-clause-free c = encoding_free 71 (OfApn c.args.self.now) (apn_again c.args.self.now c.octets.ensures.range)

pub returns-clause-free : goal.returns-clause-free
returns-clause-free c = encoding_free 71 (OfApn c.args.self.now) (apn_again c.args.self.now c.octets.ensures.range)
