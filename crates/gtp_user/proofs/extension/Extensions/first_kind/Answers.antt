use Rattle.std.proofs.Common.{ap, ◌∙◌}
use Rattle.gtp_user.specs.Chain.{first_kind}
use Rattle.gtp_user.proofs.Chains.{whole_is}
use Rattle.gtp_user.proofs.extension.Extensions.first_kind.Goals as goal

pub returns : goal.returns
returns c = (whole_is c.self.inside.first c.self.inside.octets.now c.self.invariant).first_is ∙ ap first_kind c.self.view_is
