use Rattle.std.proofs.Common.{ap, subst, ◌∙◌}
use Rattle.gtp_user.specs.Chain.{chain_encoding, AreExtensions}
use Rattle.gtp_user.proofs.Chains.{whole_is}
use Rattle.gtp_user.proofs.extension.Extensions.octets.Goals as goal

pub returns : goal.returns
returns c =
    let whole = whole_is c.self.inside.first c.self.inside.octets.now c.self.invariant in
    record { encoding = whole.encoding ∙ ap chain_encoding c.self.view_is; headers = subst AreExtensions c.self.view_is whole.extensions }
