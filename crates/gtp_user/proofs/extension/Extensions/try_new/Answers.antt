use Rattle.std.proofs.Common.{[]}
use Rattle.gtp_user.specs.Chain.{IsChain, WholeChainFails}
use Rattle.gtp_user.specs.reading.Walk.{whole_at}
use Rattle.gtp_user.proofs.Chains.{whole_decided}
use Rattle.gtp_user.proofs.Told.{told}
use Rattle.gtp_user.proofs.extension.Extensions.try_new.Goals as goal

pub returns : goal.returns
returns c =
    let first = c.args.first in
    let octets = c.args.octets.now in
    let t = told (λ headers. headers) c.read_whole.result (whole_at first octets) (λ es. IsChain first octets es []) (WholeChainFails first octets) c.read_whole.ensures (whole_decided first octets) in
    record { found = t.found; only = t.only; fault = t.fault; first = t.first }
