use Rattle.gtp_user.proofs.Same.{headers_decided}
use Rattle.gtp_user.proofs.laws.equal_chains_have_the_same_headers.Goals as goal

pub returns : goal.returns
returns c = rw c.eq.ensures (headers_decided c.args.a.now c.args.b.now)
