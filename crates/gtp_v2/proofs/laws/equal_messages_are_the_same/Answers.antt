use Rattle.gtp_v2.proofs.SameMessages.{messages_same}
use Rattle.gtp_v2.proofs.laws.equal_messages_are_the_same.Goals as goal

pub returns : goal.returns
returns c = rw c.eq.ensures (messages_same c.args.a.now c.args.b.now)
