use Rattle.gtp_user.proofs.Same.{messages_decided}
use Rattle.gtp_user.proofs.laws.equal_messages_are_the_same.Goals as goal

pub returns : goal.returns
returns c = rw c.eq.ensures (messages_decided c.args.a.now c.args.b.now)
