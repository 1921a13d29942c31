use Rattle.gtp_gateway.proofs.Own.{user_own_back}
use Rattle.gtp_gateway.proofs.user.send.encode_user_own.Goals as goal

pub returns-in-Ok-clause-back : goal.returns-in-Ok-clause-back
returns-in-Ok-clause-back c = user_own_back c.in-Ok.octets.items c.args.message.now c.requires c.in-Ok.ensures.written c.in-Ok.ensures.read_again
