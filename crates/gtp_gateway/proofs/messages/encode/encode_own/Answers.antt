use Rattle.gtp_gateway.proofs.Own.{own_back, own_kept}
use Rattle.gtp_gateway.proofs.messages.encode.encode_own.Goals as goal

pub returns-in-Ok-clause-back : goal.returns-in-Ok-clause-back
returns-in-Ok-clause-back c = own_back c.in-Ok.octets.items c.args.message.now c.requires c.in-Ok.ensures.written (c.in-Ok.ensures.read_again.0 c.requires.marks)

pub returns-in-Ok-clause-kept : goal.returns-in-Ok-clause-kept
returns-in-Ok-clause-kept c = own_kept c.in-Ok.octets.items c.args.message.now c.requires c.in-Ok.ensures.written (c.in-Ok.ensures.read_again.0 c.requires.marks)
