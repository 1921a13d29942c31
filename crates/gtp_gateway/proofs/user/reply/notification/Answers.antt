use Rattle.std.proofs.Common.{refl}
use Rattle.gtp_gateway.proofs.Own.{notification_own}
use Rattle.gtp_gateway.proofs.user.reply.notification.Goals as goal

pub returns-clause-own : goal.returns-clause-own
returns-clause-own c = notification_own _ _ refl c.none.ensures
