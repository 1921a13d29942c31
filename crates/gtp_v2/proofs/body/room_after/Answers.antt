use Rattle.std.proofs.Common.{sym}
use Rattle.gtp_v2.proofs.body.room_after.Goals as goal

pub returns-in-CreateSessionRequest : goal.returns-in-CreateSessionRequest
returns-in-CreateSessionRequest c = rw (c.in-CreateSessionRequest.is, sym c.deref.ensures) c.room_after-in-CreateSessionRequest.ensures
