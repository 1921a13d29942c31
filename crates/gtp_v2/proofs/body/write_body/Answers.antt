use Rattle.std.proofs.Common.{sym}
use Rattle.gtp_v2.proofs.body.write_body.Goals as goal

pub returns-in_ok-write-in-CreateSessionRequest : goal.returns-in_ok-write-in-CreateSessionRequest
returns-in_ok-write-in-CreateSessionRequest c =
    record {
      ok = rw (c.in-CreateSessionRequest.is, sym c.deref.ensures) c.in_ok-write-in-CreateSessionRequest.ensures.ok;
      kinds = rw (c.in-CreateSessionRequest.is, sym c.deref.ensures) c.in_ok-write-in-CreateSessionRequest.ensures.kinds;
    }
