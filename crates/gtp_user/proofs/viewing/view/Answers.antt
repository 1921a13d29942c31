use Rattle.gtp_user.specs.reading.Message.{message_at}
use Rattle.gtp_user.specs.Datagram.{IsUserMessage, IsUserFault}
use Rattle.gtp_user.proofs.Messages.{message_decided}
use Rattle.gtp_user.proofs.Told.{told}
use Rattle.gtp_user.proofs.viewing.view.Goals as goal

pub returns : goal.returns
returns c =
    let octets = c.args.octets.now in
    let t = told (λ v. v) c.view_first.result (message_at octets) (IsUserMessage octets) (IsUserFault octets) c.view_first.ensures (message_decided octets) in
    record { found = t.found; only = t.only; fault = t.fault; first = t.first }
