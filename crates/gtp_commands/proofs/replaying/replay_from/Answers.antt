use Rattle.std.proofs.Common.{Err, ap}
use Rattle.gtp_replay.specs.declared.verdict.ReplayFault.{ReplayFault}
use Rattle.gtp_commands.proofs.Failures.{no_packet_from}
use Rattle.gtp_commands.proofs.replaying.replay_from.Goals as goal

pub returns-in_err-replay-clause-no_packet : goal.returns-in_err-replay-clause-no_packet
returns-in_err-replay-clause-no_packet g c number is =
    c.in_err-replay.ensures.no_packet number (ap (λ (fault : ReplayFault). Err fault) (no_packet_from c.from_residual.result c.in_err-replay.field-0.0 number c.from_residual.ensures.1 is))
