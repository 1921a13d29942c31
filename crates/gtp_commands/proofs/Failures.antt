-- Why nothing was replayed, by the fault of the replay.
use Rattle.std.proofs.Common.{◌≡◌, ℕ, Result, Ok, Err, sym, ◌∙◌, ap}
use Rattle.std.specs.Result.{IsErrAnd}
use Rattle.gtp_replay.specs.declared.verdict.ReplayFault.{ReplayFault}
use Rattle.gtp_replay.specs.declared.verdict.ReplayFault.TheVariants as faults
use Rattle.gtp_commands.specs.Status.{failure_by}
use Rattle.gtp_commands.specs.declared.command.Failure.{Failure}
use Rattle.gtp_commands.specs.declared.command.Failure.TheVariants.{NoPacket}

no_packet_by : (fault : ReplayFault) (number : ℕ) → failure_by fault ≡ NoPacket number → fault ≡ faults.NoPacket number
no_packet_by faults.Memory number is = absurd (cc is)
no_packet_by faults.Read number is = absurd (cc is)
no_packet_by faults.Write number is = absurd (cc is)
no_packet_by (faults.NoPacket other) number is = let same : other ≡ number = cc is in ap (λ n. faults.NoPacket n) same

pub no_packet_from : {A : Type 0} (answer : Result A Failure) (fault : ReplayFault) (number : ℕ) → IsErrAnd answer (λ failure. failure ≡ failure_by fault)
    → answer ≡ Err (NoPacket number) → fault ≡ faults.NoPacket number
no_packet_from (Ok a) fault number gives is = absurd gives
no_packet_from (Err failure) fault number gives is = let here : failure ≡ NoPacket number = cc is in no_packet_by fault number (sym gives ∙ here)
