-- Why a replay was not written.
use Rattle.std.specs.Prelude.{ℕ, ⊤}
use Rattle.gtp_replay.specs.declared.verdict.NoCapture.{NoCapture}
use Rattle.gtp_replay.specs.declared.verdict.NoCapture.TheVariants as none
use Rattle.gtp_replay.specs.declared.verdict.ReplayFault.{ReplayFault}
use Rattle.gtp_replay.specs.declared.verdict.ReplayFault.TheVariants.{Memory, NoPacket}

abbrev pub fault_by : NoCapture → ReplayFault
fault_by none.Memory = Memory
fault_by (none.NoPacket number) = NoPacket number

-- an allocation was refused, or no packet carries a datagram whose number is such
abbrev pub IsMemoryOr : ReplayFault → (ℕ → Type 0) → Type 0
IsMemoryOr Memory P = ⊤
IsMemoryOr (NoPacket number) P = P number
IsMemoryOr _ P = ⊥
