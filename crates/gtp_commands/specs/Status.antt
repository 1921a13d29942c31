-- What the program says where nothing could be shown or replayed, and how a replay ends.
use Rattle.std.specs.Prelude.{ℕ, List, ◌++◌, codes, decimal}
use Rattle.gtp_commands.specs.declared.command.Failure.{Failure}
use Rattle.gtp_commands.specs.declared.command.Failure.TheVariants.{BadWords, BadPort, BadInterface, BadFilter, BadHex, BadCode, BadGateway, BadNode, BadCapture, BrokenCapture, Memory, Read, TooLong, Write, Closed, NoPacket}
use Rattle.gtp_replay.specs.declared.verdict.Verdict.{Verdict}
use Rattle.gtp_replay.specs.declared.verdict.Verdict.TheVariants.{Expected, Unexpected, Bad}
use Rattle.gtp_replay.specs.declared.verdict.ReplayFault.{ReplayFault}
use Rattle.gtp_replay.specs.declared.verdict.ReplayFault.TheVariants as faults

-- the exit status: 2 for bad arguments, and 3 if memory ran out, a read or write failed, or a run has no capture
abbrev pub status_of : Failure → ℕ
status_of BadWords = 2
status_of BadPort = 2
status_of BadInterface = 2
status_of BadFilter = 2
status_of BadHex = 2
status_of BadCode = 2
status_of BadGateway = 2
status_of BadNode = 2
status_of BadCapture = 2
status_of (BrokenCapture at) = 2
status_of Memory = 3
status_of Read = 3
status_of TooLong = 3
status_of Write = 3
status_of Closed = 3
status_of (NoPacket number) = 3

-- the words that are printed
abbrev pub failure_text : Failure → List ℕ
failure_text BadWords = codes "bad words: an argument is not UTF-8"
failure_text BadPort = codes "bad port: a number from 0 to 65535 is wanted"
failure_text BadInterface = codes "bad interface: s5s8 is wanted, or s11 or any with --all and without --brief"
failure_text BadFilter = codes "bad filter"
failure_text BadHex = codes "bad hex"
failure_text BadCode = codes "bad code"
failure_text BadGateway = codes "bad gateway head"
failure_text BadNode = codes "bad node head"
failure_text BadCapture = codes "bad capture"
failure_text (BrokenCapture at) = codes "bad capture at " ++ decimal at
failure_text Memory = codes "no memory"
failure_text Read = codes "read failed"
failure_text TooLong = codes "read failed"
failure_text Write = codes "write failed"
failure_text Closed = codes "closed"
failure_text (NoPacket number) = codes "no packet for datagram " ++ decimal number

-- the exit status of a replay
abbrev pub verdict_status : Verdict → ℕ
verdict_status Expected = 0
verdict_status (Unexpected event) = 1
verdict_status Bad = 2

-- why nothing was replayed
abbrev pub failure_by : ReplayFault → Failure
failure_by faults.Memory = Memory
failure_by faults.Read = Read
failure_by faults.Write = Write
failure_by (faults.NoPacket number) = NoPacket number
