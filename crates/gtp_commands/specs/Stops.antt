-- Which failures an answer has, and that reads and writes are told as they were.
use Rattle.std.specs.Prelude.{◌≡◌, ◌≢◌, ◌+◌, ◌⊎◌, Result, Err}
use Rattle.gtp_counted.specs.Counts.{failures_of, NoneFailed, FailedOnce, ClosedOnce}
use Rattle.gtp_counted.specs.declared.counted.Counted.{Counted}
use Rattle.gtp_commands.specs.declared.command.Failure.{Failure}
use Rattle.gtp_commands.specs.declared.command.Failure.TheVariants.{BadHex, BadCode, BadGateway, BadNode, BadCapture, BrokenCapture, Memory, Read, TooLong, Write, Closed, NoPacket}

-- The answer is `Read` exactly if a call of the reader failed.
pub record TellsReads {A R : Type 0} (answer : Result A Failure) (before after : Counted R) : Type 0 where
  pub read : answer ≡ Err Read → failures_of after ≡ failures_of before + 1
  pub otherwise : answer ≢ Err Read → NoneFailed before after

-- The answer is `Write` exactly if a call of the writer failed.
pub record TellsWrites {A W : Type 0} (answer : Result A Failure) (before after : Counted W) : Type 0 where
  pub write : answer ≡ Err Write → failures_of after ≡ failures_of before + 1
  pub otherwise : answer ≢ Err Write → NoneFailed before after

-- The answer is `Closed` exactly if a call found the output closed by whoever reads it, and `Write` exactly if one failed in another way.
pub record TellsClosed {A W : Type 0} (answer : Result A Failure) (before after : Counted W) : Type 0 where
  pub write : answer ≡ Err Write → FailedOnce before after
  pub closed : answer ≡ Err Closed → ClosedOnce before after
  pub otherwise : answer ≢ Err Write → answer ≢ Err Closed → NoneFailed before after

-- what showing the datagram of a word can stop at
abbrev pub StopsShow : Failure → Type 0
StopsShow BadHex = Unit {0}
StopsShow Memory = Unit {0}
StopsShow Write = Unit {0}
StopsShow other = ⊥

-- and showing it in a further form
abbrev pub StopsWord : Failure → Type 0
StopsWord Closed = Unit {0}
StopsWord other = StopsShow other

-- what a dump can stop at
abbrev pub StopsDump : Failure → Type 0
StopsDump Memory = Unit {0}
StopsDump Read = Unit {0}
StopsDump TooLong = Unit {0}
StopsDump Write = Unit {0}
StopsDump Closed = Unit {0}
StopsDump other = ⊥

-- what a capture can stop at
abbrev pub StopsCapture : Failure → Type 0
StopsCapture BadCapture = Unit {0}
StopsCapture (BrokenCapture at) = Unit {0}
StopsCapture other = StopsDump other

-- and the line that counts
abbrev pub StopsCounts : Failure → Type 0
StopsCounts Memory = Unit {0}
StopsCounts Write = Unit {0}
StopsCounts Closed = Unit {0}
StopsCounts other = ⊥

-- what a replay can stop at
abbrev pub StopsReplay : Failure → Type 0
StopsReplay Memory = Unit {0}
StopsReplay Read = Unit {0}
StopsReplay Write = Unit {0}
StopsReplay (NoPacket number) = Unit {0}
StopsReplay other = ⊥

-- what serving can stop at, where the first line starts nothing so
abbrev pub StopsServing : Failure → Failure → Type 0
StopsServing bad failure = (failure ≡ bad) ⊎ StopsDump failure

-- the first line says no gateway, or no node
abbrev pub IsBadHead : Failure → Type 0
IsBadHead BadGateway = Unit {0}
IsBadHead BadNode = Unit {0}
IsBadHead other = ⊥

-- what explaining a code can stop at
abbrev pub StopsExplain : Failure → Type 0
StopsExplain BadCode = Unit {0}
StopsExplain other = StopsCounts other
