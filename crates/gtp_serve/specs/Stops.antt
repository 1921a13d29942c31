-- Reads and writes are told as they were.
use Rattle.std.specs.Prelude.{◌≡◌, ◌≢◌, ◌+◌, Result, Err}
use Rattle.gtp_counted.specs.Counts.{failures_of, NoneFailed, FailedOnce, ClosedOnce}
use Rattle.gtp_counted.specs.declared.counted.Counted.{Counted}
use Rattle.gtp_serve.specs.declared.serving.ServeFault.{ServeFault}
use Rattle.gtp_serve.specs.declared.serving.ServeFault.TheVariants.{Read, Write, Closed}

-- The answer is `Read` exactly if a call of the reader failed.
pub record TellsReads {A R : Type 0} (answer : Result A ServeFault) (before after : Counted R) : Type 0 where
  pub read : answer ≡ Err Read → failures_of after ≡ failures_of before + 1
  pub otherwise : answer ≢ Err Read → NoneFailed before after

-- It is `Closed` exactly if a call found the output closed by whoever reads it, and `Write` exactly if one failed in another way.
pub record TellsWrites {A W : Type 0} (answer : Result A ServeFault) (before after : Counted W) : Type 0 where
  pub write : answer ≡ Err Write → FailedOnce before after
  pub closed : answer ≡ Err Closed → ClosedOnce before after
  pub otherwise : answer ≢ Err Write → answer ≢ Err Closed → NoneFailed before after
