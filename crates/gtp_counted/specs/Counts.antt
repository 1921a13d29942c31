-- What a counted reader or writer wraps, and how many of its calls failed.
use Rattle.std.specs.Prelude.{◌≡◌, ◌≢◌, ℕ, ◌+◌, ◌-◌, ◌^◌, ◌<◌, Option, Some}
use Rattle.std.specs.declared.io.ErrorKind.{ErrorKind}
use Rattle.std.specs.declared.io.ErrorKind.TheVariants.{BrokenPipe}
use Rattle.gtp_counted.specs.declared.counted.Counted.{Counted}

abbrev pub inner_of : {T : Type 0} → Counted T → T
inner_of c = c.inner

abbrev pub failures_of : {T : Type 0} → Counted T → ℕ
failures_of c = c.failures

-- the kind of error of the last call that failed
abbrev pub last_of : {T : Type 0} → Counted T → Option ErrorKind
last_of c = c.last

-- no call failed
abbrev pub NoneFailed : {T : Type 0} → Counted T → Counted T → Type 0
NoneFailed old new = failures_of new ≡ failures_of old

-- one call failed: whoever reads what is written has closed it; or in another way
abbrev pub ClosedOnce : {T : Type 0} → Counted T → Counted T → Type 0
ClosedOnce old new = (failures_of new ≡ failures_of old + 1) × (last_of new ≡ Some BrokenPipe)

abbrev pub FailedOnce : {T : Type 0} → Counted T → Counted T → Type 0
FailedOnce old new = (failures_of new ≡ failures_of old + 1) × (last_of new ≢ Some BrokenPipe)

-- one call failed, with an error of this kind; the count stops at 2^64 - 1
abbrev pub OneFailed : {T : Type 0} → ErrorKind → Counted T → Counted T → Type 0
OneFailed kind old new = (failures_of old < 2 ^ 64 - 1 → failures_of new ≡ failures_of old + 1) × (last_of new ≡ Some kind)
