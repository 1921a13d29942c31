-- What is taken of a reader's octets in one part.
use Rattle.std.specs.Prelude.{◌≡◌, ◌≢◌, ℕ, ◌<◌, Bool, true, false, All, List, ◌++◌, length, take, Option, OnSome}
use Rattle.std.specs.Io.{StopsAt, IsEmptyOrEndsWith}
use Rattle.std.specs.Io.KnownBytes.{Consumes, IsAtEnd, Keeps}
use Rattle.gtp_counted.specs.Counts.{NoneFailed, OneFailed}
use Rattle.gtp_counted.specs.declared.counted.Counted.{Counted}
use Rattle.gtp_counted.specs.declared.reading.Unread.{Unread}
use Rattle.gtp_counted.specs.declared.reading.Unread.TheVariants as unread
use Rattle.gtp_counted.specs.declared.reading.Untaken.{Untaken}
use Rattle.gtp_counted.specs.declared.reading.Untaken.TheVariants as untaken

-- Known octets lost a part, in which `byte` can only be the last octet. The last part has it there, or is empty at the end of the octets; any other has an octet or more, and not `byte`.
pub record IsPart (byte : ℕ) (old new : Option (List ℕ)) (part : List ℕ) (last : Bool) : Type 0 where
  pub consumed : Consumes old new part
  pub stops : StopsAt part byte
  pub ends : last ≡ true → IsEmptyOrEndsWith part byte
  pub empty : last ≡ true → length part ≡ 0 → OnSome old (IsAtEnd new)
  pub more : last ≡ false → 0 < length part
  pub none : last ≡ false → All (λ x. x ≢ byte) part

-- Of what was held and that part, the first octets are held, at most so many.
abbrev pub TakesPart : (byte most : ℕ) → (old new : Option (List ℕ)) → (before after : List ℕ) → Bool → Type 0
TakesPart byte most old new before after last = (part : List ℕ) × IsPart byte old new part last × (after ≡ take most (before ++ part))

-- after a call that failed, all is as before
abbrev pub IsUntaken : Untaken → (old new : Option (List ℕ)) → (before after : List ℕ) → Type 0
IsUntaken (untaken.Failed kind) old new before after = Keeps old new × (after ≡ before)
IsUntaken untaken.Memory old new before after = Unit {0}

-- A call failed exactly where that is why no more was read.
abbrev pub IsUnread : {R : Type 0} → Unread → Counted R → Counted R → Type 0
IsUnread (unread.Failed failed) old new = OneFailed failed.kind old new
IsUnread unread.Memory old new = NoneFailed old new
