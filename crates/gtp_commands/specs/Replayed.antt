-- What replaying a scenario writes and answers.
use Rattle.std.specs.Prelude.{◌≡◌, ℕ, List, Option}
use Rattle.gtp_replay.specs.Told.{Told}
use Rattle.gtp_replay.specs.declared.replaying.Form.{Form}
use Rattle.gtp_replay.specs.declared.verdict.Verdict.{Verdict}
use Rattle.gtp_commands.specs.Status.{verdict_status}

-- a writer whose contents are known has, after what it had, what is told for the octets in this form, and the exit status is that of the verdict
pub record IsReplayed (form : Form) (octets : List ℕ) (before now : Option (List ℕ)) (status : ℕ) : Type 0 where
  pub verdict : Verdict
  pub written : Told form octets verdict before now
  pub status_is : status ≡ verdict_status verdict
