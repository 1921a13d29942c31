use Rattle.gtp_machine.proofs.Requests.Versions.{version_is_told, told_reads, not_answered}
use Rattle.gtp_machine.proofs.laws.versions.Goals as goal

pub returns : goal.returns
returns c = record { told = version_is_told; reads = told_reads; unanswered = not_answered }
