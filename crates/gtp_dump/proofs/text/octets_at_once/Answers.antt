use Rattle.std.proofs.Common.{rules}
use Rattle.gtp_dump.proofs.Plain.{trimmed}
use Rattle.gtp_dump.proofs.text.octets_at_once.Goals as goal

pub returns : goal.returns
returns c = search (rules, trimmed)
