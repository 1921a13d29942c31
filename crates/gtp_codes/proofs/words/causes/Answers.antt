use Rattle.std.proofs.Common.{rules}
use Rattle.std.specs.Fmt.{digits}
use Rattle.gtp_codes.specs.Words.{cause_words}
use Rattle.gtp_codes.proofs.words.causes.Goals as goal

pub returns : goal.returns
unfolding cause_words digits
returns c = search rules
