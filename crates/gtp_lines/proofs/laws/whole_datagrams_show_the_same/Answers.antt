use Rattle.gtp_lines.proofs.Whole.{whole_shown}
use Rattle.gtp_lines.proofs.laws.whole_datagrams_show_the_same.Goals as goal

pub returns : goal.returns
returns c = whole_shown
