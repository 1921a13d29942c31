use Rattle.gtp_lines.proofs.OneText.{one_text}
use Rattle.gtp_lines.proofs.laws.datagrams_show_one_text.Goals as goal

pub returns : goal.returns
returns c = one_text
