use Rattle.gtp_json.proofs.OneLine.{one_line}
use Rattle.gtp_json.proofs.laws.datagrams_have_one_line.Goals as goal

pub returns : goal.returns
returns c = one_line
