use Rattle.gtp_v2.specs.Body.{message_value}
use Rattle.gtp_v2.proofs.Joined.{both_again}
use Rattle.gtp_v2.proofs.encoding.encode_pair.Goals as goal

pub returns-clause-read_again : goal.returns-clause-read_again
returns-clause-read_again c = both_again (message_value c.args.first.now) (message_value c.args.second.now) c.write_pair.result c.write_pair.ensures.read_again
