use Rattle.gtp_json.proofs.OneLine.{one_frame_line}
use Rattle.gtp_json.proofs.laws.frames_have_one_line.Goals as goal

pub returns : goal.returns
returns c = one_frame_line
