use Rattle.gtp_json.proofs.OneReading.{one_reading}
use Rattle.gtp_json.proofs.laws.lines_and_json_are_of_one_reading.Goals as goal

pub returns : goal.returns
returns c = one_reading
