use Rattle.gtp_reliable.proofs.OnTime.{sent_on_time, given_up_on_time, sends_then, gives_up_then, quiet_then}
use Rattle.gtp_reliable.proofs.laws.requests_are_sent_again_on_time.Goals as goal

pub returns : goal.returns
returns g c = record { waits = sent_on_time; ends = given_up_on_time; sends = sends_then; gives_up = gives_up_then; quiet = quiet_then }
