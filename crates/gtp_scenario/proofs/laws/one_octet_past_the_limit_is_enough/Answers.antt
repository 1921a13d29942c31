use Rattle.gtp_scenario.proofs.Readings.{reading_of_front, reading_at_front}
use Rattle.gtp_scenario.proofs.laws.one_octet_past_the_limit_is_enough.Goals as goal

pub returns : goal.returns
returns c = record { front = λ n octets reading more. (reading_of_front n octets reading more, reading_at_front n octets reading more) }
