use Rattle.gtp_ie.proofs.Free.{more_free}
use Rattle.gtp_ie.proofs.laws.octets_after_the_form_are_free.Goals as goal

pub returns : goal.returns
returns c = more_free
