use Rattle.gtp_forms.proofs.AsMembers.{is_object}
use Rattle.gtp_forms.proofs.laws.what_is_told_is_an_object.Goals as goal

pub returns : goal.returns
returns c = is_object
