use Rattle.gtp_forms.proofs.AsMembers.{are_members}
use Rattle.gtp_forms.proofs.laws.what_is_told_is_members.Goals as goal

pub returns : goal.returns
returns c = are_members
