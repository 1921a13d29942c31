use Rattle.gtp_v2.proofs.SameMessages.{messages_one}
use Rattle.gtp_v2.proofs.laws.messages_are_what_contracts_see.Goals as goal

pub returns : goal.returns
returns c = messages_one
