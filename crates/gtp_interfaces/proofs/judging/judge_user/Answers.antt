use Rattle.std.proofs.Common.{◌≡◌, ℕ, List, Ok, Err, subst}
use Rattle.gtp_user.specs.declared.fault.UserFault.{UserFault}
use Rattle.gtp_user.specs.Message.{MessageValue}
use Rattle.gtp_user.specs.Datagram.{IsUserMessageBy, IsUserFaultBy}
use Rattle.gtp_interfaces.proofs.judging.judge_user.Goals as goal

pub returns-clause-only : goal.returns-clause-only
returns-clause-only c = subst (λ (types : List ℕ). (m : MessageValue) → IsUserMessageBy types c.args.octets.now m → c.judge.result ≡ Ok tt) c.understood.ensures c.judge.ensures.only

pub returns-clause-first : goal.returns-clause-first
returns-clause-first c = subst (λ (types : List ℕ). (f : UserFault) → IsUserFaultBy types c.args.octets.now f → c.judge.result ≡ Err f) c.understood.ensures c.judge.ensures.first
