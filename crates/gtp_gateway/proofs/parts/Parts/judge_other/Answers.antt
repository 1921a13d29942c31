use Rattle.std.proofs.Common.{◌≡◌, ◌∙◌, ap, sym, subst}
use Rattle.gtp_machine.specs.Message.{Message}
use Rattle.gtp_machine.specs.Reading.{user_message, user_message_of}
use Rattle.gtp_machine.specs.User.{UserTaken}
use Rattle.gtp_machine.proofs.Octets.ByName.{user_by_name}
use Rattle.gtp_gateway.specs.GatewayState.{state_of}
use Rattle.gtp_gateway.specs.user.Receive.{IsJudgedBy}
use Rattle.gtp_gateway.proofs.parts.Parts.judge_other.Goals as goal

pub returns : goal.returns
returns c =
    let old = state_of c.args.self.now in
    let same : user_message c.to_message-message.result ≡ user_message_of c.args.seen.now = sym (user_by_name c.to_message-message.result) ∙ ap user_message_of c.to_message-message.ensures in
    subst (λ (m : Message). IsJudgedBy (UserTaken old.role c.args.source.now m) old c.judge_message.result (state_of c.judge_message.new.self)) same c.judge_message.ensures
