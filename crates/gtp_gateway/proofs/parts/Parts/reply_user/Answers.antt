use Rattle.std.proofs.Common.{refl, rules}
use Rattle.gtp_gateway.proofs.SentBack.{one_sent}
use Rattle.gtp_gateway.proofs.parts.Parts.reply_user.Goals as goal

pub returns : goal.returns
returns c = record {
  sent = one_sent c.args.self.now.config.config _ _ c.in_ok-out.ensures.sent c.in_ok-out.ensures.back;
  report = search rules;
  none = refl;
}
