use Rattle.std.proofs.Common.{sym, true≢false}
use Rattle.gtp_c.proofs.Texts.{apn_is_text}
use Rattle.gtp_c.proofs.session.access_point_of.Goals as goal

pub returns-in_default-clause-some : goal.returns-in_default-clause-some
returns-in_default-clause-some c = (λ none. absurd (true≢false (sym none)), λ is. absurd (c.in_default.ensures.cases.0 (apn_is_text c.args.octets.now is)))
