use Rattle.std.proofs.Common.{[], ◌∷◌, ◌∙◌, subst}
use Rattle.std.proofs.lemmas.Result.{IfOk-weaker}
use Rattle.gtp_machine.specs.Spelling.{spelled_all}
use Rattle.gtp_gateway.specs.messages.Sent.{ReadsBack}
use Rattle.gtp_gateway.proofs.parts.Parts.encode_granted.Goals as goal

pub returns-clause-spelled : goal.returns-clause-spelled
returns-clause-spelled c = IfOk-weaker c.encode_both.result _ _ (λ p is. is ∙ (λ i. spelled_all (c.in_ok-message.ensures.says i ∷ c.in_ok-asked.ensures.says i ∷ []))) c.encode_both.ensures.spelled

pub returns-clause-back : goal.returns-clause-back
returns-clause-back c = IfOk-weaker c.encode_both.result _ _ (λ p reads. subst ReadsBack (λ i. c.in_ok-message.ensures.says i ∷ c.in_ok-asked.ensures.says i ∷ []) reads) c.encode_both.ensures.back
