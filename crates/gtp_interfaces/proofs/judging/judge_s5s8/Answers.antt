use Rattle.gtp_interfaces.proofs.Asking.{no_fault, one_fault}
use Rattle.gtp_interfaces.proofs.judging.judge_s5s8.Goals as goal

pub returns-in-Ok-clause-first : goal.returns-in-Ok-clause-first
returns-in-Ok-clause-first c = λ f is. absurd (no_fault c.in-Ok.field-0 f (c.in-Ok.ensures.first f is))

pub returns-in-Err-clause-only : goal.returns-in-Err-clause-only
returns-in-Err-clause-only c = λ d is. absurd (c.in-Err.ensures.only d is)

pub returns-in-Err-clause-first : goal.returns-in-Err-clause-first
returns-in-Err-clause-first c = λ f is. one_fault c.in-Err.fault f (c.in-Err.ensures.first f is)
