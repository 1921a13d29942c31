use Rattle.gtp_c.proofs.control.gtp_control_read.Goals as goal

pub returns-in-Err-clause-only : goal.returns-in-Err-clause-only
returns-in-Err-clause-only c = λ v spelled. absurd (c.in-Err.ensures.only v spelled)
