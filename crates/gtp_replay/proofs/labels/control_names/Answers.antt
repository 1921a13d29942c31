use Rattle.std.proofs.Common.{inr}
use Rattle.std.proofs.lemmas.Result.{IfOk-weaker}
use Rattle.gtp_replay.proofs.labels.control_names.Goals as goal

pub returns-in-Err : goal.returns-in-Err
returns-in-Err c = IfOk-weaker c.fault.result _ _ (λ text is. inr (c.in-Err.field-0, c.in-Err.ensures.fault, is)) c.fault.ensures
