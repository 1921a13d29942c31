use Rattle.std.proofs.Common.{inl, inr}
use Rattle.std.proofs.lemmas.Result.{IfOk-weaker}
use Rattle.gtp_user.specs.Message.{message_value}
use Rattle.gtp_replay.proofs.labels.packet_names.Goals as goal

pub returns-in-Ok : goal.returns-in-Ok
returns-in-Ok c = IfOk-weaker c.user_names.result _ _ (λ text is. inl (message_value c.in-Ok.message, c.in-Ok.ensures.found, is)) c.user_names.ensures

pub returns-in-Err : goal.returns-in-Err
returns-in-Err c = IfOk-weaker c.fault.result _ _ (λ text is. inr (c.in-Err.field-0, c.in-Err.ensures.fault, is)) c.fault.ensures
