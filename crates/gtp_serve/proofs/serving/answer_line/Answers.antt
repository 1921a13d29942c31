use Rattle.std.proofs.Common.{refl}
use Rattle.gtp_counted.proofs.Written.{front_none}
use Rattle.gtp_json.specs.Tree.{line_of}
use Rattle.gtp_serve.proofs.serving.answer_line.Goals as goal

pub returns-in_default-clause-front : goal.returns-in_default-clause-front
returns-in_default-clause-front g c =
    let d = c.answer.ensures.done in
    (d.0, d.1, front_none _ _ (line_of d.0) refl)
