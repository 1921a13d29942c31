use Rattle.std.proofs.Common.{rules, ◌<◌, codes, length, None, inl, refl}
use Rattle.std.proofs.lemmas.Result.{IfOk-weaker}
use Rattle.gtp_serve.specs.Replies.{word_json}
use Rattle.gtp_serve.proofs.serving.answer.Goals as goal

pub returns-then-line-gt-MOST_OCTETS-clause-answered : goal.returns-then-line-gt-MOST_OCTETS-clause-answered
returns-then-line-gt-MOST_OCTETS-clause-answered g c =
    let long : 1048576 < length c.args.line.now = search rules in
    IfOk-weaker c.word_line.result _ _ (λ text is. (word_json None (codes "too long"), inl (long, (refl, refl)), is)) c.word_line.ensures

pub returns-then-line-gt-MOST_OCTETS-clause-done : goal.returns-then-line-gt-MOST_OCTETS-clause-done
returns-then-line-gt-MOST_OCTETS-clause-done g c =
    let long : 1048576 < length c.args.line.now = search rules in
    (word_json None (codes "too long"), inl (long, (refl, refl)))
