use Rattle.std.proofs.Common.{◌∙◌, sym}
use Rattle.std.proofs.lemmas.Result.{err_from_is_err_and}
use Rattle.gtp_v2.specs.reading.Headed.{headed_of}
use Rattle.gtp_v2.proofs.CheckedLines.{content_checked}
use Rattle.gtp_v2.proofs.viewing.view_content.Goals as goal

pub returns-in_err-elements-in-Some-clause-reads : goal.returns-in_err-elements-in-Some-clause-reads
returns-in_err-elements-in-Some-clause-reads c =
    let p = err_from_is_err_and c.from_residual.result c.from_residual.ensures.1 in
    rw (p.1, p.2) (sym (content_checked (headed_of c.args.header.now) c.in-Some.asked c.in-Some.ensures) ∙ c.in_err-elements-in-Some.ensures.reads)

pub returns-in_ok-elements-in-Some-clause-reads : goal.returns-in_ok-elements-in-Some-clause-reads
returns-in_ok-elements-in-Some-clause-reads c = sym (content_checked (headed_of c.args.header.now) c.in-Some.asked c.in-Some.ensures) ∙ c.in_ok-elements-in-Some.ensures.reads
