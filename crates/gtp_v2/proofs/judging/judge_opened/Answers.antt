use Rattle.gtp_v2.specs.Asked.{asked_by}
use Rattle.gtp_v2.specs.reading.Headed.{headed_of}
use Rattle.gtp_v2.proofs.Judged.{content_up_to}
use Rattle.gtp_v2.proofs.judging.judge_opened.Goals as goal

pub returns-clause-place : goal.returns-clause-place
returns-clause-place c =
    content_up_to (asked_by c.args.tables.now) c.args.first c.args.kind c.args.high c.args.low c.args.rest.now (headed_of c.in-Ok.header)
    c.judge_content.result c.in-Ok.ensures c.judge_content.ensures
