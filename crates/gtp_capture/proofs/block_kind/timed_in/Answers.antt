use Rattle.std.proofs.Common.{ap, ◌∙◌, arith}
use Rattle.gtp_capture.specs.Clock.{time_at}
use Rattle.gtp_capture.proofs.Meanings.{timed_is}
use Rattle.gtp_capture.proofs.block_kind.timed_in.Goals as goal

pub returns-clause-found : goal.returns-clause-found
returns-clause-found c =
    let i = c.args.interface in
    timed_is c.args.order i c.args.size c.args.front.now c.time_of.result c.four-3.result c.four-held.result c.requires
    (omega (arith, c.if-size-lt20.false)) (omega (arith, c.if-held-gt-LIMIT.false)) (omega (arith, c.if-held-size.false)) c.four-held.ensures
    c.four-3.ensures
    (c.time_of.ensures ∙ ap (time_at i.resolution i.offset) (omega (arith, c.from.ensures, c.from-2.ensures, c.four.ensures, c.four-2.ensures)))
