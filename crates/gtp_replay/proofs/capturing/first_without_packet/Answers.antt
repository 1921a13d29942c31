use Rattle.std.proofs.Common.{sym, ◌∙◌}
use Rattle.gtp_world.specs.Record.{sent_by}
use Rattle.gtp_replay.proofs.Packets.{one_more, none_left, first_lacks}
use Rattle.gtp_replay.proofs.capturing.first_without_packet.Goals as goal

pub returns-then-not-has_packet-clause-first : goal.returns-then-not-has_packet-clause-first
returns-then-not-has_packet-clause-first c =
    first_lacks sent_by c.args.datagrams.now c.loop-number.number c.index-datagrams-number.result c.index-datagrams-number.is c.loop-number-test.true
    c.loop-number.invariant (λ has. absurd (cc (sym c.if-not-has_packet.true ∙ c.has_packet.ensures.1 has)))

pub loop-number-preserved : goal.loop-number-preserved
loop-number-preserved c =
    one_more sent_by c.args.datagrams.now c.loop-number.number c.index-datagrams-number.result c.index-datagrams-number.is c.loop-number-test.true
    c.loop-number.invariant (c.has_packet.ensures.0 c.if-not-has_packet.false)

pub returns-clause-none : goal.returns-clause-none
returns-clause-none c is = none_left sent_by c.args.datagrams.now c.loop-number.number c.loop-number-test.false c.loop-number.invariant
