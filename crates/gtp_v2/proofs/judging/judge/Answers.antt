use Rattle.gtp_v2.specs.Asked.{asked_by}
use Rattle.gtp_v2.proofs.Judged.{passes, only, first, fault, of_octets}
use Rattle.gtp_v2.proofs.judging.judge.Goals as goal

pub returns-clause-found : goal.returns-clause-found
returns-clause-found c = passes (asked_by c.args.tables.now) c.args.octets.now c.judge_datagram.result c.judge_datagram.ensures

pub returns-clause-only : goal.returns-clause-only
returns-clause-only c = only (asked_by c.args.tables.now) c.args.octets.now c.judge_datagram.result c.judge_datagram.ensures

pub returns-clause-first : goal.returns-clause-first
returns-clause-first c = first (asked_by c.args.tables.now) c.args.octets.now c.judge_datagram.result c.judge_datagram.ensures

pub returns-clause-fault : goal.returns-clause-fault
returns-clause-fault c = fault (asked_by c.args.tables.now) c.args.octets.now c.judge_datagram.result c.judge_datagram.ensures

pub returns-clause-of_octets : goal.returns-clause-of_octets
returns-clause-of_octets c =
    of_octets (asked_by c.args.tables.now) c.args.octets.now c.judge_datagram.result
    (fault (asked_by c.args.tables.now) c.args.octets.now c.judge_datagram.result c.judge_datagram.ensures)
