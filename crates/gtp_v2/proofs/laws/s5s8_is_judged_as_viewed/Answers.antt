use Rattle.gtp_v2.proofs.Alike.{s5s8_alike, s5s8_found, s5s8_only, s5s8_first, s5s8_fault}
use Rattle.gtp_v2.proofs.laws.s5s8_is_judged_as_viewed.Goals as goal

pub returns-clause-found : goal.returns-clause-found
returns-clause-found c =
    let t = c.tables_of_s5s8 in
    s5s8_found t.result (s5s8_alike t.result t.ensures.tables t.ensures.others) c.args.octets.now c.judge.result c.judge.ensures.found

pub returns-clause-only : goal.returns-clause-only
returns-clause-only c =
    let t = c.tables_of_s5s8 in
    s5s8_only t.result (s5s8_alike t.result t.ensures.tables t.ensures.others) c.args.octets.now c.judge.result c.judge.ensures.only

pub returns-clause-first : goal.returns-clause-first
returns-clause-first c =
    let t = c.tables_of_s5s8 in
    s5s8_first t.result (s5s8_alike t.result t.ensures.tables t.ensures.others) c.args.octets.now c.judge.result c.judge.ensures.first

pub returns-clause-fault : goal.returns-clause-fault
returns-clause-fault c =
    let t = c.tables_of_s5s8 in
    s5s8_fault t.result (s5s8_alike t.result t.ensures.tables t.ensures.others) c.args.octets.now c.judge.result c.judge.ensures.fault
