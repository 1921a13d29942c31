use Rattle.std.proofs.Common.{rules, ◌≡◌, ◌<◌, length, take, length-take-le, arith, refl}
use Rattle.gtp_capture.proofs.Records.{head_short, too_large, body_short, record_whole}
use Rattle.gtp_capture.proofs.record.next_record.Goals as goal

pub returns-then-found-lt16-clause-ok : goal.returns-then-found-lt16-clause-ok
returns-then-found-lt16-clause-ok g c =
    let left = g.R.Read.remaining in
    let head = c.in_ok-head.head in
    let n = c.in_ok-head.found in
    let is = c.in_ok-head.ensures in
    let held = length-take-le n head (omega (arith, is.size, is.bound)) in
    let some : 0 < n = search rules in
    head_short c.args.kind (left c.args.reader.now.inner) (left c.next_octets.new.reader.inner) (take n head) c.args.room.now.items is.octets
    (is.end c.if-found-lt16.true) (omega (arith, held, some)) (omega (arith, held, c.if-found-lt16.true))

pub returns-then-held-gt-LIMIT-clause-ok : goal.returns-then-held-gt-LIMIT-clause-ok
returns-then-held-gt-LIMIT-clause-ok g c =
    let left = g.R.Read.remaining in
    let is = c.in_ok-head.ensures in
    too_large c.args.kind (left c.args.reader.now.inner) (left c.next_octets.new.reader.inner) c.in_ok-head.head c.args.room.now.items
    (is.whole c.if-found-lt16.false) is.size (omega (arith, c.if-held-gt-LIMIT.true, c.four-held.ensures))

pub returns-then-len-held-clause-ok : goal.returns-then-len-held-clause-ok
returns-then-len-held-clause-ok g c =
    let left = g.R.Read.remaining in
    let is = c.in_ok-head.ensures in
    let room = c.refill.new.room.items in
    let few : length room < c.four-held.result = search rules in
    body_short c.args.kind (left c.args.reader.now.inner) (left c.next_octets.new.reader.inner) (left c.refill.new.reader.inner) c.in_ok-head.head
    room room (is.whole c.if-found-lt16.false) c.in_ok-refill.ensures.octets (c.in_ok-refill.ensures.end few) is.size
    (omega (arith, few, c.four-held.ensures))

pub returns-clause-ok : goal.returns-clause-ok
returns-clause-ok g c =
    let left = g.R.Read.remaining in
    let is = c.in_ok-head.ensures in
    let room = c.refill.new.room.items in
    let whole : length room ≡ c.four-held.result = search rules in
    record_whole c.args.kind (left c.args.reader.now.inner) (left c.next_octets.new.reader.inner) (left c.refill.new.reader.inner) c.in_ok-head.head
    room c.four.result c.four-2.result c.four-3.result c.four-held.result _ (is.whole c.if-found-lt16.false) c.in_ok-refill.ensures.octets is.size
    whole c.four-held.ensures (omega (arith, c.if-held-gt-LIMIT.false)) c.four.ensures c.four-2.ensures c.four-3.ensures refl
