use Rattle.std.proofs.Common.{rules, ◌≡◌, ◌-◌, ◌<◌, ◌++◌, length, sym, ap, subst, arith, refl}
use Rattle.gtp_capture.specs.Outcome.{Known, piece_of}
use Rattle.gtp_capture.specs.Capture.{IsMeant}
use Rattle.gtp_capture.specs.reading.Block.{Finishes}
use Rattle.gtp_capture.proofs.Blocks.{inside_bad, inside_short, inside_unfinished, inside_unmeant, inside_found}
use Rattle.gtp_capture.proofs.block.next_inside.Goals as goal

pub returns-then-not-is_size-clause-ok : goal.returns-then-not-is_size-clause-ok
returns-then-not-is_size-clause-ok g c =
    inside_bad c.args.order c.args.interfaces.now (g.R.Read.remaining c.args.reader.now.inner) c.args.head.now c.args.room.now.items
    c.four-size.result c.requires.head c.requires.kind c.four-size.ensures (c.if-not-is_size.ensures.no refl)

pub returns-then-len-kept-clause-ok : goal.returns-then-len-kept-clause-ok
returns-then-len-kept-clause-ok g c =
    let left = g.R.Read.remaining in
    let room = c.refill.new.room.items in
    let sized = c.if-not-is_size.ensures.yes refl in
    let few : length room < c.kept-kept.result = search rules in
    inside_short c.args.order c.args.interfaces.now (left c.args.reader.now.inner) (left c.refill.new.reader.inner) c.args.head.now room room
    c.four-size.result c.requires.head c.requires.kind c.four-size.ensures c.in_ok-refill.ensures.octets (c.in_ok-refill.ensures.end few)
    (omega (arith, few, c.kept-kept.ensures.bound, sized.0))

pub returns-then-not-branch-clause-ok : goal.returns-then-not-branch-clause-ok
returns-then-not-branch-clause-ok g c =
    let left = g.R.Read.remaining in
    let room = c.refill.new.room.items in
    let size = c.four-size.result in
    let n = (size - 12) - c.kept-kept.result in
    let sized = c.if-not-is_size.ensures.yes refl in
    let all : length room ≡ c.kept-kept.result = search rules in
    inside_unfinished c.args.order c.args.interfaces.now (left c.args.reader.now.inner) (left c.refill.new.reader.inner)
    (left c.finish.new.reader.inner) c.args.head.now room room n size c.requires.head c.requires.kind c.four-size.ensures
    (omega (arith, all, sized.0, c.kept-kept.ensures.bound)) c.in_ok-refill.ensures.octets
    (subst (λ v. Known (Finishes c.args.order n size v) (left c.refill.new.reader.inner) (left c.finish.new.reader.inner)) c.if-not-branch.true c.in_ok-finish.ensures.ok)

pub returns-in-Some-clause-ok : goal.returns-in-Some-clause-ok
returns-in-Some-clause-ok g c =
    let left = g.R.Read.remaining in
    let room = c.refill.new.room.items in
    let size = c.four-size.result in
    let n = (size - 12) - c.kept-kept.result in
    let sized = c.if-not-is_size.ensures.yes refl in
    let all : length room ≡ c.kept-kept.result = search rules in
    inside_found c.args.order c.args.interfaces.now (left c.args.reader.now.inner) (left c.refill.new.reader.inner) (left c.finish.new.reader.inner)
    c.args.head.now room n size c.in-Some.item c.requires.head c.requires.kind c.four-size.ensures
    (omega (arith, all, sized.0, c.kept-kept.ensures.bound)) sized.1
    (λ more fits.
    let means = c.in-Some.ensures.found more (omega (arith, ap length c.deref.ensures.value, all, fits, sized.0, c.kept-kept.ensures.bound)) in
    subst (λ k. IsMeant c.args.order c.args.interfaces.now k (room ++ more) (piece_of c.in-Some.item room)) c.four-kind.ensures
    (subst (λ l. IsMeant c.args.order c.args.interfaces.now c.four-kind.result (l ++ more) (piece_of c.in-Some.item l)) c.deref.ensures.value means))
    c.in_ok-refill.ensures.octets
    (subst (λ v. Known (Finishes c.args.order n size v) (left c.refill.new.reader.inner) (left c.finish.new.reader.inner)) c.if-not-branch.false c.in_ok-finish.ensures.ok)

pub returns-in-None-clause-ok : goal.returns-in-None-clause-ok
returns-in-None-clause-ok g c =
    let left = g.R.Read.remaining in
    let room = c.refill.new.room.items in
    let size = c.four-size.result in
    let n = (size - 12) - c.kept-kept.result in
    let sized = c.if-not-is_size.ensures.yes refl in
    let all : length room ≡ c.kept-kept.result = search rules in
    inside_unmeant c.args.order c.args.interfaces.now (left c.args.reader.now.inner) (left c.refill.new.reader.inner) (left c.finish.new.reader.inner)
    c.args.head.now room room n size c.requires.head c.requires.kind c.four-size.ensures (omega (arith, all, sized.0, c.kept-kept.ensures.bound))
    sized.1
    (λ more p fits meant.
    c.in-None.ensures.none more p (omega (arith, ap length c.deref.ensures.value, all, fits, sized.0, c.kept-kept.ensures.bound))
    (subst (λ l. IsMeant c.args.order c.args.interfaces.now c.four-kind.result (l ++ more) p) (sym c.deref.ensures.value)
    (subst (λ k. IsMeant c.args.order c.args.interfaces.now k (room ++ more) p) (sym c.four-kind.ensures) meant)))
    c.in_ok-refill.ensures.octets
    (subst (λ v. Known (Finishes c.args.order n size v) (left c.refill.new.reader.inner) (left c.finish.new.reader.inner)) c.if-not-branch.false c.in_ok-finish.ensures.ok)
