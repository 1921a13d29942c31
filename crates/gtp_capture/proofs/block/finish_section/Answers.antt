use Rattle.std.proofs.Common.{◌-◌, sym, ◌∙◌, subst, arith, refl}
use Rattle.gtp_capture.specs.Outcome.{Known}
use Rattle.gtp_capture.specs.reading.Block.{Finishes}
use Rattle.gtp_capture.proofs.Blocks.{section_none, section_bad, section_unfinished, section_found}
use Rattle.gtp_capture.proofs.block.finish_section.Goals as goal

pub returns-in_default-clause-ok : goal.returns-in_default-clause-ok
returns-in_default-clause-ok g c =
    section_none (g.R.Read.remaining c.args.reader.now.inner) c.args.head.now c.args.front.now c.requires.head c.requires.front
    (λ o e. c.in_default.ensures.none o (c.four.ensures ∙ e))

pub returns-then-not-is_size-clause-ok : goal.returns-then-not-is_size-clause-ok
returns-then-not-is_size-clause-ok g c =
    section_bad (g.R.Read.remaining c.args.reader.now.inner) c.args.head.now c.args.front.now c.in-Some.order c.four-size.result c.requires.head
    c.requires.front (sym c.four.ensures ∙ c.in-Some.ensures.found) c.four-size.ensures (c.if-not-is_size.ensures.no refl)

pub returns-then-not-branch-clause-ok : goal.returns-then-not-branch-clause-ok
returns-then-not-branch-clause-ok g c =
    let left = g.R.Read.remaining in
    let sized = c.if-not-is_size.ensures.yes refl in
    let size = c.four-size.result in
    section_unfinished (left c.args.reader.now.inner) (left c.finish.new.reader.inner) c.args.head.now c.args.front.now c.in-Some.order (size - 28)
    size c.requires.head c.requires.front (sym c.four.ensures ∙ c.in-Some.ensures.found) c.four-size.ensures (omega (arith, sized.0))
    (subst (λ v. Known (Finishes c.in-Some.order (size - 28) size v) (left c.args.reader.now.inner) (left c.finish.new.reader.inner)) c.if-not-branch.true c.in_ok-finish.ensures.ok)

pub returns-clause-ok : goal.returns-clause-ok
returns-clause-ok g c =
    let left = g.R.Read.remaining in
    let sized = c.if-not-is_size.ensures.yes refl in
    let size = c.four-size.result in
    section_found (left c.args.reader.now.inner) (left c.finish.new.reader.inner) c.args.head.now c.args.front.now c.in-Some.order (size - 28) size
    c.requires.head c.requires.front c.requires.kind (sym c.four.ensures ∙ c.in-Some.ensures.found) c.four-size.ensures (omega (arith, sized.0))
    sized.1
    (subst (λ v. Known (Finishes c.in-Some.order (size - 28) size v) (left c.args.reader.now.inner) (left c.finish.new.reader.inner)) c.if-not-branch.false c.in_ok-finish.ensures.ok)
