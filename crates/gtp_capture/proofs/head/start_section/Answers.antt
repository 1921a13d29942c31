use Rattle.std.proofs.Common.{◌≡◌, ◌++◌, drop, sym, ap, ◌∙◌, subst, take-append-drop}
use Rattle.gtp_capture.specs.Outcome.{Known, IsSectionBehind}
use Rattle.gtp_capture.proofs.Starts.{section_wanting}
use Rattle.gtp_capture.proofs.head.start_section.Goals as goal

pub returns-in-None-clause-ok : goal.returns-in-None-clause-ok
returns-in-None-clause-ok g c =
    let left = g.R.Read.remaining in
    let head = c.args.head.now in
    let one = c.front.result.now in
    let two = c.from.result.now in
    let parts : head ≡ one ++ two = sym (take-append-drop 8 head) ∙ ap (λ l. l ++ drop 8 head) (sym c.front.ensures) ∙ ap (λ l. one ++ l) (sym c.from.ensures) in
    section_wanting (left c.args.reader.now.inner) (left c.finish_section.new.reader.inner) head one two c.requires.size parts c.requires.other
    (subst (λ v. Known (IsSectionBehind (one ++ two) v) (left c.args.reader.now.inner) (left c.finish_section.new.reader.inner)) c.in-None.is c.in_ok-order.ensures.ok)
