use Rattle.std.proofs.Common.{◌<◌, inl, inr, Err, length, ap, sym, subst, rules}
use Rattle.gtp_counted.specs.Counts.{inner_of}
use Rattle.gtp_counted.proofs.Lines.{lasts_more}
use Rattle.gtp_serve.specs.Served.{IsAnswered, IsAnsweredInPart}
use Rattle.gtp_serve.proofs.Going.{goes_on, first_answered, still_answered, all_in_part, next_in_part}
use Rattle.gtp_serve.proofs.serving.answer_lines.Goals as goal

pub returns-in-Err-clause-first : goal.returns-in-Err-clause-first
returns-in-Err-clause-first g c other unclosed = first_answered g.S.Server.Does _ _ _ _ _ _ c.loop.invariant.goes

pub returns-in-Err-answer_line-clause-first : goal.returns-in-Err-answer_line-clause-first
returns-in-Err-answer_line-clause-first g c other unclosed =
    let same = c.in-Err-answer_line.ensures.memory (elim c.in-Err-answer_line.ensures.kind [ inl is ↦ ap Err is | inr (inl is) ↦ absurd (other is) | inr (inr is) ↦ absurd (unclosed is) ]) in
    still_answered g.S.Server.Does _ _ _ _ _ _ _ c.loop.invariant.goes (ap (λ w. g.W.Write.contents (inner_of w)) (sym same))

pub loop-preserved : goal.loop-preserved
loop-preserved g c =
    let some : 0 < length c.next_line.new.line.items = search rules in
    let read = g.R.Read.remaining in
    let write = g.W.Write.contents in
    record {
      goes = goes_on g.S.Server.Does _ _ _ _ c.loop.server c.answer_line.new.server c.next_line.new.line.items _ _ _ c.loop.invariant.goes c.in_default.ensures.held c.in_default.ensures.rest some
          (subst (λ l. IsAnswered g.S.Server.Does l c.loop.server c.answer_line.new.server (write c.loop.writer.inner) (write c.answer_line.new.writer.inner))
          c.deref.ensures.value c.in_default-answer_line.ensures.answered);
      lasts =
          lasts_more 1048577 c.loop.counter (read c.args.reader.now.inner) (read c.loop.reader.inner) (read c.next_line.new.reader.inner)
          c.next_line.new.line.items c.loop.invariant.lasts c.in_default.ensures.held c.in_default.ensures.rest some;
      reads = search rules;
      writes = search rules;
    }

pub returns-clause-first : goal.returns-clause-first
returns-clause-first g c other unclosed = first_answered g.S.Server.Does _ _ _ _ _ _ c.loop.invariant.goes

pub returns-in-Err-clause-front : goal.returns-in-Err-clause-front
returns-in-Err-clause-front g c = all_in_part g.S.Server.Does _ _ _ _ _ _ c.loop.invariant.goes

pub returns-in-Err-answer_line-clause-front : goal.returns-in-Err-answer_line-clause-front
returns-in-Err-answer_line-clause-front g c =
    let some : 0 < length c.next_line.new.line.items = search rules in
    let write = g.W.Write.contents in
    next_in_part g.S.Server.Does _ _ _ _ c.loop.server c.answer_line.new.server c.next_line.new.line.items _ _ _ c.loop.invariant.goes c.in_default.ensures.held c.in_default.ensures.rest some
    (subst (λ l. IsAnsweredInPart g.S.Server.Does l c.loop.server c.answer_line.new.server (write c.loop.writer.inner) (write c.answer_line.new.writer.inner))
    c.deref.ensures.value c.in-Err-answer_line.ensures.front)

pub returns-clause-front : goal.returns-clause-front
returns-clause-front g c = all_in_part g.S.Server.Does _ _ _ _ _ _ c.loop.invariant.goes
