use Rattle.std.proofs.Common.{◌≡◌, ◌∙◌, subst, arith}
use Rattle.std.proofs.lemmas.Result.{on_ok_weaker, on_err_weaker, IfErr-weaker}
use Rattle.std.specs.Io.KnownBytes.{Appends}
use Rattle.gtp_counted.specs.Counts.{failures_of}
use Rattle.gtp_counted.specs.Streams.{WritesFront}
use Rattle.gtp_serve.proofs.Going.{all_served, first_served, start_in_part, served_in_part, long_whole}
use Rattle.gtp_serve.proofs.serving.serve.Goals as goal

pub returns-clause-served : goal.returns-clause-served
returns-clause-served g c =
    let write = g.W.Write.contents in
    let begins = subst (Appends (write c.args.writer.now.inner) (write c.write_line.new.writer.inner)) (c.deref.ensures.value ∙ c.in-Ok-word_line.ensures) c.in_default-write_line.ensures.written in
    on_ok_weaker c.answer_lines.result
    (all_served g.S.Server.Starts g.S.Server.Does (g.R.Read.remaining c.args.reader.now.inner) (g.R.Read.remaining c.start.new.reader.inner) (g.R.Read.remaining c.answer_lines.new.reader.inner)
    (write c.args.writer.now.inner) (write c.write_line.new.writer.inner) (write c.answer_lines.new.writer.inner) c.in-Ok.started
    c.answer_lines.new.server c.in-Ok.ensures.started begins) c.answer_lines.ensures.all

pub returns-clause-first : goal.returns-clause-first
returns-clause-first g c =
    let write = g.W.Write.contents in
    let begins = subst (Appends (write c.args.writer.now.inner) (write c.write_line.new.writer.inner)) (c.deref.ensures.value ∙ c.in-Ok-word_line.ensures) c.in_default-write_line.ensures.written in
    IfErr-weaker c.answer_lines.result _ _
    (λ fault first other unclosed. first_served g.S.Server.Starts g.S.Server.Does (g.R.Read.remaining c.args.reader.now.inner) (g.R.Read.remaining c.start.new.reader.inner)
    (write c.args.writer.now.inner) (write c.write_line.new.writer.inner) (write c.answer_lines.new.writer.inner) c.in-Ok.started
    c.in-Ok.ensures.started begins (first other unclosed)) c.answer_lines.ensures.first

pub returns-clause-front : goal.returns-clause-front
returns-clause-front g c =
    let write = g.W.Write.contents in
    let begins = subst (Appends (write c.args.writer.now.inner) (write c.write_line.new.writer.inner)) (c.deref.ensures.value ∙ c.in-Ok-word_line.ensures) c.in_default-write_line.ensures.written in
    on_err_weaker c.answer_lines.result
    (served_in_part g.S.Server.Starts g.S.Server.Does (g.R.Read.remaining c.args.reader.now.inner) (g.R.Read.remaining c.start.new.reader.inner)
    (write c.args.writer.now.inner) (write c.write_line.new.writer.inner) (write c.answer_lines.new.writer.inner) c.in-Ok.started
    c.in-Ok.ensures.started begins) c.answer_lines.ensures.front

pub returns-clause-long : goal.returns-clause-long
returns-clause-long g c e =
    long_whole g.S.Server.Starts g.S.Server.Does (g.R.Read.remaining c.args.reader.now.inner) (g.R.Read.remaining c.start.new.reader.inner) c.in-Ok.started
    c.in-Ok.ensures.started (c.answer_lines.ensures.long e)

pub returns-clause-reads : goal.returns-clause-reads
returns-clause-reads g c =
    let is = c.in-Ok.is in
    let before : failures_of c.start.new.reader ≡ failures_of c.args.reader.now = c.in-Ok.ensures.reads.otherwise (λ e. cc) in
    record {
      read = λ e. let after = c.answer_lines.ensures.reads.read e in omega (arith, after, before);
      otherwise = λ n. let after = c.answer_lines.ensures.reads.otherwise n in after ∙ before;
    }

pub returns-clause-writes : goal.returns-clause-writes
returns-clause-writes g c =
    let is = c.in_default-write_line.is in
    let before : failures_of c.write_line.new.writer ≡ failures_of c.args.writer.now = c.in_default-write_line.ensures.writes.otherwise (λ e. cc) (λ e. cc) in
    record {
      write = λ e. let after = c.answer_lines.ensures.writes.write e in (omega (arith, after.0, before), after.1);
      closed = λ e. let after = c.answer_lines.ensures.writes.closed e in (omega (arith, after.0, before), after.1);
      otherwise = λ n m. let after = c.answer_lines.ensures.writes.otherwise n m in after ∙ before;
    }

pub returns-in-Err-write_line-clause-front : goal.returns-in-Err-write_line-clause-front
returns-in-Err-write_line-clause-front g c =
    let write = g.W.Write.contents in
    start_in_part g.S.Server.Starts g.S.Server.Does (g.R.Read.remaining c.args.reader.now.inner) (g.R.Read.remaining c.start.new.reader.inner)
    (write c.args.writer.now.inner) (write c.write_line.new.writer.inner) c.in-Ok.started c.in-Ok.ensures.started
    (subst (WritesFront (write c.args.writer.now.inner) (write c.write_line.new.writer.inner)) (c.deref.ensures.value ∙ c.in-Ok-word_line.ensures) c.in-Err-write_line.ensures.front)
