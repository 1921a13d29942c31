use Rattle.std.proofs.Common.{◌≡◌}
use Rattle.gtp_counted.proofs.Lines.{Lasts}
use Rattle.gtp_serve.proofs.Going.{Goes}
use Rattle.gtp_serve.proofs.serving.answer_lines.Given as goal

abbrev pub invariant-loop : goal.invariant-loop
invariant-loop g l = record {
  goes : Goes g.S.Server.Does (g.R.Read.remaining l.fn.reader.inner) (g.R.Read.remaining l.reader.inner) l.fn.server l.server (g.W.Write.contents l.fn.writer.inner) (g.W.Write.contents l.writer.inner);
  lasts : Lasts l.counter (g.R.Read.remaining l.fn.reader.inner) (g.R.Read.remaining l.reader.inner);
  reads : l.reader.failures ≡ l.fn.reader.failures;
  writes : l.writer.failures ≡ l.fn.writer.failures;
}
