use Rattle.std.proofs.Common.{◌≡◌, ◌≤◌}
use Rattle.gtp_counted.proofs.Lines.{Lasts}
use Rattle.gtp_dump.specs.Held.{lines_read, datagrams_begun}
use Rattle.gtp_dump.proofs.Going.{Goes, Any}
use Rattle.gtp_dump.proofs.decoding.decode_dump.Given as goal

abbrev pub invariant-loop : goal.invariant-loop
invariant-loop g l = record {
  goes : Goes l.asked (g.R.Read.remaining l.fn.reader.inner) (g.R.Read.remaining l.reader.inner) Any l.progress (g.W.Write.contents l.fn.out.inner)
      (g.W.Write.contents l.out.inner) (g.E.Write.contents l.fn.err.inner) (g.E.Write.contents l.err.inner);
  lasts : Lasts l.counter (g.R.Read.remaining l.fn.reader.inner) (g.R.Read.remaining l.reader.inner);
  reads : l.reader.failures ≡ l.fn.reader.failures;
  writes : l.out.failures ≡ l.fn.out.failures;
  errors : l.err.failures ≡ l.fn.err.failures;
  lines : lines_read l.progress ≡ l.counter;
  datagrams : datagrams_begun l.progress ≤ lines_read l.progress;
}
