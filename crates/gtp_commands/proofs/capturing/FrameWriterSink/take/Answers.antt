use Rattle.std.proofs.Common.{rules, inl, refl, subst}
use Rattle.gtp_counted.specs.Streams.{WritesFront}
use Rattle.gtp_commands.proofs.FramesShown.{unwritten_why}
use Rattle.gtp_commands.proofs.capturing.FrameWriterSink.take.Goals as goal

pub returns-in-Err-clause-err : goal.returns-in-Err-clause-err
returns-in-Err-clause-err g c =
    let unwritten = c.unwritten.ensures in
    let write = g.W.Write.contents in
    let front = subst (WritesFront (write c.args.self.now.out.inner) (write c.write_all.new.self.inner)) c.deref.ensures.value c.in-Err.ensures.front in (
      c.unwritten.result,
      refl,
      unwritten_why c.args.self.now _ c.in-Err.failed.kind c.unwritten.result c.in-Err.ensures.count unwritten.closed unwritten.write unwritten.kind,
      λ which. (c.in-Ok.shown.text.items, c.in-Ok.shown.faulty, record { chosen = search rules; shown = c.in-Ok.ensures; fault = search rules }, front),
    )

pub returns-then-not-chooses-clause-ok : goal.returns-then-not-chooses-clause-ok
returns-then-not-chooses-clause-ok g c = inl (inl (search rules), refl)
