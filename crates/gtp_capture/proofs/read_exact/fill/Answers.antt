use Rattle.std.proofs.Common.{rules, refl, length, ◌-◌}
use Rattle.gtp_capture.proofs.Pieces.{filled_more}
use Rattle.gtp_capture.proofs.read_exact.fill.Goals as goal

pub loop-at-preserved : goal.loop-at-preserved
loop-at-preserved g c =
    let left = g.R.Read.remaining in
    record {
      room = search rules;
      within = search rules;
      octets =
          filled_more (left c.args.reader.now.inner) (left c.loop-at.reader.inner) (left c.read.new.self.inner) c.loop-at.at
          (length c.loop-at.room - c.loop-at.at) c.in-Ok.n _ c.loop-at.room c.read.new.buf c.loop-at.invariant.within c.in-Ok.ensures.bound.0 refl
          c.loop-at.invariant.octets c.in-Ok.ensures.bytes.0;
      count = search rules;
    }
