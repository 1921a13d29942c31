use Rattle.std.proofs.Common.{map, ap, sym, subst, length, arith}
use Rattle.gtp_reliable.specs.Held.{AreApart}
use Rattle.gtp_reliable.specs.Aging.{seen}
use Rattle.gtp_reliable.proofs.Pairs.{ticked_count, ticked_apart}
use Rattle.gtp_reliable.proofs.held.Held.tick.Goals as goal

pub invariant_of-self : goal.invariant_of-self
invariant_of-self c =
    let hold = c.self.inside.hold in
    let before = map (seen c.self.inside.ticks) c.self.inside.pairs.items in (
      record {
        hold = c.self.invariant.0.hold;
        count = omega (arith, ap length c.tick_all.ensures.pairs, ticked_count hold before, c.self.invariant.0.count);
        apart = subst AreApart (sym c.tick_all.ensures.pairs) (ticked_apart hold before c.self.invariant.0.apart);
      },
      c.tick_all.ensures.indexed,
      c.tick_all.ensures.aging,
    )
