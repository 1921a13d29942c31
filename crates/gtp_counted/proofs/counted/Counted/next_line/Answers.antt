use Rattle.std.proofs.Common.{rules, ap, arith, length, length-take, ◌++◌, subst}
use Rattle.gtp_counted.specs.Parts.{TakesPart}
use Rattle.gtp_counted.proofs.Lines.{held_none, held_more, held_last, held_long}
use Rattle.gtp_counted.proofs.counted.Counted.next_line.Goals as goal

pub loop-init : goal.loop-init
loop-init g c = record {
  so_far = held_none c.args.most (g.R.Read.remaining c.args.self.now.inner) c.clear.new.self.items c.clear.ensures.items;
  room = search rules;
  count = search rules;
}

pub loop-preserved : goal.loop-preserved
loop-preserved g c =
    let left = g.R.Read.remaining in
    let taken =
    subst (TakesPart 10 c.args.most (left c.loop.self.inner) (left c.append_through.new.self.inner) c.loop.line.items c.append_through.new.held.items)
    c.in-Ok-false.field-0-test c.in-Ok-false.ensures.taken in
    record {
      so_far =
          held_more c.args.most (left c.args.self.now.inner) (left c.loop.self.inner) (left c.append_through.new.self.inner) c.loop.line.items
          c.append_through.new.held.items c.loop.counter c.loop.invariant.so_far taken;
      room = omega (arith, ap length taken.2, length-take c.args.most (c.loop.line.items ++ taken.0));
      count = search rules;
    }

pub returns-in-Ok-true : goal.returns-in-Ok-true
returns-in-Ok-true g c =
    let left = g.R.Read.remaining in
    let taken =
    subst (TakesPart 10 c.args.most (left c.loop.self.inner) (left c.append_through.new.self.inner) c.loop.line.items c.append_through.new.held.items)
    c.in-Ok-true.field-0-test c.in-Ok-true.ensures.taken in
    let read =
    held_last c.args.most (left c.args.self.now.inner) (left c.loop.self.inner) (left c.append_through.new.self.inner) c.loop.line.items
    c.append_through.new.held.items c.loop.counter c.requires.some c.loop.invariant.so_far taken in
    record { held = read.0; rest = read.1; end = read.2; long = search rules; failed = search rules; unfailed = search rules }

pub returns-clause-long : goal.returns-clause-long
returns-clause-long g c any =
    held_long c.args.most (g.R.Read.remaining c.args.self.now.inner) (g.R.Read.remaining c.loop.self.inner) c.loop.line.items c.loop.counter
    c.loop.invariant.so_far (omega (arith, c.loop-test.false))
