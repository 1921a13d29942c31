use Rattle.std.proofs.Common.{rules, ◌≡◌, ◌∙◌, true, false, ap, refl, ℕ, arith}
use Rattle.gtp_reliable.specs.Rows.{front_is_due, ticked}
use Rattle.gtp_reliable.proofs.Ticked.{ticked_more, ticked_ends, ticked_whole}
use Rattle.gtp_reliable.proofs.rows.Rows.tick.Goals as goal

pub loop-turn-init : goal.loop-turn-init
loop-turn-init g c = record {
  rows = ap (λ (n : ℕ). ticked c.args.t3 c.args.n3 c.args.now n c.args.self.now.rows) (omega (arith, c.len-turn-end.ensures));
  room = refl;
}

pub loop-turn-preserved : goal.loop-turn-preserved
loop-turn-preserved g c =
    let due : front_is_due c.args.t3 c.args.now c.loop-turn.self.rows ≡ true = search rules in
    record {
      rows =
          ticked_more c.args.t3 c.args.n3 c.args.now c.len-turn-end.result c.loop-turn._turn c.loop-turn.self.rows c.tick_front.new.self.rows _
          c.loop-turn-test.true c.loop-turn.invariant.rows due c.tick_front.ensures.rows;
      room = c.tick_front.ensures.room ∙ c.loop-turn.invariant.room;
    }

pub returns-after-loop-turn-clause-rows : goal.returns-after-loop-turn-clause-rows
returns-after-loop-turn-clause-rows g c = ticked_whole c.args.t3 c.args.n3 c.args.now c.len-turn-end.result c.loop-turn._turn c.loop-turn.self.rows _ c.loop-turn-test.false c.loop-turn.invariant.rows

pub returns-after-loop-turn-clause-room : goal.returns-after-loop-turn-clause-room
returns-after-loop-turn-clause-room g c = c.loop-turn.invariant.room

pub returns-then-not-tick_front-clause-rows : goal.returns-then-not-tick_front-clause-rows
returns-then-not-tick_front-clause-rows g c =
    let over : front_is_due c.args.t3 c.args.now c.loop-turn.self.rows ≡ false = search rules in
    ticked_ends c.args.t3 c.args.n3 c.args.now c.len-turn-end.result c.loop-turn._turn c.loop-turn.self.rows c.tick_front.new.self.rows _ c.loop-turn.invariant.rows over c.tick_front.ensures.rows

pub returns-then-not-tick_front-clause-room : goal.returns-then-not-tick_front-clause-room
returns-then-not-tick_front-clause-room g c = c.tick_front.ensures.room ∙ c.loop-turn.invariant.room
