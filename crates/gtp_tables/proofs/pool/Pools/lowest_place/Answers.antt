use Rattle.std.proofs.Common.{ℕ, ◌*◌, List, Bool, arith}
use Rattle.std.specs.List.{list_any}
use Rattle.gtp_tables.specs.Contexts.{takes}
use Rattle.gtp_tables.specs.Free.{count_of, address_at}
use Rattle.gtp_tables.proofs.Windows.{lower, lowest_in_window}
use Rattle.gtp_tables.proofs.pool.Pools.lowest_place.Goals as goal

pub returns-in-Some : goal.returns-in-Some
returns-in-Some c =
    let taken : List ℕ → Bool = λ a. list_any (takes c.args.restarted c.args.version a) c.args.sessions.now in
    lowest_in_window taken (address_at c.args.self.now c.args.version) (address_at c.window-window.result c.args.version) (c.loop-turn.turn * 1024)
    (count_of c.window-window.result c.args.version) (count_of c.args.self.now c.args.version) c.in-Some.place c.window-window.ensures.places
    (omega (arith, c.window-window.ensures.count, c.if-first-count.false, c.count_of-count.ensures.value))
    (λ q below. c.loop-turn.invariant q (omega (arith, below)) (omega (arith, below, c.if-first-count.false, c.count_of-count.ensures.value)))
    c.in-Some.ensures

pub loop-turn-preserved : goal.loop-turn-preserved
loop-turn-preserved c = λ p lt in_pool.
    let taken : List ℕ → Bool = λ a. list_any (takes c.args.restarted c.args.version a) c.args.sessions.now in
    lower taken (address_at c.args.self.now c.args.version) (address_at c.window-window.result c.args.version) (c.loop-turn.turn * 1024)
    (count_of c.window-window.result c.args.version) (count_of c.window-window.result c.args.version) c.window-window.ensures.places (omega (arith))
    (λ q below. c.loop-turn.invariant q (omega (arith, below)) (omega (arith, below, c.if-first-count.false, c.count_of-count.ensures.value)))
    c.in_default.ensures p (omega (arith, lt, in_pool, c.window-window.ensures.count))
