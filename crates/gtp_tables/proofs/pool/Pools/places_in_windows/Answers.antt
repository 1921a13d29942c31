use Rattle.std.proofs.Common.{arith}
use Rattle.gtp_tables.specs.Free.{V4, V6}
use Rattle.gtp_tables.specs.Lowest.{IsLowestPlace, place_in}
use Rattle.gtp_tables.proofs.Lowest.{one_more_marked, none_marked, found_by_marks, of_both}
use Rattle.gtp_tables.proofs.pool.Pools.places_in_windows.Goals as goal

pub loop-session-init : goal.loop-session-init
loop-session-init c = (
  λ p lt. none_marked p (omega (arith, lt, c.requires V4)),
  λ p lt. none_marked p (omega (arith, lt, c.requires V6)),
)

pub loop-session-preserved : goal.loop-session-preserved
loop-session-preserved c =
    let l = c.loop-session in
    let sessions = c.args.sessions.now in (
      one_more_marked c.args.restarted V4 c.args.self.now sessions l.session-index c.session-item.result l.v4 c.mark.new.marks c.loop-session-test.true c.session-item.is l.invariant.0 c.mark.ensures,
      one_more_marked c.args.restarted V6 c.args.self.now sessions l.session-index c.session-item.result l.v6 c.mark-in-loop-session.new.marks
          c.loop-session-test.true c.session-item.is l.invariant.1 c.mark-in-loop-session.ensures,
    )

pub returns : goal.returns
returns c =
    let l = c.loop-session in
    let sessions = c.args.sessions.now in
    of_both (λ version. IsLowestPlace c.args.restarted version c.args.self.now sessions (place_in (record { v4 = c.first_free.result; v6 = c.first_free-2.result }) version))
    (found_by_marks c.args.restarted V4 c.args.self.now sessions l.session-index l.v4 c.loop-session-test.false l.invariant.0 c.first_free.result c.first_free.ensures)
    (found_by_marks c.args.restarted V6 c.args.self.now sessions l.session-index l.v6 c.loop-session-test.false l.invariant.1 c.first_free-2.result c.first_free-2.ensures)
