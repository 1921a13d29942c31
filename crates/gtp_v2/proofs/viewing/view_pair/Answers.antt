use Rattle.std.proofs.Common.{◌≡◌, ◌∙◌, ◌+◌, ◌-◌, ◌*◌, ◌≤◌, length, take, drop, Some, sym, ap, subst, arith}
use Rattle.gtp_v2.specs.Pair.{LiesIn, LieIn}
use Rattle.gtp_v2.proofs.Pairs.{opened}
use Rattle.gtp_v2.proofs.Lies.{lie_both}
use Rattle.gtp_v2.proofs.viewing.view_pair.Goals as goal

pub returns-clause-lie : goal.returns-clause-lie
returns-clause-lie c =
    let n : c.from-stated.result ≡ 256 * c.args.high + c.args.low = omega (arith, c.from-stated.ensures, c.read_u16.ensures) in
    let le : 256 * c.args.high + c.args.low ≤ length c.args.held.now = omega (arith, n, c.if-held-stated.false) in
    let front : c.split_at.result.0.now ≡ take (256 * c.args.high + c.args.low) c.args.held.now = c.split_at.ensures.front ∙ ap (λ k. take k c.args.held.now) n in
    let back : c.split_at.result.1.now ≡ drop (256 * c.args.high + c.args.low) c.args.held.now = c.split_at.ensures.back ∙ ap (λ k. drop k c.args.held.now) n in
    let v = c.with_second in
    let lie : LieIn (opened c.args.first c.args.kind c.args.high c.args.low c.args.held.now) c.in-Ok.view (Some c.in-Ok-view_second.view) c.split_at.result.1.now =
    subst (λ ys. LieIn (opened c.args.first c.args.kind c.args.high c.args.low c.args.held.now) c.in-Ok.view (Some c.in-Ok-view_second.view) ys) (sym back)
    (lie_both c.args.first c.args.kind c.args.high c.args.low c.args.held.now c.requires.announces le c.in-Ok.view c.in-Ok-view_second.view
    (subst (λ xs. LiesIn (opened (c.args.first - 16) c.args.kind c.args.high c.args.low xs) c.in-Ok.view) front c.in-Ok.ensures.lies)
    (subst (λ ys. LiesIn ys c.in-Ok-view_second.view) back c.in-Ok-view_second.ensures.lies)) in
    subst (λ ys. LieIn (opened c.args.first c.args.kind c.args.high c.args.low c.args.held.now) v.result.message v.result.second ys) (sym v.ensures.back)
    (subst (λ s. LieIn (opened c.args.first c.args.kind c.args.high c.args.low c.args.held.now) v.result.message s c.split_at.result.1.now) (sym v.ensures.second)
    (subst (λ m. LieIn (opened c.args.first c.args.kind c.args.high c.args.low c.args.held.now) m (Some c.in-Ok-view_second.view) c.split_at.result.1.now) (sym v.ensures.message) lie))
