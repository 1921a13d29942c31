use Rattle.std.proofs.Common.{◌≡◌, ◌<◌, ◌≤◌, ◌∙◌, ℕ, length, sym, ap, subst, arith, inl, inr}
use Rattle.std.specs.Prelude.{not}
use Rattle.std.proofs.lemmas.Bool.{cases_lt}
use Rattle.gtp_reliable.specs.Pending.{Requests, numbers, others, IsNextFree}
use Rattle.gtp_reliable.specs.Rows.{others_of}
use Rattle.gtp_reliable.proofs.Lists.{fewer_filter}
use Rattle.gtp_reliable.proofs.Numbers.{IsReached, reached_first, reached_next, reached_free}
use Rattle.gtp_reliable.proofs.Told.{waiting_of, others_count}
use Rattle.gtp_reliable.proofs.pending.Pending.next_without.Goals.{else-is_full-via-then-is_full+else-count_others-ge-MOST, else-is_full-via-else-is_full}
use Rattle.gtp_reliable.proofs.pending.Pending.next_without.Goals as goal

few_others : (others all : ℕ) → others ≤ all → all ≤ 256 → others ≤ 256
few_others others all fewer few = omega (arith, fewer, few)

pub loop-number-init : goal.loop-number-init
loop-number-init g c =
    let ws = waiting_of c.self.inside.ticks c.self.inside.rows.rows in
    subst (λ (v : Requests _). IsReached v.next (others g.meets v.waiting) c.self.inside.next) c.self.view_is
    (reached_first c.self.inside.next (others g.meets ws) c.self.invariant.0.next
    (few_others _ _ (fewer_filter (λ w. not (g.meets w.purpose)) ws) c.self.invariant.0.count))

pub loop-number-smaller : goal.loop-number-smaller
loop-number-smaller g c =
    let small = subst (λ (v : Requests _). v.next < numbers) c.self.view_is c.self.invariant.0.next in
    let on = reached_next c.args.self.now.next (others g.meets c.args.self.now.waiting) c.loop-number.number small c.loop-number.invariant (sym c.is_other.ensures ∙ c.loop-number-test.true) in
    rw c.following-number.ensures on.fewer

pub loop-number-preserved : goal.loop-number-preserved
loop-number-preserved g c =
    let small = subst (λ (v : Requests _). v.next < numbers) c.self.view_is c.self.invariant.0.next in
    let on = reached_next c.args.self.now.next (others g.meets c.args.self.now.waiting) c.loop-number.number small c.loop-number.invariant (sym c.is_other.ensures ∙ c.loop-number-test.true) in
    subst (λ n. IsReached c.args.self.now.next (others g.meets c.args.self.now.waiting) n) (sym c.following-number.ensures) on.reached

pub returns-clause-some : goal.returns-clause-some
returns-clause-some g c =
    let small = subst (λ (v : Requests _). v.next < numbers) c.self.view_is c.self.invariant.0.next in
    let free = sym c.is_other.ensures ∙ c.loop-number-test.false in
    subst (λ n. IsNextFree c.args.self.now.next (others g.meets c.args.self.now.waiting) n) (sym c.new.ensures)
    (reached_free c.args.self.now.next (others g.meets c.args.self.now.waiting) c.loop-number.number small c.loop-number.invariant free)

pub returns-then-count_others-ge-MOST-clause-none : goal.returns-then-count_others-ge-MOST-clause-none
returns-then-count_others-ge-MOST-clause-none g c =
    let all : length (others g.meets c.args.self.now.waiting) ≡ length (others_of g.meets c.self.inside.rows.rows) =
    ap (λ (v : Requests _). length (others g.meets v.waiting)) (sym c.self.view_is) ∙ others_count c.self.inside.ticks c.self.inside.rows.rows g.meets in
    omega (arith, all, c.count_others.ensures, c.if-count_others-ge-MOST.true)

pub returns-clause-few : goal.returns-clause-few
returns-clause-few g c = elim c.else-is_full.branch [
  | else-is_full-via-then-is_full+else-count_others-ge-MOST w ↦
      let all : length (others g.meets c.args.self.now.waiting) ≡ length (others_of g.meets c.self.inside.rows.rows) =
      ap (λ (v : Requests _). length (others g.meets v.waiting)) (sym c.self.view_is) ∙ others_count c.self.inside.ticks c.self.inside.rows.rows g.meets in
      omega (arith, all, w.count_others.ensures, w.if-count_others-ge-MOST.false)
  | else-is_full-via-else-is_full w ↦
      let fewer = fewer_filter (λ w. not (g.meets w.purpose)) c.args.self.now.waiting in
      elim (cases_lt (length c.args.self.now.waiting) 256) [
        | inl few ↦ omega (arith, fewer, few)
        | inr many ↦ absurd (let full = c.is_full.ensures.full.1 many in let no = w.if-is_full.false in cc)
      ]
]
