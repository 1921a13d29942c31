use Rattle.std.proofs.Common.{rules, ◌≡◌, ◌+◌, ◌%◌, ◌^◌, ◌∙◌, ℕ, Some, None, slice_get, ap}
use Rattle.gtp_reliable.specs.declared.waiting.NextTick.TheVariants.{WaitsOn, SentAgain, GivenUp}
use Rattle.gtp_reliable.specs.Waiting.{next_tick}
use Rattle.gtp_reliable.specs.Rows.{Sent, seen, moved, without}
use Rattle.gtp_reliable.proofs.Ticked.{step_none, step_waits, step_again, step_over}
use Rattle.gtp_reliable.proofs.rows.Rows.tick_front.Goals as goal

pub returns-in_default-clause-rows : goal.returns-in_default-clause-rows
returns-in_default-clause-rows g c =
    let none : None ≡ slice_get c.args.self.now.rows 0 = search rules in
    step_none c.args.t3 c.args.n3 c.args.now c.args.self.now.rows none

pub returns-in-WaitsOn-clause-rows : goal.returns-in-WaitsOn-clause-rows
returns-in-WaitsOn-clause-rows g c =
    let some : Some c.in-Some.row.now ≡ slice_get c.args.self.now.rows 0 = search rules in
    let is : next_tick c.args.t3 c.args.n3 (seen c.args.now c.in-Some.row.now) ≡ WaitsOn = search rules in
    step_waits c.args.t3 c.args.n3 c.args.now c.in-Some.row.now c.args.self.now.rows some is

pub returns-in-SentAgain-clause-rows : goal.returns-in-SentAgain-clause-rows
returns-in-SentAgain-clause-rows g c =
    let rows = c.args.self.now.rows in
    let some : Some c.in-Some.row.now ≡ slice_get rows 0 = search rules in
    let is : next_tick c.args.t3 c.args.n3 (seen c.args.now c.in-Some.row.now) ≡ SentAgain = search rules in
    c.front_to_back.ensures.rows
    ∙ (ap (λ (r : Sent _). moved ((c.args.now + 1) % 2 ^ 32) (r.resent + 1) rows) c.row.view_is
    ∙ step_again c.args.t3 c.args.n3 c.args.now c.in-Some.row.now rows some is)

pub returns-in-GivenUp-clause-rows : goal.returns-in-GivenUp-clause-rows
returns-in-GivenUp-clause-rows g c =
    let rows = c.args.self.now.rows in
    let some : Some c.in-Some.row.now ≡ slice_get rows 0 = search rules in
    let is : next_tick c.args.t3 c.args.n3 (seen c.args.now c.in-Some.row.now) ≡ GivenUp = search rules in
    c.finish.ensures.rows
    ∙ (ap (λ (n : ℕ). without n rows) (c.number-number.ensures.value ∙ ap (λ (r : Sent _). r.seq) c.row.view_is)
    ∙ step_over c.args.t3 c.args.n3 c.args.now c.in-Some.row.now rows some c.front.ensures.always is)
