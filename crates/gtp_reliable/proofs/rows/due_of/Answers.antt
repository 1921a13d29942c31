use Rattle.std.proofs.Common.{rules, ◌≡◌, ◌<◌, ◌∙◌, Some, None, length, map, get_or, sym, ap, refl}
use Rattle.std.proofs.lemmas.List.{get_or_default}
use Rattle.gtp_reliable.specs.declared.waiting.NextTick.TheVariants.{WaitsOn, SentAgain, GivenUp}
use Rattle.gtp_reliable.specs.Waiting.{sent_again, given_up}
use Rattle.gtp_reliable.specs.Due.{message_of}
use Rattle.gtp_reliable.specs.Rows.{Sent, seen}
use Rattle.gtp_reliable.proofs.Dues.{quiet_waits, resends_more, resends_same, gives_more, gives_same, told_gap, told_rest, told_all, calm_sends, calm_gives, waits_so}
use Rattle.gtp_reliable.proofs.rows.due_of.Goals.{in-Some+in-SentAgain+in_ok-resend_of-in-SentAgain+in_ok-push-in-SentAgain}
use Rattle.gtp_reliable.proofs.rows.due_of.Goals.{in-Some+in-GivenUp+in_ok-push-in-GivenUp, in_default, else-loop-at-test}
use Rattle.gtp_reliable.proofs.rows.due_of.Goals.{then-loop-at-test+in-Some+in-WaitsOn}
use Rattle.gtp_reliable.proofs.rows.due_of.Goals as goal

pub returns-in_err-resend_of-in-SentAgain-clause-quiet : goal.returns-in_err-resend_of-in-SentAgain-clause-quiet
returns-in_err-resend_of-in-SentAgain-clause-quiet g c = λ all.
    let slots = c.args.slots.now.items in
    let lt : c.loop-at.at < length slots = search rules in
    let row : get_or slots c.loop-at.at None ≡ Some c.in-Some.row = get_or_default slots c.loop-at.at None c.index.result.now lt ∙ (sym c.index.ensures ∙ c.in-Some.is) in
    let waits = quiet_waits c.args.now c.args.t3 c.args.n3 slots c.loop-at.at c.in-Some.row row all in
    let by : SentAgain ≡ WaitsOn = sym c.in-SentAgain.is ∙ (c.next_tick.ensures ∙ waits) in
    absurd cc

pub returns-in_err-push-in-SentAgain-clause-quiet : goal.returns-in_err-push-in-SentAgain-clause-quiet
returns-in_err-push-in-SentAgain-clause-quiet g c = λ all.
    let slots = c.args.slots.now.items in
    let lt : c.loop-at.at < length slots = search rules in
    let row : get_or slots c.loop-at.at None ≡ Some c.in-Some.row = get_or_default slots c.loop-at.at None c.index.result.now lt ∙ (sym c.index.ensures ∙ c.in-Some.is) in
    let waits = quiet_waits c.args.now c.args.t3 c.args.n3 slots c.loop-at.at c.in-Some.row row all in
    let by : SentAgain ≡ WaitsOn = sym c.in-SentAgain.is ∙ (c.next_tick.ensures ∙ waits) in
    absurd cc

pub returns-in_err-push-in-GivenUp-clause-quiet : goal.returns-in_err-push-in-GivenUp-clause-quiet
returns-in_err-push-in-GivenUp-clause-quiet g c = λ all.
    let slots = c.args.slots.now.items in
    let lt : c.loop-at.at < length slots = search rules in
    let row : get_or slots c.loop-at.at None ≡ Some c.in-Some.row = get_or_default slots c.loop-at.at None c.index.result.now lt ∙ (sym c.index.ensures ∙ c.in-Some.is) in
    let waits = quiet_waits c.args.now c.args.t3 c.args.n3 slots c.loop-at.at c.in-Some.row row all in
    let by : GivenUp ≡ WaitsOn = sym c.in-GivenUp.is ∙ (c.next_tick.ensures ∙ waits) in
    absurd cc

pub loop-at-preserved : goal.loop-at-preserved
loop-at-preserved g c =
    let now = c.args.now in
    let t3 = c.args.t3 in
    let n3 = c.args.n3 in
    let slots = c.args.slots.now.items in
    let i = c.loop-at.at in
    let slot = c.index.result.now in
    let lt : i < length slots = search rules in
    let is = c.index.ensures in
    let before = c.loop-at.invariant in
    elim c.match-index.branch [
      | in-Some+in-SentAgain+in_ok-resend_of-in-SentAgain+in_ok-push-in-SentAgain w ↦
          let by = sym w.in-SentAgain.is ∙ w.next_tick.ensures in
          let sent = w.in_ok-resend_of-in-SentAgain.ensures in
          record {
            resend =
                resends_more now t3 n3 slots i slot w.in-Some.row c.loop-at.resend.items c.match-index.resend.items
                w.in_ok-resend_of-in-SentAgain.field-0 lt is w.in-Some.is by before.resend
                (ap (λ v. v.items) w.resend-is ∙ w.in_ok-push-in-SentAgain.ensures.items) sent.0 sent.1 sent.2;
            gave_up = ap (λ v. v.items) w.gave_up-is ∙ (before.gave_up ∙ sym (gives_same now t3 n3 slots i slot w.in-Some.row SentAgain lt is w.in-Some.is by refl));
          }
      | in-Some+in-GivenUp+in_ok-push-in-GivenUp w ↦
          let by = sym w.in-GivenUp.is ∙ w.next_tick.ensures in
          record {
            resend = ap (λ v. map message_of v.items) w.resend-is ∙ (before.resend ∙ sym (resends_same now t3 n3 slots i slot w.in-Some.row GivenUp lt is w.in-Some.is by refl));
            gave_up =
                gives_more now t3 n3 slots i slot w.in-Some.row c.loop-at.gave_up.items c.match-index.gave_up.items w.row.inside.seq
                w.row.inside.purpose lt is w.in-Some.is by before.gave_up (ap (λ v. v.items) w.gave_up-is ∙ w.in_ok-push-in-GivenUp.ensures.items)
                (ap (λ (r : Sent _). r.seq) w.row.view_is) (ap (λ (r : Sent _). r.purpose) w.row.view_is);
          }
      | in_default w ↦
          let none : slot ≡ None = search rules in
          record {
            resend = ap (λ v. map message_of v.items) w.resend-is ∙ (before.resend ∙ sym (told_gap now slots i slot lt is (sent_again t3 n3) none));
            gave_up = ap (λ v. v.items) w.gave_up-is ∙ (before.gave_up ∙ sym (told_gap now slots i slot lt is (given_up t3 n3) none));
          }
    ]

pub returns-clause-resend : goal.returns-clause-resend
returns-clause-resend g c =
    let slots = c.args.slots.now.items in
    let i = c.loop-at.at in
    elim c.loop-at-test.branch [
      | else-loop-at-test w ↦ c.loop-at.invariant.resend ∙ told_all c.args.now (sent_again c.args.t3 c.args.n3) slots i (search rules)
      | then-loop-at-test+in-Some+in-WaitsOn w ↦
          let lt : i < length slots = search rules in
          let row : get_or slots i None ≡ Some w.in-Some.row = get_or_default slots i None w.index.result.now lt ∙ (sym w.index.ensures ∙ w.in-Some.is) in
          c.loop-at.invariant.resend
          ∙ told_rest c.args.now (sent_again c.args.t3 c.args.n3) c.args.t3 (calm_sends c.args.t3 c.args.n3) slots i w.in-Some.row c.requires.turn row
          (waits_so c.args.t3 c.args.n3 (seen c.args.now w.in-Some.row) (sym w.in-WaitsOn.is ∙ w.next_tick.ensures))
    ]

pub returns-clause-gave_up : goal.returns-clause-gave_up
returns-clause-gave_up g c =
    let slots = c.args.slots.now.items in
    let i = c.loop-at.at in
    elim c.loop-at-test.branch [
      | else-loop-at-test w ↦ c.loop-at.invariant.gave_up ∙ told_all c.args.now (given_up c.args.t3 c.args.n3) slots i (search rules)
      | then-loop-at-test+in-Some+in-WaitsOn w ↦
          let lt : i < length slots = search rules in
          let row : get_or slots i None ≡ Some w.in-Some.row = get_or_default slots i None w.index.result.now lt ∙ (sym w.index.ensures ∙ w.in-Some.is) in
          c.loop-at.invariant.gave_up
          ∙ told_rest c.args.now (given_up c.args.t3 c.args.n3) c.args.t3 (calm_gives c.args.t3 c.args.n3) slots i w.in-Some.row c.requires.turn row
          (waits_so c.args.t3 c.args.n3 (seen c.args.now w.in-Some.row) (sym w.in-WaitsOn.is ∙ w.next_tick.ensures))
    ]
