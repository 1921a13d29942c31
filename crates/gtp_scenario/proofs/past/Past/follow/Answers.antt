use Rattle.std.proofs.Common.{◌≡◌, suc, ◌+◌, ◌∷◌, map, drop, sym, ap, subst, ◌∙◌, arith}
use Rattle.std.proofs.Math.Seq.{drop-cons}
use Rattle.std.specs.List.{flat_map}
use Rattle.gtp_scenario.specs.Entries.{events_in}
use Rattle.gtp_scenario.specs.Past.{Happen}
use Rattle.gtp_scenario.specs.Views.{entry, past}
use Rattle.gtp_scenario.proofs.Happened.{happen_on}
use Rattle.gtp_scenario.proofs.past.Past.follow.Goals as goal

pub loop-entry-preserved : goal.loop-entry-preserved
loop-entry-preserved c new rest =
    let l = c.loop-entry in
    let entries = c.args.entries.now in
    let e = c.entry-item.result in
    let next : suc l.entry-index ≡ l.entry-index + 1 = omega arith in
    let cons : drop l.entry-index entries ≡ e ∷ drop (l.entry-index + 1) entries =
    drop-cons entries l.entry-index e c.loop-entry-test.true ∙ ((λ i. sym c.entry-item.is i ∷ drop (next i) entries)) in
    l.invariant new (subst (λ es. Happen (past l.self) (flat_map events_in (map entry es)) new) (sym cons)
    (happen_on (past l.self) (events_in (entry e)) (past c.repeat.new.self) _ new c.in_ok-repeat.ensures rest))
