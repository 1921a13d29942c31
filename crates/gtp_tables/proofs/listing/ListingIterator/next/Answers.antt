use Rattle.std.proofs.Common.{◌≤◌, ℕ, length, sym, ◌∙◌, ap, subst, arith}
use Rattle.std.specs.FinMap.{entries, len-entries}
use Rattle.std.specs.Iterator.{YieldsFirstBy}
use Rattle.std.proofs.Math.ListN.{drop_of_length-le}
use Rattle.gtp_tables.proofs.Listed.{drop_at, drop_none}
use Rattle.gtp_tables.proofs.listing.ListingIterator.next.Goals as goal

pub returns-then-self-len-clause-steps : goal.returns-then-self-len-clause-steps
returns-then-self-len-clause-steps g c =
    let all = c.self.inside.table.now.table in
    let past = subst (λ (n : ℕ). n ≤ c.self.inside.next) (c.len.ensures ∙ len-entries all) c.if-self-len.true in
    let none = sym c.self.view_is ∙ drop_of_length-le (entries all) past in
    (none, none)

pub returns-in_err-entry-clause-steps : goal.returns-in_err-entry-clause-steps
returns-in_err-entry-clause-steps g c =
    let none = sym c.self.view_is ∙ drop_none (entries c.self.inside.table.now.table) c.self.inside.next (sym c.at.ensures ∙ c.in_err-entry.was) in
    subst (λ result. YieldsFirstBy (λ e. e) (λ es. es) c.args.self.now result c.args.self.now) (sym c.from_residual.ensures) (none, none)

pub returns-clause-steps : goal.returns-clause-steps
returns-clause-steps g c = sym c.self.view_is ∙ drop_at (entries c.self.inside.table.now.table) c.self.inside.next c.in_ok-entry.entry (sym c.at.ensures ∙ c.in_ok-entry.was)

pub returns-clause-goes : goal.returns-clause-goes
returns-clause-goes g c =
    let e = sym c.self.view_is ∙ drop_at (entries c.self.inside.table.now.table) c.self.inside.next c.in_ok-entry.entry (sym c.at.ensures ∙ c.in_ok-entry.was) in
    record { on = λ _. (tt, tt, omega (arith, ap length e)); keeps = tt; rests = λ _. tt }
