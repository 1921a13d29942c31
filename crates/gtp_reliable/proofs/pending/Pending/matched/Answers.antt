use Rattle.std.proofs.Common.{rules, ◌≡◌, ◌∙◌, Some, None, ap, option_map}
use Rattle.gtp_reliable.specs.Pending.{Requests, purpose_of}
use Rattle.gtp_reliable.specs.Rows.{Sent, row_of}
use Rattle.gtp_reliable.proofs.Told.{purpose_is}
use Rattle.gtp_reliable.proofs.pending.Pending.matched.Goals as goal

pub returns-in-Some : goal.returns-in-Some
returns-in-Some g c =
    let rows = c.self.inside.rows.rows in
    let there : Some c.in-Some.row.now ≡ row_of c.args.seq rows = search rules in
    ap (λ (r : Sent _). Some r.purpose) c.row.view_is
    ∙ (ap (option_map (λ (r : Sent _). r.purpose)) there
    ∙ (purpose_is c.self.inside.ticks rows c.args.seq c.self.invariant.0.distinct
    ∙ ap (λ (v : Requests _). purpose_of c.args.seq v.waiting) c.self.view_is))

pub returns-in-None : goal.returns-in-None
returns-in-None g c =
    let rows = c.self.inside.rows.rows in
    let none : None ≡ row_of c.args.seq rows = search rules in
    ap (option_map (λ (r : Sent _). r.purpose)) none
    ∙ (purpose_is c.self.inside.ticks rows c.args.seq c.self.invariant.0.distinct
    ∙ ap (λ (v : Requests _). purpose_of c.args.seq v.waiting) c.self.view_is)
