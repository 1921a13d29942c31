use Rattle.std.proofs.Common.{rules, ◌≡◌, ◌∙◌, Some, None, not, sym, ap, option_map}
use Rattle.gtp_reliable.specs.Pending.{Requests, is_pending, others}
use Rattle.gtp_reliable.specs.Rows.{Sent, row_of}
use Rattle.gtp_reliable.proofs.Requests.{stays_by, other_pending}
use Rattle.gtp_reliable.proofs.Told.{waiting_of, purpose_is}
use Rattle.gtp_reliable.proofs.pending.Pending.is_other.Goals as goal

pub returns-in-Some : goal.returns-in-Some
returns-in-Some g c =
    let rows = c.self.inside.rows.rows in
    let now = c.self.inside.ticks in
    let there : Some c.in-Some.row.now ≡ row_of c.args.number rows = search rules in
    ap not (c.requires.1.1.1 c.in-Some.row.now.purpose c.meets.result c.meets.ensures)
    ∙ (ap (stays_by g.meets) (ap (option_map (λ (r : Sent _). r.purpose)) there ∙ purpose_is now rows c.args.number c.self.invariant.0.distinct)
    ∙ (sym (other_pending g.meets c.args.number (waiting_of now rows) c.self.invariant.0.distinct)
    ∙ ap (λ (v : Requests _). is_pending c.args.number (others g.meets v.waiting)) c.self.view_is))

pub returns-in-None : goal.returns-in-None
returns-in-None g c =
    let rows = c.self.inside.rows.rows in
    let now = c.self.inside.ticks in
    let none : None ≡ row_of c.args.number rows = search rules in
    ap (stays_by g.meets) (ap (option_map (λ (r : Sent _). r.purpose)) none ∙ purpose_is now rows c.args.number c.self.invariant.0.distinct)
    ∙ (sym (other_pending g.meets c.args.number (waiting_of now rows) c.self.invariant.0.distinct)
    ∙ ap (λ (v : Requests _). is_pending c.args.number (others g.meets v.waiting)) c.self.view_is)
