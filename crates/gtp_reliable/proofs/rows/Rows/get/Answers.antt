use Rattle.std.proofs.Common.{rules, ◌≡◌, ◌∙◌, sym, ap, Some, None, option_map, nat_eq, get_or, arith}
use Rattle.std.specs.Map.{lookup}
use Rattle.std.proofs.lemmas.List.{get_or_default}
use Rattle.gtp_reliable.specs.Rows.{Queued, row_of, rows_of}
use Rattle.gtp_reliable.proofs.Slots.{IsAt, slot_at, row_none}
use Rattle.gtp_reliable.proofs.rows.Rows.get.Goals as goal

pub returns-in_err-slot : goal.returns-in_err-slot
returns-in_err-slot g c =
    let slots = c.self.inside.slots.items in
    let none : lookup (nat_eq c.args.number) c.self.inside.names.entries ≡ None = search rules in
    let row : row_of c.args.number (rows_of slots) ≡ None = row_none c.args.number c.self.inside.first slots (sym (c.self.invariant.names c.args.number) ∙ none) in
    let result : c.from_residual.result ≡ None = search rules in
    ap (option_map (λ r. r.now)) result ∙ (sym row ∙ ap (λ (q : Queued _). row_of c.args.number q.rows) c.self.view_is)

pub index-requires : goal.index-requires
index-requires g c =
    let slots = c.self.inside.slots.items in
    let found : lookup (nat_eq c.args.number) c.self.inside.names.entries ≡ Some c.in_ok-slot.slot.now = search rules in
    let at : IsAt c.args.number c.self.inside.first c.in_ok-slot.slot.now slots =
    slot_at c.args.number c.self.inside.first c.in_ok-slot.slot.now slots (omega arith) (omega arith)
    (sym (c.self.invariant.names c.args.number) ∙ found) in
    omega (arith, c.place_of.ensures, at.within)

pub returns : goal.returns
returns g c =
    let slots = c.self.inside.slots.items in
    let found : lookup (nat_eq c.args.number) c.self.inside.names.entries ≡ Some c.in_ok-slot.slot.now = search rules in
    let at : IsAt c.args.number c.self.inside.first c.in_ok-slot.slot.now slots =
    slot_at c.args.number c.self.inside.first c.in_ok-slot.slot.now slots (omega arith) (omega arith)
    (sym (c.self.invariant.names c.args.number) ∙ found) in
    let is : option_map (λ r. r.now) c.as_ref.result ≡ c.index.result.now = search rules in
    is ∙ (c.index.ensures ∙ (ap (λ i. get_or slots i c.index.result.now) c.place_of.ensures ∙ (get_or_default slots _ c.index.result.now None at.within ∙ (at.is ∙ (sym at.row
    ∙ ap (λ (q : Queued _). row_of c.args.number q.rows) c.self.view_is)))))
