use Rattle.std.proofs.Common.{◌∙◌, Bool, ap, sym}
use Rattle.std.specs.FinMap.{get}
use Rattle.gtp_tables.specs.declared.context.Bearer.{Bearer}
use Rattle.gtp_values.specs.FiniteMap.{FiniteMap}
use Rattle.gtp_tables.specs.Contexts.{Contexts, are_seen}
use Rattle.gtp_tables.proofs.Seen.{seen_bearers, stands_kept, gone_kept, none_kept}
use Rattle.gtp_tables.proofs.view.View.bearer.Goals as goal
use Rattle.gtp_tables.proofs.view.View.bearer.Goals.{in_default-via-in-Some+else-are_seen, in_default-via-in_default}

pub returns-in-Some : goal.returns-in-Some
returns-in-Some c =
    let all : Contexts = record { sessions = c.self.inside.sessions.now.table; bearers = c.self.inside.bearers.now } in
    let test : Bearer → Bool = λ b. are_seen c.self.inside.restarted (get all.sessions b.session) in
    let t = c.args.teid in
    sym (ap (λ (k : Contexts). get k.bearers t) (sym c.self.view_is)
    ∙ (ap (λ (m : FiniteMap Bearer). get m t) (seen_bearers c.self.inside.restarted all)
    ∙ stands_kept test all.bearers t c.in-Some.bearer (sym c.in-Some.ensures) (sym c.are_seen.ensures ∙ c.if-are_seen.true)))

pub returns-in_default : goal.returns-in_default
returns-in_default c =
    let all : Contexts = record { sessions = c.self.inside.sessions.now.table; bearers = c.self.inside.bearers.now } in
    let test : Bearer → Bool = λ b. are_seen c.self.inside.restarted (get all.sessions b.session) in
    let t = c.args.teid in
    sym (ap (λ (k : Contexts). get k.bearers t) (sym c.self.view_is)
    ∙ (ap (λ (m : FiniteMap Bearer). get m t) (seen_bearers c.self.inside.restarted all)
    ∙ elim c.in_default.branch [
      | in_default-via-in-Some+else-are_seen w ↦ gone_kept test all.bearers t w.in-Some.bearer (sym w.in-Some.ensures) (sym w.are_seen.ensures ∙ w.if-are_seen.false)
      | in_default-via-in_default w ↦ none_kept test all.bearers t (sym w.in_default.ensures)
    ]))
