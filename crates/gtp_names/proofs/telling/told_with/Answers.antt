use Rattle.std.proofs.Common.{rules, ap, sym, ◌≡◌, ◌∙◌, ℕ, map, List, Option, Some}
use Rattle.gtp_forms.specs.Event.{Event}
use Rattle.gtp_forms.specs.Told.{event_of}
use Rattle.gtp_forms.specs.Reading.{told_by}
use Rattle.gtp_names.specs.Parts.{tables_in}
use Rattle.gtp_names.specs.Telling.{told_with}
use Rattle.gtp_names.proofs.telling.told_with.Goals as goal

pub returns : goal.returns
returns c =
    let told : map event_of c.in_ok-told.told.items ≡ told_by (tables_in c.args.names.now) c.in-Some.form c.args.body.now = search rules in
    ap (λ (events : List Event). Some events) told ∙ ap (λ (form : Option ℕ). told_with c.args.names.now form c.args.body.now) (sym c.in-Some.is)
