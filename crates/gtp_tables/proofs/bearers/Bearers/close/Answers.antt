use Rattle.std.proofs.Common.{◌∙◌, cond, Option, ap, sym, nat_eq}
use Rattle.std.specs.Option.{option_map}
use Rattle.std.specs.FinMap.{get}
use Rattle.gtp_values.specs.FiniteMap.{FiniteMap}
use Rattle.gtp_tables.specs.declared.context.Bearer.{Bearer}
use Rattle.gtp_tables.specs.BySession.{shut}
use Rattle.gtp_tables.proofs.Named.{get_inserted}
use Rattle.gtp_tables.proofs.bearers.Bearers.close.Goals as goal

pub returns-in-Some : goal.returns-in-Some
returns-in-Some c = λ o.
    let now = c.args.self.now in
    ap (λ (m : FiniteMap Bearer). get m o) c.replace.ensures
    ∙ (get_inserted now c.args.teid (shut c.in-Some.bearer) o
    ∙ ap (λ (x : Option Bearer). cond (nat_eq c.args.teid o) x (get now o)) (sym (ap (option_map shut) (sym c.get.ensures ∙ c.in-Some.is))))
