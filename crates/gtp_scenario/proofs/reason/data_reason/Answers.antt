use Rattle.std.proofs.Common.{Some, subst}
use Rattle.gtp_scenario.specs.Reasons.{IsExplained}
use Rattle.gtp_scenario.specs.Scenarios.{head_in, IsReadOn, IsReadIn}
use Rattle.gtp_scenario.specs.Steps.{IsNone}
use Rattle.gtp_scenario.specs.Trees.{view}
use Rattle.gtp_scenario.specs.Views.{head}
use Rattle.gtp_scenario.proofs.Explaining.{if_ok, explains_on}
use Rattle.gtp_scenario.proofs.reason.data_reason.Goals as goal

pub bad_head-requires : goal.bad_head-requires
bad_head-requires c = subst (λ fault. IsNone fault (head_in (view c.args.value.now))) c.in-Err-Wrong.field-0-is c.in-Err-Wrong.ensures

pub returns-in-Ok-clause-refusal : goal.returns-in-Ok-clause-refusal
returns-in-Ok-clause-refusal c =
    let d = view c.args.value.now in
    if_ok c.list_reason.result (IsExplained (IsReadOn (head c.in-Ok.head))) (IsExplained (IsReadIn (head_in d)))
    (λ reason e. explains_on d (head c.in-Ok.head) reason c.in-Ok.ensures e) c.list_reason.ensures.refusal
