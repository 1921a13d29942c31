use Rattle.std.proofs.Common.{◌≡◌, Some, IfSome, sym, ap, subst, ◌∙◌, refl}
use Rattle.gtp_scenario.specs.declared.reason.Reason.TheVariants as reasons
use Rattle.gtp_scenario.specs.Reasons.{IsExplained, IsSaid, IsSo}
use Rattle.gtp_scenario.specs.Scenarios.{json_of, head_in, IsReadIn, IsReading}
use Rattle.gtp_scenario.specs.Steps.{IsNone}
use Rattle.gtp_scenario.specs.Trees.{view}
use Rattle.gtp_scenario.proofs.Explaining.{if_ok, if_some, explains_json, explains_data, so}
use Rattle.gtp_scenario.proofs.reason.reason_of.Goals as goal

pub returns-in-Ok-clause-refusal : goal.returns-in-Ok-clause-refusal
returns-in-Ok-clause-refusal c =
    let octets = c.args.octets.now in
    let d = view c.root.result in
    let json : json_of octets ≡ Some d = c.in-Ok.ensures ∙ ap (λ ts. Some (view ts)) (sym c.root.ensures) in
    if_ok c.data_reason.result (IsExplained (IsReadIn (head_in d))) (IsExplained (IsReading octets)) (λ reason e. explains_data octets d reason json e) c.data_reason.ensures.refusal

pub returns-in-Ok-clause-so : goal.returns-in-Ok-clause-so
returns-in-Ok-clause-so c =
    let octets = c.args.octets.now in
    let d = view c.root.result in
    let json : json_of octets ≡ Some d = c.in-Ok.ensures ∙ ap (λ ts. Some (view ts)) (sym c.root.ensures) in
    if_ok c.data_reason.result (λ reason. IfSome reason (IsSaid d)) (λ reason. IfSome reason (IsSo octets))
    (λ reason s. if_some reason (IsSaid d) (IsSo octets) (λ r said. so octets d r json said) s) c.data_reason.ensures.so

pub returns-in-Err-Wrong-clause-refusal : goal.returns-in-Err-Wrong-clause-refusal
returns-in-Err-Wrong-clause-refusal c =
    let none = subst (λ fault. IsNone fault (json_of c.args.octets.now)) c.in-Err-Wrong.field-0-is c.in-Err-Wrong.ensures in
    explains_json c.args.octets.now (reasons.Json c.in_ok-json_flaw-in-Err-Wrong.field-0) none refl
