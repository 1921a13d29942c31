use Rattle.std.proofs.Common.{ap, sym, subst, ◌∙◌, arith}
use Rattle.serde_json.specs.Read.{read}
use Rattle.gtp_scenario.specs.Steps.{Gives}
use Rattle.gtp_scenario.specs.Trees.{view}
use Rattle.gtp_scenario.proofs.Front.{json_is, json_is_none}
use Rattle.gtp_scenario.proofs.scenario.json_of.Goals as goal

pub returns-in-Ok : goal.returns-in-Ok
returns-in-Ok c =
    let octets = c.args.octets.now in
    let is_text = c.in-Ok.ensures.cases in
    subst (Gives view c.tape_of.result) (ap read is_text.0 ∙ sym (json_is octets (omega arith) is_text.1)) c.tape_of.ensures

pub returns-in-Err : goal.returns-in-Err
returns-in-Err c = json_is_none c.args.octets.now c.in-Err.ensures.cases.0
