use Rattle.std.proofs.Common.{◌≡◌, None, sym, ap, ◌∙◌, arith}
use Rattle.serde_json.specs.Read.{read}
use Rattle.gtp_scenario.proofs.Front.{json_is}
use Rattle.gtp_scenario.proofs.reason.not_json.json_flaw.Goals as goal

pub unreachable-requires : goal.unreachable-requires
unreachable-requires c =
    let octets = c.args.octets.now in
    let is_text = c.in-Ok.ensures.cases in
    let none : read c.in-Ok.text.now ≡ None = ap read is_text.0 ∙ sym (json_is octets (omega arith) is_text.1) ∙ c.requires in
    let both = sym none ∙ c.in-Ok-from_str.ensures.ok in
    cc
