use Rattle.std.proofs.Common.{◌∙◌, bytes_eq, rules, tests}
use Rattle.std.proofs.lemmas.Iterator.{YieldsList-from_slice}
use Rattle.std.proofs.lemmas.Iterator.Search.{any_from_yields_List}
use Rattle.gtp_scenario.specs.Keys.{key_text}
use Rattle.gtp_scenario.proofs.Among.{any_among}
use Rattle.gtp_scenario.proofs.reason.flaw.is_key.Goals as goal

pub returns : goal.returns
returns c =
    any_from_yields_List (λ key. bytes_eq c.args.text.now (key_text key)) _ _ _ c.any.ensures.ran (YieldsList-from_slice c.args.keys.now cc) (λ x b q k. search (rules, tests))
    ∙ any_among key_text c.args.text.now c.args.keys.now
