use Rattle.std.proofs.Common.{List, ℕ, Bor, ◌∙◌, bytes_eq, rules, tests}
use Rattle.std.proofs.lemmas.Iterator.{YieldsList-from_slice}
use Rattle.std.proofs.lemmas.Iterator.Search.{any_from_yields_List}
use Rattle.gtp_scenario.proofs.Among.{any_among}
use Rattle.gtp_scenario.proofs.members.is_among.Goals as goal

pub returns : goal.returns
returns c =
    let text = λ (k : Bor (List ℕ)). k.now in
    any_from_yields_List (λ known. bytes_eq c.args.key.now (text known)) _ _ _ c.any.ensures.ran (YieldsList-from_slice c.args.keys.now cc) (λ x b q k. search (rules, tests))
    ∙ any_among text c.args.key.now c.args.keys.now
