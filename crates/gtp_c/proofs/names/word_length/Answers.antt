use Rattle.std.proofs.Common.{rules, tests, ◌∙◌, ◌==◌, ap, length}
use Rattle.std.specs.Option.{unwrap_or}
use Rattle.std.proofs.lemmas.Iterator.{YieldsList-from_slice}
use Rattle.std.proofs.lemmas.Iterator.Search.{position_from_yields_List}
use Rattle.std.proofs.lemmas.List.Sums.{prefix_len-le-length}
use Rattle.gtp_values.proofs.NamesAsText.{found_or_end}
use Rattle.gtp_c.specs.Names.{word_length}
use Rattle.gtp_c.proofs.names.word_length.Goals as goal

pub returns-clause-value : goal.returns-clause-value
returns-clause-value c =
    let octets = c.args.octets.now in
    let found = position_from_yields_List (λ octet. octet == 44) _ _ c.position.result c.position.ensures.ran (YieldsList-from_slice octets cc) (λ x b q k. search (rules, tests)) in
    c.unwrap_or.ensures ∙ (ap (λ place. unwrap_or place (length octets)) found ∙ found_or_end (word_length octets) (length octets) (prefix_len-le-length _ octets))
