use Rattle.std.proofs.Common.{◌≡◌, ◌++◌, length, map}
use Rattle.std.specs.List.{AllByRecursion}
use Rattle.gtp_values.specs.Apn.{apn_text, IsApnText}
use Rattle.gtp_c.specs.Names.{words_of}
use Rattle.gtp_c.proofs.names.access_points_of.Given as goal

abbrev pub invariant-loop-names : goal.invariant-loop-names
invariant-loop-names l = (map apn_text l.names.items ++ words_of l.rest ≡ words_of l.octets) × AllByRecursion IsApnText (map apn_text l.names.items)

abbrev pub decreases-loop-names : goal.decreases-loop-names
decreases-loop-names l = length (words_of l.rest)
