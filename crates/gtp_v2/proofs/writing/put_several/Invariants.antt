use Rattle.std.proofs.Common.{◌≡◌, ◌++◌, map, take}
use Rattle.std.specs.List.{All}
use Rattle.gtp_v2.specs.Text.{several_encoding}
use Rattle.gtp_v2.specs.Kinds.{HasKind}
use Rattle.gtp_v2.proofs.writing.put_several.Given as goal

abbrev pub invariant-loop-value : goal.invariant-loop-value
invariant-loop-value g l =
    (l.out.items ≡ l.fn.out.items ++ several_encoding g.T.IeValue.KIND l.instance (map g.T.IeValue.value (take l.value-index l.values)))
    × All (λ x. HasKind g.T.IeValue.KIND (g.T.IeValue.value x)) (take l.value-index l.values)
