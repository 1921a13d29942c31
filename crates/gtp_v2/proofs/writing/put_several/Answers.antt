use Rattle.std.proofs.Common.{◌≡◌, ◌++◌, ◌+◌, map, take, subst, arith}
use Rattle.std.specs.List.{All}
use Rattle.std.proofs.lemmas.Grind.{common_steps}
use Rattle.std.proofs.lemmas.List.Elements.{All-map, All-more}
use Rattle.std.proofs.lemmas.List.{take_all}
use Rattle.gtp_v2.specs.Kinds.{HasKind}
use Rattle.gtp_v2.specs.Text.{several_encoding}
use Rattle.gtp_v2.proofs.writing.put_several.Goals as goal

pub loop-value-preserved : goal.loop-value-preserved
unfolding several_encoding
loop-value-preserved g c =
    let i = c.loop-value.value-index in
    let text : c.put_value.new.out.items ≡ c.args.out.now.items ++ several_encoding g.T.IeValue.KIND c.args.instance (map g.T.IeValue.value (take (i + 1) c.args.values.now)) =
    grind (arith, common_steps) in
    let kind = g.T.IeValue.KIND in (
      text,
      All-more (λ value. HasKind kind (g.T.IeValue.value value)) c.args.values.now i c.value-item.result c.loop-value-test.true c.loop-value.invariant.1
          (subst (λ value. HasKind kind (g.T.IeValue.value value)) c.value-item.is c.in_ok-put_value.ensures.again),
    )

pub returns-clause-kinds : goal.returns-clause-kinds
returns-clause-kinds g c =
    let all : take c.loop-value.value-index c.args.values.now ≡ c.args.values.now = take_all c.loop-value.value-index c.args.values.now (omega arith) in
    All-map (HasKind g.T.IeValue.KIND) g.T.IeValue.value c.args.values.now (subst (All (λ value. HasKind g.T.IeValue.KIND (g.T.IeValue.value value))) all c.loop-value.invariant.1)
