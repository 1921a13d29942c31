use Rattle.std.proofs.Common.{◌≡◌, take, subst, arith}
use Rattle.std.specs.List.{All}
use Rattle.std.proofs.lemmas.List.Elements.{All-map}
use Rattle.std.proofs.lemmas.List.{take_all}
use Rattle.gtp_v2.specs.Kinds.{RowsHaveKinds}
use Rattle.gtp_v2.proofs.writing.put_contexts.Goals as goal

pub returns-clause-kinds : goal.returns-clause-kinds
returns-clause-kinds g c =
    let all : take c.loop-context.context-index c.args.contexts.now ≡ c.args.contexts.now = take_all c.loop-context.context-index c.args.contexts.now (omega arith) in
    All-map (RowsHaveKinds g.C.Context.rows) g.C.Context.values c.args.contexts.now
    (subst (All (λ context. RowsHaveKinds g.C.Context.rows (g.C.Context.values context))) all c.loop-context.invariant.1)
