use Rattle.std.proofs.Common.{◌∷◌, Some, sym, rules}
use Rattle.std.specs.Prelude.{IsTrue}
use Rattle.gtp_v2.specs.reading.Headed.{headed_of}
use Rattle.gtp_v2.proofs.Passing.{passing}
use Rattle.gtp_v2.proofs.Lies.{reads_so, viewed_lies}
use Rattle.gtp_v2.proofs.viewing.plain.view_plain.Goals as goal

pub invariant_of-result : goal.invariant_of-result
invariant_of-result c =
    let pass : IsTrue c.passes.result = search rules in
    passing (headed_of c.in-Ok.header) c.in-Ok-indexed_at.elements c.is_some.result (sym c.is_some.ensures) c.in-Ok-indexed_at.ensures.walked (c.passes.ensures pass)

pub returns-clause-message : goal.returns-clause-message
returns-clause-message c =
    reads_so (c.args.first ∷ c.args.kind ∷ c.args.high ∷ c.args.low ∷ c.args.rest.now) (headed_of c.in-Ok.header) (Some c.in-Ok-indexed_at.elements) c.in-Ok.ensures (invariant_of-result c)

pub returns-clause-lies : goal.returns-clause-lies
returns-clause-lies c =
    viewed_lies (c.args.first ∷ c.args.kind ∷ c.args.high ∷ c.args.low ∷ c.args.rest.now) (headed_of c.in-Ok.header) (Some c.in-Ok-indexed_at.elements) c.in-Ok.ensures (invariant_of-result c)
