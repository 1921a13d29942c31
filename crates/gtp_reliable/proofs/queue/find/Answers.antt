use Rattle.std.proofs.Common.{◌≡◌, ◌<◌, length, ap, sym, ◌∙◌, arith}
use Rattle.gtp_reliable.specs.Held.{Question}
use Rattle.gtp_reliable.specs.Order.{question_cmp}
use Rattle.gtp_reliable.specs.Index.{asked, question, questions, named_at}
use Rattle.gtp_reliable.proofs.Order.{question_exact}
use Rattle.gtp_reliable.proofs.Halving.{named_is, below_lower, above_higher, same_count}
use Rattle.gtp_reliable.proofs.queue.find.Goals as goal

pub halve-requires-clause-lower : goal.halve-requires-clause-lower
halve-requires-clause-lower c =
    let q = question c.args.source c.args.request.now in
    let at : c.place_of.result < length c.args.pairs.now.items =
    omega (arith, c.place_of.ensures, same_count c.args.pairs.now.items, c.requires.indexed.names c.guess-at.result 0 c.guess-at.ensures) in
    let name : named_at c.args.first c.args.index.now (questions c.args.pairs.now.items) c.guess-at.result ≡ asked c.index-pair.result.now =
    named_is c.args.first c.args.index.now c.args.pairs.now.items c.guess-at.result c.place_of.result c.index-pair.result.now c.place_of.ensures at
    c.index-pair.ensures in
    below_lower c.args.first c.args.index.now (questions c.args.pairs.now.items) c.requires.indexed.order q c.guess-at.result c.guess-at.ensures
    (ap (λ (k : Question). question_cmp k q) name ∙ (sym c.compare.ensures ∙ c.in-Less.is))

pub returns-in-Equal-clause-found : goal.returns-in-Equal-clause-found
returns-in-Equal-clause-found c =
    let at : c.place_of.result < length c.args.pairs.now.items =
    omega (arith, c.place_of.ensures, same_count c.args.pairs.now.items, c.requires.indexed.names c.guess-at.result 0 c.guess-at.ensures) in (
      c.guess-at.ensures,
      named_is c.args.first c.args.index.now c.args.pairs.now.items c.guess-at.result c.place_of.result c.index-pair.result.now c.place_of.ensures at
          c.index-pair.ensures
          ∙ question_exact (asked c.index-pair.result.now) (question c.args.source c.args.request.now) (sym c.compare.ensures ∙ c.in-Equal.is),
    )

pub halve-requires-in-Greater-clause-higher : goal.halve-requires-in-Greater-clause-higher
halve-requires-in-Greater-clause-higher c =
    let q = question c.args.source c.args.request.now in
    let at : c.place_of.result < length c.args.pairs.now.items =
    omega (arith, c.place_of.ensures, same_count c.args.pairs.now.items, c.requires.indexed.names c.guess-at.result 0 c.guess-at.ensures) in
    let name : named_at c.args.first c.args.index.now (questions c.args.pairs.now.items) c.guess-at.result ≡ asked c.index-pair.result.now =
    named_is c.args.first c.args.index.now c.args.pairs.now.items c.guess-at.result c.place_of.result c.index-pair.result.now c.place_of.ensures at
    c.index-pair.ensures in
    above_higher c.args.first c.args.index.now (questions c.args.pairs.now.items) c.requires.indexed.order q c.guess-at.result c.guess-at.ensures
    (ap (λ (k : Question). question_cmp k q) name ∙ (sym c.compare.ensures ∙ c.in-Greater.is))
