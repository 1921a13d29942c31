use Rattle.std.proofs.Common.{◌∙◌, ◌<◌, ap, sym, subst, map, length, arith, rules}
use Rattle.gtp_reliable.specs.Held.{Answers, HasAnswer, IsHeld}
use Rattle.gtp_reliable.specs.Index.{question, questions, question_at, IsNamed, IsGap, IsIndex}
use Rattle.gtp_reliable.specs.Aging.{seen}
use Rattle.gtp_reliable.proofs.Halving.{same_count}
use Rattle.gtp_reliable.proofs.Pairs.{answer_at, held_of, one_answer, none_held}
use Rattle.gtp_reliable.proofs.held.Held.lookup_counted.Goals as goal

pub returns-in-Ok-default-clause-found : goal.returns-in-Ok-default-clause-found
returns-in-Ok-default-clause-found c =
    let s = c.args.source in
    let r = c.args.request.now in
    let ps = c.self.inside.pairs.items in
    let named : IsNamed c.self.inside.first c.as_slice-index.result.now (questions ps) (question s r) c.in-Ok-default.at = search rules in
    let indexed : IsIndex c.self.inside.first c.as_slice-index.result.now (questions ps) = search rules in
    let lt : c.place_of.result < length ps = omega (arith, c.place_of.ensures, same_count ps, indexed.names c.in-Ok-default.at 0 named.0) in
    subst (λ (v : Answers). HasAnswer s r c.as_slice.result.now v.pairs) c.self.view_is
    (answer_at c.self.inside.ticks s r ps c.place_of.result c.index-pair.result.now c.as_slice.result.now lt c.index-pair.ensures
    (ap (question_at (questions ps)) c.place_of.ensures ∙ named.1) c.as_slice.ensures.value)

pub returns-in-Ok-default-clause-only : goal.returns-in-Ok-default-clause-only
returns-in-Ok-default-clause-only c = λ a h.
    let s = c.args.source in
    let r = c.args.request.now in
    let ps = c.self.inside.pairs.items in
    let named : IsNamed c.self.inside.first c.as_slice-index.result.now (questions ps) (question s r) c.in-Ok-default.at = search rules in
    let indexed : IsIndex c.self.inside.first c.as_slice-index.result.now (questions ps) = search rules in
    let lt : c.place_of.result < length ps = omega (arith, c.place_of.ensures, same_count ps, indexed.names c.in-Ok-default.at 0 named.0) in
    one_answer s r c.as_slice.result.now a (map (seen c.self.inside.ticks) ps) c.self.invariant.0.apart
    (answer_at c.self.inside.ticks s r ps c.place_of.result c.index-pair.result.now c.as_slice.result.now lt c.index-pair.ensures
    (ap (question_at (questions ps)) c.place_of.ensures ∙ named.1) c.as_slice.ensures.value)
    (subst (λ (v : Answers). HasAnswer s r a v.pairs) (sym c.self.view_is) h)

pub returns-in-Err-default-clause-only : goal.returns-in-Err-default-clause-only
returns-in-Err-default-clause-only c = λ a h.
    let s = c.args.source in
    let r = c.args.request.now in
    let ps = c.self.inside.pairs.items in
    let gap : IsGap c.self.inside.first c.as_slice-index.result.now (questions ps) (question s r) c.in-Err-default.field-0-0 = search rules in
    none_held c.self.inside.ticks c.self.inside.first c.as_slice-index.result.now ps s r c.in-Err-default.field-0-0 (search rules) gap
    (held_of s r a (map (seen c.self.inside.ticks) ps) (subst (λ (v : Answers). HasAnswer s r a v.pairs) (sym c.self.view_is) h))

pub returns-in-Err-default-clause-none : goal.returns-in-Err-default-clause-none
returns-in-Err-default-clause-none c = λ h.
    let s = c.args.source in
    let r = c.args.request.now in
    let ps = c.self.inside.pairs.items in
    let gap : IsGap c.self.inside.first c.as_slice-index.result.now (questions ps) (question s r) c.in-Err-default.field-0-0 = search rules in
    none_held c.self.inside.ticks c.self.inside.first c.as_slice-index.result.now ps s r c.in-Err-default.field-0-0 (search rules) gap
    (subst (λ (v : Answers). IsHeld s r v.pairs) (sym c.self.view_is) h)
