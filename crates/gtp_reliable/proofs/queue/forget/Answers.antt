use Rattle.std.proofs.Common.{rules, ◌≡◌, remove, drop, sym, ◌∙◌, arith}
use Rattle.gtp_reliable.specs.Index.{asked, questions, IsGap, IsNamed}
use Rattle.gtp_reliable.proofs.Halving.{same_count, question_of_pair}
use Rattle.gtp_reliable.proofs.Index.{not_held}
use Rattle.gtp_reliable.proofs.Pairs.{popped_pair}
use Rattle.gtp_reliable.proofs.queue.forget.Goals as goal

pub unreachable-requires : goal.unreachable-requires
unreachable-requires c =
    let ps = c.args.pairs.now.items in
    let front = asked c.index-front.result.now in
    let gap : IsGap c.args.first.now c.args.index.now.items (questions ps) front c.in_default.field-0 = search rules in
    not_held c.args.first.now c.args.index.now.items (questions ps) front c.in_default.field-0 c.requires.indexed gap 0
    (omega (arith, same_count ps, c.requires.some)) (question_of_pair ps 0 c.index-front.result.now c.requires.some c.index-front.ensures)

pub returns-clause-indexed : goal.returns-clause-indexed
returns-clause-indexed c =
    let ps = c.args.pairs.now.items in
    let front = asked c.index-front.result.now in
    let cut : c.remove.new.self.items ≡ remove c.args.index.now.items c.in-Ok.at = search rules in
    let rest : c.pop_front.new.self.items ≡ drop 1 ps = search rules in
    let has : IsNamed c.args.first.now c.args.index.now.items (questions ps) front c.in-Ok.at = search rules in
    rw (cut, rest) (popped_pair c.args.first.now c.args.index.now.items ps c.requires.some c.requires.indexed (omega arith) c.in-Ok.at has.0
    (has.1 ∙ sym (question_of_pair ps 0 c.index-front.result.now c.requires.some c.index-front.ensures)))
