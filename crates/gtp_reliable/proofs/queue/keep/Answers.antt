use Rattle.std.proofs.Common.{rules, ◌≡◌, ◌+◌, ◌%◌, ◌^◌, ◌++◌, [], ◌∷◌, insert, length, arith}
use Rattle.gtp_reliable.specs.Index.{asked, questions, IsGap}
use Rattle.gtp_reliable.proofs.Index.{after_back}
use Rattle.gtp_reliable.proofs.Pairs.{pushed_pair}
use Rattle.gtp_reliable.proofs.queue.keep.Goals as goal

pub returns-clause-indexed : goal.returns-clause-indexed
returns-clause-indexed c =
    let ps = c.args.pairs.now.items in
    let number = (c.args.first + length ps) % 2 ^ 64 in
    let put : c.insert.new.self.items ≡ insert c.args.index.now.items c.in-Err.at number = search rules in
    let grown : c.push_back_reserved.new.self.items ≡ ps ++ c.args.pair ∷ [] = search rules in
    let gap : IsGap c.args.first c.args.index.now.items (questions ps) (asked c.args.pair) c.in-Err.at = search rules in
    rw (put, grown) (pushed_pair c.args.first c.args.index.now.items ps c.requires.indexed c.args.pair c.in-Err.at number gap
    (after_back c.args.first (length ps) (omega arith) (omega (arith, c.requires.few))))
