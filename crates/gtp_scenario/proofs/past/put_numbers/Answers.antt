use Rattle.std.proofs.Common.{◌≡◌, ◌+◌, ◌-◌, ◌∷◌, [], ◌++◌, List, ℕ, sym, ap, ◌∙◌, append_assoc}
use Rattle.std.specs.List.{range_with_len}
use Rattle.gtp_scenario.proofs.Ranges.{range_next}
use Rattle.gtp_scenario.proofs.past.put_numbers.Goals as goal

pub loop-number-preserved : goal.loop-number-preserved
loop-number-preserved c =
    let l = c.loop-number in
    let pushed : c.push.new.self.items ≡ l.waiting.items ++ (l.number ∷ []) = c.in_ok-push.ensures.items in
    let rest : List ℕ = range_with_len (l.number + 1) (c.args.end - (l.number + 1)) in
    ap (λ (ns : List ℕ). ns ++ rest) pushed ∙ (append_assoc l.waiting.items (l.number ∷ []) rest
    ∙ (ap (λ (ns : List ℕ). l.waiting.items ++ ns) (sym (range_next l.number c.args.end c.loop-number-test.true)) ∙ l.invariant))
