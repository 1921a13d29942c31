use Rattle.std.proofs.Common.{rules, ◌≡◌, ◌++◌, [], ◌∷◌, ap, sym, ◌∙◌, cond, Some, length}
use Rattle.std.specs.BTreeMap.{get}
use Rattle.gtp_node.specs.Places.{first_by}
use Rattle.gtp_node.proofs.First.{push_keeps}
use Rattle.gtp_node.proofs.places.Places.push.Goals as goal

pub invariant_of-self-2 : goal.invariant_of-self-2
invariant_of-self-2 g c q =
    let eq = g.K.PartialEq.eq in
    let xs = c.self.inside.order.items in
    let x = c.args.key in
    let at = get g.K.Ord.cmp c.self.inside.first in
    let at' = get g.K.Ord.cmp c.put_absent.new.first in
    let items : c.push.new.self.items ≡ xs ++ x ∷ [] = search rules in
    let count : c.len-place.result ≡ length xs = search rules in
    push_keeps eq g.met.K.Eq.laws at at' x xs c.self.invariant
    (λ some k. search rules)
    (λ none k. (c.in_ok-put_absent.ensures.absent none).0 k ∙ ap (λ b. cond b (Some c.len-place.result) (at k)) (sym (g.met.K.Ord.matches_eq x k)) ∙ ap (λ n. cond (eq x k) (Some n) (at k)) count)
    q ∙ ap (λ ys. first_by eq q ys) (sym items)
