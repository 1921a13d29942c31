use Rattle.std.proofs.Common.{List, ℕ, ◌≤◌, length, subst, sym, arith, true≢false}
use Rattle.std.proofs.lemmas.List.{drop_all}
use Rattle.std.specs.Result.{IsErr}
use Rattle.gtp_ie.specs.Element.{elements_of, walk}
use Rattle.gtp_c.proofs.elements.gtp_element_first.Goals as goal

pub returns-then-place-octets-clause-faulty : goal.returns-then-place-octets-clause-faulty
unfolding walk
returns-then-place-octets-clause-faulty c =
    let past = c.if-place-octets.true in
    let most : length c.args.octets.now ≤ c.args.place = omega (arith, past) in
    (λ nine. absurd (omega (arith, nine)), λ err. absurd (true≢false (sym (subst (λ (xs : List ℕ). IsErr (elements_of c.args.place xs)) (drop_all c.args.place c.args.octets.now most) err))))
