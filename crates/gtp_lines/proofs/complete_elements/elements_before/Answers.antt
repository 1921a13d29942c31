use Rattle.std.proofs.Common.{◌≡◌, ℕ, List, Ok, sym, subst, arith}
use Rattle.gtp_ie.specs.Element.{Element}
use Rattle.gtp_ie.specs.Octets.{AreElements}
use Rattle.gtp_lines.specs.All.{IsFront}
use Rattle.gtp_lines.proofs.Before.{cut_in}
use Rattle.gtp_lines.proofs.complete_elements.elements_before.Goals as goal

pub overflow_sub-at : goal.overflow_sub-at
overflow_sub-at c =
    let cut = cut_in c.args.base c.args.octets.now c.args.at c.requires.cut in
    omega (arith, cut.from)

pub split_at-requires : goal.split_at-requires
split_at-requires c =
    let cut = cut_in c.args.base c.args.octets.now c.args.at c.requires.cut in
    omega (arith, cut.within)

pub unreachable-requires : goal.unreachable-requires
unreachable-requires c =
    let cut = cut_in c.args.base c.args.octets.now c.args.at c.requires.cut in
    let whole = subst (λ (xs : List ℕ). AreElements c.args.base xs cut.elements) (sym c.split_at.ensures.front) cut.whole in
    let found : c.elements_at.result ≡ Ok cut.elements = c.elements_at.ensures.elements.only cut.elements whole in
    let err = c.in-Err.is in
    absurd cc

pub returns : goal.returns
returns c =
    let cut = cut_in c.args.base c.args.octets.now c.args.at c.requires.cut in
    let whole = subst (λ (xs : List ℕ). AreElements c.args.base xs cut.elements) (sym c.split_at.ensures.front) cut.whole in
    let found : c.elements_at.result ≡ Ok cut.elements = c.elements_at.ensures.elements.only cut.elements whole in
    let ok = c.in-Ok.is in
    let same : cut.elements ≡ c.in-Ok.elements = cc in
    let front = subst (λ (xs : List ℕ). IsFront c.args.base c.args.octets.now cut.elements xs) (sym c.split_at.ensures.back) cut.front in
    subst (λ (es : List Element). IsFront c.args.base c.args.octets.now es c.split_at.result.1.now) same front
