use Rattle.std.proofs.Common.{ℕ, drop, ◌+◌, ap, subst, sym, ◌∙◌, rules, arith}
use Rattle.std.proofs.lemmas.Bool.Decides.{nat_tests}
use Rattle.std.proofs.lemmas.List.{length-drop}
use Rattle.gtp_c.specs.Sizes.{HasTypes, element_size}
use Rattle.gtp_c.proofs.Listing.{none_left, list_at, further_at}
use Rattle.gtp_c.proofs.user.types_at.Goals as goal

pub loop-at-init : goal.loop-at-init
loop-at-init c = λ types has. has

pub returns-then-rest : goal.returns-then-rest
returns-then-rest c = λ types has. list_at c.args.octets.now c.loop-at.at types (search rules) (search rules) (c.loop-at.invariant types has)

pub overflow_add-at : goal.overflow_add-at
overflow_add-at c = let few = c.element_len-at.ensures.few in record { fits = omega (arith, few) }

pub loop-at-preserved : goal.loop-at-preserved
loop-at-preserved c = λ types has.
    subst (λ (n : ℕ). HasTypes types (drop (c.loop-at.at + n) c.args.octets.now)) (sym (c.element_len-at.ensures.is ∙ ap element_size c.split_at.ensures.back))
    (further_at c.args.octets.now c.loop-at.at types (grind (arith, nat_tests)) (c.loop-at.invariant types has))

pub returns : goal.returns
returns c = λ types has.
    let size = length-drop c.loop-at.at c.args.octets.now in
    absurd (none_left types (drop c.loop-at.at c.args.octets.now) (grind (arith, nat_tests, size)) (c.loop-at.invariant types has))
