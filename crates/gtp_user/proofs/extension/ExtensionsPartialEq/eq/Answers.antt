use Rattle.std.proofs.Common.{ap, ◌∙◌}
use Rattle.std.specs.Cmp.Lexicographic.{pointwise}
use Rattle.gtp_user.specs.Chain.{header_eq}
use Rattle.gtp_user.specs.reading.Walk.{headers_in}
use Rattle.gtp_user.proofs.Same.{same_first, other_first}
use Rattle.gtp_user.proofs.extension.ExtensionsPartialEq.eq.Goals as goal

pub returns-then-self-other : goal.returns-then-self-other
returns-then-self-other c =
    let a = c.self.inside in
    let b = c.other.inside in
    c.eq.ensures ∙ (same_first a.first b.first a.octets.now b.octets.now c.self.invariant c.other.invariant c.if-self-other.true
    ∙ (ap (λ xs. pointwise header_eq xs (headers_in b.first b.octets.now)) c.self.view_is ∙ ap (λ ys. pointwise header_eq c.args.self.now ys) c.other.view_is))

pub returns-else-self-other : goal.returns-else-self-other
returns-else-self-other c =
    let a = c.self.inside in
    let b = c.other.inside in
    other_first a.first b.first a.octets.now b.octets.now c.self.invariant c.other.invariant c.if-self-other.false
    ∙ (ap (λ xs. pointwise header_eq xs (headers_in b.first b.octets.now)) c.self.view_is ∙ ap (λ ys. pointwise header_eq c.args.self.now ys) c.other.view_is)
