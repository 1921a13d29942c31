use Rattle.std.proofs.Common.{rules, ◌≡◌, ℕ, ◌<◌, ◌∙◌, sym, Bool, true, false, refl, subst, List, slice_get, IfSome}
use Rattle.std.specs.BTreeSet.{contains, IsKeyInRange}
use Rattle.std.specs.declared.ops.Bound.TheVariants.{Excluded, Unbounded}
use Rattle.std.specs.BTreeMap.Range.{IsLeBy}
use Rattle.gtp_values.proofs.Tests.{same_number, unequal}
use Rattle.gtp_tables.specs.Index.{pair_cmp}
use Rattle.gtp_tables.proofs.Named.{past, squeezed_past, own_after, own_past}
use Rattle.gtp_tables.proofs.index.next_named.Goals as goal

pub returns-else-eq-clause-none : goal.returns-else-eq-clause-none
returns-else-eq-clause-none c = λ o less. by o less (contains pair_cmp c.args.index.now (c.args.remote, o)) refl
  where
    by : (o : ℕ) → c.args.after < o → (b : Bool) → contains pair_cmp c.args.index.now (c.args.remote, o) ≡ b → b ≡ false
    by o less false e = refl
    by o less true e =
        let r = c.range.ensures.in_range tt in
        let first = r.2 (c.args.remote, o) (past c.args.remote c.args.after o less, tt) e in
        let high : IsLeBy pair_cmp c.in_ok-r.field-0.now (c.args.remote, o) =
        subst (λ (ks : List (ℕ × ℕ)). IfSome (slice_get ks 0) (λ k. IsLeBy pair_cmp k (c.args.remote, o))) c.in_ok-r.ensures.steps first in
        let inside = subst (λ (ks : List (ℕ × ℕ)). IfSome (slice_get ks 0) (IsKeyInRange pair_cmp (Excluded (c.args.remote, c.args.after)) Unbounded c.args.index.now)) c.in_ok-r.ensures.steps r.1 in
        absurd (squeezed_past c.in_ok-r.field-0.now c.args.remote c.args.after o inside.0.0 high (unequal c.in_ok-r.field-0.now.0 c.args.remote (sym c.eq.ensures ∙ c.if-eq.false)))

pub returns-in_err-r-clause-none : goal.returns-in_err-r-clause-none
returns-in_err-r-clause-none c =
    rw c.from_residual.ensures (λ o less. let r = c.range.ensures.in_range tt in r.5 (search rules) (c.args.remote, o) (past c.args.remote c.args.after o less, tt))

pub returns-then-eq-clause-after : goal.returns-then-eq-clause-after
returns-then-eq-clause-after c =
    let r = c.range.ensures.in_range tt in
    let inside = subst (λ (ks : List (ℕ × ℕ)). IfSome (slice_get ks 0) (IsKeyInRange pair_cmp (Excluded (c.args.remote, c.args.after)) Unbounded c.args.index.now)) c.in_ok-r.ensures.steps r.1 in
    own_past c.args.remote c.in_ok-r.field-0.now c.args.after inside.0.0 (same_number c.in_ok-r.field-0.now.0 c.args.remote (sym c.eq.ensures ∙ c.if-eq.true))

pub returns-then-eq-clause-lowest : goal.returns-then-eq-clause-lowest
returns-then-eq-clause-lowest c = λ o less h.
    let r = c.range.ensures.in_range tt in
    let first = r.2 (c.args.remote, o) (past c.args.remote c.args.after o less, tt) h in
    let high : IsLeBy pair_cmp c.in_ok-r.field-0.now (c.args.remote, o) =
    subst (λ (ks : List (ℕ × ℕ)). IfSome (slice_get ks 0) (λ k. IsLeBy pair_cmp k (c.args.remote, o))) c.in_ok-r.ensures.steps first in
    own_after c.args.remote c.in_ok-r.field-0.now.1 o (subst (λ (n : ℕ). IsLeBy pair_cmp (n, c.in_ok-r.field-0.now.1) (c.args.remote, o))
    (same_number c.in_ok-r.field-0.now.0 c.args.remote (sym c.eq.ensures ∙ c.if-eq.true)) high)
