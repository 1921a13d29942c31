use Rattle.std.proofs.Common.{◌≡◌, ◌∙◌, [], length, sym, ap, subst, arith}
use Rattle.gtp_reliable.specs.Pending.{AreDistinct}
use Rattle.gtp_reliable.specs.Rows.{Queued}
use Rattle.gtp_reliable.proofs.Told.{waiting_of}
use Rattle.gtp_reliable.proofs.Ages.{age_nil}
use Rattle.gtp_reliable.proofs.pending.Pending.new.Goals as goal

pub invariant_of-result : goal.invariant_of-result
invariant_of-result g c =
    let rows : c.new.result.rows ≡ [] = ap (λ (q : Queued _). q.rows) c.new.ensures in
    let none : waiting_of 0 c.new.result.rows ≡ [] = ap (waiting_of 0) rows ∙ age_nil in (
      record {
        limits = c.requires;
        next = omega arith;
        count = omega (arith, ap length none);
        distinct = subst AreDistinct (sym none) tt;
      },
      rw rows tt,
    )

pub returns-clause-empty : goal.returns-clause-empty
returns-clause-empty g c = ap (λ (q : Queued _). waiting_of 0 q.rows) c.new.ensures ∙ age_nil
