use Rattle.std.proofs.Common.{◌≡◌, ◌≤◌, ◌∙◌, ℕ, length, sym, ap, arith}
use Rattle.std.specs.Prelude.{IsTrue, nat_le}
use Rattle.std.proofs.lemmas.Bool.Decides.{nat_tests}
use Rattle.gtp_reliable.specs.Pending.{Requests}
use Rattle.gtp_reliable.proofs.Told.{length_is}
use Rattle.gtp_reliable.proofs.pending.Pending.is_full.Goals as goal

full : (n m : ℕ) → n ≡ m → IsTrue (nat_le 256 n) → 256 ≤ m
full n m e h = grind (arith, nat_tests)

not_less : (n m : ℕ) → n ≡ m → 256 ≤ m → IsTrue (nat_le 256 n)
not_less n m e h = grind (arith, nat_tests)

pub returns-clause-full : goal.returns-clause-full
returns-clause-full g c =
    let same : c.len.result ≡ length c.args.self.now.waiting =
    c.len.ensures ∙ (sym (length_is c.self.inside.ticks c.self.inside.rows.rows) ∙ ap (λ (v : Requests _). length v.waiting) c.self.view_is) in
    (full c.len.result (length c.args.self.now.waiting) same, not_less c.len.result (length c.args.self.now.waiting) same)
