use Rattle.std.proofs.Common.{◌≡◌, ℕ, ◌+◌, ◌*◌, ◌%◌, bit_or, subst, arith, sym}
use Rattle.std.proofs.lemmas.Grind.{common_steps}
use Rattle.gtp_tables.specs.Drawn.{Drawn, teid_at, drawn_up_to}
use Rattle.gtp_values.specs.FiniteMap.{Among}
use Rattle.gtp_tables.proofs.Undrawn.{undrawn}
use Rattle.gtp_tables.proofs.draws.Draws.draw.Goals as goal

pub returns-clause-undrawn : goal.returns-clause-undrawn
returns-clause-undrawn c =
    let count = c.self.inside.count in
    let value : bit_or (c.from.result * 16777216 % 4294967296) (count + 1) ≡ teid_at c.self.inside.counter.0 (count + 1) = grind (arith, common_steps) in
    subst (λ (d : Drawn). Among (bit_or (c.from.result * 16777216 % 4294967296) (count + 1)) (drawn_up_to d.counter d.count) → ⊥) c.self.view_is
    (subst (λ (t : ℕ). Among t (drawn_up_to c.self.inside.counter.0 count) → ⊥) (sym value) (undrawn c.self.inside.counter.0 count (count + 1) (omega arith)))
