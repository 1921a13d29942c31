-- The names of a form, one form further in.
use Rattle.std.proofs.Common.{◌≡◌, ℕ, zero, suc, ◌-◌, ◌<◌, List, [], refl, ap, arith}
use Rattle.std.specs.List.{flat_map}
use Rattle.gtp_forms.specs.Reading.{Tables, form_at}
use Rattle.gtp_forms.specs.Described.{step_names, described}

pub described_go : (forms : Tables) (depth n : ℕ) → 0 < depth → described forms depth n ≡ flat_map (step_names (λ m. described forms (depth - 1) m)) (form_at forms n)
unfolding described
described_go forms zero n l = absurd (omega arith)
described_go forms (suc depth) n l =
    let e : depth ≡ suc depth - 1 = omega arith in
    ap (λ (d : ℕ). flat_map (step_names (λ m. described forms d m)) (form_at forms n)) e

pub described_none : (forms : Tables) (depth n : ℕ) → depth ≡ 0 → described forms depth n ≡ []
unfolding described
described_none forms zero n e = refl
described_none forms (suc depth) n e = absurd (omega arith)
