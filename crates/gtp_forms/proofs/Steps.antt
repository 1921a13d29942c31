-- Readings, one step further.
use Rattle.std.proofs.Common.{◌≡◌, ℕ, zero, suc, ◌-◌, ◌<◌, Bool, true, false, cond, refl, ap, ◌∙◌, arith}
use Rattle.gtp_forms.specs.declared.told.Mode.TheVariants.{Short}
use Rattle.gtp_forms.specs.Reading.{Tables, State, items, reads, all_steps, form_at, in_mode}

-- an item, and then the others
pub items_go : (one : State → State) (stop : State → Bool) (n : ℕ) (s : State) → 0 < n → stop s ≡ false → items one stop n s ≡ items one stop (n - 1) (one s)
items_go one stop zero s l h = absurd (omega arith)
items_go one stop (suc n) s l h =
    let e : n ≡ suc n - 1 = omega arith in
    ap (λ b. cond b s (items one stop n (one s))) h ∙ ap (λ k. items one stop k (one s)) e

-- no further item
pub items_stop : (one : State → State) (stop : State → Bool) (n : ℕ) (s : State) → stop s ≡ true → items one stop n s ≡ s
items_stop one stop zero s h = refl
items_stop one stop (suc n) s h = ap (λ b. cond b s (items one stop n (one s))) h

-- a form in which one fewer may stand
pub reads_go : (forms : Tables) (depth n : ℕ) (s : State) → 0 < depth → reads forms depth n s ≡ all_steps (λ m t. reads forms (depth - 1) m t) (form_at forms n) s
unfolding reads
reads_go forms zero n s l = absurd (omega arith)
reads_go forms (suc depth) n s l =
    let e : depth ≡ suc depth - 1 = omega arith in
    ap (λ (d : ℕ). all_steps (λ m t. reads forms d m t) (form_at forms n) s) e

-- too deep
pub reads_none : (forms : Tables) (depth n : ℕ) (s : State) → depth ≡ 0 → reads forms depth n s ≡ in_mode Short s
unfolding reads
reads_none forms zero n s e = refl
reads_none forms (suc depth) n s e = absurd (omega arith)
