-- What is left of held answers without those to a request.
use Rattle.std.proofs.Common.{◌≡◌, ◌≢◌, ◌⊎◌, inl, inr, ⊎_elim, ◌≤◌, List, [], ◌∷◌, length, sym, ◌∙◌, ap, subst, arith}
use Rattle.gtp_values.specs.FiniteMap.{Among}
use Rattle.gtp_machine.specs.Node.{Arrival, Held}
use Rattle.gtp_machine.specs.Move.{AreLeft}

-- each of them was held, each other that was held is left, none is for the request, and there are no more than before
pub record Leaves (request : Arrival) (held rest : List Held) : Type 0 where
  pub only : (h : Held) → Among h rest → Among h held
  pub others : (h : Held) → Among h held → Among h rest ⊎ (h.request ≡ request)
  pub gone : (h : Held) → Among h rest → h.request ≢ request
  pub fewer : length rest ≤ length held

pub leaves : (request : Arrival) (held rest : List Held) → AreLeft request held rest → Leaves request held rest
leaves request [] rest is = subst (λ k. Leaves request [] k) (sym is) (record { only = λ h x. x; others = λ h x. inl x; gone = λ h x. absurd x; fewer = omega arith })
leaves request (h ∷ held) rest (inl (same, left)) =
    let l = leaves request held rest left in
    record {
      only = λ k x. inr (l.only k x);
      others = λ k x. ⊎_elim (λ is. inr (ap (λ (y : Held). y.request) is ∙ same)) (λ there. l.others k there) x;
      gone = l.gone;
      fewer = omega (arith, l.fewer);
    }
leaves request (h ∷ held) rest (inr (other, found)) =
    let l = leaves request held found.0 found.1 in
    subst (λ k. Leaves request (h ∷ held) k) (sym found.2) (record {
      only = λ k x. ⊎_elim (λ is. inl is) (λ there. inr (l.only k there)) x;
      others = λ k x. ⊎_elim (λ is. inl (inl is)) (λ there. ⊎_elim (λ y. inl (inr y)) (λ y. inr y) (l.others k there)) x;
      gone = λ k x same. ⊎_elim (λ is. other (sym (ap (λ (y : Held). y.request) is) ∙ same)) (λ there. l.gone k there same) x;
      fewer = omega (arith, l.fewer);
    })
