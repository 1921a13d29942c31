-- Bearer contexts, where they lie.
use Rattle.std.proofs.Common.{◌≡◌, ◌↔◌, ℕ, List, [], ◌∷◌, map, refl, ◌∙◌, subst}
use Rattle.std.specs.Prelude.{All}
use Rattle.std.proofs.lemmas.List.Elements.{All-head}
use Rattle.gtp_ie.specs.Element.{Element}
use Rattle.gtp_v2.specs.Message.{MessageValue}
use Rattle.gtp_v2.specs.Viewed.{values_in, contexts_of, context_rows}

-- what each has, the first one has
pub first_has : {X : Type 0} (P : X → Type 0) (xs : List X) (x : X) (rest : List X) → All P xs → xs ≡ x ∷ rest → P x
first_has P xs x rest all is = All-head P x rest (subst (All P) is all)

-- the contexts of a message of this type, by the first of them and the rest
pub first_read : (kind : ℕ) (m : MessageValue) (cs : List (List Element)) (c : List Element) (rest : List (List Element)) → m.kind ≡ kind
    → contexts_of m ≡ map (values_in (context_rows m.kind)) cs → cs ≡ c ∷ rest
    → contexts_of m ≡ values_in (context_rows kind) c ∷ map (values_in (context_rows kind)) rest
first_read kind m cs c rest of are is = are ∙ (λ i. map (values_in (context_rows (of i))) (is i))

-- nothing is left exactly where no further one was read
pub none_left : {X Y : Type 0} (f : X → Y) (xs : List X) → ((xs ≡ []) ↔ (map f xs ≡ []))
none_left f [] = (λ _. refl, λ _. refl)
none_left f (x ∷ xs) = (λ none. absurd cc, λ none. absurd cc)
