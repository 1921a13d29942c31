-- Lists with an index of what is in them.
use Rattle.std.proofs.Common.{◌≡◌, ◌⊎◌, ◌↔◌, inl, inr, ⊎_elim, ◌+◌, ◌≤◌, arith, Bool, true, false, ◌||◌, if◌then◌else◌, List, [], ◌∷◌, ◌++◌, map, length, refl, sym, ◌∙◌, subst}
use Rattle.std.specs.Bool.{Decides}
use Rattle.std.specs.List.{list_any}
use Rattle.std.proofs.lemmas.List.{map-append, length-map, length-append}
use Rattle.gtp_values.specs.FiniteMap.{Among}
use Rattle.gtp_machine.proofs.Basics.FiniteMaps.{Among-left, Among-right, Among-cases, Among-last, Among-one_more}
use Rattle.indexmap.specs.IndexSet.{insert_key, insert_all}
use Rattle.gtp_world.specs.Indexes.{IsIndexed}

-- keys, what each stands for, and where two stand for the same
module _ {K X : Type 0} (f : K → X) (eq : K → K → Bool) (same : (a b : K) → Decides (eq a b) (f a ≡ f b)) where
  -- a look-up finds what stands for it
  found_next : (k x : K) (keys : List K) → Decides (list_any (eq k) keys) (Among (f k) (map f keys)) → Decides (list_any (eq k) (x ∷ keys)) (Among (f k) (map f (x ∷ keys)))
  found_next k x keys rest = (there (eq k x) refl, back (eq k x) refl)
    where
      there : (b : Bool) → eq k x ≡ b → (b || list_any (eq k) keys) ≡ true → Among (f k) (map f (x ∷ keys))
      there true is any = inl ((same k x).0 is)
      there false is any = inr (rest.0 any)

      back : (b : Bool) → eq k x ≡ b → Among (f k) (map f (x ∷ keys)) → (b || list_any (eq k) keys) ≡ true
      back true is among = refl
      back false is (inl e) = let apart : true ≡ false = sym ((same k x).1 e) ∙ is in absurd (cc apart)
      back false is (inr among) = rest.1 among

  found : (k : K) (keys : List K) → Decides (list_any (eq k) keys) (Among (f k) (map f keys))
  found k [] = (λ e. absurd (cc e), λ none. absurd none)
  found k (x ∷ keys) = found_next k x keys (found k keys)

  -- one key more
  put_in : (x : X) (k : K) (keys : List K) → Among x (map f (insert_key eq keys k)) ↔ (Among x (map f keys) ⊎ (x ≡ f k))
  put_in x k keys = by (list_any (eq k) keys) refl
    where
      by : (b : Bool) → list_any (eq k) keys ≡ b → Among x (map f (if b then keys else keys ++ (k ∷ []))) ↔ (Among x (map f keys) ⊎ (x ≡ f k))
      by true is = (λ has. inl has, λ either. ⊎_elim (λ has. has) (λ e. subst (λ y. Among y (map f keys)) (sym e) ((found k keys).0 is)) either)
      by false is = (
        λ has. Among-one_more x (f k) (map f keys) (subst (λ l. Among x l) (map-append f keys (k ∷ [])) has),
        λ either. subst (λ l. Among x l) (sym (map-append f keys (k ∷ []))) (⊎_elim (λ has. Among-left x (map f keys) (f k ∷ []) has)
            (λ e. subst (λ y. Among y (map f keys ++ (f k ∷ []))) (sym e) (Among-last (f k) (map f keys))) either),
      )

  one_longer : (k : K) (keys : List K) → length (insert_key eq keys k) ≤ length keys + 1
  one_longer k keys = by (list_any (eq k) keys)
    where
      by : (b : Bool) → length (if b then keys else keys ++ (k ∷ [])) ≤ length keys + 1
      by true = omega arith
      by false = let long = length-append keys (k ∷ []) in omega (arith, long)

  -- all of these
  put_all : (x : X) (others keys : List K) → Among x (map f (insert_all eq keys others)) ↔ (Among x (map f keys) ⊎ Among x (map f others))
  put_all x [] keys = (λ has. inl has, λ either. ⊎_elim (λ has. has) (λ none. absurd none) either)
  put_all x (k ∷ others) keys =
      let rest = put_all x others (insert_key eq keys k) in
      let one = put_in x k keys in (
        λ has. ⊎_elim (λ was. ⊎_elim (λ old. inl old) (λ is. inr (inl is)) (one.0 was)) (λ more. inr (inr more)) (rest.0 has),
        λ either. rest.1 (⊎_elim (λ old. inl (one.1 (inl old))) (λ more. ⊎_elim (λ is. inl (one.1 (inr is))) (λ others. inr others) more) either),
      )

  longer : (others keys : List K) → length (insert_all eq keys others) ≤ length keys + length others
  longer [] keys = omega arith
  longer (k ∷ others) keys = let rest = longer others (insert_key eq keys k) in let one = one_longer k keys in omega (arith, rest, one)

  -- and so the index has what the list has, with one more in both
  pub one_more : (list : List X) (keys : List K) (k : K) → IsIndexed list (map f keys) → IsIndexed (list ++ (f k ∷ [])) (map f (insert_key eq keys k))
  one_more list keys k is = record {
    same = λ x. (
      λ has. ⊎_elim (λ was. Among-left x list (f k ∷ []) ((is.same x).0 was)) (λ e. Among-right x list (f k ∷ []) (inl e)) ((put_in x k keys).0 has),
      λ has. (put_in x k keys).1 (⊎_elim (λ was. inl ((is.same x).1 was)) (λ e. inr e) (Among-one_more x (f k) list has)),
    );
    few =
        let long = length-append list (f k ∷ []) in
        let keys_long = length-map keys f in
        let new_long = length-map (insert_key eq keys k) f in
        let one = one_longer k keys in
        let few = is.few in
        omega (arith, long, keys_long, new_long, one, few);
  }

  -- and with all of another list
  pub all_more : (list more : List X) (keys others : List K) → IsIndexed list (map f keys) → IsIndexed more (map f others) → IsIndexed (list ++ more) (map f (insert_all eq keys others))
  all_more list more keys others is also = record {
    same = λ x. (
      λ has. ⊎_elim (λ was. Among-left x list more ((is.same x).0 was)) (λ comes. Among-right x list more ((also.same x).0 comes)) ((put_all x others keys).0 has),
      λ has. (put_all x others keys).1 (⊎_elim (λ was. inl ((is.same x).1 was)) (λ comes. inr ((also.same x).1 comes)) (Among-cases x list more has)),
    );
    few =
        let long = length-append list more in
        let keys_long = length-map keys f in
        let others_long = length-map others f in
        let new_long = length-map (insert_all eq keys others) f in
        let all = longer others keys in
        let few = is.few in
        let also_few = also.few in
        omega (arith, long, keys_long, others_long, new_long, all, few, also_few);
  }

  -- what the index finds is in the list
  pub looked_up : (list : List X) (keys : List K) (k : K) → IsIndexed list (map f keys) → Decides (list_any (eq k) keys) (Among (f k) list)
  looked_up list keys k is = (λ any. (is.same (f k)).0 ((found k keys).0 any), λ has. (found k keys).1 ((is.same (f k)).1 has))
