-- What the arguments of `capture` choose.
use Rattle.std.proofs.Common.{◌≡◌, inl, inr, ℕ, List, Option, Some, None, option_map, Result, Ok, Err, OnErr, IfSome, refl, sym, subst, ◌∙◌, ap}
use Rattle.gtp_lines.specs.Named.{name_in}
use Rattle.gtp_lines.specs.User.{user_name}
use Rattle.gtp_lines.specs.declared.filter.Kinds.{Kinds}
use Rattle.gtp_names.specs.declared.names.Names.{Names}
use Rattle.gtp_commands.specs.Flags.{IsKindOf, AreKinds, ChoosesKinds, IsSaid}

none_of : (name : ℕ → Option (List ℕ)) (word : List ℕ) (found kind : Option ℕ) → found ≡ None → IsKindOf name word found → IsKindOf name word kind → kind ≡ None
none_of name word None None is none has = refl
none_of name word None (Some k) is none has = absurd (none k has.0 has.1)
none_of name word (Some f) kind is none has = absurd cc

-- a word that is found to be of no plane chooses nothing
pub none_chosen : (names : Names) (word : List ℕ) (found kinds : Kinds) → found.control ≡ None → found.user ≡ None → AreKinds names word found
    → ChoosesKinds names word kinds → ⊥
none_chosen names word found kinds control user (inl number) chosen =
    let both = sym control ∙ ap (λ (k : Kinds). k.control) number.1 in absurd cc
none_chosen names word found kinds control user (inr named) (inl number, some) = absurd (named.0 number.0)
none_chosen names word found kinds control user (inr named) (inr those, some) =
    let no_control = none_of (name_in names) word found.control kinds.control control named.1 those.1 in
    let no_user = none_of user_name word found.user kinds.user user named.2 those.2 in
    some (λ i. record { control = no_control i; user = no_user i })

-- what holds anyway holds where a result is an error
pub on_any_error : {T E P : Type 0} (r : Result T E) → P → OnErr r P
on_any_error (Ok x) p = tt
on_any_error (Err e) p = p

-- a word that is there and says nothing is not said
pub unsaid : {W X : Type 0} (text : W → List ℕ) (Says : List ℕ → X → Type 0) (said : Option (List ℕ)) (word : Option W) (value : Option X)
    → option_map text word ≡ said → (word ≡ None → ⊥) → IfSome word (λ w. (x : X) → Says (text w) x → ⊥) → IsSaid Says said value → ⊥
unsaid text Says said None value same none says is = none refl
unsaid {X = X} text Says said (Some w) value same none says is = by value (subst (λ s. IsSaid Says s value) (sym same) is) where
  by : (v : Option X) → IsSaid Says (Some (text w)) v → ⊥
  by None h = absurd h
  by (Some x) h = says x h
