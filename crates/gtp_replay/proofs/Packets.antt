-- The datagrams that packets carry, one after the other, and the first that none does.
use Rattle.std.proofs.Common.{◌≡◌, ℕ, ◌+◌, ◌≤◌, ◌<◌, List, [], ◌∷◌, ◌++◌, map, length, take, drop, get_or, sym, ◌∙◌, ap, subst}
use Rattle.std.proofs.lemmas.List.{take_more, take_all, take-map, drop-map, map-append, length-map}
use Rattle.std.proofs.lemmas.List.Elements.{All-nil, All-cons, All-append}
use Rattle.gtp_machine.specs.World.{By}
use Rattle.gtp_machine.specs.Spelling.{Datagram}
use Rattle.gtp_replay.specs.Captures.{HasPacket, HavePackets, IsFirstWithoutPacket}
use Rattle.gtp_outcomes.proofs.Numbered.{next_of, stands_at}

abbrev Carried : By Datagram → Type 0
Carried d = HasPacket d.what

module _ {D : Type 0} (f : D → By Datagram) (ds : List D) (n : ℕ) where
  pub one_more : (d : D) → d ≡ get_or ds n d → n < length ds → HavePackets (take n (map f ds)) → HasPacket (f d).what → HavePackets (take (n + 1) (map f ds))
  one_more d is below before has =
      let next : take (n + 1) (map f ds) ≡ take n (map f ds) ++ (f d ∷ []) =
      take-map f (n + 1) ds ∙ (ap (map f) (take_more ds n d below) ∙ (ap (λ x. map f (take n ds ++ (x ∷ []))) (sym is)
      ∙ (map-append f (take n ds) (d ∷ []) ∙ ap (λ l. l ++ (f d ∷ [])) (sym (take-map f n ds))))) in
      subst (λ l. HavePackets l) (sym next) (All-append Carried (take n (map f ds)) (f d ∷ []) before (All-cons Carried (f d) [] has (All-nil Carried)))

  pub none_left : length ds ≤ n → HavePackets (take n (map f ds)) → HavePackets (map f ds)
  none_left all before = subst (λ l. HavePackets l) (take_all n (map f ds) (rw (length-map ds f) all)) before

  pub first_lacks : (d : D) → d ≡ get_or ds n d → n < length ds → HavePackets (take n (map f ds)) → (HasPacket (f d).what → ⊥) → IsFirstWithoutPacket (map f ds) n
  first_lacks d is below before lacks = record {
    datagram = f d;
    behind = map f (drop (n + 1) ds);
    there = drop-map f n ds ∙ next_of f ds n d (stands_at ds n d is below);
    lacks = lacks;
    before = before;
  }
