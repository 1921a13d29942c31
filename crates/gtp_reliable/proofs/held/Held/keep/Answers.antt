use Rattle.std.proofs.Common.{◌≡◌, ◌++◌, ◌∷◌, [], ◌<◌, length, length-append, map, ap, sym, subst, ◌∙◌, refl, arith}
use Rattle.std.proofs.lemmas.List.{length-map}
use Rattle.gtp_reliable.specs.Held.{Answers, just_kept, AreApart, IsHeld}
use Rattle.gtp_reliable.specs.Aging.{seen, AreAging}
use Rattle.gtp_reliable.proofs.Aging.{aging_push}
use Rattle.gtp_reliable.proofs.Pairs.{apart_push, held_at, kept_seen}
use Rattle.gtp_reliable.proofs.held.Held.keep.Goals as goal

pub keep-requires-clause-free : goal.keep-requires-clause-free
keep-requires-clause-free c = λ k lt same.
    c.requires.free (subst (λ (a : Answers). IsHeld c.args.source c.args.request.items a.pairs) c.self.view_is
    (held_at c.self.inside.ticks c.args.source c.args.request.items c.self.inside.pairs.items k lt same))

pub invariant_of-self : goal.invariant_of-self
invariant_of-self c =
    let now = c.self.inside.ticks in
    let ps = c.self.inside.pairs.items in
    let before = map (seen now) ps in
    let one = just_kept c.args.source c.args.request.items c.args.answer.items in
    let pushed : map (seen now) c.keep.new.pairs.items ≡ before ++ one ∷ [] = ap (map (seen now)) c.keep.ensures.pairs ∙ kept_seen now ps _ (omega arith) refl in
    let few : length ps < 4096 = omega (arith, c.requires.ready.count, length-map ps (seen now), ap (λ (a : Answers). length a.pairs) c.self.view_is) in
    let free : IsHeld c.args.source c.args.request.items before → ⊥ = λ h. c.requires.free (subst (λ (a : Answers). IsHeld c.args.source c.args.request.items a.pairs) c.self.view_is h) in (
      record {
        hold = c.self.invariant.0.hold;
        count = omega (arith, ap length pushed, length-append before (one ∷ []), length-map ps (seen now), few);
        apart = subst AreApart (sym pushed) (apart_push before c.args.source c.args.request.items c.args.answer.items c.self.invariant.0.apart free);
      },
      c.keep.ensures.indexed,
      subst (AreAging now c.self.inside.hold) (sym c.keep.ensures.pairs) (aging_push now c.self.inside.hold ps _ c.self.invariant.2 (omega arith) refl (omega (arith, c.self.invariant.0.hold.0))),
    )
