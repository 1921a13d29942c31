use Rattle.std.proofs.Common.{refl, ◌≡◌, ◌<◌, ◌∙◌, ◌∷◌, ◌++◌, ◌+◌, [], ap, sym, arith, subst, true, ℕ, drop, get_or}
use Rattle.std.proofs.lemmas.Bool.Decides.{nat_tests}
use Rattle.std.proofs.lemmas.Str.{encode_ascii}
use Rattle.std.specs.Prelude.{encode_utf8}
use Rattle.std.specs.Fmt.{HasWritten}
use Rattle.std.proofs.Output.{has_written_append, has_written_of_eq}
use Rattle.gtp_values.specs.Apn.{joined_from, are_labels_from}
use Rattle.gtp_values.proofs.NamesAsText.{joined_end, joined_dot, joined_octet, after_length, after_octet}
use Rattle.gtp_values.proofs.apn.write_labels.Goals as goal
use Rattle.gtp_values.proofs.apn.write_labels.Goals.{then-to_come-eq0+in_ok-write_char, else-to_come-eq0+in_ok-write_char-2}

pub loop-octet-preserved : goal.loop-octet-preserved
loop-octet-preserved g c =
    let octets = c.args.octets.now in
    let i : ℕ = c.loop-octet.octet-index in
    let lt = c.loop-octet-test.true in
    let took = g.W.Write.write_str_gives in
    elim c.if-to_come-eq0.branch [
      | then-to_come-eq0+in_ok-write_char w ↦
          let none : c.loop-octet.to_come ≡ 0 = grind (arith, nat_tests) in
          let labels : are_labels_from 0 (drop i octets) ≡ true = ap (λ (n : ℕ). are_labels_from n (drop i octets)) (sym none) ∙ c.loop-octet.invariant.0 in (
            ap (λ (n : ℕ). are_labels_from n (drop (i + 1) octets)) w.to_come-is ∙ after_length octets i lt labels,
            λ plain.
                let so_far = c.loop-octet.invariant.1 plain in
                let wrote = has_written_of_eq _ _ _ _ _ (encode_ascii 46 (omega arith)) (w.in_ok-write_char.ensures.writes so_far.1.plain refl) in
                let before = ap (λ (n : ℕ). so_far.0 ++ joined_from n (drop i octets)) (sym none) ∙ so_far.2 in (
                  so_far.0 ++ 46 ∷ [],
                  subst (HasWritten took c.args.f.now (so_far.0 ++ 46 ∷ [])) (sym w.f-is) (has_written_append _ _ _ _ _ _ so_far.1 wrote),
                  ap (λ (n : ℕ). (so_far.0 ++ 46 ∷ []) ++ joined_from n (drop (i + 1) octets)) w.to_come-is ∙ joined_dot octets so_far.0 _ _ i lt refl before,
                ),
          )
      | else-to_come-eq0+in_ok-write_char-2 w ↦
          let some : 0 < c.loop-octet.to_come = grind (arith, nat_tests) in
          let octet : ℕ = get_or octets i 0 in
          let next = after_octet c.loop-octet.to_come octets i lt some c.loop-octet.invariant.0 in
          let ascii : octet < 128 = grind (arith, nat_tests, next.left) in (
            ap (λ (n : ℕ). are_labels_from n (drop (i + 1) octets)) w.to_come-is ∙ next.right,
            λ plain.
                let so_far = c.loop-octet.invariant.1 plain in
                let wrote = has_written_of_eq _ _ _ _ _ (ap encode_utf8 w.from.ensures ∙ encode_ascii octet ascii) (w.in_ok-write_char-2.ensures.writes so_far.1.plain refl) in (
                  so_far.0 ++ octet ∷ [],
                  subst (HasWritten took c.args.f.now (so_far.0 ++ octet ∷ [])) (sym w.f-is) (has_written_append _ _ _ _ _ _ so_far.1 wrote),
                  ap (λ (n : ℕ). (so_far.0 ++ octet ∷ []) ++ joined_from n (drop (i + 1) octets)) w.to_come-is ∙ joined_octet c.loop-octet.to_come octets so_far.0 _ _ i lt some refl so_far.2,
                ),
          )
    ]

pub returns : goal.returns
returns g c = record {
  written = λ plain ok.
      let w = c.loop-octet.invariant.1 plain in
      has_written_of_eq _ _ _ _ _ (joined_end c.loop-octet.to_come c.args.octets.now w.0 _ c.loop-octet.octet-index c.loop-octet-test.false w.2) w.1;
}
