use Rattle.std.proofs.Common.{◌≡◌, ◌∙◌, ◌<◌, ◌+◌, ℕ, ap, sym, arith, rules, true, get_or, drop}
use Rattle.std.proofs.lemmas.Bool.Decides.{nat_tests}
use Rattle.gtp_values.specs.Apn.{is_label_length, is_label_octet, are_labels_from}
use Rattle.gtp_values.proofs.Labels.{at_length, in_label}
use Rattle.gtp_values.proofs.apn.are_labels.Goals as goal
use Rattle.gtp_values.proofs.apn.are_labels.Goals.{then-left-eq0+else-not-is_label_length, else-left-eq0+else-not-is_label_octet}

pub loop-octet-preserved : goal.loop-octet-preserved
loop-octet-preserved c =
    let octets = c.args.octets.now in
    let i : ℕ = c.loop-octet.octet-index in
    elim c.if-left-eq0.branch [
      | then-left-eq0+else-not-is_label_length w ↦
          let none : c.loop-octet.left ≡ 0 = grind (arith, nat_tests) in
          let long : is_label_length (get_or octets i 0) ≡ true = search rules in
          ap (λ (n : ℕ). are_labels_from n (drop (i + 1) octets)) w.left-is
          ∙ (at_length octets i c.loop-octet-test.true long ∙ (ap (λ (n : ℕ). are_labels_from n (drop i octets)) (sym none) ∙ c.loop-octet.invariant))
      | else-left-eq0+else-not-is_label_octet w ↦
          let some : 0 < c.loop-octet.left = grind (arith, nat_tests) in
          let good : is_label_octet (get_or octets i 0) ≡ true = search rules in
          ap (λ (n : ℕ). are_labels_from n (drop (i + 1) octets)) w.left-is ∙ (in_label c.loop-octet.left octets i c.loop-octet-test.true some good ∙ c.loop-octet.invariant)
    ]
