use Rattle.std.proofs.Common.{◌≡◌, ◌+◌, ◌≤◌, ◌/◌, [], ◌∷◌, ◌++◌, ℕ, Bool, List, None, is_none, true, false, length, rules, arith, refl, sym, ap, subst, ◌∙◌}
use Rattle.std.proofs.lemmas.List.Sums.{sum_by-append}
use Rattle.gtp_dump.specs.Entries.{row_size, digits_of, is_good, IsWrong}
use Rattle.gtp_dump.specs.Held.{IsKept}
use Rattle.gtp_dump.specs.declared.entry.Kept.{Kept}
use Rattle.gtp_dump.proofs.Keeping.{kept_more, good_so_far, good_more, wrong_first, digits_more, after_wrong, so_far_of}
use Rattle.gtp_dump.proofs.entry.Kept.add.Goals.{then-is_none+in-Some, then-is_none+in-None+in_ok-extend_from_slice-in-None, else-is_none}
use Rattle.gtp_dump.proofs.entry.Kept.add.Goals as goal

pub returns-clause-held : goal.returns-clause-held
returns-clause-held c start lines counted kept =
    let line = c.args.line.now in
    let joined = c.args.self.is_joined in
    let octets : joined ≡ false → c.octets_with.result ≡ c.args.self.octets + row_size line =
    λ rows. c.octets_with.ensures rows ∙ ap (λ (l : List ℕ). c.args.self.octets + (length l + 1) / 2) (c.deref.ensures.value ∙ (c.in_ok-digits.ensures ∙ ap (λ (j : Bool). digits_of j line) rows)) in
    elim c.if-is_none.branch [
      | then-is_none+in-Some w ↦
          let none : c.args.self.wrong ≡ None = search rules in
          let good = good_so_far start lines c.args.self kept none in
          let wrong : IsWrong joined c.args.self.size line w.in-Some.flaw = w.in-Some.ensures.some in
          let first = wrong_first joined start lines line c.args.number w.in-Some.flaw good.0 (subst (λ s. IsWrong joined s line w.in-Some.flaw) good.1 wrong) (omega (arith, counted, kept.count)) in
          subst (λ (s : Kept). IsKept start (record s { lines = s.lines + 1 }) (lines ++ line ∷ [])) (sym w.self-is) (kept_more start lines line c.args.self _ kept refl refl octets first)
      | then-is_none+in-None+in_ok-extend_from_slice-in-None w ↦
          let none : c.args.self.wrong ≡ None = search rules in
          let good = good_so_far start lines c.args.self kept none in
          let fits : c.args.self.size + length line ≤ 1048576 = search rules in
          let hex : is_good joined line ≡ true = search rules in
          let more = good_more joined lines line good.0 (omega (arith, fits, good.1)) hex in
          let is : c.in_ok-digits.digits.items ≡ digits_of joined line = c.in_ok-digits.ensures in
          let written : w.extend_from_slice.new.self.items ≡ c.args.self.digits.items ++ digits_of joined line =
          w.in_ok-extend_from_slice-in-None.ensures.items ∙ ap (λ (l : List ℕ). c.args.self.digits.items ++ l) (w.deref-in-None.ensures.value ∙ is) in
          let so_far = subst (λ o. so_far_of start joined o (c.args.self.size + length line) w.extend_from_slice.new.self.items (lines ++ line ∷ [])) (sym none)
          (more, (omega (arith, good.1, sum_by-append length lines (line ∷ []))), written ∙ digits_more joined lines line c.args.self.digits.items good.2) in
          subst (λ (s : Kept). IsKept start (record s { lines = s.lines + 1 }) (lines ++ line ∷ [])) (sym w.self-is) (kept_more start lines line c.args.self _ kept refl refl octets so_far)
      | else-is_none w ↦
          let some : is_none c.args.self.wrong ≡ false = search rules in
          subst (λ (s : Kept). IsKept start (record s { lines = s.lines + 1 }) (lines ++ line ∷ [])) (sym w.self-is)
          (kept_more start lines line c.args.self _ kept refl refl octets
          (after_wrong start lines line c.args.self c.args.self.size c.args.self.digits.items c.args.self.wrong refl some kept.so_far))
    ]
