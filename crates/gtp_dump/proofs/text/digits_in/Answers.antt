use Rattle.std.proofs.Common.{◌∙◌, [], ◌∷◌, ◌++◌, List, ℕ, ap, sym, append_assoc}
use Rattle.gtp_dump.specs.Text.{taken}
use Rattle.gtp_dump.proofs.Walk.{at_digit, onto}
use Rattle.gtp_dump.proofs.text.digits_in.Goals as goal

pub loop-first-init : goal.loop-first-init
loop-first-init c =
    record {
      digits = ap (λ (l : List ℕ). l ++ at_digit taken c.from_digit-rest.result.now) c.in_ok-digits.ensures.items
          ∙ onto taken c.args.text.now _ c.from_digit-rest.ensures.value;
    }

pub loop-first-preserved : goal.loop-first-preserved
loop-first-preserved c =
    let digits = c.loop-first.digits.items in
    let a = c.in-Some.first.now in
    let rest = c.from_digit-rest-in-Some.result.now in
    record {
      digits =
          ap (λ (l : List ℕ). l ++ at_digit taken rest) c.in_ok-push.ensures.items
          ∙ (append_assoc digits (a ∷ []) (at_digit taken rest)
          ∙ (ap (λ (l : List ℕ). digits ++ a ∷ l) (onto taken c.in-Some.after.now rest c.from_digit-rest-in-Some.ensures.value)
          ∙ (ap (λ (l : List ℕ). digits ++ l) (sym (ap (at_digit taken) c.in-Some.ensures.cases.0)) ∙ c.loop-first.invariant.digits)));
    }
