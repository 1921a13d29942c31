use Rattle.std.proofs.Common.{◌∙◌, ◌++◌, ℕ, List, ap, append_assoc}
use Rattle.std.specs.Prelude.{codes}
use Rattle.std.specs.List.{flat_map}
use Rattle.gtp_lines.specs.Control.{inner_line}
use Rattle.gtp_lines.proofs.control.put_group.Goals as goal

pub returns-in_ok-put_all_inner-in-Ok : goal.returns-in_ok-put_all_inner-in-Ok
returns-in_ok-put_all_inner-in-Ok c =
    let lines : List ℕ = flat_map inner_line c.in-Ok.inner in
    record {
      ok = rw c.in-Ok.ensures.walked
          (c.in_ok-put_all_inner-in-Ok.ensures.ok ∙ (ap (λ (xs : List ℕ). xs ++ lines) c.in_ok-put-in-Ok.ensures.ok ∙ append_assoc c.args.out.now.items (codes "bearer-context\n") lines));
    }
