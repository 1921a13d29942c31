use Rattle.std.proofs.Common.{rules, ◌≡◌, ◌∙◌, sym, ap, refl, [], nat_eq}
use Rattle.std.specs.Map.{lookup}
use Rattle.gtp_reliable.specs.Rows.{slot_of}
use Rattle.gtp_reliable.proofs.Slots.{slot_nil}
use Rattle.gtp_reliable.proofs.rows.Rows.new.Goals as goal

pub invariant_of-result : goal.invariant_of-result
invariant_of-result g c =
    let none : c.new.result.items ≡ [] = search rules in
    let empty : c.new-2.result.entries ≡ [] = search rules in
    record {
      names = λ n. ap (lookup (nat_eq n)) empty ∙ (sym (slot_nil _ n 0) ∙ ap (slot_of n 0) (sym none));
      apart = rw none tt;
      front = rw none refl;
      count = rw (none, empty) refl;
      room = λ e. absurd cc;
    }
