-- What is read of a type by its form, and of a type that has none.
use Rattle.std.proofs.Common.{ℕ, rules, nat_lt, length, false, ◌≡◌, refl, ap, sym, List, Some, None, Err}
use Rattle.gtp_ie.specs.declared.fault.ReadFault.TheVariants.{Bad}
use Rattle.gtp_ie.specs.declared.form.Form.{Form}
use Rattle.gtp_ie.specs.Form.{number_of, form_of}
use Rattle.gtp_ie.specs.Value.{value_at}
use Rattle.gtp_ie.proofs.FreeKinds.{found_number}
use Rattle.gtp_v2.specs.reading.Checked.{value_accepts}

pub unknown : (kind : ℕ) (body : List ℕ) → form_of kind ≡ None → value_accepts kind body ≡ Err Bad
unfolding value_accepts value_at
unknown kind body none = let few : nat_lt (length body) 0 ≡ false = search rules in rw (none, few) refl

pub known : (kind : ℕ) (body : List ℕ) (form : Form) → form_of kind ≡ Some form → value_accepts (number_of form) body ≡ value_accepts kind body
known kind body form is = ap (λ (k : ℕ). value_accepts k body) (sym (found_number kind form is))
