-- What octets read as, by the grammars of the two planes.
use Rattle.std.proofs.Common.{◌≡◌, inl, inr, ℕ, ◌<◌, ◌≤◌, ◌-◌, Bool, true, false, length, take, nat_lt, Result, Ok, Err, refl, sym, ◌∙◌, ap, if◌then◌else◌, arith}
use Rattle.std.proofs.lemmas.Bool.Decides.{nat_tests}
use Rattle.gtp_v2.specs.declared.fault.V2Fault.{V2Fault}
use Rattle.gtp_v2.specs.declared.fault.V2Fault.TheVariants as faults
use Rattle.gtp_v2.specs.Message.{MessageValue}
use Rattle.gtp_v2.specs.reading.Message.{message_at}
use Rattle.gtp_v2.specs.Prefixes.{prefix_fault}
use Rattle.gtp_v2.proofs.Told as control
use Rattle.gtp_v2.proofs.Prefixes.{prefixes_fail}
use Rattle.gtp_user.specs.declared.fault.UserFault.{UserFault}
use Rattle.gtp_user.specs.declared.fault.UserFault.TheVariants as user_faults
use Rattle.gtp_user.specs.Message as user_messages
use Rattle.gtp_user.specs.reading.Message as user_octets
use Rattle.gtp_user.proofs.Messages as user
use Rattle.gtp_user.proofs.Prefixes.{few_fail, fewer_fail}
use Rattle.gtp_machine.specs.Input.{Control_fault, User_fault, User_message}
use Rattle.gtp_machine.specs.Reading.{control_fault, control_reading_of, control_reading, cut_fault, user_reading_of, user_reading, IsReadOf}
use Rattle.gtp_machine.specs.Reading.{IsUserReadOf, ControlByGrammar, UserByGrammar, CutsRead, UserCutsRead, DecodedReads, UserDecodedReads}
use Rattle.gtp_machine.proofs.Octets.ByName.{user_by_name}
use Rattle.gtp_v2.specs.Body.{message_value}

pub control_by_grammar : ControlByGrammar
control_by_grammar octets reading = (by_outcome (message_at octets) refl, spelled)
  where
    by_outcome : (r : Result MessageValue V2Fault) → message_at octets ≡ r → reading ≡ control_reading octets → IsReadOf octets reading
    by_outcome (Ok m) e is = inl (m, (control.message_decided octets).ok m e, is ∙ ap control_reading_of e)
    by_outcome (Err f) e is = inr (f, (control.message_decided octets).err f e, is ∙ ap control_reading_of e)

    spelled : IsReadOf octets reading → reading ≡ control_reading octets
    spelled (inl (m, is, as_m)) = as_m ∙ sym (ap control_reading_of ((control.message_decided octets).is m is))
    spelled (inr (f, fails, as_f)) = as_f ∙ sym (ap control_reading_of ((control.message_decided octets).fails f fails))

pub user_by_grammar : UserByGrammar
user_by_grammar octets reading = (by_outcome (user_octets.message_at octets) refl, spelled)
  where
    by_outcome : (r : Result user_messages.MessageValue UserFault) → user_octets.message_at octets ≡ r → reading ≡ user_reading octets → IsUserReadOf octets reading
    by_outcome (Ok m) e is = inl (m, (user.message_decided octets).ok m e, is ∙ ap user_reading_of e)
    by_outcome (Err f) e is = inr (f, (user.message_decided octets).err f e, is ∙ ap user_reading_of e)

    spelled : IsUserReadOf octets reading → reading ≡ user_reading octets
    spelled (inl (m, is, as_m)) = as_m ∙ sym (ap user_reading_of ((user.message_decided octets).is m is))
    spelled (inr (f, fails, as_f)) = as_f ∙ sym (ap user_reading_of ((user.message_decided octets).fails f fails))

pub decoded_reads : DecodedReads
decoded_reads octets m is = sym (ap control_reading_of ((control.message_decided octets).is (message_value m) is))

pub user_decoded_reads : UserDecodedReads
user_decoded_reads octets m is = ap (λ k. User_message k) (sym (user_by_name m)) ∙ sym (ap user_reading_of ((user.message_decided octets).is (user_messages.message_value m) is))

-- the printed number of the fault of a cut
cut_number : (count whole : ℕ) → control_fault (prefix_fault count whole) ≡ Control_fault (cut_fault count)
cut_number count whole = by_test (nat_lt count 4)
  where
    by_test : (b : Bool) → control_fault (if b then faults.Short count else faults.Length (whole - 4) (count - 4)) ≡ Control_fault (if b then 1 else 3)
    by_test true = refl
    by_test false = refl

pub cuts_read : CutsRead
cuts_read octets m count is short =
    let fault = prefix_fault count (length octets) in
    sym (cut_number count (length octets)) ∙ sym (ap control_reading_of ((control.message_decided (take count octets)).fails fault (prefixes_fail octets m count is short)))

pub user_cuts_read : UserCutsRead
user_cuts_read octets m count is short = by_test (nat_lt count 8) refl
  where
    by_test : (b : Bool) → nat_lt count 8 ≡ b → User_fault (if b then 1 else 4) ≡ user_reading (take count octets)
    by_test true e =
        let few : count < 8 = grind (arith, nat_tests) in
        sym (ap user_reading_of ((user.message_decided (take count octets)).fails (user_faults.Short count) (few_fail octets m count is few)))
    by_test false e =
        let some : 8 ≤ count = grind (arith, nat_tests) in
        sym (ap user_reading_of ((user.message_decided (take count octets)).fails (user_faults.Length (length octets - 8) (count - 8)) (fewer_fail octets m count is some short)))
