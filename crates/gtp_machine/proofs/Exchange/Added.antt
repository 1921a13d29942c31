-- The request of a template's bearer and its answers can be sent, where what they carry has room in them.
use Rattle.std.proofs.Common.{◌≡◌, ℕ, ◌+◌, ◌^◌, ◌<◌, ◌≤◌, length, List, [], ◌∷◌, Some, None, true, false, refl, subst, arith, rules}
use Rattle.std.specs.Prelude.{All, nat_eq, Bool, option_and_then, Option}
use Rattle.std.specs.Cmp.Lexicographic.{pointwise}
use Rattle.std.proofs.lemmas.List.Elements.{All-head, All-tail}
use Rattle.gtp_values.specs.Address.{IsIp}
use Rattle.gtp_values.specs.declared.address.Ip.{Ip}
use Rattle.gtp_values.specs.declared.qos.Qos.{Qos}
use Rattle.gtp_ie.specs.Text.{element_encoding}
use Rattle.gtp_ie.specs.Value.{OfCause, OfEbi, OfTft, OfQos, OfFTeid, OfChargingId, encoding_of}
use Rattle.gtp_ie.proofs.Again.{recovery_again, ebi_again, charging_id_again}
use Rattle.gtp_ie.proofs.AgainNames.{tft_again}
use Rattle.gtp_v2.specs.Encoding.{carried}
use Rattle.gtp_v2.specs.Marks.{MeetsMarks}
use Rattle.gtp_v2.specs.Kinds.{RowsHaveKinds}
use Rattle.gtp_v2.specs.Text.{value_encoding, groups_encoding, rows_encoding}
use Rattle.gtp_v2.specs.CreateBearerRequest.{bearer_request_context_rows}
use Rattle.gtp_v2.specs.CreateBearerResponse.{bearer_response_context_rows}
use Rattle.gtp_machine.specs.Config.{Template, Config, template_for, access_point_for, template_asked}
use Rattle.gtp_machine.specs.Element.{cause_of, tunnel_end}
use Rattle.gtp_machine.specs.Message.{WantedBearer, CreateBearerRequest, GivenBearer, CreateBearerResponse, Create_bearer_request, Create_bearer_response}
use Rattle.gtp_machine.specs.Choice.{IsIdentity}
use Rattle.gtp_machine.specs.Spelling.{control_value, wanted_rows, given_rows, IsSendable}
use Rattle.gtp_machine.specs.Exchange.{IsQos}
use Rattle.gtp_machine.proofs.Exchange.Ranges.{IsAtMost, nothing, with_more, group_more, octet_short, cause_short, end_short, qos_short}
use Rattle.gtp_machine.proofs.Exchange.Ranges.{charging_short, headed_octets, identity_again, alone, spelled_cause, spelled_end, spelled_qos}
use Rattle.gtp_machine.proofs.Basics.Facts.{◌⊗◌}
use Rattle.gtp_machine.proofs.Octets.AsOctets.{none, and, element_octets}

-- what holds of each template holds of that of an access point
found_template : (P : Template → Type 0) (name : List ℕ) (templates : List Template) (t : Template) → All P templates → template_for name templates ≡ Some t → P t
found_template P name [] t all is = absurd (cc is)
found_template P name (x ∷ templates) t all is = by (pointwise nat_eq x.access_point name) refl (λ later. found_template P name templates t (All-tail P x templates all) later)
  where
    by : (same : Bool) → pointwise nat_eq x.access_point name ≡ same → (template_for name templates ≡ Some t → P t) → P t
    by true same rest = let one : x ≡ t = cc (is, same) in subst P one (All-head P x templates all)
    by false same rest = rest (cc (is, same))

-- so what holds of each template holds of that of the access point that is meant by a name
pub asked_template : (P : Template → Type 0) (config : Config) (name : List ℕ) (t : Template) → All P config.templates → template_asked config name ≡ Some t → P t
asked_template P config name t all is = by (access_point_for config name) is
  where
    by : (own : Option (List ℕ)) → option_and_then (λ o. template_for o config.templates) own ≡ Some t → P t
    by None found = absurd (cc found)
    by (Some own) found = found_template P own config.templates t all found

tft_short : (tft : List ℕ) → length tft ≤ 255 → All (λ octet. octet < 256) tft → IsAtMost (encoding_of (OfTft tft)) 255
unfolding encoding_of
tft_short tft short octets = record { few = short; octets = record { each = octets } }

-- the request
module _ (header number linked : ℕ) (tft : List ℕ) (qos : Qos) (user : ℕ) (own : Ip) (header_small : header < 2 ^ 32)
    (number_small : number < 2 ^ 24) (identity : IsIdentity linked) (short : length tft ≤ 255) (octets : All (λ octet. octet < 256) tft)
    (quality : IsQos qos) (user_small : user < 2 ^ 32) (address : IsIp own) where
  abbrev context : WantedBearer
  context = record { identity = 0; tft = tft; user = tunnel_end 5 user own; qos = qos; charging = Some user }

  abbrev wanted : CreateBearerRequest
  wanted = record { header = header; number = number; transaction = None; linked = linked; context = context; further = [] }

  context_short : IsAtMost (rows_encoding bearer_request_context_rows (wanted_rows context)) 675
  unfolding encoding_of value_encoding
  context_short =
      with_more 73 0 100 (encoding_of (OfEbi 0)) _ 571 (search rules) (octet_short 0 (omega arith))
      (with_more 84 0 255 (encoding_of (OfTft tft)) _ 312 (search rules) (tft_short tft short octets)
      (with_more 87 1 100 (encoding_of (OfFTeid (tunnel_end 5 user own))) _ 208 (search rules) (end_short 5 user own (omega arith) address)
      (with_more 80 0 100 (encoding_of (OfQos qos)) _ 104 (search rules) (qos_short qos quality)
      (with_more 94 0 100 (encoding_of (OfChargingId user)) [] 0 (search rules) (charging_short user) nothing))))

  wanted_carried : IsAtMost (carried (control_value (Create_bearer_request wanted))) 783
  unfolding encoding_of value_encoding groups_encoding
  wanted_carried =
      with_more 73 0 100 (encoding_of (OfEbi linked)) _ 679 (search rules) (octet_short linked (omega (arith, identity.high)))
      (group_more 93 0 675 (rows_encoding bearer_request_context_rows (wanted_rows context)) [] 0 (search rules) context_short nothing)

  pub wanted_sendable : IsSendable (Create_bearer_request wanted)
  unfolding encoding_of value_encoding groups_encoding
  wanted_sendable = record {
    own = tt;
    meets = record {
      header = (header_small, number_small);
      kinds =
          tt
          ⊗ ebi_again linked (identity_again linked identity)
          ⊗ alone (RowsHaveKinds bearer_request_context_rows) _
          (ebi_again 0 (omega arith) ⊗ tft_again tft short ⊗ spelled_end 5 user own address (omega arith) user_small ⊗ spelled_qos qos quality ⊗
          charging_id_again user user_small ⊗ tt)
          ⊗ tt;
      marks = search rules;
      short = omega (arith, wanted_carried.few);
    };
    octets = headed_octets 95 header number _ (omega arith) wanted_carried.octets;
  }

-- its answers: one gives a bearer, and one says that there is none to give
module _ (header number counter user : ℕ) (own : Ip) (header_small : header < 2 ^ 32) (number_small : number < 2 ^ 24)
    (counter_small : counter < 256) (user_small : user < 2 ^ 32) (address : IsIp own) where
  -- an answer with this cause and this bearer context
  abbrev answer : ℕ → GivenBearer → CreateBearerResponse
  answer cause context = record { header = header; number = number; cause = cause_of cause; contexts = context ∷ []; recovery = Some counter }

  answer_sendable : (cause : ℕ) (context : GivenBearer) (most : ℕ) → cause < 256 → most ≤ 416 → IsAtMost (rows_encoding bearer_response_context_rows (given_rows context)) most
      → RowsHaveKinds bearer_response_context_rows (given_rows context)
      → MeetsMarks (control_value (Create_bearer_response (answer cause context))) → IsSendable (Create_bearer_response (answer cause context))
  unfolding encoding_of value_encoding groups_encoding
  answer_sendable cause context most low few context_short context_kinds marks =
      let counter_short : IsAtMost (element_encoding 3 0 (counter ∷ [])) 5 =
      record { few = omega arith; octets = element_octets 3 0 (counter ∷ []) (omega arith) (omega arith) (and counter [] counter_small none) } in
      let short : IsAtMost (carried (control_value (Create_bearer_response (answer cause context)))) (4 + 100 + (4 + most + 5)) =
      with_more 2 0 100 (encoding_of (OfCause (cause_of cause))) _ (4 + most + 5) (search rules) (cause_short cause low)
      (group_more 93 0 most (rows_encoding bearer_response_context_rows (given_rows context)) _ 5 (search rules) context_short counter_short) in
      record {
        own = tt;
        meets = record {
          header = (header_small, number_small);
          kinds = spelled_cause cause ⊗ alone (RowsHaveKinds bearer_response_context_rows) _ context_kinds ⊗ recovery_again counter ⊗ tt;
          marks = marks;
          short = omega (arith, short.few, few);
        };
        octets = headed_octets 96 header number _ (omega arith) short.octets;
      }

  abbrev none_given : GivenBearer
  none_given = record { identity = 0; cause = cause_of 73; serving_user = None; packet_user = Some (tunnel_end 5 user own) }

  none_short : IsAtMost (rows_encoding bearer_response_context_rows (given_rows none_given)) 312
  unfolding encoding_of value_encoding
  none_short =
      with_more 73 0 100 (encoding_of (OfEbi 0)) _ 208 (search rules) (octet_short 0 (omega arith))
      (with_more 2 0 100 (encoding_of (OfCause (cause_of 73))) _ 104 (search rules) (cause_short 73 (omega arith))
      (with_more 87 3 100 (encoding_of (OfFTeid (tunnel_end 5 user own))) [] 0 (search rules) (end_short 5 user own (omega arith) address) nothing))

  pub refusal_sendable : IsSendable (Create_bearer_response (answer 73 none_given))
  refusal_sendable =
      answer_sendable 73 none_given 312 (omega arith) (omega arith) none_short
      (ebi_again 0 (omega arith) ⊗ spelled_cause 73 ⊗ tt ⊗ spelled_end 5 user own address (omega arith) user_small ⊗ tt) (search rules)

  module _ (identity given : ℕ) (there : Ip) (is_identity : IsIdentity identity) (given_small : given < 2 ^ 32) (address_there : IsIp there) where
    abbrev context_given : GivenBearer
    context_given = record { identity = identity; cause = cause_of 16; serving_user = Some (tunnel_end 4 given there); packet_user = Some (tunnel_end 5 user own) }

    given_short : IsAtMost (rows_encoding bearer_response_context_rows (given_rows context_given)) 416
    unfolding encoding_of value_encoding
    given_short =
        with_more 73 0 100 (encoding_of (OfEbi identity)) _ 312 (search rules) (octet_short identity (omega (arith, is_identity.high)))
        (with_more 2 0 100 (encoding_of (OfCause (cause_of 16))) _ 208 (search rules) (cause_short 16 (omega arith))
        (with_more 87 2 100 (encoding_of (OfFTeid (tunnel_end 4 given there))) _ 104 (search rules) (end_short 4 given there (omega arith) address_there)
        (with_more 87 3 100 (encoding_of (OfFTeid (tunnel_end 5 user own))) [] 0 (search rules) (end_short 5 user own (omega arith) address) nothing)))

    pub grant_sendable : IsSendable (Create_bearer_response (answer 16 context_given))
    grant_sendable =
        answer_sendable 16 context_given 416 (omega arith) (omega arith) given_short
        (ebi_again identity (identity_again identity is_identity) ⊗ spelled_cause 16 ⊗ spelled_end 4 given there address_there (omega arith)
        given_small ⊗ spelled_end 5 user own address (omega arith) user_small ⊗ tt) (search rules)
