-- The messages of the possible run can be sent.
use Rattle.std.proofs.Common.{◌≡◌, ◌⊎◌, inl, inr, ℕ, ◌≤◌, ◌<◌, true, List, [], ◌∷◌, ◌++◌, Some, None, refl, sym, subst, arith, rules}
use Rattle.std.specs.Prelude.{nat_lt}
use Rattle.std.specs.List.{list_all}
use Rattle.std.proofs.lemmas.List.Elements.{All-from_recursion}
use Rattle.gtp_ie.specs.Value.{encoding_of}
use Rattle.gtp_ie.proofs.Again.{recovery_again, ebi_again}
use Rattle.gtp_v2.specs.Kinds.{HasKind, RowsHaveKinds}
use Rattle.gtp_v2.specs.Text.{value_encoding, groups_encoding, several_encoding}
use Rattle.gtp_v2.specs.DeleteBearerResponse.{removal_response_context_rows}
use Rattle.gtp_user.specs.Encoding.{content_encoding, options_encoding}
use Rattle.gtp_machine.specs.Element.{PdnAddress, cause_of}
use Rattle.gtp_machine.specs.Message.{Message, Echo_request, Echo_response, Create_session_request, Create_session_response, Create_bearer_request}
use Rattle.gtp_machine.specs.Message.{Create_bearer_response, Delete_bearer_request, Delete_bearer_response, Packet_data}
use Rattle.gtp_machine.specs.Node.{Role}
use Rattle.gtp_machine.specs.Spelling.{AreOctets, IsSendable}
use Rattle.gtp_machine.specs.World.{Sent, HasSent}
use Rattle.gtp_machine.proofs.Worlds.Beginning as first
use Rattle.gtp_machine.proofs.Worlds.Beginning.{plain_qos, control, user, serving_ip, packet_ip, serving_config, packet_config, packet_heard, w0}
use Rattle.gtp_machine.proofs.Exchange.Ranges.{alone, spelled_cause as cause, zeros, given_written, request_sendable, response_sendable}
use Rattle.gtp_machine.proofs.Exchange.Added.{wanted_sendable, grant_sendable}
use Rattle.gtp_machine.proofs.Exchange.Nodes.{type_is, can_be_had}
use Rattle.gtp_machine.specs.Exchange.{IsTemplate, IsConfigured, IsQos, IsSpecified}
use Rattle.gtp_machine.specs.Choice.{IsGiven, IsIdentity}
use Rattle.gtp_values.specs.Address.{IsIp}
use Rattle.gtp_values.specs.declared.address.Ip.TheVariants.{V4}
use Rattle.gtp_machine.proofs.Worlds.Possible.{dedicated, r, x}
use Rattle.gtp_machine.proofs.Octets.AsOctets.{none, and, joined, closed}

-- octets that stand there, and one more
ended : (octets : List ℕ) → list_all (λ octet. nat_lt octet 256) octets ≡ true → (last : ℕ) → last < 256 → AreOctets (octets ++ last ∷ [])
ended octets are last small = joined octets (last ∷ []) (closed octets are) (and last [] small none)

-- an address of the two gateways
ip : (last : ℕ) → last < 256 → IsIp (V4 (10 ∷ 0 ∷ 0 ∷ last ∷ []))
ip last small = (refl, All-from_recursion (λ octet. octet < 256) (10 ∷ 0 ∷ 0 ∷ last ∷ []) (omega arith, (omega arith, (omega arith, (small, tt)))))

pub serving_is : IsConfigured serving_config
serving_is =
    record {
      control = ip 1 (omega arith);
      user = ip 1 (omega arith);
      v4 = record { few = omega arith; within = omega arith };
      v6 = record { long = refl; few = omega arith; within = omega arith };
      octets = (zeros 16).each;
      templates = All-from_recursion IsTemplate [] tt;
    }

pub packet_is : (count : ℕ) → count ≤ 65536 → IsConfigured (packet_config count)
packet_is count few =
    record {
      control = ip 2 (omega arith);
      user = ip 2 (omega arith);
      v4 = record { few = omega arith; within = omega arith };
      v6 = record { long = refl; few = few; within = omega (arith, few) };
      octets = (zeros 16).each;
      templates = All-from_recursion IsTemplate [] tt;
    }

quality : IsQos plain_qos
quality = record { class = omega arith; level = omega arith; most = record { up = omega arith; down = omega arith }; guaranteed = record { up = omega arith; down = omega arith } }

pub specified : (pdn : ℕ) → IsSpecified (first.spec pdn)
specified pdn = record {
  imsi = record { least = omega arith; most = omega arith; decimal = All-from_recursion (λ digit. digit < 10) (0 ∷ 0 ∷ 1 ∷ 0 ∷ 1 ∷ 1 ∷ []) (search rules) };
  technology = omega arith;
  access_point = record { least = omega arith; most = omega arith; labels = ((97 ∷ []) ∷ [], (record { least = omega arith; most = omega arith; octets = (refl, tt) }, tt), refl) };
  network = record {
    country = refl;
    least = omega arith;
    most = omega arith;
    country_digits = All-from_recursion (λ digit. digit < 10) (0 ∷ 0 ∷ 1 ∷ []) (search rules);
    network_digits = All-from_recursion (λ digit. digit < 10) (0 ∷ 1 ∷ []) (search rules);
  };
  selection = omega arith;
  ambr = record { up = omega arith; down = omega arith };
  qos = quality;
}

module _ (pdn count : ℕ) (address : PdnAddress) (few : count ≤ 65536) (given : IsGiven (packet_heard pdn count address) pdn address) where
  identity : IsIdentity 5
  identity = record { low = omega arith; high = omega arith }

  known : (pdn ≡ 1) ⊎ ((pdn ≡ 2) ⊎ (pdn ≡ 3))
  known = type_is (packet_heard pdn count address) pdn (can_be_had (packet_heard pdn count address) pdn address given)

  pub session_request : IsSendable (Create_session_request (first.q pdn count address))
  session_request = request_sendable (w0 count).serving.node (first.spec pdn) control user 0 serving_is (specified pdn) identity known (omega arith) (omega arith) (omega arith) (omega arith)

  pub session_response : IsSendable (Create_session_response (first.a pdn count address))
  session_response =
      response_sendable (w0 count).serving.node (first.spec pdn) control user 0 serving_is (specified pdn) identity known (omega arith) (omega arith)
      (omega arith) (omega arith) (packet_heard pdn count address) control user address (packet_is count few) (omega arith) (omega arith)
      (omega arith) (given_written (packet_heard pdn count address) (packet_is count few) pdn address given)

pub bearer_request : IsSendable (Create_bearer_request r)
bearer_request =
    wanted_sendable control 0 5 (33 ∷ []) plain_qos dedicated packet_ip (omega arith) (omega arith) (record { low = omega arith; high = omega arith })
    (omega arith) (All-from_recursion (λ octet. octet < 256) (33 ∷ []) (omega arith, tt)) quality (omega arith) (ip 2 (omega arith))

pub bearer_response : IsSendable (Create_bearer_response x)
bearer_response =
    grant_sendable control 0 1 dedicated packet_ip (omega arith) (omega arith) (omega arith) (omega arith) (ip 2 (omega arith)) 6 dedicated serving_ip
    (record { low = omega arith; high = omega arith }) (omega arith) (ip 1 (omega arith))

pub delete_bearer_request : IsSendable (Delete_bearer_request (record { header = control; number = 0; linked = None; identities = 6 ∷ [] }))
unfolding encoding_of value_encoding groups_encoding several_encoding
delete_bearer_request = record {
  own = tt;
  meets = record {
    header = (omega arith, omega arith);
    kinds = (tt, (alone (HasKind 73) _ (ebi_again 6 (omega arith)), tt));
    marks = search rules;
    short = omega arith;
  };
  octets = closed _ refl;
}

pub delete_bearer_response : IsSendable (Delete_bearer_response
    (record {
      header = control;
      number = 0;
      cause = cause_of 16;
      linked = None;
      contexts = record { identity = 6; cause = cause_of 16 } ∷ [];
      recovery = Some 1;
    }))
unfolding encoding_of value_encoding groups_encoding several_encoding
delete_bearer_response = record {
  own = tt;
  meets = record {
    header = (omega arith, omega arith);
    kinds = (cause 16, (tt, (alone (RowsHaveKinds removal_response_context_rows) _ (ebi_again 6 (omega arith), (cause 16, tt)), (recovery_again 1, tt))));
    marks = search rules;
    short = omega arith;
  };
  octets = closed _ refl;
}

pub echo_request : (counter : ℕ) → counter < 256 → IsSendable (Echo_request (record { number = 0; recovery = counter }))
unfolding encoding_of value_encoding groups_encoding several_encoding
echo_request counter small =
    record {
      own = tt;
      meets = record { header = omega arith; kinds = (recovery_again counter, tt); marks = search rules; short = omega arith };
      octets = ended (64 ∷ 1 ∷ 0 ∷ 9 ∷ 0 ∷ 0 ∷ 0 ∷ 0 ∷ 3 ∷ 0 ∷ 1 ∷ 0 ∷ []) refl counter small;
    }

pub echo_response : (counter : ℕ) → counter < 256 → IsSendable (Echo_response (record { number = 0; recovery = counter }))
unfolding encoding_of value_encoding groups_encoding several_encoding
echo_response counter small =
    record {
      own = tt;
      meets = record { header = omega arith; kinds = (recovery_again counter, tt); marks = search rules; short = omega arith };
      octets = ended (64 ∷ 2 ∷ 0 ∷ 9 ∷ 0 ∷ 0 ∷ 0 ∷ 0 ∷ 3 ∷ 0 ∷ 1 ∷ 0 ∷ []) refl counter small;
    }

pub packet : (octet : ℕ) → octet < 256 → IsSendable (Packet_data dedicated (octet ∷ []))
unfolding content_encoding options_encoding
packet octet small =
    record {
      own = tt;
      meets = record { encodable = tt; seq = tt; ext = tt; teid = omega arith; range = tt; short = omega arith };
      octets = ended (48 ∷ 255 ∷ 0 ∷ 1 ∷ 1 ∷ 0 ∷ 0 ∷ 3 ∷ []) refl octet small;
    }

-- each message of the list can be sent
abbrev pub AllSendable : List Sent → Type 0
AllSendable [] = Unit {0}
AllSendable (s ∷ history) = IsSendable s.what × AllSendable history

pub among_sendable : (history : List Sent) → AllSendable history → (role : Role) (m : Message) → HasSent history role m → IsSendable m
among_sendable [] all role m none = absurd none
among_sendable (s ∷ history) all role m (inl is) = subst (λ (k : Sent). IsSendable k.what) (sym is) all.0
among_sendable (s ∷ history) all role m (inr has) = among_sendable history all.1 role m has
