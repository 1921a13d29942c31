-- What a decoded message reads as, by the names of its fields.
use Rattle.std.proofs.Common.{◌≡◌, ℕ, List, [], ◌∷◌, map, Option, Some, None, option_map, option_to_list, unwrap_or, refl, sym}
use Rattle.gtp_values.specs.TunnelEnd.{TunnelEnd}
use Rattle.gtp_ie.specs.declared.value.recovery.Recovery.{Recovery}
use Rattle.gtp_ie.specs.declared.value.ebi.EbiValue.{EbiValue}
use Rattle.gtp_ie.specs.Value.{Value, OfRecovery, OfAmbr, OfEbi, OfPaa, OfQos, OfPlmn, OfFTeid, OfChargingId, OfPti, OfSelection}
use Rattle.gtp_v2.specs.declared.message.Message as decoded
use Rattle.gtp_v2.specs.declared.body.Body.{Body}
use Rattle.gtp_v2.specs.declared.body.Body.TheVariants as bodies
use Rattle.gtp_v2.specs.declared.body.create_session_request.SessionRequestContext.{SessionRequestContext}
use Rattle.gtp_v2.specs.declared.body.create_session_response.SessionResponseContext.{SessionResponseContext}
use Rattle.gtp_v2.specs.declared.body.create_bearer_request.BearerRequestContext.{BearerRequestContext}
use Rattle.gtp_v2.specs.declared.body.create_bearer_response.BearerResponseContext.{BearerResponseContext}
use Rattle.gtp_v2.specs.CreateSessionRequest.{session_request_context_values}
use Rattle.gtp_v2.specs.CreateSessionResponse.{session_response_context_values}
use Rattle.gtp_v2.specs.CreateBearerRequest.{bearer_request_context_values}
use Rattle.gtp_v2.specs.CreateBearerResponse.{bearer_response_context_values}
use Rattle.gtp_v2.specs.Body.{message_value}
use Rattle.gtp_v2.specs.declared.body.delete_bearer_response.RemovalResponseContext.{RemovalResponseContext}
use Rattle.gtp_v2.specs.DeleteBearerResponse.{removal_response_context_values}
use Rattle.gtp_user.specs.declared.message.UserBody.{UserBody}
use Rattle.gtp_user.specs.declared.message.UserBody.TheVariants as user_bodies
use Rattle.gtp_user.specs.Message as user_messages
use Rattle.gtp_machine.specs.Message.{Create_session_request, Create_session_response, Delete_session_request, Delete_session_response}
use Rattle.gtp_machine.specs.Message.{Create_bearer_request, Create_bearer_response, Delete_bearer_request, Delete_bearer_response}
use Rattle.gtp_machine.specs.Decoded.{number_of, end_in, qos_in, ambr_in, network_in, paa_in, first_in, requested, created, wanted, given, removed, contexts_in, row_in, list_in, message_of}
use Rattle.gtp_machine.specs.Named.{requested_bearer, created_bearer, wanted_bearer, given_bearer, session_request_with, bearer_request_with, body_message, ControlByName}
use Rattle.gtp_machine.specs.Reading.{header_in, removed_bearer, user_body_message, user_content_message, UserByName}

-- what the contexts of a Delete Bearer Response read as
pub removed_read : (cs : List RemovalResponseContext) → map removed (map removal_response_context_values cs) ≡ map removed_bearer cs
removed_read [] = refl
removed_read (c ∷ cs) = λ i. removed_bearer c ∷ removed_read cs i

-- what is written of an optional row is what it has
optional : {A X : Type 0} (of : A → Value) (out : Value → Option X) (f : A → X) → ((a : A) → out (of a) ≡ Some (f a)) → (o : Option A)
    → first_in out (option_to_list (option_map of o)) ≡ option_map f o
optional of out f each None = refl
optional of out f each (Some a) = each a

-- the same, where the value is kept as it is
kept : {X : Type 0} (of : X → Value) (out : Value → Option X) → ((x : X) → out (of x) ≡ Some x) → (o : Option X) → first_in out (option_to_list (option_map of o)) ≡ o
kept of out each None = refl
kept of out each (Some x) = each x

-- what each of some things reads as
each_read : {X Y V : Type 0} (values : X → V) (read : V → Y) (f : X → Y) → ((x : X) → read (values x) ≡ f x) → (xs : List X) → map read (map values xs) ≡ map f xs
each_read values read f each [] = refl
each_read values read f each (x ∷ xs) = λ i. each x i ∷ each_read values read f each xs i

ends : (o : Option TunnelEnd) → first_in end_in (option_to_list (option_map OfFTeid o)) ≡ o
ends o = kept OfFTeid end_in (λ e. refl) o

recovered : (o : Option Recovery) → first_in number_of (option_to_list (option_map (λ r. OfRecovery r.0.0) o)) ≡ option_map (λ r. r.0.0) o
recovered o = optional (λ r. OfRecovery r.0.0) number_of (λ r. r.0.0) (λ r. refl) o

linked : (o : Option EbiValue) → first_in number_of (option_to_list (option_map (λ e. OfEbi e.0) o)) ≡ option_map (λ e. e.0) o
linked o = optional (λ e. OfEbi e.0) number_of (λ e. e.0) (λ e. refl) o

created_read : (c : SessionResponseContext) → created (session_response_context_values c) ≡ created_bearer c
created_read c = λ i. record {
  identity = c.ebi.0;
  cause = c.cause;
  user = ends c.user i;
  qos = kept OfQos qos_in (λ q. refl) c.qos i;
  charging = optional (λ id. OfChargingId id.0) number_of (λ id. id.0) (λ id. refl) c.charging_id i;
}

wanted_read : (c : BearerRequestContext) → wanted (bearer_request_context_values c) ≡ wanted_bearer c
wanted_read c = λ i. record { identity = c.ebi.0; tft = c.tft; user = c.user; qos = c.qos; charging = optional (λ id. OfChargingId id.0) number_of (λ id. id.0) (λ id. refl) c.charging_id i }

given_read : (c : BearerResponseContext) → given (bearer_response_context_values c) ≡ given_bearer c
given_read c = λ i. record { identity = c.ebi.0; cause = c.cause; serving_user = ends c.serving_user i; packet_user = ends c.packet_user i }

user_body_read : (number : Option ℕ) (body : UserBody) → user_body_message number body ≡ user_content_message number (user_messages.content_of body)
user_body_read number user_bodies.EchoRequest = refl
user_body_read number user_bodies.EchoResponse = refl
user_body_read number (user_bodies.ErrorIndication peer teid) = refl
user_body_read number (user_bodies.Notification types) = refl
user_body_read number (user_bodies.EndMarker teid) = refl
user_body_read number (user_bodies.Packet teid payload) = refl
user_body_read number (user_bodies.Other kind teid octets) = refl

pub user_by_name : UserByName
user_by_name m = sym (user_body_read m.seq m.body)

module _ (m : decoded.Message) where
  -- the message with this body
  abbrev with : Body → decoded.Message
  with body = record m { body = body }

  abbrev header : ℕ
  header = header_in m.teid

  pub body_read : (body : Body) → message_of (message_value (with body)) ≡ body_message header m.seq body
  unfolding row_in list_in contexts_in
  body_read (bodies.EchoRequest e) = refl
  body_read (bodies.EchoResponse e) = refl
  body_read (bodies.CreateSessionRequest q) = of_contexts q.contexts
    where
      of_contexts : (contexts : List SessionRequestContext) → message_of (message_value (with (bodies.CreateSessionRequest (record q { contexts = contexts }))))
          ≡ session_request_with header m.seq q contexts
      of_contexts [] = refl
      of_contexts (first ∷ further) = λ i. Create_session_request (record {
        header = header;
        number = m.seq;
        imsi = q.imsi;
        rat = q.rat.0;
        network = kept OfPlmn network_in (λ n. refl) q.serving_network i;
        control = q.control;
        access_point = q.apn;
        selection = optional (λ s. OfSelection s.0) number_of (λ s. s.0) (λ s. refl) q.selection i;
        pdn = q.pdn_type.0;
        address = kept OfPaa paa_in (λ p. refl) q.paa i;
        ambr = kept OfAmbr ambr_in (λ a. refl) q.ambr i;
        context = requested_bearer first;
        further = each_read session_request_context_values requested requested_bearer (λ c. refl) further i;
        recovery = recovered q.recovery i;
      })
  body_read (bodies.CreateSessionResponse a) = λ i. Create_session_response (record {
    header = header;
    number = m.seq;
    cause = a.cause;
    control = ends a.control i;
    address = kept OfPaa paa_in (λ p. refl) a.paa i;
    ambr = kept OfAmbr ambr_in (λ x. refl) a.ambr i;
    contexts = each_read session_response_context_values created created_bearer created_read a.contexts i;
    recovery = recovered a.recovery i;
  })
  body_read (bodies.DeleteSessionRequest d) = λ i. Delete_session_request (record { header = header; number = m.seq; linked = linked d.linked_ebi i })
  body_read (bodies.DeleteSessionResponse d) = λ i. Delete_session_response (record { header = header; number = m.seq; cause = d.cause; recovery = recovered d.recovery i })
  body_read (bodies.CreateBearerRequest r) = of_contexts r.contexts
    where
      of_contexts : (contexts : List BearerRequestContext) → message_of (message_value (with (bodies.CreateBearerRequest (record r { contexts = contexts }))))
          ≡ bearer_request_with header m.seq r contexts
      of_contexts [] = refl
      of_contexts (first ∷ further) = λ i. Create_bearer_request (record {
        header = header;
        number = m.seq;
        transaction = optional (λ t. OfPti t.0) number_of (λ t. t.0) (λ t. refl) r.pti i;
        linked = r.linked_ebi.0;
        context = wanted_read first i;
        further = each_read bearer_request_context_values wanted wanted_bearer wanted_read further i;
      })
  body_read (bodies.CreateBearerResponse x) =
      λ i. Create_bearer_response (record {
        header = header;
        number = m.seq;
        cause = x.cause;
        contexts = each_read bearer_response_context_values given given_bearer given_read x.contexts i;
        recovery = recovered x.recovery i;
      })
  body_read (bodies.DeleteBearerRequest d) =
      λ i. Delete_bearer_request (record {
        header = header;
        number = m.seq;
        linked = linked d.linked_ebi i;
        identities = each_read (λ e. OfEbi e.0) (λ v. unwrap_or (number_of v) 0) (λ e. e.0) (λ e. refl) d.ebis i;
      })
  body_read (bodies.DeleteBearerResponse d) =
      λ i. Delete_bearer_response
      (record {
        header = header;
        number = m.seq;
        cause = d.cause;
        linked = linked d.linked_ebi i;
        contexts = removed_read d.contexts i;
        recovery = recovered d.recovery i;
      })
  body_read other = refl

pub control_by_name : ControlByName
control_by_name m = body_read m m.body
