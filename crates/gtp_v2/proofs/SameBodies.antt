-- Where `==` of what messages carry is true, contracts see the same; and then it is the same. Written by scripts/messages from the tables in specs/.
use Rattle.std.proofs.Common.{◌≡◌, ◌∙◌, ℕ, Option, Some, None, ap, refl, sym}
use Rattle.std.specs.Bool.{Decides}
use Rattle.std.specs.Cmp.Lexicographic.{bytes_decides}
use Rattle.std.proofs.lemmas.Bool.Decides.{Decides-eqb}
use Rattle.gtp_ie.specs.Value.{OfAmbr, OfApn, OfCause, OfChargingId, OfEbi, OfFTeid, OfImsi, OfPaa, OfPdnType, OfPlmn, OfPti, OfQos, OfRat, OfRecovery, OfSelection, OfTft}
use Rattle.gtp_ie.proofs.Same.{ambr_same, apn_same, cause_same, charging_id_one, charging_id_same, ebi_one, ebi_same, fteid_same, imsi_same, paa_same, pdn_type_one, pdn_type_same}
use Rattle.gtp_ie.proofs.Same.{plmn_same, pti_one, pti_same, qos_same, rat_one, rat_same, recovery_one, recovery_same, selection_one, selection_same, tft_same}
use Rattle.gtp_v2.specs.declared.body.Body.{Body}
use Rattle.gtp_v2.specs.declared.body.Body.TheVariants as bodies
use Rattle.gtp_v2.specs.contracts.body.BodyPartialEq.TheImpl as body_eq
use Rattle.gtp_v2.specs.Body.{said_of}
use Rattle.gtp_v2.proofs.Same.{row_same, option_same, list_same, plain_same, groups_same, last_same, first_same, kind_same, kept_same, tag_of, tags_apart, apart_same}
use Rattle.gtp_v2.proofs.One.{first_one, others_one, plain_one, groups_one, row_one, option_one, list_one, kind_one, kept_one}
use Rattle.gtp_v2.specs.declared.body.echo_request.EchoRequest.{EchoRequest}
use Rattle.gtp_v2.specs.contracts.body.echo_request.EchoRequestPartialEq.TheImpl as echo_request_eq
use Rattle.gtp_v2.specs.declared.body.echo_response.EchoResponse.{EchoResponse}
use Rattle.gtp_v2.specs.contracts.body.echo_response.EchoResponsePartialEq.TheImpl as echo_response_eq
use Rattle.gtp_v2.specs.declared.body.version_not_supported.VersionNotSupported.{VersionNotSupported}
use Rattle.gtp_v2.specs.contracts.body.version_not_supported.VersionNotSupportedPartialEq.TheImpl as version_not_supported_eq
use Rattle.gtp_v2.specs.declared.body.create_session_request.SessionRequestContext.{SessionRequestContext}
use Rattle.gtp_v2.specs.contracts.body.create_session_request.SessionRequestContextPartialEq.TheImpl as session_request_context_eq
use Rattle.gtp_v2.specs.declared.body.create_session_request.CreateSessionRequest.{CreateSessionRequest}
use Rattle.gtp_v2.specs.contracts.body.create_session_request.CreateSessionRequestPartialEq.TheImpl as create_session_request_eq
use Rattle.gtp_v2.specs.declared.body.create_session_response.SessionResponseContext.{SessionResponseContext}
use Rattle.gtp_v2.specs.contracts.body.create_session_response.SessionResponseContextPartialEq.TheImpl as session_response_context_eq
use Rattle.gtp_v2.specs.declared.body.create_session_response.CreateSessionResponse.{CreateSessionResponse}
use Rattle.gtp_v2.specs.contracts.body.create_session_response.CreateSessionResponsePartialEq.TheImpl as create_session_response_eq
use Rattle.gtp_v2.specs.declared.body.delete_session_request.DeleteSessionRequest.{DeleteSessionRequest}
use Rattle.gtp_v2.specs.contracts.body.delete_session_request.DeleteSessionRequestPartialEq.TheImpl as delete_session_request_eq
use Rattle.gtp_v2.specs.declared.body.delete_session_response.DeleteSessionResponse.{DeleteSessionResponse}
use Rattle.gtp_v2.specs.contracts.body.delete_session_response.DeleteSessionResponsePartialEq.TheImpl as delete_session_response_eq
use Rattle.gtp_v2.specs.declared.body.create_bearer_request.BearerRequestContext.{BearerRequestContext}
use Rattle.gtp_v2.specs.contracts.body.create_bearer_request.BearerRequestContextPartialEq.TheImpl as bearer_request_context_eq
use Rattle.gtp_v2.specs.declared.body.create_bearer_request.CreateBearerRequest.{CreateBearerRequest}
use Rattle.gtp_v2.specs.contracts.body.create_bearer_request.CreateBearerRequestPartialEq.TheImpl as create_bearer_request_eq
use Rattle.gtp_v2.specs.declared.body.create_bearer_response.BearerResponseContext.{BearerResponseContext}
use Rattle.gtp_v2.specs.contracts.body.create_bearer_response.BearerResponseContextPartialEq.TheImpl as bearer_response_context_eq
use Rattle.gtp_v2.specs.declared.body.create_bearer_response.CreateBearerResponse.{CreateBearerResponse}
use Rattle.gtp_v2.specs.contracts.body.create_bearer_response.CreateBearerResponsePartialEq.TheImpl as create_bearer_response_eq
use Rattle.gtp_v2.specs.declared.body.delete_bearer_request.DeleteBearerRequest.{DeleteBearerRequest}
use Rattle.gtp_v2.specs.contracts.body.delete_bearer_request.DeleteBearerRequestPartialEq.TheImpl as delete_bearer_request_eq
use Rattle.gtp_v2.specs.declared.body.delete_bearer_response.RemovalResponseContext.{RemovalResponseContext}
use Rattle.gtp_v2.specs.contracts.body.delete_bearer_response.RemovalResponseContextPartialEq.TheImpl as removal_response_context_eq
use Rattle.gtp_v2.specs.declared.body.delete_bearer_response.DeleteBearerResponse.{DeleteBearerResponse}
use Rattle.gtp_v2.specs.contracts.body.delete_bearer_response.DeleteBearerResponsePartialEq.TheImpl as delete_bearer_response_eq
use Rattle.gtp_v2.specs.EchoRequest.{echo_request, echo_request_fields}
use Rattle.gtp_v2.specs.EchoResponse.{echo_response, echo_response_fields}
use Rattle.gtp_v2.specs.VersionNotSupported.{version_not_supported, version_not_supported_fields}
use Rattle.gtp_v2.specs.CreateSessionRequest.{session_request_context_values, create_session_request, create_session_request_fields}
use Rattle.gtp_v2.specs.CreateSessionResponse.{session_response_context_values, create_session_response, create_session_response_fields}
use Rattle.gtp_v2.specs.DeleteSessionRequest.{delete_session_request, delete_session_request_fields}
use Rattle.gtp_v2.specs.DeleteSessionResponse.{delete_session_response, delete_session_response_fields}
use Rattle.gtp_v2.specs.CreateBearerRequest.{bearer_request_context_values, create_bearer_request, create_bearer_request_fields}
use Rattle.gtp_v2.specs.CreateBearerResponse.{bearer_response_context_values, create_bearer_response, create_bearer_response_fields}
use Rattle.gtp_v2.specs.DeleteBearerRequest.{delete_bearer_request, delete_bearer_request_fields}
use Rattle.gtp_v2.specs.DeleteBearerResponse.{removal_response_context_values, delete_bearer_response, delete_bearer_response_fields}

pub echo_request_same : (a b : EchoRequest) → Decides ((echo_request_eq.ghosts).eq a b) (echo_request_fields a ≡ echo_request_fields b)
echo_request_same a b =
    (last_same (plain_same (row_same (recovery_same a.recovery b.recovery))))

pub echo_request_one : (a b : EchoRequest) → echo_request_fields a ≡ echo_request_fields b → a ≡ b
echo_request_one a b e =
    let p0 : a.recovery ≡ b.recovery = row_one a.recovery b.recovery (λ x. OfRecovery x.0.0) recovery_one (plain_one (first_one e)) in
    let whole : b ≡ record {
      recovery = a.recovery;
    } = rw p0 refl in
    sym whole

pub echo_response_same : (a b : EchoResponse) → Decides ((echo_response_eq.ghosts).eq a b) (echo_response_fields a ≡ echo_response_fields b)
echo_response_same a b =
    (last_same (plain_same (row_same (recovery_same a.recovery b.recovery))))

pub echo_response_one : (a b : EchoResponse) → echo_response_fields a ≡ echo_response_fields b → a ≡ b
echo_response_one a b e =
    let p0 : a.recovery ≡ b.recovery = row_one a.recovery b.recovery (λ x. OfRecovery x.0.0) recovery_one (plain_one (first_one e)) in
    let whole : b ≡ record {
      recovery = a.recovery;
    } = rw p0 refl in
    sym whole

pub version_not_supported_same : (a b : VersionNotSupported) → Decides ((version_not_supported_eq.ghosts).eq a b) (version_not_supported_fields a ≡ version_not_supported_fields b)
version_not_supported_same a b =
    (λ e. refl, λ e. refl)

pub version_not_supported_one : (a b : VersionNotSupported) → version_not_supported_fields a ≡ version_not_supported_fields b → a ≡ b
version_not_supported_one a b e = refl

pub session_request_context_same : (a b : SessionRequestContext) → Decides ((session_request_context_eq.ghosts).eq a b) (session_request_context_values a ≡ session_request_context_values b)
session_request_context_same a b =
    (first_same (row_same (ebi_same a.ebi b.ebi))
    (first_same (row_same (qos_same a.qos b.qos))
    (last_same (row_same (fteid_same a.user b.user)))))

pub session_request_context_one : (a b : SessionRequestContext) → session_request_context_values a ≡ session_request_context_values b → a ≡ b
session_request_context_one a b e =
    let p0 : a.ebi ≡ b.ebi = row_one a.ebi b.ebi (λ x. OfEbi x.0) ebi_one (first_one e) in
    let e1 = others_one e in
    let p1 : a.qos ≡ b.qos = row_one a.qos b.qos OfQos (λ x y d. cc) (first_one e1) in
    let e2 = others_one e1 in
    let p2 : a.user ≡ b.user = row_one a.user b.user OfFTeid (λ x y d. cc) (first_one e2) in
    let whole : b ≡ record {
      ebi = a.ebi;
      qos = a.qos;
      user = a.user;
    } = rw (p0, p1, p2) refl in
    sym whole

pub create_session_request_same : (a b : CreateSessionRequest) → Decides ((create_session_request_eq.ghosts).eq a b) (create_session_request_fields a ≡ create_session_request_fields b)
create_session_request_same a b =
    (first_same (plain_same (row_same (imsi_same a.imsi b.imsi)))
    (first_same (plain_same (row_same (rat_same a.rat b.rat)))
    (first_same (plain_same (option_same plmn_same a.serving_network b.serving_network))
    (first_same (plain_same (row_same (fteid_same a.control b.control)))
    (first_same (plain_same (row_same (apn_same a.apn b.apn)))
    (first_same (plain_same (option_same selection_same a.selection b.selection))
    (first_same (plain_same (row_same (pdn_type_same a.pdn_type b.pdn_type)))
    (first_same (plain_same (option_same paa_same a.paa b.paa))
    (first_same (plain_same (option_same ambr_same a.ambr b.ambr))
    (first_same (groups_same (list_same session_request_context_same a.contexts b.contexts))
    (last_same (plain_same (option_same recovery_same a.recovery b.recovery)))))))))))))

pub create_session_request_one : (a b : CreateSessionRequest) → create_session_request_fields a ≡ create_session_request_fields b → a ≡ b
create_session_request_one a b e =
    let p0 : a.imsi ≡ b.imsi = row_one a.imsi b.imsi OfImsi (λ x y d. cc) (plain_one (first_one e)) in
    let e1 = others_one e in
    let p1 : a.rat ≡ b.rat = row_one a.rat b.rat (λ x. OfRat x.0) rat_one (plain_one (first_one e1)) in
    let e2 = others_one e1 in
    let p2 : a.serving_network ≡ b.serving_network = option_one a.serving_network b.serving_network OfPlmn (λ x y d. cc) (plain_one (first_one e2)) in
    let e3 = others_one e2 in
    let p3 : a.control ≡ b.control = row_one a.control b.control OfFTeid (λ x y d. cc) (plain_one (first_one e3)) in
    let e4 = others_one e3 in
    let p4 : a.apn ≡ b.apn = row_one a.apn b.apn OfApn (λ x y d. cc) (plain_one (first_one e4)) in
    let e5 = others_one e4 in
    let p5 : a.selection ≡ b.selection = option_one a.selection b.selection (λ x. OfSelection x.0) selection_one (plain_one (first_one e5)) in
    let e6 = others_one e5 in
    let p6 : a.pdn_type ≡ b.pdn_type = row_one a.pdn_type b.pdn_type (λ x. OfPdnType x.0) pdn_type_one (plain_one (first_one e6)) in
    let e7 = others_one e6 in
    let p7 : a.paa ≡ b.paa = option_one a.paa b.paa OfPaa (λ x y d. cc) (plain_one (first_one e7)) in
    let e8 = others_one e7 in
    let p8 : a.ambr ≡ b.ambr = option_one a.ambr b.ambr OfAmbr (λ x y d. cc) (plain_one (first_one e8)) in
    let e9 = others_one e8 in
    let p9 : a.contexts ≡ b.contexts = list_one a.contexts b.contexts session_request_context_values session_request_context_one (groups_one (first_one e9)) in
    let e10 = others_one e9 in
    let p10 : a.recovery ≡ b.recovery = option_one a.recovery b.recovery (λ x. OfRecovery x.0.0) recovery_one (plain_one (first_one e10)) in
    let whole : b ≡ record {
      imsi = a.imsi;
      rat = a.rat;
      serving_network = a.serving_network;
      control = a.control;
      apn = a.apn;
      selection = a.selection;
      pdn_type = a.pdn_type;
      paa = a.paa;
      ambr = a.ambr;
      contexts = a.contexts;
      recovery = a.recovery;
    } = rw (p0, p1, p2, p3, p4, p5, p6, p7, p8, p9, p10) refl in
    sym whole

pub session_response_context_same : (a b : SessionResponseContext) → Decides ((session_response_context_eq.ghosts).eq a b) (session_response_context_values a ≡ session_response_context_values b)
session_response_context_same a b =
    (first_same (row_same (ebi_same a.ebi b.ebi))
    (first_same (row_same (cause_same a.cause b.cause))
    (first_same (option_same fteid_same a.user b.user)
    (first_same (option_same qos_same a.qos b.qos)
    (last_same (option_same charging_id_same a.charging_id b.charging_id))))))

pub session_response_context_one : (a b : SessionResponseContext) → session_response_context_values a ≡ session_response_context_values b → a ≡ b
session_response_context_one a b e =
    let p0 : a.ebi ≡ b.ebi = row_one a.ebi b.ebi (λ x. OfEbi x.0) ebi_one (first_one e) in
    let e1 = others_one e in
    let p1 : a.cause ≡ b.cause = row_one a.cause b.cause OfCause (λ x y d. cc) (first_one e1) in
    let e2 = others_one e1 in
    let p2 : a.user ≡ b.user = option_one a.user b.user OfFTeid (λ x y d. cc) (first_one e2) in
    let e3 = others_one e2 in
    let p3 : a.qos ≡ b.qos = option_one a.qos b.qos OfQos (λ x y d. cc) (first_one e3) in
    let e4 = others_one e3 in
    let p4 : a.charging_id ≡ b.charging_id = option_one a.charging_id b.charging_id (λ x. OfChargingId x.0) charging_id_one (first_one e4) in
    let whole : b ≡ record {
      ebi = a.ebi;
      cause = a.cause;
      user = a.user;
      qos = a.qos;
      charging_id = a.charging_id;
    } = rw (p0, p1, p2, p3, p4) refl in
    sym whole

pub create_session_response_same : (a b : CreateSessionResponse) → Decides ((create_session_response_eq.ghosts).eq a b) (create_session_response_fields a ≡ create_session_response_fields b)
create_session_response_same a b =
    (first_same (plain_same (row_same (cause_same a.cause b.cause)))
    (first_same (plain_same (option_same fteid_same a.control b.control))
    (first_same (plain_same (option_same paa_same a.paa b.paa))
    (first_same (plain_same (option_same ambr_same a.ambr b.ambr))
    (first_same (groups_same (list_same session_response_context_same a.contexts b.contexts))
    (last_same (plain_same (option_same recovery_same a.recovery b.recovery))))))))

pub create_session_response_one : (a b : CreateSessionResponse) → create_session_response_fields a ≡ create_session_response_fields b → a ≡ b
create_session_response_one a b e =
    let p0 : a.cause ≡ b.cause = row_one a.cause b.cause OfCause (λ x y d. cc) (plain_one (first_one e)) in
    let e1 = others_one e in
    let p1 : a.control ≡ b.control = option_one a.control b.control OfFTeid (λ x y d. cc) (plain_one (first_one e1)) in
    let e2 = others_one e1 in
    let p2 : a.paa ≡ b.paa = option_one a.paa b.paa OfPaa (λ x y d. cc) (plain_one (first_one e2)) in
    let e3 = others_one e2 in
    let p3 : a.ambr ≡ b.ambr = option_one a.ambr b.ambr OfAmbr (λ x y d. cc) (plain_one (first_one e3)) in
    let e4 = others_one e3 in
    let p4 : a.contexts ≡ b.contexts = list_one a.contexts b.contexts session_response_context_values session_response_context_one (groups_one (first_one e4)) in
    let e5 = others_one e4 in
    let p5 : a.recovery ≡ b.recovery = option_one a.recovery b.recovery (λ x. OfRecovery x.0.0) recovery_one (plain_one (first_one e5)) in
    let whole : b ≡ record {
      cause = a.cause;
      control = a.control;
      paa = a.paa;
      ambr = a.ambr;
      contexts = a.contexts;
      recovery = a.recovery;
    } = rw (p0, p1, p2, p3, p4, p5) refl in
    sym whole

pub delete_session_request_same : (a b : DeleteSessionRequest) → Decides ((delete_session_request_eq.ghosts).eq a b) (delete_session_request_fields a ≡ delete_session_request_fields b)
delete_session_request_same a b =
    (last_same (plain_same (option_same ebi_same a.linked_ebi b.linked_ebi)))

pub delete_session_request_one : (a b : DeleteSessionRequest) → delete_session_request_fields a ≡ delete_session_request_fields b → a ≡ b
delete_session_request_one a b e =
    let p0 : a.linked_ebi ≡ b.linked_ebi = option_one a.linked_ebi b.linked_ebi (λ x. OfEbi x.0) ebi_one (plain_one (first_one e)) in
    let whole : b ≡ record {
      linked_ebi = a.linked_ebi;
    } = rw p0 refl in
    sym whole

pub delete_session_response_same : (a b : DeleteSessionResponse) → Decides ((delete_session_response_eq.ghosts).eq a b) (delete_session_response_fields a ≡ delete_session_response_fields b)
delete_session_response_same a b =
    (first_same (plain_same (row_same (cause_same a.cause b.cause)))
    (last_same (plain_same (option_same recovery_same a.recovery b.recovery))))

pub delete_session_response_one : (a b : DeleteSessionResponse) → delete_session_response_fields a ≡ delete_session_response_fields b → a ≡ b
delete_session_response_one a b e =
    let p0 : a.cause ≡ b.cause = row_one a.cause b.cause OfCause (λ x y d. cc) (plain_one (first_one e)) in
    let e1 = others_one e in
    let p1 : a.recovery ≡ b.recovery = option_one a.recovery b.recovery (λ x. OfRecovery x.0.0) recovery_one (plain_one (first_one e1)) in
    let whole : b ≡ record {
      cause = a.cause;
      recovery = a.recovery;
    } = rw (p0, p1) refl in
    sym whole

pub bearer_request_context_same : (a b : BearerRequestContext) → Decides ((bearer_request_context_eq.ghosts).eq a b) (bearer_request_context_values a ≡ bearer_request_context_values b)
bearer_request_context_same a b =
    (first_same (row_same (ebi_same a.ebi b.ebi))
    (first_same (row_same (tft_same a.tft b.tft))
    (first_same (row_same (fteid_same a.user b.user))
    (first_same (row_same (qos_same a.qos b.qos))
    (last_same (option_same charging_id_same a.charging_id b.charging_id))))))

pub bearer_request_context_one : (a b : BearerRequestContext) → bearer_request_context_values a ≡ bearer_request_context_values b → a ≡ b
bearer_request_context_one a b e =
    let p0 : a.ebi ≡ b.ebi = row_one a.ebi b.ebi (λ x. OfEbi x.0) ebi_one (first_one e) in
    let e1 = others_one e in
    let p1 : a.tft ≡ b.tft = row_one a.tft b.tft OfTft (λ x y d. cc) (first_one e1) in
    let e2 = others_one e1 in
    let p2 : a.user ≡ b.user = row_one a.user b.user OfFTeid (λ x y d. cc) (first_one e2) in
    let e3 = others_one e2 in
    let p3 : a.qos ≡ b.qos = row_one a.qos b.qos OfQos (λ x y d. cc) (first_one e3) in
    let e4 = others_one e3 in
    let p4 : a.charging_id ≡ b.charging_id = option_one a.charging_id b.charging_id (λ x. OfChargingId x.0) charging_id_one (first_one e4) in
    let whole : b ≡ record {
      ebi = a.ebi;
      tft = a.tft;
      user = a.user;
      qos = a.qos;
      charging_id = a.charging_id;
    } = rw (p0, p1, p2, p3, p4) refl in
    sym whole

pub create_bearer_request_same : (a b : CreateBearerRequest) → Decides ((create_bearer_request_eq.ghosts).eq a b) (create_bearer_request_fields a ≡ create_bearer_request_fields b)
create_bearer_request_same a b =
    (first_same (plain_same (option_same pti_same a.pti b.pti))
    (first_same (plain_same (row_same (ebi_same a.linked_ebi b.linked_ebi)))
    (last_same (groups_same (list_same bearer_request_context_same a.contexts b.contexts)))))

pub create_bearer_request_one : (a b : CreateBearerRequest) → create_bearer_request_fields a ≡ create_bearer_request_fields b → a ≡ b
create_bearer_request_one a b e =
    let p0 : a.pti ≡ b.pti = option_one a.pti b.pti (λ x. OfPti x.0) pti_one (plain_one (first_one e)) in
    let e1 = others_one e in
    let p1 : a.linked_ebi ≡ b.linked_ebi = row_one a.linked_ebi b.linked_ebi (λ x. OfEbi x.0) ebi_one (plain_one (first_one e1)) in
    let e2 = others_one e1 in
    let p2 : a.contexts ≡ b.contexts = list_one a.contexts b.contexts bearer_request_context_values bearer_request_context_one (groups_one (first_one e2)) in
    let whole : b ≡ record {
      pti = a.pti;
      linked_ebi = a.linked_ebi;
      contexts = a.contexts;
    } = rw (p0, p1, p2) refl in
    sym whole

pub bearer_response_context_same : (a b : BearerResponseContext) → Decides ((bearer_response_context_eq.ghosts).eq a b) (bearer_response_context_values a ≡ bearer_response_context_values b)
bearer_response_context_same a b =
    (first_same (row_same (ebi_same a.ebi b.ebi))
    (first_same (row_same (cause_same a.cause b.cause))
    (first_same (option_same fteid_same a.serving_user b.serving_user)
    (last_same (option_same fteid_same a.packet_user b.packet_user)))))

pub bearer_response_context_one : (a b : BearerResponseContext) → bearer_response_context_values a ≡ bearer_response_context_values b → a ≡ b
bearer_response_context_one a b e =
    let p0 : a.ebi ≡ b.ebi = row_one a.ebi b.ebi (λ x. OfEbi x.0) ebi_one (first_one e) in
    let e1 = others_one e in
    let p1 : a.cause ≡ b.cause = row_one a.cause b.cause OfCause (λ x y d. cc) (first_one e1) in
    let e2 = others_one e1 in
    let p2 : a.serving_user ≡ b.serving_user = option_one a.serving_user b.serving_user OfFTeid (λ x y d. cc) (first_one e2) in
    let e3 = others_one e2 in
    let p3 : a.packet_user ≡ b.packet_user = option_one a.packet_user b.packet_user OfFTeid (λ x y d. cc) (first_one e3) in
    let whole : b ≡ record {
      ebi = a.ebi;
      cause = a.cause;
      serving_user = a.serving_user;
      packet_user = a.packet_user;
    } = rw (p0, p1, p2, p3) refl in
    sym whole

pub create_bearer_response_same : (a b : CreateBearerResponse) → Decides ((create_bearer_response_eq.ghosts).eq a b) (create_bearer_response_fields a ≡ create_bearer_response_fields b)
create_bearer_response_same a b =
    (first_same (plain_same (row_same (cause_same a.cause b.cause)))
    (first_same (groups_same (list_same bearer_response_context_same a.contexts b.contexts))
    (last_same (plain_same (option_same recovery_same a.recovery b.recovery)))))

pub create_bearer_response_one : (a b : CreateBearerResponse) → create_bearer_response_fields a ≡ create_bearer_response_fields b → a ≡ b
create_bearer_response_one a b e =
    let p0 : a.cause ≡ b.cause = row_one a.cause b.cause OfCause (λ x y d. cc) (plain_one (first_one e)) in
    let e1 = others_one e in
    let p1 : a.contexts ≡ b.contexts = list_one a.contexts b.contexts bearer_response_context_values bearer_response_context_one (groups_one (first_one e1)) in
    let e2 = others_one e1 in
    let p2 : a.recovery ≡ b.recovery = option_one a.recovery b.recovery (λ x. OfRecovery x.0.0) recovery_one (plain_one (first_one e2)) in
    let whole : b ≡ record {
      cause = a.cause;
      contexts = a.contexts;
      recovery = a.recovery;
    } = rw (p0, p1, p2) refl in
    sym whole

pub delete_bearer_request_same : (a b : DeleteBearerRequest) → Decides ((delete_bearer_request_eq.ghosts).eq a b) (delete_bearer_request_fields a ≡ delete_bearer_request_fields b)
delete_bearer_request_same a b =
    (first_same (plain_same (option_same ebi_same a.linked_ebi b.linked_ebi))
    (last_same (plain_same (list_same ebi_same a.ebis b.ebis))))

pub delete_bearer_request_one : (a b : DeleteBearerRequest) → delete_bearer_request_fields a ≡ delete_bearer_request_fields b → a ≡ b
delete_bearer_request_one a b e =
    let p0 : a.linked_ebi ≡ b.linked_ebi = option_one a.linked_ebi b.linked_ebi (λ x. OfEbi x.0) ebi_one (plain_one (first_one e)) in
    let e1 = others_one e in
    let p1 : a.ebis ≡ b.ebis = list_one a.ebis b.ebis (λ x. OfEbi x.0) ebi_one (plain_one (first_one e1)) in
    let whole : b ≡ record {
      linked_ebi = a.linked_ebi;
      ebis = a.ebis;
    } = rw (p0, p1) refl in
    sym whole

pub removal_response_context_same : (a b : RemovalResponseContext) → Decides ((removal_response_context_eq.ghosts).eq a b) (removal_response_context_values a ≡ removal_response_context_values b)
removal_response_context_same a b =
    (first_same (row_same (ebi_same a.ebi b.ebi))
    (last_same (row_same (cause_same a.cause b.cause))))

pub removal_response_context_one : (a b : RemovalResponseContext) → removal_response_context_values a ≡ removal_response_context_values b → a ≡ b
removal_response_context_one a b e =
    let p0 : a.ebi ≡ b.ebi = row_one a.ebi b.ebi (λ x. OfEbi x.0) ebi_one (first_one e) in
    let e1 = others_one e in
    let p1 : a.cause ≡ b.cause = row_one a.cause b.cause OfCause (λ x y d. cc) (first_one e1) in
    let whole : b ≡ record {
      ebi = a.ebi;
      cause = a.cause;
    } = rw (p0, p1) refl in
    sym whole

pub delete_bearer_response_same : (a b : DeleteBearerResponse) → Decides ((delete_bearer_response_eq.ghosts).eq a b) (delete_bearer_response_fields a ≡ delete_bearer_response_fields b)
delete_bearer_response_same a b =
    (first_same (plain_same (row_same (cause_same a.cause b.cause)))
    (first_same (plain_same (option_same ebi_same a.linked_ebi b.linked_ebi))
    (first_same (groups_same (list_same removal_response_context_same a.contexts b.contexts))
    (last_same (plain_same (option_same recovery_same a.recovery b.recovery))))))

pub delete_bearer_response_one : (a b : DeleteBearerResponse) → delete_bearer_response_fields a ≡ delete_bearer_response_fields b → a ≡ b
delete_bearer_response_one a b e =
    let p0 : a.cause ≡ b.cause = row_one a.cause b.cause OfCause (λ x y d. cc) (plain_one (first_one e)) in
    let e1 = others_one e in
    let p1 : a.linked_ebi ≡ b.linked_ebi = option_one a.linked_ebi b.linked_ebi (λ x. OfEbi x.0) ebi_one (plain_one (first_one e1)) in
    let e2 = others_one e1 in
    let p2 : a.contexts ≡ b.contexts = list_one a.contexts b.contexts removal_response_context_values removal_response_context_one (groups_one (first_one e2)) in
    let e3 = others_one e2 in
    let p3 : a.recovery ≡ b.recovery = option_one a.recovery b.recovery (λ x. OfRecovery x.0.0) recovery_one (plain_one (first_one e3)) in
    let whole : b ≡ record {
      cause = a.cause;
      linked_ebi = a.linked_ebi;
      contexts = a.contexts;
      recovery = a.recovery;
    } = rw (p0, p1, p2, p3) refl in
    sym whole

-- the type of a body that has a table
abbrev tag : Body → Option ℕ
tag (bodies.EchoRequest m) = Some 1
tag (bodies.EchoResponse m) = Some 2
tag (bodies.VersionNotSupported m) = Some 3
tag (bodies.CreateSessionRequest m) = Some 32
tag (bodies.CreateSessionResponse m) = Some 33
tag (bodies.DeleteSessionRequest m) = Some 36
tag (bodies.DeleteSessionResponse m) = Some 37
tag (bodies.CreateBearerRequest m) = Some 95
tag (bodies.CreateBearerResponse m) = Some 96
tag (bodies.DeleteBearerRequest m) = Some 99
tag (bodies.DeleteBearerResponse m) = Some 100
tag (bodies.Other kind octets) = None

tagged : (x : Body) → tag_of (said_of x) ≡ tag x
tagged (bodies.EchoRequest m) = refl
tagged (bodies.EchoResponse m) = refl
tagged (bodies.VersionNotSupported m) = refl
tagged (bodies.CreateSessionRequest m) = refl
tagged (bodies.CreateSessionResponse m) = refl
tagged (bodies.DeleteSessionRequest m) = refl
tagged (bodies.DeleteSessionResponse m) = refl
tagged (bodies.CreateBearerRequest m) = refl
tagged (bodies.CreateBearerResponse m) = refl
tagged (bodies.DeleteBearerRequest m) = refl
tagged (bodies.DeleteBearerResponse m) = refl
tagged (bodies.Other kind octets) = refl

same_tag : (x y : Body) → said_of x ≡ said_of y → tag x ≡ tag y
same_tag x y e = sym (tagged x) ∙ (ap tag_of e ∙ tagged y)

pub bodies_same : (x y : Body) → Decides ((body_eq.ghosts).eq x y) (said_of x ≡ said_of y)
bodies_same (bodies.EchoRequest a) (bodies.EchoRequest b) = kind_same echo_request (echo_request_same a b)
bodies_same (bodies.EchoResponse a) (bodies.EchoResponse b) = kind_same echo_response (echo_response_same a b)
bodies_same (bodies.VersionNotSupported a) (bodies.VersionNotSupported b) = kind_same version_not_supported (version_not_supported_same a b)
bodies_same (bodies.CreateSessionRequest a) (bodies.CreateSessionRequest b) = kind_same create_session_request (create_session_request_same a b)
bodies_same (bodies.CreateSessionResponse a) (bodies.CreateSessionResponse b) = kind_same create_session_response (create_session_response_same a b)
bodies_same (bodies.DeleteSessionRequest a) (bodies.DeleteSessionRequest b) = kind_same delete_session_request (delete_session_request_same a b)
bodies_same (bodies.DeleteSessionResponse a) (bodies.DeleteSessionResponse b) = kind_same delete_session_response (delete_session_response_same a b)
bodies_same (bodies.CreateBearerRequest a) (bodies.CreateBearerRequest b) = kind_same create_bearer_request (create_bearer_request_same a b)
bodies_same (bodies.CreateBearerResponse a) (bodies.CreateBearerResponse b) = kind_same create_bearer_response (create_bearer_response_same a b)
bodies_same (bodies.DeleteBearerRequest a) (bodies.DeleteBearerRequest b) = kind_same delete_bearer_request (delete_bearer_request_same a b)
bodies_same (bodies.DeleteBearerResponse a) (bodies.DeleteBearerResponse b) = kind_same delete_bearer_response (delete_bearer_response_same a b)
bodies_same (bodies.Other k xs) (bodies.Other l ys) = kept_same (Decides-eqb k l) (bytes_decides xs ys)
bodies_same x y = apart_same (tags_apart (tag x) (tag y) refl) (same_tag x y)

pub bodies_one : (x y : Body) → said_of x ≡ said_of y → x ≡ y
bodies_one (bodies.EchoRequest a) (bodies.EchoRequest b) e = ap (λ m. bodies.EchoRequest m) (echo_request_one a b (kind_one echo_request e))
bodies_one (bodies.EchoResponse a) (bodies.EchoResponse b) e = ap (λ m. bodies.EchoResponse m) (echo_response_one a b (kind_one echo_response e))
bodies_one (bodies.VersionNotSupported a) (bodies.VersionNotSupported b) e = ap (λ m. bodies.VersionNotSupported m) (version_not_supported_one a b (kind_one version_not_supported e))
bodies_one (bodies.CreateSessionRequest a) (bodies.CreateSessionRequest b) e = ap (λ m. bodies.CreateSessionRequest m) (create_session_request_one a b (kind_one create_session_request e))
bodies_one (bodies.CreateSessionResponse a) (bodies.CreateSessionResponse b) e = ap (λ m. bodies.CreateSessionResponse m) (create_session_response_one a b (kind_one create_session_response e))
bodies_one (bodies.DeleteSessionRequest a) (bodies.DeleteSessionRequest b) e = ap (λ m. bodies.DeleteSessionRequest m) (delete_session_request_one a b (kind_one delete_session_request e))
bodies_one (bodies.DeleteSessionResponse a) (bodies.DeleteSessionResponse b) e = ap (λ m. bodies.DeleteSessionResponse m) (delete_session_response_one a b (kind_one delete_session_response e))
bodies_one (bodies.CreateBearerRequest a) (bodies.CreateBearerRequest b) e = ap (λ m. bodies.CreateBearerRequest m) (create_bearer_request_one a b (kind_one create_bearer_request e))
bodies_one (bodies.CreateBearerResponse a) (bodies.CreateBearerResponse b) e = ap (λ m. bodies.CreateBearerResponse m) (create_bearer_response_one a b (kind_one create_bearer_response e))
bodies_one (bodies.DeleteBearerRequest a) (bodies.DeleteBearerRequest b) e = ap (λ m. bodies.DeleteBearerRequest m) (delete_bearer_request_one a b (kind_one delete_bearer_request e))
bodies_one (bodies.DeleteBearerResponse a) (bodies.DeleteBearerResponse b) e = ap (λ m. bodies.DeleteBearerResponse m) (delete_bearer_response_one a b (kind_one delete_bearer_response e))
bodies_one (bodies.Other k xs) (bodies.Other l ys) e = let p = kept_one e in rw (p.0, p.1) refl
bodies_one x y e = absurd (tags_apart (tag x) (tag y) refl (same_tag x y e))
