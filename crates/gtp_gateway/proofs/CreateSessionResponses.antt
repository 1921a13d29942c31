-- Create Session Responses that a serving gateway takes.
use Rattle.std.proofs.Common.{◌≡◌, ℕ, Some, None, sym, ap, ◌∙◌, inl, inr, true, false, List, [], ◌∷◌, map, Option, refl, subst}
use mathlib.Core.Logic.{∥∥₁_elim}
use Rattle.std.specs.FinMap.{get, insert, remove}
use Rattle.gtp_machine.specs.Node.{Bearer, Node, Active, Session}
use Rattle.gtp_machine.proofs.Basics.Facts.{one_value}
use Rattle.gtp_gateway.proofs.Opened.{none_where, heard_sound}
use Rattle.std.specs.Prelude.{◌==◌, ◌&&◌, not, is_some, option_to_list}
use Rattle.std.proofs.lemmas.Bool.{eqb-true}
use Rattle.gtp_values.proofs.Tests.{both}
use Rattle.gtp_values.specs.FiniteMap.{FiniteMap}
use Rattle.gtp_values.specs.declared.identifiers.Teid.{Teid}
use Rattle.gtp_ie.specs.Value.{Value}
use Rattle.gtp_v2.specs.CreateSessionResponse.{session_response_context_rows}
use Rattle.gtp_v2.specs.Viewed.{values_in}
use Rattle.gtp_machine.specs.declared.role.Role.{Role}
use Rattle.gtp_machine.specs.declared.outcome.DropReason.TheVariants.{Mismatch}
use Rattle.gtp_machine.specs.declared.outcome.Outcome.TheVariants.{Opened, Rejected}
use Rattle.gtp_machine.specs.Choice.{HasPending}
use Rattle.gtp_machine.specs.Decoded.{number_at, cause_at, created}
use Rattle.gtp_machine.specs.Element.{IsAccepting}
use Rattle.gtp_machine.specs.Input.{Came_to, nothing}
use Rattle.gtp_machine.specs.Message.{Message, CreateSessionRequest, CreateSessionResponse, CreatedBearer, Create_session_request, header_of, first_created}
use Rattle.gtp_machine.specs.Removal.{on}
use Rattle.gtp_machine.specs.Response.{Named}
use Rattle.gtp_machine.specs.Serving.{FitsCreateSession, DescribesSession, opened_session, opened_bearer, CreateSessionAnswered as SessionRow}
use Rattle.gtp_machine.specs.Sound.{IsSound}
use Rattle.gtp_machine.proofs.Sound.Changes.{is_session}
use Rattle.gtp_gateway.specs.declared.receive.restart_counter.Heard.{Heard}
use Rattle.gtp_gateway.specs.receive.RestartCounter.{node_heard}
use Rattle.gtp_gateway.proofs.Rules.{meets}
use Rattle.gtp_gateway.specs.declared.receive.response_context.ResponseContext.{ResponseContext}
use Rattle.gtp_gateway.specs.declared.command.purpose.Purpose.{Purpose}
use Rattle.gtp_gateway.specs.declared.command.purpose.Asked.{Asked}
use Rattle.gtp_gateway.specs.declared.command.purpose.Asked.TheVariants.{CreateSession}
use Rattle.gtp_gateway.specs.declared.receive.response.Response.{Response}
use Rattle.gtp_gateway.specs.declared.receive.create_session_response.AskedSession.{AskedSession}
use Rattle.gtp_gateway.specs.declared.receive.create_session_response.DescribedSession.{DescribedSession}
use Rattle.gtp_gateway.specs.declared.receive.create_session_response.SessionResponse.{SessionResponse}
use Rattle.gtp_gateway.specs.declared.tables.opening.ResponseVerdict.TheVariants.{Drops, Finishes, OpensSession}
use Rattle.gtp_gateway.specs.command.SendRequest.{about}
use Rattle.gtp_gateway.specs.receive.ResponseContext.{ReadsOnly}
use Rattle.gtp_gateway.specs.command.Purpose.{session_of, bearer_of}
use Rattle.gtp_gateway.specs.receive.CreateSessionResponse.{SaysCreated, SaysOnlyCreated, SaysCreateSessionResponse, FitsCreateSessionOf, IsAskedSession, IsDescribed}
use Rattle.gtp_gateway.specs.tables.Opening.{IsWaiting, effect_by}
use Rattle.gtp_gateway.specs.messages.Spelled.{is_asked, is_for}
use Rattle.gtp_gateway.proofs.Pendings.{asked_here, asked_there}

-- ---- a bearer that is still to be opened: it stands, and has no remote

pub record IsBlank (n : Node) (bearer : ℕ) : Type 0 where
  pub at : Bearer
  pub stands : get n.bearers bearer ≡ Some at
  pub blank : at.remote ≡ None

module _ {A : Type 0} (whole : ∥ A ∥₁) (n : Node) (bearer : ℕ) where
  pub stands_there : (A → (at : Bearer) × (get n.bearers bearer ≡ Some at)) → get n.bearers bearer ≡ None → ⊥
  stands_there there none = ∥∥₁_elim whole (λ x y. absurd x) (λ a. by (there a))
    where
      by : (at : Bearer) × (get n.bearers bearer ≡ Some at) → ⊥
      by d = let same : None ≡ Some d.0 = sym none ∙ d.1 in cc

  pub blank_there : (A → IsBlank n bearer) → (b : Bearer) → get n.bearers bearer ≡ Some b → b.remote ≡ None
  blank_there there b stands = none_where b.remote (λ t is. ∥∥₁_elim whole (λ x y. absurd x) (λ a. other t is (there a)))
    where
      other : (t : ℕ) → b.remote ≡ Some t → IsBlank n bearer → ⊥
      other t is d =
          let same : b ≡ d.at = one_value (get n.bearers bearer) b d.at stands d.stands in
          let none : Some t ≡ None = sym is ∙ (ap (λ (x : Bearer). x.remote) same ∙ d.blank) in
          cc

-- ---- Create Session Responses: what the message says, where it lies

pub created_only : (groups : List (List (List Value))) (o : Option ResponseContext) → ReadsOnly session_response_context_rows groups o → SaysOnlyCreated o (map created groups)
created_only groups (Some c) (es, is, reads) = (
  created (values_in session_response_context_rows es),
  ap (map created) is,
  record { identity = ap (λ (v : Option Value). number_at (option_to_list v)) reads.identity; cause = ap (λ (v : Option Value). cause_at (option_to_list v)) reads.cause; user = reads.user },
)
created_only (g ∷ []) None none = λ k is. none g refl
created_only groups None none = λ k is. absurd cc

-- ---- the request that it answers

-- a Create Session Request for a session with this bearer, with no TEID in its header, and about no bearer alone
record AsksForSession (purpose : Purpose) (m : Message) (bearer : ℕ) : Type 0 where
  pub request : CreateSessionRequest
  pub is : m ≡ Create_session_request request
  pub user : request.context.user.teid ≡ bearer
  pub unnamed : request.header ≡ 0
  pub whole : bearer_of purpose ≡ None

none_there : (o : Option Teid) → not (is_some o) ≡ true → o ≡ None
none_there None is = refl
none_there (Some t) is = absurd (let no : false ≡ true = is in cc)

asks_session : (purpose : Purpose) (m : Message) (default : Teid) → purpose.asked ≡ CreateSession default → is_for purpose m ≡ true → AsksForSession purpose m default
asks_session purpose m default asked meant = by m (asked_there purpose (CreateSession default) m asked meant)
  where
    by : (m : Message) → is_asked (CreateSession default) purpose m ≡ true → AsksForSession purpose m default
    by (Create_session_request q) is =
        let unnamed = (q.header == 0) && not (is_some purpose.bearer) in
        let control = both (on (λ t. q.control.teid == t) (session_of purpose)) ((q.context.user.teid == default) && unnamed) is in
        let user = both (q.context.user.teid == default) unnamed control.right in
        let rest = both (q.header == 0) (not (is_some purpose.bearer)) user.right in
        record { request = q; is = refl; user = eqb-true q.context.user.teid default user.left; unnamed = eqb-true q.header 0 rest.left; whole = none_there purpose.bearer rest.right }
    by m is = absurd cc

-- a request for a session is about no bearer alone
pub of_session : (n : Node) (number : ℕ) (purpose : Purpose) (w : IsWaiting n number purpose) (r : Response) (k : AskedSession) → IsAskedSession purpose r k → bearer_of purpose ≡ None
of_session n number purpose w r k asked = (asks_session purpose w.message k.bearer asked.asked w.meant).whole

abbrev pub one : ℕ → Option ℕ
one n = Some n

session_here : (purpose : Purpose) (m : Message) (r : Response) (a : CreateSessionResponse) → is_for purpose m ≡ true → a.header ≡ r.header
    → FitsCreateSession (about purpose m) a → FitsCreateSessionOf purpose r
session_here purpose m r a meant at fits = by purpose.asked refl (asked_here purpose m (Create_session_request fits.request) fits.asked meant)
  where
    named : (default : Teid) → purpose.asked ≡ CreateSession default → Named (about purpose m) a.header a.cause → session_of purpose ≡ Some r.header
    named default is (inl same) = same ∙ ap one at
    named default is (inr other) = let x = asks_session purpose m default is meant in absurd (other.2 (ap header_of x.is ∙ x.unnamed))

    by : (x : Asked) → purpose.asked ≡ x → is_asked x purpose (Create_session_request fits.request) ≡ true → FitsCreateSessionOf purpose r
    by (CreateSession default) is asked = record { default = default; asked = is; named = named default is fits.named }
    by x is asked = absurd cc

module _ (n : Node) (r : SessionResponse) (a : CreateSessionResponse) (says : SaysCreateSessionResponse r a) where
  -- the one bearer context
  only_here : (c : ResponseContext) → r.context ≡ Some c → (k : CreatedBearer) × (a.contexts ≡ k ∷ []) × SaysCreated c k
  only_here c is = subst (λ (o : Option ResponseContext). SaysOnlyCreated o a.contexts) is says.contexts

  abbrev describes_here : (sessions : FiniteMap Session) (session : ℕ) (d : DescribedSession) → sessions ≡ n.sessions → IsDescribed sessions session r d → DescribesSession n session a
  describes_here sessions session d same is =
      let k = only_here d.context is.alone in
      record {
        at = record { session = d.session; stands = ap (λ (s : FiniteMap Session). get s session) (sym same) ∙ is.stands };
        context = k.0;
        alone = k.1;
        default = k.2.identity ∙ is.default;
        address = d.address;
        given = says.address ∙ is.given;
      }

  describes_none : (sessions : FiniteMap Session) (session : ℕ) → sessions ≡ n.sessions → ((d : DescribedSession) → IsDescribed sessions session r d → ⊥) → DescribesSession n session a → ⊥
  describes_none sessions session same none new = by r.context refl says.contexts
    where
      by : (o : Option ResponseContext) → r.context ≡ o → SaysOnlyCreated o a.contexts → ⊥
      by None is never = never new.context new.alone
      by (Some c) is (k, alone, said) =
          let one : k ≡ new.context = (let both : ◌≡◌ {A = List CreatedBearer} (k ∷ []) (new.context ∷ []) = sym alone ∙ new.alone in cc) in
          none (record { session = new.at.session; context = c; address = new.address })
          (record {
            stands = ap (λ (s : FiniteMap Session). get s session) same ∙ new.at.stands;
            alone = is;
            default = sym said.identity ∙ (ap (λ (b : CreatedBearer). b.identity) one ∙ new.default);
            given = sym says.address ∙ new.given;
          })

-- ---- the column of the serving gateway

module _ (n : Node) (r : SessionResponse) (a : CreateSessionResponse) (says : SaysCreateSessionResponse r a) where
  module _ (purpose : Purpose) (w : IsWaiting n r.response.seq purpose) where
    abbrev at : HasPending n a.number
    at = record { pending = about purpose w.message; waits = ap (λ (i : ℕ). get n.pending i) says.number ∙ w.waits }

    pub does_not_fit : (FitsCreateSessionOf purpose r.response → ⊥) → SessionRow a n (effect_by (Drops Mismatch) a.number n)
    does_not_fit unfit = inr (at, inl (λ fits. unfit (session_here purpose w.message r.response a w.meant says.header fits), refl))

    module _ (k : AskedSession) (asked : IsAskedSession purpose r.response k) where
      request : AsksForSession purpose w.message k.bearer
      request = asks_session purpose w.message k.bearer asked.asked w.meant

      abbrev fits : FitsCreateSession at.pending a
      fits = record { request = request.request; asked = request.is; session = k.session; about = asked.session; named = inl (asked.session ∙ ap one (asked.named ∙ sym says.header)) }

      pub is_refused : (IsAccepting r.response.cause → ⊥) → SessionRow a n (effect_by (Finishes purpose (Rejected r.response.cause.value)) a.number n)
      is_refused refused = inr (at, inr (fits, inl (λ accepts. refused (subst IsAccepting says.cause accepts), λ i. effect_by (Finishes purpose (Rejected (sym says.cause i).value)) a.number n)))

      module _ (accepts : IsAccepting r.response.cause) (sessions : FiniteMap Session) (same : sessions ≡ n.sessions) where
        accepting : IsAccepting a.cause
        accepting = subst IsAccepting (sym says.cause) accepts

        pub not_described : ((d : DescribedSession) → IsDescribed sessions k.session r d → ⊥) → SessionRow a n (effect_by (Drops Mismatch) a.number n)
        not_described none = inr (at, inr (fits, inr (accepting, inl (λ new. describes_none n r a says sessions k.session same none new, refl))))

        module _ (d : DescribedSession) (is : IsDescribed sessions k.session r d) where
          abbrev new : DescribesSession n k.session a
          new = describes_here n r a says sessions k.session d same is

          only : SaysCreated d.context new.context
          only = (only_here n r a says d.context is.alone).2

          pub default_refused : (IsAccepting d.context.cause → ⊥) → SessionRow a n (effect_by (Finishes purpose (Rejected d.context.cause.value)) a.number n)
          default_refused refused =
              inr (
                at,
                inr (
                  fits,
                  inr (
                    accepting,
                    inr (
                      new,
                      inl (
                        λ both. refused (subst IsAccepting only.cause both),
                        λ i. effect_by (Finishes purpose (Rejected (sym only.cause i).value)) a.number n,
                      ),
                    ),
                  ),
                ),
              )

          pub opens : IsAccepting d.context.cause → (b : Bearer) → get n.bearers k.bearer ≡ Some b → (session : Session)
              → session ≡ record d.session { remote = r.control; address = Some d.address; state = Active } → (bearer : Bearer)
              → bearer ≡ record b { remote = d.context.user; state = Active }
              → SessionRow a n (effect_by (OpensSession k.session session k.bearer bearer) a.number n)
          opens both b stands session session_is bearer bearer_is =
              let user : k.bearer ≡ request.request.context.user.teid = sym request.user in
              let now : session ≡ opened_session d.session a d.address = session_is ∙ (λ i. record d.session { remote = sym says.control i; address = Some d.address; state = Active }) in
              let then : bearer ≡ opened_bearer b a = bearer_is ∙ (λ i. record b { remote = (sym only.user ∙ sym (ap first_created new.alone)) i; state = Active }) in
              meets at
              (meets fits
              (meets accepting
              (meets new
              (meets (subst IsAccepting (sym only.cause) both)
              (record {
                default = record { bearer = b; stands = ap (λ (t : ℕ). get n.bearers t) (sym user) ∙ stands };
                gives = λ i. record {
                  out = nothing;
                  outcome = Came_to Opened;
                  node = record n { sessions = insert n.sessions k.session (now i); bearers = insert n.bearers (user i) (then i); pending = remove n.pending a.number };
                };
              })))))

-- ---- what stands, at a sound gateway

-- the default bearer of a session that was asked for has no remote yet
default_asked : (role : Role) (n : Node) → IsSound role n → (number : ℕ) (purpose : Purpose) (w : IsWaiting n number purpose) (r : Response) (k : AskedSession)
    → IsAskedSession purpose r k → IsBlank n k.bearer
default_asked role n sound number purpose w r k asked =
    let x = asks_session purpose w.message k.bearer asked.asked w.meant in
    let is = is_session role n sound number (about purpose w.message) x.request w.waits x.is in
    let user : is.0.request.context.user.teid ≡ k.bearer = ap (λ (q : CreateSessionRequest). q.context.user.teid) is.1 ∙ x.user in
    let stands = ap (λ (t : ℕ). get n.bearers t) (sym user) ∙ is.0.default.1 in
    record { at = is.0.default.0; stands = stands; blank = (sound.contexts.each_bearer k.bearer is.0.default.0 stands).blank is.0.default.2.in_state }

module _ (role : Role) (heard : Heard) (old : Node) (whole : ∥ IsSound role old ∥₁) (number : ℕ) (purpose : Purpose)
    (w : IsWaiting (node_heard heard old) number purpose) (r : Response) (k : AskedSession) (asked : IsAskedSession purpose r k) where
  pub default_stands : get (node_heard heard old).bearers k.bearer ≡ None → ⊥
  default_stands = stands_there whole (node_heard heard old) k.bearer (λ sound. let d = by sound in (d.at, d.stands))
    where
      by : IsSound role old → IsBlank (node_heard heard old) k.bearer
      by sound = default_asked role (node_heard heard old) (heard_sound role heard old sound) number purpose w r k asked

  pub default_blank : (b : Bearer) → get (node_heard heard old).bearers k.bearer ≡ Some b → b.remote ≡ None
  default_blank = blank_there whole (node_heard heard old) k.bearer (λ sound. default_asked role (node_heard heard old) (heard_sound role heard old sound) number purpose w r k asked)
