-- Create Bearer Responses that a packet gateway takes.
use Rattle.std.proofs.Common.{◌≡◌, ℕ, Some, None, sym, ap, ◌∙◌, inl, inr, true, List, [], ◌∷◌, map, Option, refl, subst, ◌≢◌}
use Rattle.std.specs.FinMap.{get, insert, remove}
use Rattle.gtp_machine.specs.Node.{Bearer, Node, Active, Session, Closing}
use Rattle.gtp_machine.proofs.Basics.Facts.{one_value}
use Rattle.gtp_gateway.proofs.Opened.{heard_sound}
use Rattle.std.specs.Prelude.{◌==◌, not, option_to_list, IsSome}
use Rattle.std.proofs.lemmas.Bool.{eqb-true}
use Rattle.gtp_values.proofs.Tests.{both}
use Rattle.gtp_values.specs.FiniteMap.{FiniteMap}
use Rattle.gtp_values.specs.declared.identifiers.Teid.{Teid}
use Rattle.gtp_ie.specs.Value.{Value}
use Rattle.gtp_v2.specs.Viewed.{values_in}
use Rattle.gtp_machine.specs.declared.role.Role.{Role}
use Rattle.gtp_machine.specs.declared.outcome.DropReason.TheVariants.{Mismatch}
use Rattle.gtp_machine.specs.declared.outcome.Outcome.TheVariants.{Opened, Rejected, Clash}
use Rattle.gtp_machine.specs.Choice.{HasPending}
use Rattle.gtp_machine.specs.Decoded.{number_at, cause_at, given}
use Rattle.gtp_machine.specs.Element.{IsAccepting, teid_in}
use Rattle.gtp_machine.specs.Input.{Came_to, nothing}
use Rattle.gtp_machine.specs.Message.{Message, CreateBearerRequest, CreateBearerResponse, GivenBearer, Create_bearer_request, first_given, first_identity}
use Rattle.gtp_machine.specs.Removal.{on}
use Rattle.gtp_machine.specs.Response.{Named}
use Rattle.gtp_machine.specs.Sound.{IsSound, IsWanted}
use Rattle.gtp_machine.proofs.Sound.Changes.{is_bearer}
use Rattle.std.specs.Bool.{beq}
use Rattle.gtp_v2.specs.CreateBearerResponse.{bearer_response_context_rows}
use Rattle.gtp_machine.specs.Packet.{FitsCreateBearer, DescribesBearer, CanOpen, opened_dedicated, CreateBearerAnswered as BearerRow}
use Rattle.gtp_gateway.specs.declared.receive.restart_counter.Heard.{Heard}
use Rattle.gtp_gateway.specs.receive.RestartCounter.{node_heard}
use Rattle.gtp_gateway.proofs.Rules.{meets}
use Rattle.gtp_gateway.specs.declared.receive.response_context.ResponseContext.{ResponseContext}
use Rattle.gtp_gateway.specs.declared.command.purpose.Purpose.{Purpose}
use Rattle.gtp_gateway.specs.declared.command.purpose.Asked.{Asked}
use Rattle.gtp_gateway.specs.declared.command.purpose.Asked.TheVariants.{CreateBearer}
use Rattle.gtp_gateway.specs.declared.receive.response.Response.{Response}
use Rattle.gtp_gateway.specs.declared.tables.opening.ResponseVerdict.TheVariants.{Drops, Finishes, OpensBearer}
use Rattle.gtp_gateway.specs.command.SendRequest.{about}
use Rattle.gtp_gateway.specs.receive.ResponseContext.{ReadsOnly}
use Rattle.gtp_gateway.specs.command.Purpose.{bearer_of}
use Rattle.gtp_gateway.specs.tables.Opening.{IsWaiting, effect_by}
use Rattle.gtp_gateway.specs.messages.Spelled.{is_asked, is_for}
use Rattle.gtp_gateway.proofs.Pendings.{asked_here, asked_there, IsTold, told_of, names_here, names_there}
use Rattle.gtp_gateway.specs.declared.receive.create_bearer_response.AskedBearer.{AskedBearer}
use Rattle.gtp_gateway.specs.declared.receive.create_bearer_response.BearerResponse.{BearerResponse}
use Rattle.gtp_gateway.specs.receive.CreateBearerResponse.{SaysGiven, SaysOnlyGiven, SaysCreateBearerResponse, FitsCreateBearerOf, IsAskedBearer, CanOpenIn}
use Rattle.gtp_gateway.proofs.CreateSessionResponses.{IsBlank, blank_there, one, stands_there}

-- ---- Create Bearer Responses: what the message says, where it lies

pub given_only : (groups : List (List (List Value))) (o : Option ResponseContext) → ReadsOnly bearer_response_context_rows groups o → SaysOnlyGiven o (map given groups)
given_only groups (Some c) (es, is, reads) = (
  given (values_in bearer_response_context_rows es),
  ap (map given) is,
  record {
    identity = ap (λ (v : Option Value). number_at (option_to_list v)) reads.identity;
    cause = ap (λ (v : Option Value). cause_at (option_to_list v)) reads.cause;
    user = reads.user;
    returned = reads.returned;
  },
)
given_only (g ∷ []) None none = λ k is. none g refl
given_only groups None none = λ k is. absurd cc

-- ---- the request that it answers

-- a Create Bearer Request for this bearer, and whether a TEID stood in its header
record AsksForBearer (purpose : Purpose) (m : Message) (bearer : ℕ) : Type 0 where
  pub request : CreateBearerRequest
  pub is : m ≡ Create_bearer_request request
  pub user : request.context.user.teid ≡ bearer
  pub told : IsTold purpose m

asks_bearer : (purpose : Purpose) (m : Message) (bearer : ℕ) → purpose.asked ≡ CreateBearer → bearer_of purpose ≡ Some bearer → is_for purpose m ≡ true → AsksForBearer purpose m bearer
asks_bearer purpose m bearer asked of meant = by m (asked_there purpose CreateBearer m asked meant)
  where
    by : (m : Message) → is_asked CreateBearer purpose m ≡ true → AsksForBearer purpose m bearer
    by (Create_bearer_request q) is =
        let says = both (on (λ t. q.context.user.teid == t) (bearer_of purpose)) (beq purpose.is_named (not (q.header == 0))) is in
        record { request = q; is = refl; user = eqb-true q.context.user.teid bearer (ap (on (λ t. q.context.user.teid == t)) (sym of) ∙ says.left); told = says.right }
    by m is = absurd cc

some_there : (o : Option Teid) (t : ℕ) → o ≡ Some t → IsSome o
some_there None t is = absurd cc
some_there (Some x) t is = refl

bearer_here : (purpose : Purpose) (m : Message) (r : Response) (x : CreateBearerResponse) → is_for purpose m ≡ true → x.header ≡ r.header → x.cause ≡ r.cause
    → FitsCreateBearer (about purpose m) x → FitsCreateBearerOf purpose r
bearer_here purpose m r x meant at of fits =
    let is = by purpose.asked (asked_here purpose m (Create_bearer_request fits.request) fits.asked meant) in
    record {
      asked = is.0;
      names = names_here purpose m r x.header x.cause (told_of purpose m (Create_bearer_request fits.request) fits.asked is.1) at of fits.named;
      session = some_there purpose.session fits.session fits.about;
      bearer = some_there purpose.bearer fits.bearer fits.about_bearer;
    }
  where
    by : (a : Asked) → is_asked a purpose (Create_bearer_request fits.request) ≡ true → (a ≡ CreateBearer) × IsTold purpose (Create_bearer_request fits.request)
    by CreateBearer is = (refl, (both (on (λ t. fits.request.context.user.teid == t) (bearer_of purpose)) (beq purpose.is_named (not (fits.request.header == 0))) is).right)
    by a is = absurd cc

-- ---- the column of the packet gateway

module _ (n : Node) (r : BearerResponse) (x : CreateBearerResponse) (says : SaysCreateBearerResponse r x) where
  module _ (purpose : Purpose) (w : IsWaiting n r.response.seq purpose) where
    abbrev bearer_at : HasPending n x.number
    bearer_at = record { pending = about purpose w.message; waits = ap (λ (i : ℕ). get n.pending i) says.number ∙ w.waits }

    pub bearer_does_not_fit : (FitsCreateBearerOf purpose r.response → ⊥) → BearerRow x n (effect_by (Drops Mismatch) x.number n)
    bearer_does_not_fit unfit = inr (bearer_at, inl (λ bearer_fits. unfit (bearer_here purpose w.message r.response x w.meant says.header says.cause bearer_fits), refl))

    module _ (k : AskedBearer) (asked : IsAskedBearer purpose r.response k) where
      bearer_request : AsksForBearer purpose w.message k.bearer
      bearer_request = asks_bearer purpose w.message k.bearer asked.asked asked.bearer w.meant

      is_named : Named (about purpose w.message) x.header x.cause
      is_named = names_there purpose w.message r.response x.header x.cause bearer_request.told says.header says.cause asked.names

      abbrev bearer_fits : FitsCreateBearer bearer_at.pending x
      bearer_fits = record { request = bearer_request.request; asked = bearer_request.is; session = k.session; about = asked.session; bearer = k.bearer; about_bearer = asked.bearer; named = is_named }

      pub bearer_is_refused : (IsAccepting r.response.cause → ⊥) → BearerRow x n (effect_by (Finishes purpose (Rejected r.response.cause.value)) x.number n)
      bearer_is_refused refused =
          inr (
            bearer_at,
            inr (
              bearer_fits,
              inl (
                λ accepts. refused (subst IsAccepting says.cause accepts),
                λ i. effect_by (Finishes purpose (Rejected (sym says.cause i).value)) x.number n,
              ),
            ),
          )

      module _ (accepts : IsAccepting r.response.cause) where
        bearer_accepting : IsAccepting x.cause
        bearer_accepting = subst IsAccepting (sym says.cause) accepts

        pub not_one : r.context ≡ None → BearerRow x n (effect_by (Drops Mismatch) x.number n)
        not_one none =
            let never = subst (λ (o : Option ResponseContext). SaysOnlyGiven o x.contexts) none says.contexts in
            inr (bearer_at, inr (bearer_fits, inr (bearer_accepting, inl (λ bearer_new. never bearer_new.context bearer_new.alone, refl))))

        module _ (c : ResponseContext) (is : r.context ≡ Some c) where
          bearer_only : (g : GivenBearer) × (x.contexts ≡ g ∷ []) × SaysGiven c g
          bearer_only = subst (λ (o : Option ResponseContext). SaysOnlyGiven o x.contexts) is says.contexts

          abbrev bearer_new : DescribesBearer x
          bearer_new = record { context = bearer_only.0; alone = bearer_only.1 }

          pub bearer_refused : (IsAccepting c.cause → ⊥) → BearerRow x n (effect_by (Finishes purpose (Rejected c.cause.value)) x.number n)
          bearer_refused refused =
              inr (
                bearer_at,
                inr (
                  bearer_fits,
                  inr (
                    bearer_accepting,
                    inr (
                      bearer_new,
                      inl (
                        λ both. refused (subst IsAccepting bearer_only.2.cause both),
                        λ i. effect_by (Finishes purpose (Rejected (sym bearer_only.2.cause i).value)) x.number n,
                      ),
                    ),
                  ),
                ),
              )

          module _ (accept : IsAccepting c.cause) where
            both_accept : IsAccepting bearer_new.context.cause
            both_accept = subst IsAccepting (sym bearer_only.2.cause) accept

            pub not_returned : (c.returned ≡ Some k.bearer → ⊥) → BearerRow x n (effect_by (Drops Mismatch) x.number n)
            not_returned other = inr (bearer_at, inr (bearer_fits, inr (bearer_accepting, inr (bearer_new, inr (both_accept, inl (λ returned. other (sym bearer_only.2.returned ∙ returned), refl))))))

            module _ (returned : c.returned ≡ Some k.bearer) (sessions : FiniteMap Session) (bearers : FiniteMap Bearer) (same : sessions ≡ n.sessions) (same_bearers : bearers ≡ n.bearers) where
              is_returned : teid_in bearer_new.context.packet_user ≡ Some k.bearer
              is_returned = bearer_only.2.returned ∙ returned

              openable : CanOpenIn sessions bearers k.session c.identity → CanOpen n k.session bearer_new.context.identity
              openable can =
                  let here =
                  subst (λ (bs : FiniteMap Bearer). CanOpenIn n.sessions bs k.session c.identity) same_bearers
                  (subst (λ (ss : FiniteMap Session). CanOpenIn ss bearers k.session c.identity) same can) in
                  subst (λ (i : ℕ). CanOpen n k.session i) (sym bearer_only.2.identity)
                  (record {
                    range = record { low = here.range.least; high = here.range.most };
                    unused = here.unused;
                    at = record { session = here.at; stands = here.stands };
                    not_closing = here.not_closing;
                  })

              not_openable : (CanOpenIn sessions bearers k.session c.identity → ⊥) → CanOpen n k.session bearer_new.context.identity → ⊥
              not_openable cannot can =
                  let here = subst (λ (i : ℕ). CanOpen n k.session i) bearer_only.2.identity can in
                  cannot (subst (λ (bs : FiniteMap Bearer). CanOpenIn sessions bs k.session c.identity) (sym same_bearers)
                  (subst (λ (ss : FiniteMap Session). CanOpenIn ss n.bearers k.session c.identity) (sym same)
                  (record { range = record { least = here.range.low; most = here.range.high }; unused = here.unused; at = here.at.session; stands = here.at.stands; not_closing = here.not_closing })))

              pub clashes : (CanOpenIn sessions bearers k.session c.identity → ⊥) → BearerRow x n (effect_by (Finishes purpose Clash) x.number n)
              clashes cannot = inr (bearer_at, inr (bearer_fits, inr (bearer_accepting, inr (bearer_new, inr (both_accept, inr (is_returned, inl (not_openable cannot, refl)))))))

              pub bearer_opens : CanOpenIn sessions bearers k.session c.identity → (b : Bearer) → get n.bearers k.bearer ≡ Some b → (identity : ℕ)
                  → identity ≡ c.identity → (bearer : Bearer) → bearer ≡ record b { remote = c.user; identity = Some identity; state = Active }
                  → BearerRow x n (effect_by (OpensBearer k.bearer bearer) x.number n)
              bearer_opens can b stands identity is_identity bearer bearer_is =
                  let then : bearer ≡ opened_dedicated b x =
                  bearer_is ∙ (λ i. record b {
                    remote = (sym bearer_only.2.user ∙ sym (ap first_given bearer_only.1)) i;
                    identity = (ap one (is_identity ∙ sym bearer_only.2.identity) ∙ sym (ap first_identity bearer_only.1)) i;
                    state = Active;
                  }) in
                  meets bearer_at
                  (meets bearer_fits
                  (meets bearer_accepting
                  (meets bearer_new
                  (meets both_accept
                  (meets is_returned
                  (meets (openable can)
                  (record {
                    at = record { bearer = b; stands = stands };
                    gives = λ i. record { out = nothing; outcome = Came_to Opened; node = record n { bearers = insert n.bearers k.bearer (then i); pending = remove n.pending x.number } };
                  })))))))

-- ---- what stands, at a sound gateway

-- the bearer that was asked for: it has no remote yet, unless its session is closing
record IsBearerAsked (n : Node) (session bearer : ℕ) : Type 0 where
  pub at : Bearer
  pub stands : get n.bearers bearer ≡ Some at
  pub blank : (s : Session) → get n.sessions session ≡ Some s → s.state ≢ Closing → at.remote ≡ None

create_bearer_asked : (role : Role) (n : Node) → IsSound role n → (number : ℕ) (purpose : Purpose) (w : IsWaiting n number purpose) (r : Response) (k : AskedBearer)
    → IsAskedBearer purpose r k → IsBearerAsked n k.session k.bearer
create_bearer_asked role n sound number purpose w r k asked =
    let q = asks_bearer purpose w.message k.bearer asked.asked asked.bearer w.meant in
    let is = is_bearer role n sound number (about purpose w.message) q.request w.waits q.is in
    let user : is.0.request.context.user.teid ≡ k.bearer = ap (λ (y : CreateBearerRequest). y.context.user.teid) is.1 ∙ q.user in
    let of : one is.0.about ≡ one k.session = sym is.0.session ∙ asked.session in
    let session : is.0.about ≡ k.session = cc in
    by is.0.about is.0.request.context.user.teid session user is.0.wanted
  where
    by : (s t : ℕ) → s ≡ k.session → t ≡ k.bearer → IsWanted n.sessions n.bearers s t → IsBearerAsked n k.session k.bearer
    by s t session user (inl (b, there, is)) =
        let stands = ap (λ (i : ℕ). get n.bearers i) (sym user) ∙ there in
        record { at = b; stands = stands; blank = λ o here opened. (sound.contexts.each_bearer k.bearer b stands).blank is.in_state }
    by s t session user (inr ((b, there, is), (c, closes, closing))) = record {
      at = b;
      stands = ap (λ (i : ℕ). get n.bearers i) (sym user) ∙ there;
      blank = λ o here opened. absurd (opened (ap (λ (y : Session). y.state) (one_value (get n.sessions k.session) o c here (ap (λ (i : ℕ). get n.sessions i) (sym session) ∙ closes)) ∙ closing));
    }

module _ (role : Role) (heard : Heard) (old : Node) (whole : ∥ IsSound role old ∥₁) (number : ℕ) (purpose : Purpose)
    (w : IsWaiting (node_heard heard old) number purpose) (r : Response) (k : AskedBearer) (asked : IsAskedBearer purpose r k) where
  pub bearer_stands : get (node_heard heard old).bearers k.bearer ≡ None → ⊥
  bearer_stands = stands_there whole (node_heard heard old) k.bearer (λ sound. let d = by sound in (d.at, d.stands))
    where
      by : IsSound role old → IsBearerAsked (node_heard heard old) k.session k.bearer
      by sound = create_bearer_asked role (node_heard heard old) (heard_sound role heard old sound) number purpose w r k asked

  pub bearer_blank : (s : Session) → get (node_heard heard old).sessions k.session ≡ Some s → s.state ≢ Closing → (b : Bearer) → get (node_heard heard old).bearers k.bearer ≡ Some b → b.remote ≡ None
  bearer_blank s here opened = blank_there whole (node_heard heard old) k.bearer by
    where
      by : IsSound role old → IsBlank (node_heard heard old) k.bearer
      by sound =
          let d = create_bearer_asked role (node_heard heard old) (heard_sound role heard old sound) number purpose w r k asked in
          record { at = d.at; stands = d.stands; blank = d.blank s here opened }
