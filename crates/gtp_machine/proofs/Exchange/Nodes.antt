-- What the rows of each gateway give where nothing stands in the way.
use Rattle.std.proofs.Common.{◌≡◌, ◌≢◌, ◌⊎◌, inl, inr, ⊎_elim, ℕ, ◌+◌, ◌<◌, ◌≤◌, length, List, [], ◌∷◌, Option, Some, None, true, false, not, ◌||◌, refl, sym, ◌∙◌, ap, subst, arith}
use Rattle.std.specs.Prelude.{IsTrue, is_some, IsSome}
use Rattle.std.specs.FinMap.{get, insert, remove, len}
use Rattle.std.proofs.lemmas.Bool.Decides.{nat_tests}
use Rattle.std.proofs.lemmas.Option.{same_Some}
use Rattle.gtp_values.specs.Counter.{age_of}
use Rattle.gtp_values.specs.FiniteMap.{Among}
use Rattle.gtp_values.specs.declared.counter.Age.{Age}
use Rattle.gtp_values.specs.declared.counter.Age.TheVariants.{Same, Later, Earlier}
use Rattle.gtp_tables.specs.declared.pool.IpVersion.{IpVersion}
use Rattle.gtp_tables.specs.declared.pool.IpVersion.TheVariants.{V4, V6}
use Rattle.gtp_machine.specs.declared.causes.TheConstants.{CONTEXT_NOT_FOUND, REQUEST_REJECTED}
use Rattle.gtp_machine.specs.Ordered.{Unless}
use Rattle.gtp_machine.specs.Config.{Config, access_point_for, template_asked}
use Rattle.gtp_machine.specs.Element.{IsAccepting, PdnAddress, address_of}
use Rattle.gtp_machine.specs.Message.{CreateSessionRequest, CreatedBearer, CreateSessionResponse, CreateBearerRequest, Message}
use Rattle.gtp_machine.specs.Message.{Create_session_request, Create_session_response, Create_bearer_request, Create_bearer_response}
use Rattle.gtp_machine.specs.Node.{Serving, Packet, State, Pending, Active, Session, Bearer, PendingRequest, Arrival, Held, Node, written}
use Rattle.gtp_machine.specs.Input.{Came_to, Specification, Control_came, Control_message, Opened, Effect, nothing, messages, dropped, ContextNotActive}
use Rattle.gtp_machine.specs.Choice.{IsFree, HasDraws, HasFreeIdentity, HasSession, HasFreeAddress, AsksFor, IsPart, IsGiven, CanGive, IsServed}
use Rattle.gtp_machine.specs.Choice.{IsIdentity, HasSessionRoom, HasPendingRoom, HasHeldRoom}
use Rattle.gtp_machine.specs.Removal.{on, is_pending, is_opened}
use Rattle.gtp_machine.specs.Recovery.{peer_restarted, Judges, Weighs, learned_by, Hears, heard_at_age, heard_from, heard_by}
use Rattle.gtp_machine.specs.Command.{bearer_request, create_bearer_asked, pending_dedicated, BeginsSession, SessionBegun, pending_session, pending_bearer}
use Rattle.gtp_machine.specs.Answer.{IsNew, making}
use Rattle.gtp_machine.specs.Serving.{bearer_refused, resources_refused, opened_session, opened_bearer, CreateSessionAnswered, bearer_response}
use Rattle.gtp_machine.specs.Serving.{granted_bearer, MakesBearer, no_resources, CreateBearerAsked, ServingTakes}
use Rattle.gtp_machine.specs.Packet.{session_cause, session_response, made_session, made_bearer, session_made, MakesSession, CreateSessionAsked, PacketTakes}
use Rattle.gtp_machine.specs.Step.{Step}
use Rattle.gtp_machine.proofs.Basics.Counting.{len-kept_most}
use Rattle.gtp_machine.proofs.Basics.FiniteMaps.{Among-only, get-kept, get-insert_same, get-insert_other, Among-cases}
use Rattle.gtp_machine.proofs.Basics.Templates.{IsAdded, goes}

-- a rule whose condition holds
pub pass : {P X : Type 0} {Y : P → Type 0} → P → Unless P X Y → (p : P) × Y p
pass p (inl f) = absurd (f.0 p)
pass p (inr r) = r

pub begins : (old : Node) (spec : Specification) (e : Effect) → HasSessionRoom old → HasDraws old 2 → HasPendingRoom old → SessionBegun Serving spec old e → BeginsSession old spec e
begins old spec e room draws few r = (pass few (pass draws (pass room r).1).1).1

-- a gateway once a counter was heard: what is pending is there
pub record IsReady (old mid : Node) : Type 0 where
  pub config : mid.config ≡ old.config
  pub counter : mid.counter ≡ old.counter
  pub drawn : mid.drawn ≡ old.drawn
  pub held : mid.held ≡ old.held
  pub few : len mid.sessions ≤ len old.sessions
  pub waiting : (t : ℕ) (s : Session) → get old.sessions t ≡ Some s → s.state ≡ Pending → get mid.sessions t ≡ Some s
  pub bearers : (t : ℕ) (b : Bearer) (s : Session) → get old.bearers t ≡ Some b → get old.sessions b.session ≡ Some s → s.state ≡ Pending → get mid.bearers t ≡ Some b
  pub pending : (number : ℕ) (p : PendingRequest) (t : ℕ) (s : Session) → get old.pending number ≡ Some p → p.session ≡ Some t → p.bearer ≡ None
      → get old.sessions t ≡ Some s → s.state ≡ Pending → get mid.pending number ≡ Some p

ready_known : (old : Node) (known : Option ℕ) → IsReady old (record old { known = known })
ready_known old known =
    record {
      config = refl;
      counter = refl;
      drawn = refl;
      held = refl;
      few = omega arith;
      waiting = λ t s e w. e;
      bearers = λ t b s e at w. e;
      pending = λ n p t s e about none at w. e;
    }

ready_itself : (old : Node) → IsReady old old
ready_itself old = record { config = refl; counter = refl; drawn = refl; held = refl; few = omega arith; waiting = λ t s e w. e; bearers = λ t b s e at w. e; pending = λ n p t s e about none at w. e }

-- a session that stands there and is pending was not opened
unopened : (there : Option Session) (s : Session) → there ≡ Some s → s.state ≡ Pending → is_opened there ≡ false
unopened there s is waits = ap is_opened is ∙ ap (λ (state : State). not (is_pending state)) waits

ready_restarted : (old : Node) (counter : ℕ) → IsReady old (peer_restarted old counter)
ready_restarted old counter = record {
  config = refl;
  counter = refl;
  drawn = refl;
  held = refl;
  few = len-kept_most (λ t (s : Session). not (is_opened (get old.sessions t))) old.sessions;
  waiting = λ t s e w. get-kept (λ k (x : Session). not (is_opened (get old.sessions k))) old.sessions t s e (ap not (unopened (get old.sessions t) s e w));
  bearers = λ t b s e at w. get-kept (λ k (x : Bearer). not (false || is_opened (get old.sessions x.session))) old.bearers t b e (ap not (unopened (get old.sessions b.session) s at w));
  pending = λ n p t s e about none at w. get-kept (λ k (x : PendingRequest). not (on (λ m. is_opened (get old.sessions m)) x.session || on (λ m. false) x.bearer)) old.pending n p e
      ((λ i. not (on (λ m. is_opened (get old.sessions m)) (about i) || on (λ m. false) (none i))) ∙ ap (λ b. not (b || false)) (unopened (get old.sessions t) s at w));
}

-- what a message gives once its counter was heard, which is not an earlier one
pub record IsHeard (Takes : Node → Effect → Type 0) (old : Node) (counter : ℕ) (e : Effect) : Type 0 where
  pub mid : Node
  pub heard : mid ≡ heard_by old counter
  pub ready : IsReady old mid
  pub taken : Effect
  pub takes : Takes mid taken
  pub is : e ≡ record taken { out = record taken.out { heard = Some counter; learned = learned_by old.known counter } }

pub heard_so : (Takes : Node → Effect → Type 0) (old : Node) (counter : ℕ) (e : Effect) → ((k : ℕ) → old.known ≡ Some k → age_of k counter ≢ Earlier)
    → Hears Takes old (Some counter) e → IsHeard Takes old counter e
heard_so Takes old counter e not_earlier (taken, weighs, is) = by_known old.known refl weighs
  where
    by_age : (k : ℕ) → old.known ≡ Some k → (age : Age) → age_of k counter ≡ age → Judges Takes old counter age taken → IsHeard Takes old counter e
    by_age k known Same age takes =
        record {
          mid = old;
          heard = sym (ap (heard_from old counter) known ∙ ap (heard_at_age old counter) age);
          ready = ready_itself old;
          taken = taken;
          takes = takes;
          is = is;
        }
    by_age k known Later age takes =
        record {
          mid = peer_restarted old counter;
          heard = sym (ap (heard_from old counter) known ∙ ap (heard_at_age old counter) age);
          ready = ready_restarted old counter;
          taken = taken;
          takes = takes;
          is = is;
        }
    by_age k known Earlier age takes = absurd (not_earlier k known age)

    by_known : (known : Option ℕ) → old.known ≡ known → Weighs Takes old counter known taken → IsHeard Takes old counter e
    by_known None none takes =
        record {
          mid = record old { known = Some counter };
          heard = sym (ap (heard_from old counter) none);
          ready = ready_known old (Some counter);
          taken = taken;
          takes = takes;
          is = is;
        }
    by_known (Some k) some takes = by_age k some (age_of k counter) refl takes

-- what is given can be had
pub can_be_had : (node : Node) (pdn : ℕ) (address : PdnAddress) → IsGiven node pdn address → CanGive node pdn
can_be_had node pdn address given = by address.v4 address.v6 given.v4 given.v6 given.some_part
  where
    by : (v4 v6 : Option (List ℕ)) → IsPart node pdn V4 v4 → IsPart node pdn V6 v6 → IsTrue (is_some v4 || is_some v6) → CanGive node pdn
    by (Some octets) v6 r s some = record { version = V4; asked = r.0; free = record { address = octets; free = r.1 } }
    by None (Some octets) r s some = record { version = V6; asked = s.0; free = record { address = octets; free = s.1 } }
    by None None r s some = let no : false ≡ true = some in absurd cc

-- a Create Session Request that can be taken, if an address can be given
pub record CanMake (old : Node) (q : CreateSessionRequest) : Type 0 where
  pub room : HasHeldRoom old
  pub one : q.further ≡ []
  pub identity : IsIdentity q.context.identity
  pub configured : IsSome (access_point_for old.config q.access_point)
  pub few : HasSessionRoom old
  pub draws : HasDraws old 2

-- the types that ask for version 4, and for version 6
asks_v4 : (pdn : ℕ) → AsksFor pdn V4 → (pdn ≡ 1) ⊎ (pdn ≡ 3)
asks_v4 pdn asked = grind (arith, nat_tests)

asks_v6 : (pdn : ℕ) → AsksFor pdn V6 → (pdn ≡ 2) ⊎ (pdn ≡ 3)
asks_v6 pdn asked = grind (arith, nat_tests)

-- what is given was asked for
pub v4_given : (node : Node) (pdn : ℕ) (part : Option (List ℕ)) → IsPart node pdn V4 part → IsTrue (is_some part) → (pdn ≡ 1) ⊎ (pdn ≡ 3)
v4_given node pdn (Some octets) given some = asks_v4 pdn given.0
v4_given node pdn None given some = let no : false ≡ true = some in absurd cc

pub v6_given : (node : Node) (pdn : ℕ) (part : Option (List ℕ)) → IsPart node pdn V6 part → IsTrue (is_some part) → (pdn ≡ 2) ⊎ (pdn ≡ 3)
v6_given node pdn (Some octets) given some = asks_v6 pdn given.0
v6_given node pdn None given some = let no : false ≡ true = some in absurd cc

-- the type of which an address can be had: one of three, and one that is served
module _ (node : Node) (pdn : ℕ) (can : CanGive node pdn) where
  asked_is : (version : IpVersion) → AsksFor pdn version → (pdn ≡ 1) ⊎ ((pdn ≡ 2) ⊎ (pdn ≡ 3))
  asked_is V4 asked = ⊎_elim (λ one. inl one) (λ three. inr (inr three)) (asks_v4 pdn asked)
  asked_is V6 asked = inr (asks_v6 pdn asked)

  pub type_is : (pdn ≡ 1) ⊎ ((pdn ≡ 2) ⊎ (pdn ≡ 3))
  type_is = asked_is can.version can.asked

  pub served : IsServed node.config pdn
  served = by can.version can.asked can.free
    where
      by : (version : IpVersion) → AsksFor pdn version → HasFreeAddress node version → IsServed node.config pdn
      by V4 asked has = ⊎_elim (λ one. inl one) (λ three. inr (inl three)) (asks_v4 pdn asked)
      by V6 asked has = ⊎_elim (λ two. inr (inr (two, omega (arith, has.free.in_pool)))) (λ three. inr (inl three)) (asks_v6 pdn asked)

can_still : (old mid : Node) → IsReady old mid → (q : CreateSessionRequest) → CanMake old q → CanMake mid q
can_still old mid ready q can = record {
  room = record { few = subst (λ (l : List Held). length l < 4096) (sym ready.held) can.room.few };
  one = can.one;
  identity = can.identity;
  configured = subst (λ (c : Config). IsSome (access_point_for c q.access_point)) (sym ready.config) can.configured;
  few = record { few = omega (arith, ready.few, can.few.few) };
  draws = record { left = subst (λ (l : List ℕ). length l + 2 ≤ 16777215) (sym ready.drawn) can.draws.left };
}

makes : (request : Arrival) (q : CreateSessionRequest) (old : Node) (e : Effect) → CanMake old q → CanGive old q.pdn → CreateSessionAsked request q old e → MakesSession request old q e
makes request q old e can give r = (pass give (pass (can.few, can.draws) (pass (served old q.pdn give) (pass can.configured (pass can.identity (pass can.one (pass can.room r).1).1).1).1).1).1).1

-- what the packet gateway makes of the request
pub record IsAnswered (request : Arrival) (q : CreateSessionRequest) (counter : ℕ) (old : Node) (e : Effect) : Type 0 where
  pub mid : Node
  pub heard : mid ≡ heard_by old counter
  pub ready : IsReady old mid
  pub taken : Effect
  pub made : MakesSession request mid q taken
  pub node : e.node ≡ taken.node
  pub sent : e.out.sent ≡ taken.out.sent
  pub outcome : e.outcome ≡ taken.outcome

pub answers : (request : Arrival) (q : CreateSessionRequest) (counter : ℕ) (old : Node) (e : Effect) → request.source.ip ≡ old.config.peer.control
    → IsNew old request → q.recovery ≡ Some counter → ((k : ℕ) → old.known ≡ Some k → age_of k counter ≢ Earlier) → CanMake old q
    → CanGive (heard_by old counter) q.pdn → Step Packet old (Control_came request (Control_message (Create_session_request q))) e
    → IsAnswered request q counter old e
answers request q counter old e peer new tells not_earlier can give (inl f) = absurd (f.0 peer)
answers request q counter old e peer new tells not_earlier can give (inr (from, inl again)) = absurd (new again.held again.stands again.same)
answers request q counter old e peer new tells not_earlier can give (inr (from, inr (is_new, inl f))) = absurd (f.0 refl)
answers request q counter old e peer new tells not_earlier can give (inr (from, inr (is_new, inr (kind, hears)))) =
    let h = heard_so (PacketTakes request (Create_session_request q)) old counter e not_earlier (subst (λ o. Hears (PacketTakes request (Create_session_request q)) old o e) tells hears) in
    record {
      mid = h.mid;
      heard = h.heard;
      ready = h.ready;
      taken = h.taken;
      made = makes request q h.mid h.taken (can_still old h.mid h.ready q can) (subst (λ n. CanGive n q.pdn) (sym h.heard) give) h.takes;
      node = ap (λ (f : Effect). f.node) h.is;
      sent = ap (λ (f : Effect). f.out.sent) h.is;
      outcome = ap (λ (f : Effect). f.outcome) h.is;
    }

-- the session and its default bearer, opened
abbrev pub opening : CreateSessionResponse → CreateSessionRequest → Node → PdnAddress → Effect
opening a q mid address =
    record {
      out = nothing;
      outcome = Came_to Opened;
      node = record mid {
        sessions = insert mid.sessions q.control.teid (opened_session (pending_session q) a address);
        bearers = insert mid.bearers q.context.user.teid (opened_bearer (pending_bearer q.control.teid q) a);
        pending = remove mid.pending a.number;
      };
    }

abbrev pub waiting_for : CreateSessionRequest → PendingRequest
waiting_for q = record { session = Some q.control.teid; bearer = None; request = Create_session_request q }

-- a pending session, its default bearer and its request stand
pub record Waits (node : Node) (q : CreateSessionRequest) : Type 0 where
  pub request : get node.pending q.number ≡ Some (waiting_for q)
  pub session : get node.sessions q.control.teid ≡ Some (pending_session q)
  pub bearer : get node.bearers q.context.user.teid ≡ Some (pending_bearer q.control.teid q)

-- an answer that opens it
pub record OpensBy (a : CreateSessionResponse) (q : CreateSessionRequest) (address : PdnAddress) : Type 0 where
  pub number : a.number ≡ q.number
  pub header : a.header ≡ q.control.teid
  pub accepts : IsAccepting a.cause
  pub context : CreatedBearer
  pub alone : a.contexts ≡ context ∷ []
  pub default : context.identity ≡ q.context.identity
  pub both : IsAccepting context.cause
  pub given : address_of a.address ≡ Some address

opens : (a : CreateSessionResponse) (q : CreateSessionRequest) (mid : Node) (e : Effect) (address : PdnAddress) → Waits mid q → OpensBy a q address
    → CreateSessionAnswered a mid e → e ≡ opening a q mid address
opens a q mid e address waits by r =
    let at = pass (record { pending = waiting_for q; waits = ap (λ n. get mid.pending n) by.number ∙ waits.request }) r in
    let same_p : waiting_for q ≡ at.0.pending = same_Some _ _ (sym (ap (λ n. get mid.pending n) by.number ∙ waits.request) ∙ at.0.waits) in
    let fits =
    pass (record {
      request = q;
      asked = ap (λ (p : PendingRequest). p.request) (sym same_p);
      session = q.control.teid;
      about = ap (λ (p : PendingRequest). p.session) (sym same_p);
      named = inl (ap (λ (p : PendingRequest). p.session) (sym same_p) ∙ ap (λ t. Some t) (sym by.header));
    }) at.1 in
    let same_q : q ≡ fits.0.request = request_same q fits.0.request (ap (λ (p : PendingRequest). p.request) same_p ∙ fits.0.asked) in
    let same_s : q.control.teid ≡ fits.0.session = same_Some _ _ (ap (λ (p : PendingRequest). p.session) same_p ∙ fits.0.about) in
    let accepts = pass by.accepts fits.1 in
    let new =
    pass
    (record {
      at = record { session = pending_session q; stands = ap (λ t. get mid.sessions t) (sym same_s) ∙ waits.session };
      context = by.context;
      alone = by.alone;
      default = by.default;
      address = address;
      given = by.given;
    }) accepts.1 in
    let same_c : by.context ≡ new.0.context = context_same by.context new.0.context (sym by.alone ∙ new.0.alone) in
    let same_at : pending_session q ≡ new.0.at.session = same_Some _ _ (sym waits.session ∙ ap (λ t. get mid.sessions t) same_s ∙ new.0.at.stands) in
    let same_a : address ≡ new.0.address = same_Some address new.0.address (sym by.given ∙ new.0.given) in
    let both = pass (subst (λ (c : CreatedBearer). IsAccepting c.cause) same_c by.both) new.1 in
    let same_b : pending_bearer q.control.teid q ≡ both.1.default.bearer =
    same_Some _ _ (sym waits.bearer ∙ ap (λ (k : CreateSessionRequest). get mid.bearers k.context.user.teid) same_q ∙ both.1.default.stands) in
    both.1.gives
    ∙ sym (λ i. record {
      out = nothing;
      outcome = Came_to Opened;
      node = record mid {
        sessions = insert mid.sessions (same_s i) (opened_session (same_at i) a (same_a i));
        bearers = insert mid.bearers (same_q i).context.user.teid (opened_bearer (same_b i) a);
        pending = remove mid.pending a.number;
      };
    })
  where
    request_same : (x y : CreateSessionRequest) → Create_session_request x ≡ Create_session_request y → x ≡ y
    request_same x y e = cc e

    context_same : (x y : CreatedBearer) → ◌≡◌ {A = List CreatedBearer} (x ∷ []) (y ∷ []) → x ≡ y
    context_same x y e = cc e

-- what the serving gateway makes of the answer
pub record IsOpened (a : CreateSessionResponse) (q : CreateSessionRequest) (address : PdnAddress) (old : Node) (e : Effect) : Type 0 where
  pub mid : Node
  pub ready : IsReady old mid
  pub node : e.node ≡ (opening a q mid address).node
  pub sent : messages e.out.sent ≡ []
  pub outcome : e.outcome ≡ Came_to Opened

pub is_opened_by : (request : Arrival) (a : CreateSessionResponse) (q : CreateSessionRequest) (address : PdnAddress) (counter : ℕ) (old : Node) (e : Effect)
    → request.source.ip ≡ old.config.peer.control → IsNew old request → a.recovery ≡ Some counter
    → ((k : ℕ) → old.known ≡ Some k → age_of k counter ≢ Earlier) → Waits old q → OpensBy a q address
    → Step Serving old (Control_came request (Control_message (Create_session_response a))) e → IsOpened a q address old e
is_opened_by request a q address counter old e peer new tells not_earlier waits by (inl f) = absurd (f.0 peer)
is_opened_by request a q address counter old e peer new tells not_earlier waits by (inr (from, inl again)) = absurd (new again.held again.stands again.same)
is_opened_by request a q address counter old e peer new tells not_earlier waits by (inr (from, inr (is_new, inl f))) = absurd (f.0 refl)
is_opened_by request a q address counter old e peer new tells not_earlier waits by (inr (from, inr (is_new, inr (kind, hears)))) =
    let h = heard_so (ServingTakes request (Create_session_response a)) old counter e not_earlier (subst (λ o. Hears (ServingTakes request (Create_session_response a)) old o e) tells hears) in
    let is =
    opens a q h.mid h.taken address
    (record {
      request = h.ready.pending q.number (waiting_for q) q.control.teid (pending_session q) waits.request refl refl waits.session refl;
      session = h.ready.waiting q.control.teid (pending_session q) waits.session refl;
      bearer = h.ready.bearers q.context.user.teid (pending_bearer q.control.teid q) (pending_session q) waits.bearer waits.session refl;
    }) by h.takes in
    record {
      mid = h.mid;
      ready = h.ready;
      node = ap (λ (f : Effect). f.node) h.is ∙ ap (λ (f : Effect). f.node) is;
      sent = ap (λ (f : Effect). messages f.out.sent) h.is ∙ ap (λ (f : Effect). messages f.out.sent) is;
      outcome = ap (λ (f : Effect). f.outcome) h.is ∙ ap (λ (f : Effect). f.outcome) is;
    }

-- how the answer to the request goes, and the gateway after it
pub record GoesOut (request : Arrival) (q : CreateSessionRequest) (old : Node) (control user : ℕ) (address : PdnAddress) (e : Effect) : Type 0 where
  pub more : List Message
  pub left : Node
  pub gives : e ≡ making request (Create_session_response (session_response old q control user address) ∷ more) (session_cause q.pdn address) left
  pub config : left.config ≡ old.config
  pub sessions : left.sessions ≡ (session_made old q control user address).sessions
  pub bearer : get left.bearers user ≡ Some (made_bearer q control)
  pub wanted : (more ≡ []) ⊎ ((x : IsAdded (template_asked old.config q.access_point) request (session_response old q control user address)
      (session_cause q.pdn address) control (made_session q address) (session_made old q control user address) e) × (more ≡ Create_bearer_request
      (bearer_request (session_made old q control user address) (made_session q address) x.template.tft x.template.qos x.adds.user
      x.adds.number) ∷ []))

pub goes_out : (request : Arrival) (q : CreateSessionRequest) (old : Node) (e : Effect) (r : MakesSession request old q e) → GoesOut request q old r.control r.user r.address e
goes_out request q old e r =
    ⊎_elim alone added
    (goes request (session_response old q r.control r.user r.address) (session_cause q.pdn r.address) r.control (made_session q r.address)
    (session_made old q r.control r.user r.address) e (template_asked old.config q.access_point) r.gives)
  where
    stands : get (session_made old q r.control r.user r.address).bearers r.user ≡ Some (made_bearer q r.control)
    stands = get-insert_same old.bearers r.user (made_bearer q r.control)

    alone : e ≡ making request (Create_session_response (session_response old q r.control r.user r.address) ∷ []) (session_cause q.pdn r.address)
        (session_made old q r.control r.user r.address) → GoesOut request q old r.control r.user r.address e
    alone gives = record { more = []; left = (session_made old q r.control r.user r.address); gives = gives; config = refl; sessions = refl; bearer = stands; wanted = inl refl }

    added : IsAdded (template_asked old.config q.access_point) request (session_response old q r.control r.user r.address)
        (session_cause q.pdn r.address) r.control (made_session q r.address) (session_made old q r.control r.user r.address) e
        → GoesOut request q old r.control r.user r.address e
    added x =
        let b = bearer_request (session_made old q r.control r.user r.address) (made_session q r.address) x.template.tft x.template.qos x.adds.user x.adds.number in
        record {
          more = Create_bearer_request b ∷ [];
          left = create_bearer_asked (session_made old q r.control r.user r.address) r.control b x.adds.user;
          gives = x.adds.gives;
          config = refl;
          sessions = refl;
          bearer =
              get-insert_other (session_made old q r.control r.user r.address).bearers x.adds.user (pending_dedicated r.control) r.user
              (λ same. x.adds.user_free.undrawn (inl (sym same))) ∙ stands;
          wanted = inr (x, refl);
        }

-- what the serving gateway says to a Create Bearer Request for its active session: an answer that it holds, or one of these two, or nothing
abbrev pub SaysSo : CreateBearerRequest → Session → Node → Message → Type 0
SaysSo r s old m =
    ((h : Held) × Among h old.held × Among m h.answer)
    ⊎ ((m ≡ Create_bearer_response (no_resources old r (written s.remote)))
    ⊎ ((user : ℕ) × (identity : ℕ) × IsFree old user × IsIdentity identity × (m ≡ Create_bearer_response (bearer_response old r s user identity))))

-- and what it leaves as it is: its sessions, and the bearers that it had
pub record IsAsked (r : CreateBearerRequest) (s : Session) (old : Node) (e : Effect) : Type 0 where
  pub config : e.node.config ≡ old.config
  pub sessions : e.node.sessions ≡ old.sessions
  pub bearers : (t : ℕ) (b : Bearer) → Among t old.drawn → get old.bearers t ≡ Some b → get e.node.bearers t ≡ Some b
  pub says : (m : Message) → Among m (messages e.out.sent) → SaysSo r s old m

module _ (request : Arrival) (r : CreateBearerRequest) (s : Session) (old : Node) (e : Effect) where
  -- nothing changes but what is held
  stays_so : (f : Effect) → e ≡ f → f.node.config ≡ old.config → f.node.sessions ≡ old.sessions → f.node.bearers ≡ old.bearers
      → ((m : Message) → Among m (messages f.out.sent) → SaysSo r s old m) → IsAsked r s old e
  stays_so f gives config sessions bearers says = record {
    config = ap (λ (k : Effect). k.node.config) gives ∙ config;
    sessions = ap (λ (k : Effect). k.node.sessions) gives ∙ sessions;
    bearers = λ t b drawn stands. ap (λ (k : Effect). get k.node.bearers t) gives ∙ ap (λ m. get m t) bearers ∙ stands;
    says = λ m among. says m (subst (λ (k : Effect). Among m (messages k.out.sent)) gives among);
  }

  asked_so : get old.sessions r.header ≡ Some s → s.state ≡ Active → r.further ≡ [] → r.linked ≡ s.subscriber.identity → CreateBearerAsked request r old e → IsAsked r s old e
  asked_so stands active one linked (inl full) = stays_so _ full.1 refl refl refl (λ m none. absurd none)
  asked_so stands active one linked (inr (room, judged)) = by (pass (record { session = s; stands = stands }) judged)
    where
      by : (at : HasSession old r.header) × Unless (at.session.state ≡ Active) (e ≡ dropped old ContextNotActive)
          (λ active. Unless (r.further ≡ []) (e ≡ bearer_refused request r (written at.session.remote) REQUEST_REJECTED old) (λ one.
          Unless (r.linked ≡ at.session.subscriber.identity) (e ≡ bearer_refused request r (written at.session.remote) CONTEXT_NOT_FOUND old)
          (λ linked. Unless (HasFreeIdentity old r.header × HasDraws old 1) (e ≡ resources_refused request r (written at.session.remote) old)
          (λ free. MakesBearer request old r at.session e))))
          → IsAsked r s old e
      by (at, next) =
          let same : s ≡ at.session = same_Some s at.session (sym stands ∙ at.stands) in
          let is_active = pass (ap (λ (k : Session). k.state) (sym same) ∙ active) next in
          let is_one = pass one is_active.1 in
          let is_linked = pass (linked ∙ ap (λ (k : Session). k.subscriber.identity) same) is_one.1 in
          ⊎_elim
          (λ refused. stays_so _ refused.1 refl refl refl (λ m among.
          inr (inl (Among-only m _ among ∙ ap (λ (k : Session). Create_bearer_response (no_resources old r (written k.remote))) (sym same)))))
          (λ made.
          let x = made.1 in
          record {
            config = ap (λ (k : Effect). k.node.config) x.gives;
            sessions = ap (λ (k : Effect). k.node.sessions) x.gives;
            bearers =
                λ t b drawn stood.
                ap (λ (k : Effect). get k.node.bearers t) x.gives ∙ get-insert_other old.bearers x.user (granted_bearer r x.identity) t
                (λ is. x.user_free.undrawn (subst (λ k. Among k old.drawn) is drawn)) ∙ stood;
            says =
                λ m among. inr (inr (
                  x.user,
                  x.identity,
                  x.user_free,
                  x.identity_free.range,
                  Among-only m _ (subst (λ (k : Effect). Among m (messages k.out.sent)) x.gives among)
                      ∙ ap (λ (k : Session). Create_bearer_response (bearer_response old r k x.user x.identity)) (sym same),
                ));
          })
          is_linked.1

  pub asked_second : request.source.ip ≡ old.config.peer.control → get old.sessions r.header ≡ Some s → s.state ≡ Active → r.further ≡ []
      → r.linked ≡ s.subscriber.identity → Step Serving old (Control_came request (Control_message (Create_bearer_request r))) e → IsAsked r s old e
  asked_second peer stands active one linked (inl f) = absurd (f.0 peer)
  asked_second peer stands active one linked (inr (from, inl again)) =
      stays_so _ again.gives refl refl refl
      (λ m among. inl (again.held, again.stands, ⊎_elim (λ has. has) (λ none. absurd none) (Among-cases m again.held.answer [] among)))
  asked_second peer stands active one linked (inr (from, inr (is_new, inl f))) = absurd (f.0 refl)
  asked_second peer stands active one linked (inr (from, inr (is_new, inr (kind, r)))) = asked_so stands active one linked r
