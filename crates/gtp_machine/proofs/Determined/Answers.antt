-- Requests, and their answers.
use Rattle.std.proofs.Common.{◌≡◌, inl, inr, ℕ, ◌==◌, Bool, true, false, List, ◌∷◌, [], Option, Some, None, refl, sym, ◌∙◌, ap, subst}
use Rattle.gtp_values.specs.PdnAddress.{PdnAddress}
use Rattle.gtp_machine.specs.Choice.{IsFree, IsFreeNumber}
use Rattle.gtp_machine.specs.Command.{bearer_request, create_bearer_asked as begun_bearer}
use Rattle.gtp_machine.specs.Element.{cause_of}
use Rattle.gtp_machine.specs.Message.{CreateSessionRequest, DeleteSessionRequest, CreateBearerRequest, DeleteBearerRequest, RemovedBearer, Create_session_response, Create_bearer_request}
use Rattle.gtp_machine.specs.Node.{Role, Serving, Packet, Session, Arrival, Node}
use Rattle.gtp_machine.specs.Input.{Answered, EventOutcome, Came_to, ControlReading, Control_came, Input, FaultyRequest}
use Rattle.gtp_machine.specs.Removal.{without_bearer}
use Rattle.gtp_machine.specs.Serving.{MakesBearer, CreateBearerAsked, RemovesEach, RemovesBearers, DeleteBearerTaken, DeleteBearerAsked}
use Rattle.gtp_machine.specs.Config.{Template, template_asked}
use Rattle.gtp_machine.specs.Answer.{making, Faulted}
use Rattle.gtp_machine.specs.Packet.{session_cause, session_response, made_session, session_made, AddsBearer, AnswersWith, MakesSession, CreateSessionAsked, DeleteSessionAsked}
use Rattle.gtp_machine.specs.Sound.{AreApart}
use Rattle.gtp_machine.proofs.Determined.Alike.{Fits, WaitsBeside, Alike, Determines, the_same, says_it, by_effects, unless_plain, unless_one}
use Rattle.gtp_machine.proofs.Determined.Witnesses.{IsLeft, was_session, was_bearer, undrawn_before, apart_left, one_session, one_named}
use Rattle.gtp_machine.proofs.Changes.Shrinking.{Shrinks-without}
use Rattle.std.proofs.lemmas.Option.{same_Some}
use Rattle.gtp_machine.proofs.Determined.Chosen.{last_drawn, rest_drawn, second_drawn, comes_beside, one_cause, one_address}

-- the contexts of an answer, and the gateway that is left, for a list of identities
removes_one : (session : ℕ) (identities : List ℕ) (old : Node) (contexts others : List RemovedBearer) (left right : Node) → AreApart old.bearers
    → RemovesEach session identities old contexts left → RemovesEach session identities old others right → (contexts ≡ others) × (left ≡ right)
removes_one session [] old contexts others left right apart r s = (r.0 ∙ sym s.0, r.1 ∙ sym s.1)
removes_one session (identity ∷ rest) old contexts others left right apart (cs, inl r) (ds, inl s) =
    let found = removes_one session rest old cs ds left right apart r.1.1 s.1.1 in
    (r.1.0 ∙ (ap (λ k. record { identity = identity; cause = cause_of 64 } ∷ k) found.0 ∙ sym s.1.0), found.1)
removes_one session (identity ∷ rest) old contexts others left right apart (cs, inl r) (ds, inr s) = absurd (r.0 s.0)
removes_one session (identity ∷ rest) old contexts others left right apart (cs, inr r) (ds, inl s) = absurd (s.0 r.0)
removes_one session (identity ∷ rest) old contexts others left right apart (cs, inr r) (ds, inr s) =
    let key : s.0.key ≡ r.0.key = one_named old session identity apart s.0 r.0 in
    let found =
    removes_one session rest (without_bearer old r.0.key) cs ds left right
    (apart_left old (without_bearer old r.0.key) (Shrinks-without (λ t. false) (λ t. t == r.0.key) old) apart) r.1.1
    (subst (λ k. RemovesEach session rest (without_bearer old k) ds right) key s.1.1) in
    (r.1.0 ∙ (ap (λ k. record { identity = identity; cause = cause_of 16 } ∷ k) found.0 ∙ sym s.1.0), found.1)

module _ {first : Node} {reading : ControlReading} (request : Arrival) (old : Node) (fits : Fits first) (left : IsLeft first old) where
  makes_session : (q : CreateSessionRequest) → Determines (Alike Packet first (Control_came request reading)) (MakesSession request old q)
  makes_session q e f r s = by (template_asked old.config q.access_point) r.gives s.gives
    where
      outcome : ◌≡◌ {A = EventOutcome} (Came_to (Answered (session_cause q.pdn r.address))) (Came_to (Answered (session_cause q.pdn s.address)))
      outcome = ap (λ cause. Came_to (Answered cause)) (one_cause old q.pdn r.address s.address r.given s.given)

      -- the answers go alone
      alone : e ≡ making request (Create_session_response (session_response old q r.control r.user r.address) ∷ []) (session_cause q.pdn r.address)
          (session_made old q r.control r.user r.address)
          → f ≡ making request (Create_session_response (session_response old q s.control s.user s.address) ∷ []) (session_cause q.pdn s.address)
          (session_made old q s.control s.user s.address) → Alike Packet first (Control_came request reading) e f
      alone is also = by_effects _ _ e f is also (record {
        tell = record { outcome = outcome; told = refl; places = refl; known = refl; counter = refl; draws = refl };
        one = λ alike.
            let user : r.user ≡ s.user = last_drawn r.user s.user _ _ alike.drawn in
            let control : r.control ≡ s.control = second_drawn r.user r.control s.user s.control old.drawn alike.drawn in
            let address : r.address ≡ s.address =
            one_address old q.pdn r.address s.address r.given s.given (alike.addresses request reading refl refl (λ none. cc none) old.sessions r.control _ _
            (comes_beside first.sessions old.sessions first.drawn (was_session first old left) fits.sessions r.control r.control _ refl (undrawn_before first old r.control left r.control_free))
            (comes_beside first.sessions old.sessions first.drawn (was_session first old left) fits.sessions r.control s.control _ control (undrawn_before first old r.control left r.control_free))) in
            cc;
      })

      -- a request for a bearer that goes with one waits beside those that waited
      waits : (control user : ℕ) (address : PdnAddress) (t : Template) (added number : ℕ) → IsFree (session_made old q control user address) added
          → IsFreeNumber (session_made old q control user address) number
          → WaitsBeside first.drawn (begun_bearer (session_made old q control user address) control
          (bearer_request (session_made old q control user address) (made_session q address) t.tft t.qos added number) added).pending old.pending
          number
          (record {
            session = Some control;
            bearer = Some added;
            request =
                Create_bearer_request (bearer_request (session_made old q control user address) (made_session q address) t.tft t.qos added number);
          })
      waits control user address t added number free unused = record {
        request = bearer_request (session_made old q control user address) (made_session q address) t.tft t.qos added number;
        asked = refl;
        undrawn = undrawn_before first old added left (record { counted = free.counted; numbered = free.numbered; undrawn = λ stood. free.undrawn (inr (inr stood)) });
        absent = unused.unused;
        is = refl;
      }

      -- they go with a request
      both : (t : Template) → AddsBearer t request (session_response old q r.control r.user r.address) (session_cause q.pdn r.address) r.control
          (made_session q r.address) (session_made old q r.control r.user r.address) e
          → AddsBearer t request (session_response old q s.control s.user s.address) (session_cause q.pdn s.address) s.control
          (made_session q s.address) (session_made old q s.control s.user s.address) f → Alike Packet first (Control_came request reading) e f
      both t x y = by_effects _ _ e f x.gives y.gives (record {
        tell = record { outcome = outcome; told = refl; places = refl; known = refl; counter = refl; draws = refl };
        one = λ alike.
            let added : x.user ≡ y.user = last_drawn x.user y.user _ _ alike.drawn in
            let others = rest_drawn x.user y.user _ _ alike.drawn in
            let user : r.user ≡ s.user = last_drawn r.user s.user _ _ others in
            let control : r.control ≡ s.control = second_drawn r.user r.control s.user s.control old.drawn others in
            let address : r.address ≡ s.address =
            one_address old q.pdn r.address s.address r.given s.given (alike.addresses request reading refl refl (λ none. cc none) old.sessions r.control _ _
            (comes_beside first.sessions old.sessions first.drawn (was_session first old left) fits.sessions r.control r.control _ refl (undrawn_before first old r.control left r.control_free))
            (comes_beside first.sessions old.sessions first.drawn (was_session first old left) fits.sessions r.control s.control _ control (undrawn_before first old r.control left r.control_free))) in
            let number : x.number ≡ y.number =
            alike.wanted request reading refl refl (λ none. cc none) old.pending x.number y.number _ _
            (waits r.control r.user r.address t x.user x.number x.user_free x.number_free)
            (waits s.control s.user s.address t y.user y.number y.user_free y.number_free) in
            cc;
      })

      by : (found : Option Template)
          → AnswersWith found request (session_response old q r.control r.user r.address) (session_cause q.pdn r.address) r.control
          (made_session q r.address) (session_made old q r.control r.user r.address) e
          → AnswersWith found request (session_response old q s.control s.user s.address) (session_cause q.pdn s.address) s.control
          (made_session q s.address) (session_made old q s.control s.user s.address) f → Alike Packet first (Control_came request reading) e f
      by None is also = alone is also
      by (Some t) (inl x) (inl y) = alone x.1 y.1
      by (Some t) (inl x) (inr y) = absurd (x.0 (record { left = y.0.0.left }, record { few = y.0.1.few }))
      by (Some t) (inr x) (inl y) = absurd (y.0 (record { left = x.0.0.left }, record { few = x.0.1.few }))
      by (Some t) (inr x) (inr y) = both t x.1 y.1

  makes_bearer : (q : CreateBearerRequest) (at : Session) → Determines (Alike Serving first (Control_came request reading)) (MakesBearer request old q at)
  makes_bearer q at e f r s = by_effects _ _ e f r.gives s.gives (record {
    tell = record { outcome = refl; told = refl; places = refl; known = refl; counter = refl; draws = refl };
    one = λ alike.
        let user : r.user ≡ s.user = last_drawn r.user s.user _ _ alike.drawn in
        let identity : r.identity ≡ s.identity =
        same_Some r.identity s.identity (alike.identities request reading refl refl (λ none. cc none) old.bearers r.user _ _
        (comes_beside first.bearers old.bearers first.drawn (was_bearer first old left) fits.bearers r.user r.user _ refl (undrawn_before first old r.user left r.user_free))
        (comes_beside first.bearers old.bearers first.drawn (was_bearer first old left) fits.bearers r.user s.user _ user (undrawn_before first old r.user left r.user_free)) refl) in
        cc;
  })

  pub create_session_asked : (q : CreateSessionRequest) → Determines (Alike Packet first (Control_came request reading)) (CreateSessionAsked request q old)
  create_session_asked q =
      unless_plain says_it (unless_plain says_it
      (unless_plain says_it (unless_plain says_it (unless_plain says_it (unless_plain says_it (unless_plain says_it (makes_session q)))))))

  pub create_bearer_asked : (q : CreateBearerRequest) → Determines (Alike Serving first (Control_came request reading)) (CreateBearerAsked request q old)
  create_bearer_asked q =
      unless_plain says_it (unless_one (one_session old q.header) says_it
      (λ at. unless_plain says_it (unless_plain says_it (unless_plain says_it (unless_plain says_it (makes_bearer q at.session))))))

module _ {role : Role} {first : Node} {input : Input} (request : Arrival) (old : Node) where
  pub delete_session_asked : (d : DeleteSessionRequest) → Determines (Alike role first input) (DeleteSessionAsked request d old)
  delete_session_asked d = unless_plain says_it (unless_one (one_session old d.header) says_it (λ at. unless_plain says_it says_it))

  module _ (apart : AreApart old.bearers) where
    removes_bearers : (d : DeleteBearerRequest) (at : Session) → Determines (Alike role first input) (RemovesBearers request d old at)
    removes_bearers d at e f r s =
        let found = removes_one d.header d.identities old r.contexts s.contexts r.left s.left apart r.removes s.removes in
        let contexts : r.contexts ≡ s.contexts = found.0 in
        let node : r.left ≡ s.left = found.1 in
        the_same e f cc

    delete_bearer_taken : (d : DeleteBearerRequest) (linked : Option ℕ) (at : Session) → Determines (Alike role first input) (DeleteBearerTaken request d linked old at)
    delete_bearer_taken d (Some identity) at = unless_plain says_it says_it
    delete_bearer_taken d None at = unless_plain says_it (removes_bearers d at)

    pub delete_bearer_asked : (d : DeleteBearerRequest) → Determines (Alike role first input) (DeleteBearerAsked request d old)
    delete_bearer_asked d = unless_plain says_it (unless_one (one_session old d.header) says_it (λ at. unless_plain says_it (delete_bearer_taken d d.linked at.session)))

  pub faulted_once : (q : FaultyRequest) (answered : Bool) → Determines (Alike role first input) (Faulted answered request q old)
  faulted_once q true = says_it
  faulted_once q false = says_it
