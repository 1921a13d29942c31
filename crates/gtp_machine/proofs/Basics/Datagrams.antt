-- Datagrams of one message or of two, and the messages of datagrams, one datagram after the other.
use Rattle.std.proofs.Common.{◌≡◌, inl, inr, ⊎_elim, List, [], ◌∷◌, ◌++◌, refl, sym, ◌∙◌, ap, subst, append_assoc, append-nil}
use Rattle.gtp_values.specs.FiniteMap.{Among}
use Rattle.gtp_machine.specs.Message.{CreateSessionResponse, CreateBearerRequest, Message, Create_session_response, Create_bearer_request}
use Rattle.gtp_machine.specs.Node.{Role}
use Rattle.gtp_machine.specs.Input.{Sending, messages, datagrams}
use Rattle.gtp_machine.specs.World.{Sent, SentDatagram, HasBy, HasSent, signed, flat}
use Rattle.gtp_machine.proofs.Basics.FiniteMaps.{Among-left, Among-right, Among-cases}

-- an answer that makes a session, and a request for a bearer
pub record ArePair (m n : Message) : Type 0 where
  pub answer : CreateSessionResponse
  pub request : CreateBearerRequest
  pub first : m ≡ Create_session_response answer
  pub second : n ≡ Create_bearer_request request

-- a datagram of one message, or of such a pair
abbrev pub IsFew : List Message → Type 0
IsFew [] = ⊥
IsFew (m ∷ []) = Unit {0}
IsFew (m ∷ n ∷ []) = ArePair m n
IsFew (m ∷ n ∷ k ∷ rest) = ⊥

-- each is
abbrev pub AreFew : List (List Message) → Type 0
AreFew [] = Unit {0}
AreFew (datagram ∷ sent) = IsFew datagram × AreFew sent

-- a datagram of one message or of a pair, each of which was sent
pub record IsSentWhole (history : List Sent) (role : Role) (datagram : List Message) : Type 0 where
  pub few : IsFew datagram
  pub each : (m : Message) → Among m datagram → HasSent history role m

-- each datagram that was sent is of one message or of a pair
abbrev pub EachFew : List SentDatagram → Type 0
EachFew sent = (s : SentDatagram) → Among s sent → IsFew s.what

-- the datagrams of two steps, one after the other
pub both_datagrams : (first rest : List Sending) → datagrams (first ++ rest) ≡ datagrams first ++ datagrams rest
both_datagrams [] rest = refl
both_datagrams (s ∷ first) rest = ap (λ k. s.messages ∷ k) (both_datagrams first rest)

pub both_messages : (first rest : List Sending) → messages (first ++ rest) ≡ messages first ++ messages rest
both_messages [] rest = refl
both_messages (s ∷ first) rest = ap (λ k. s.messages ++ k) (both_messages first rest) ∙ sym (append_assoc s.messages (messages first) (messages rest))

pub both_signed : {X : Type 0} (role : Role) (first rest : List X) → signed role (first ++ rest) ≡ signed role first ++ signed role rest
both_signed role [] rest = refl
both_signed role (x ∷ first) rest = λ i. record { role = role; what = x } ∷ both_signed role first rest i

both_flat : (first rest : List SentDatagram) → flat (first ++ rest) ≡ flat first ++ flat rest
both_flat [] rest = refl
both_flat (d ∷ first) rest = ap (λ k. signed d.role d.what ++ k) (both_flat first rest) ∙ sym (append_assoc (signed d.role d.what) (flat first) (flat rest))

flat_signed : (role : Role) (sent : List Sending) → flat (signed role (datagrams sent)) ≡ signed role (messages sent)
flat_signed role [] = refl
flat_signed role (s ∷ sent) = ap (λ k. signed role s.messages ++ k) (flat_signed role sent) ∙ sym (both_signed role s.messages (messages sent))

-- the messages of one datagram
pub of_one : (sent : List Sending) (datagram : List Message) → datagrams sent ≡ datagram ∷ [] → messages sent ≡ datagram
of_one [] datagram e = absurd (cc e)
of_one (s ∷ []) datagram e = let one : s.messages ≡ datagram = cc e in append-nil s.messages ∙ one
of_one (s ∷ next ∷ sent) datagram e = absurd (cc e)

-- the two lists grow alike
pub flat_grows : (sent_before : List SentDatagram) (history : List Sent) → flat sent_before ≡ history → (role : Role) (sent : List Sending)
    → flat (sent_before ++ signed role (datagrams sent)) ≡ history ++ signed role (messages sent)
flat_grows sent_before history kept role sent = both_flat sent_before (signed role (datagrams sent)) ∙ (λ i. kept i ++ flat_signed role sent i)

signed_few : (role : Role) (sent : List (List Message)) → AreFew sent → EachFew (signed role sent)
signed_few role [] few s none = absurd none
signed_few role (datagram ∷ sent) few s (inl is) = subst (λ (k : SentDatagram). IsFew k.what) (sym is) few.0
signed_few role (datagram ∷ sent) few s (inr there) = signed_few role sent few.1 s there

pub few_grows : (sent_before : List SentDatagram) → EachFew sent_before → (role : Role) (sent : List (List Message)) → AreFew sent → EachFew (sent_before ++ signed role sent)
few_grows sent_before each role sent few s among = ⊎_elim (λ was. each s was) (λ now. signed_few role sent few s now) (Among-cases s sent_before (signed role sent) among)

-- what is in the list is signed
pub among_signed : {X : Type 0} (role : Role) (list : List X) (x : X) → Among x list → HasBy (signed role list) role x
among_signed role [] x none = absurd none
among_signed role (y ∷ list) x (inl here) = inl (ap (λ k. record { role = role; what = k }) here)
among_signed role (y ∷ list) x (inr there) = inr (among_signed role list x there)

-- a message of a datagram that was sent was sent
among_flat : (sent : List SentDatagram) (role : Role) (datagram : List Message) (m : Message) → Among (record { role = role; what = datagram }) sent → Among m datagram → HasSent (flat sent) role m
among_flat [] role datagram m none has = absurd none
among_flat (d ∷ sent) role datagram m (inl is) has =
    subst (λ (k : SentDatagram). HasSent (signed k.role k.what ++ flat sent) role m) is
    (Among-left _ (signed role datagram) (flat sent) (among_signed role datagram m has))
among_flat (d ∷ sent) role datagram m (inr there) has = Among-right _ (signed d.role d.what) (flat sent) (among_flat sent role datagram m there has)

pub sent_whole : (sent : List SentDatagram) (history : List Sent) → flat sent ≡ history → EachFew sent → (s : SentDatagram) → Among s sent → IsSentWhole history s.role s.what
sent_whole sent history kept each s among = record {
  few = each s among;
  each = λ m has. subst (λ h. HasSent h s.role m) kept (among_flat sent s.role s.what m among has);
}
