-- What a response leaves, before the second message of its datagram is taken.
use Rattle.std.proofs.Common.{◌≡◌, ◌≢◌, ⊎_elim, ℕ, Bool, true, false, Option, Some, None, refl, sym, ◌∙◌, ap}
use Rattle.std.specs.Prelude.{not, ◌==◌, ◌||◌, IsSome, if◌then◌else◌}
use Rattle.std.specs.FinMap.{get, insert}
use Rattle.gtp_values.specs.FiniteMap.{kept}
use Rattle.gtp_values.proofs.Tests.{itself, same_number, turned, unequal}
use Rattle.gtp_machine.specs.Node.{Session, Node}
use Rattle.gtp_machine.specs.Removal.{on, finished_about}
use Rattle.gtp_machine.proofs.Basics.FiniteMaps.{found-insert, found-kept, get-kept, get-insert_same, get-insert_other}
use Rattle.gtp_machine.proofs.Changes.Shrinking.{Shrunk-finished}
use Rattle.gtp_gateway.specs.declared.receive.restart_counter.Heard.{Heard}
use Rattle.gtp_values.specs.declared.identifiers.Teid.{Teid}
use Rattle.gtp_gateway.specs.tables.Removal.{goes_with_session}
use Rattle.gtp_gateway.specs.declared.tables.opening.ResponseVerdict.{ResponseVerdict}
use Rattle.gtp_gateway.specs.declared.tables.opening.ResponseVerdict.TheVariants.{Drops, Finishes, OpensSession, OpensBearer}
use Rattle.gtp_gateway.specs.receive.RestartCounter.{node_heard}
use Rattle.gtp_gateway.specs.receive.Piggybacked.{session_left, node_after_first}
use Rattle.gtp_gateway.specs.command.Purpose.{session_of, bearer_of}
use Rattle.gtp_gateway.specs.receive.CreateSessionResponse.{IsOfSession}
use Rattle.gtp_gateway.specs.tables.Opening.{node_by, CanApply}
use Rattle.gtp_gateway.proofs.Opened.{none_where}
use Rattle.gtp_gateway.proofs.RestartCounters.{config_stays, counter_stays, drawn_stays, held_stays}

-- ---- what a verdict leaves as it was

-- a node of which the settings, the counter, the draws and the held answers are those of another
record IsLike (n old : Node) : Type 0 where
  config : n.config ≡ old.config
  counter : n.counter ≡ old.counter
  drawn : n.drawn ≡ old.drawn
  held : n.held ≡ old.held

by_like : (v : ResponseVerdict) (number : ℕ) (n : Node) → IsLike (node_by v number n) n
by_like (Finishes purpose outcome) number n =
    let s = Shrunk-finished n number (session_of purpose) (bearer_of purpose) in
    record { config = s.config; counter = s.counter; drawn = s.drawn; held = s.held }
by_like v number n = record { config = refl; counter = refl; drawn = refl; held = refl }

module _ (heard : Heard) (v : ResponseVerdict) (number : ℕ) (n : Node) where
  abbrev left : Node
  left = node_heard heard n

  like : IsLike (node_after_first heard v number n) left
  like = by_like v number left

  pub settled_config : (node_after_first heard v number n).config ≡ n.config
  settled_config = like.config ∙ config_stays heard n

  pub settled_counter : (node_after_first heard v number n).counter ≡ n.counter
  settled_counter = like.counter ∙ counter_stays heard n

  pub settled_drawn : (node_after_first heard v number n).drawn ≡ n.drawn
  settled_drawn = like.drawn ∙ drawn_stays heard n

  pub settled_held : (node_after_first heard v number n).held ≡ n.held
  settled_held = like.held ∙ held_stays heard n

-- ---- the sessions that are left

pub is_one : {X : Type 0} (o : Option X) → IsSome o → (x : X) × (o ≡ Some x)
is_one None some = absurd (cc some)
is_one (Some x) some = (x, refl)

-- of what is finished the session is gone, and all others stay
module _ (n : Node) (number : ℕ) where
  pub finished_session : (session bearer : Option ℕ) → bearer ≡ None → (t : ℕ) (s : Session) → get (finished_about n number session bearer).sessions t ≡ Some s
      → (get n.sessions t ≡ Some s) × ((about : ℕ) → session ≡ Some about → t ≢ about)
  finished_session session (Some b) none t s is = absurd cc
  finished_session None None none t s is = (is, λ about no. absurd cc)
  finished_session (Some gone) None none t s is =
      let found = found-kept (λ k (x : Session). not (k == gone)) n.sessions t s is in
      (found.1, λ about is_gone same. by about is_gone same found.0)
    where
      by : (about : ℕ) → Some gone ≡ Some about → t ≡ about → not (t == gone) ≡ true → ⊥
      by about is_gone same stays =
          let one : gone ≡ about = cc is_gone in
          let here : (t == gone) ≡ true = ap (λ k. t == k) (one ∙ sym same) ∙ itself t in
          let no : false ≡ true = sym (ap not here) ∙ stays in
          cc

  -- a session that stands once a response was applied stood before
  pub settled_session : (v : ResponseVerdict) → IsOfSession v n → CanApply v n → (t : ℕ) (s : Session) → get (node_by v number n).sessions t ≡ Some s → (x : Session) × (get n.sessions t ≡ Some x)
  settled_session (Drops why) of can t s is = (s, is)
  settled_session (Finishes purpose outcome) of can t s is = (s, (finished_session (session_of purpose) (bearer_of purpose) of t s is).0)
  settled_session (OpensSession session opened at bearer) of can t s is = ⊎_elim
      (λ here. let stood = is_one (get n.sessions session) can.0 in (stood.0, ap (get n.sessions) here.0 ∙ stood.1))
      (λ other. (s, other.1))
      (found-insert n.sessions session opened t s is)
  settled_session (OpensBearer at bearer) of can t s is = absurd of

-- ---- the session under a TEID, once a response is applied

module _ (n : Node) (number : ℕ) (t : ℕ) where
  opened_left : (session : Teid) (opened : Session) (b : Bool) → (session == t) ≡ b → (if b then Some opened else get n.sessions t) ≡ get (insert n.sessions session opened) t
  opened_left session opened true is = sym (ap (get (insert n.sessions session opened)) (sym (same_number session t is)) ∙ get-insert_same n.sessions session opened)
  opened_left session opened false is = sym (get-insert_other n.sessions session opened t (λ same. unequal session t is (sym same)))

  abbrev goes_by : Option ℕ → Option ℕ → Bool
  goes_by session bearer = on (λ k. k == t) session || on (λ k. false) bearer

  or_none : (b : Bool) → (b || false) ≡ b
  or_none true = refl
  or_none false = refl

  finished_gone : (session bearer : Option ℕ) → bearer ≡ None → goes_by session bearer ≡ true → None ≡ get (finished_about n number session bearer).sessions t
  finished_gone session (Some b) none goes = absurd cc
  finished_gone None None none goes = absurd cc
  finished_gone (Some gone) None none goes = sym (none_where (get (finished_about n number (Some gone) None).sessions t) (λ s is.
      (finished_session n number (Some gone) None refl t s is).1 gone refl (sym (same_number gone t (sym (or_none (gone == t)) ∙ goes)))))

  finished_stays : (session bearer : Option ℕ) → bearer ≡ None → goes_by session bearer ≡ false → get n.sessions t ≡ get (finished_about n number session bearer).sessions t
  finished_stays session (Some b) none stays = absurd cc
  finished_stays None None none stays = refl
  finished_stays (Some gone) None none stays = by (get n.sessions t) refl
    where
      test : ℕ → Session → Bool
      test k x = not (k == gone)

      left : (b : Bool) → (b || false) ≡ false → not b ≡ true
      left true is = absurd cc
      left false is = refl

      passes : (s : Session) → test t s ≡ true
      passes s = ap not (turned t gone) ∙ left (gone == t) stays

      by : (o : Option Session) → get n.sessions t ≡ o → o ≡ get (kept test n.sessions) t
      by (Some s) is = sym (get-kept test n.sessions t s is (passes s))
      by None is = sym (none_where (get (kept test n.sessions) t) (λ s there. let both : None ≡ Some s = sym is ∙ (found-kept test n.sessions t s there).1 in cc))

  finished_left : (session bearer : Option ℕ) → bearer ≡ None → (b : Bool) → goes_by session bearer ≡ b
      → (if b then None else get n.sessions t) ≡ get (finished_about n number session bearer).sessions t
  finished_left session bearer none true goes = finished_gone session bearer none goes
  finished_left session bearer none false stays = finished_stays session bearer none stays

  left_by : (v : ResponseVerdict) → IsOfSession v n → session_left v t (get n.sessions t) ≡ get (node_by v number n).sessions t
  left_by (Drops why) of = refl
  left_by (Finishes purpose outcome) of = finished_left (session_of purpose) (bearer_of purpose) of (goes_with_session t purpose) refl
  left_by (OpensSession session opened at bearer) of = opened_left session opened (session == t) refl
  left_by (OpensBearer at bearer) of = absurd of

pub left_settled : (heard : Heard) (v : ResponseVerdict) (number : ℕ) (n : Node) (t : ℕ) (before result : Option Session) → IsOfSession v (node_heard heard n)
    → before ≡ get (node_heard heard n).sessions t → result ≡ session_left v t before → result ≡ get (node_after_first heard v number n).sessions t
left_settled heard v number n t before result of is left = left ∙ (ap (session_left v t) is ∙ left_by (node_heard heard n) number t v of)
