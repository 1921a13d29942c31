-- What a change of tables leaves of the soundness of what stands in them.
use Rattle.std.proofs.Common.{◌≡◌, ◌≢◌, ◌⊎◌, inl, inr, ⊎_elim, ℕ, List, Some, sym, ◌∙◌, ap, subst}
use Rattle.std.proofs.lemmas.Bool.{cases_eq}
use Rattle.std.specs.FinMap.{get, insert}
use Rattle.gtp_values.specs.FiniteMap.{FiniteMap, Among}
use Rattle.gtp_machine.specs.Message.{Message}
use Rattle.gtp_machine.specs.Node.{Role, Serving, Packet, State, Pending, Active, Closing, Kind, Default, Dedicated, Session, Bearer, PendingRequest}
use Rattle.gtp_machine.specs.Sound.{At, IsInState, IsBearerOf, IsSoundSession, IsSoundBearer, AreApart, IsWanted, DeletesSession, AsksSession}
use Rattle.gtp_machine.specs.Sound.{AsksBearer, IsAbout, opened_by, AreLone, AreSoundContexts, AreSoundRequests}
use Rattle.gtp_machine.proofs.Basics.FiniteMaps.{found-insert, get-insert_same, get-insert_other, Each-insert}

pub default_dedicated : (k : Kind) → k ≡ Default → k ≡ Dedicated → ⊥
default_dedicated k a b = cc

module _ {X : Type 0} (table : FiniteMap X) (key : ℕ) (x : X) where
  pub at_here : (P : X → Type 0) (t : ℕ) → t ≡ key → P x → At (insert table key x) t P
  at_here P t same is = (x, ap (λ k. get (insert table key x) k) same ∙ get-insert_same table key x, is)

  -- what stands still stands, where it is not under the key, or what replaces it is so too
  pub at_insert : (P : X → Type 0) (t : ℕ) → ((y : X) → t ≡ key → get table t ≡ Some y → P y → P x) → At table t P → At (insert table key x) t P
  at_insert P t keeps at = ⊎_elim
      (λ same. at_here P t same (keeps at.0 same at.1 at.2))
      (λ other. (at.0, get-insert_other table key x t other ∙ at.1, at.2))
      (cases_eq t key)

  pub there_insert : (t : ℕ) → (y : X) × (get table t ≡ Some y) → (y : X) × (get (insert table key x) t ≡ Some y)
  there_insert t at = let r = at_insert (λ y. Unit {0}) t (λ y same e u. tt) (at.0, at.1, tt) in (r.0, r.1)

-- what a pending request is about is still so
pub record Follows (old_sessions new_sessions : FiniteMap Session) (old_bearers new_bearers : FiniteMap Bearer) (p : PendingRequest) : Type 0 where
  pub waits : (t : ℕ) → opened_by p.request ≡ Some t → p.session ≡ Some t → At old_sessions t (IsInState Pending) → At new_sessions t (IsInState Pending)
  pub closes : (t : ℕ) → p.session ≡ Some t → At old_sessions t (IsInState Closing) → At new_sessions t (IsInState Closing)
  pub default : (s u : ℕ) → opened_by p.request ≡ Some s → p.session ≡ Some s → At old_sessions s (IsInState Pending)
      → At old_bearers u (IsBearerOf s Default Pending) → At new_bearers u (IsBearerOf s Default Pending)
  pub wanted : (s u : ℕ) → opened_by p.request ≡ Some u → p.session ≡ Some s → p.bearer ≡ Some u → At old_bearers u (IsBearerOf s Dedicated Pending) → IsWanted new_sessions new_bearers s u
  pub ends : (s u : ℕ) → p.session ≡ Some s → p.bearer ≡ Some u → At old_bearers u (IsBearerOf s Dedicated Closing) → At new_bearers u (IsBearerOf s Dedicated Closing)

-- each session and bearer that is not active is still so
pub follows_all : (S S' : FiniteMap Session) (B B' : FiniteMap Bearer) (p : PendingRequest)
    → ((t : ℕ) (s : State) → s ≢ Active → At S t (IsInState s) → At S' t (IsInState s))
    → ((t c : ℕ) (k : Kind) (s : State) → s ≢ Active → At B t (IsBearerOf c k s) → At B' t (IsBearerOf c k s)) → Follows S S' B B' p
follows_all S S' B B' p sessions bearers = record {
  waits = λ t o e at. sessions t Pending (λ h. cc h) at;
  closes = λ t e at. sessions t Closing (λ h. cc h) at;
  default = λ s u o e w at. bearers u s Default Pending (λ h. cc h) at;
  wanted = λ s u o e b at. inl (bearers u s Dedicated Pending (λ h. cc h) at);
  ends = λ s u e b at. bearers u s Dedicated Closing (λ h. cc h) at;
}

pub no_delete_session : (by : Role) (number : ℕ) (m : Message) (t : ℕ) → DeletesSession by number m → opened_by m ≡ Some t → ⊥
no_delete_session Serving number m t d o = let e = sym (ap opened_by d.1) ∙ o in cc e
no_delete_session Packet number m t d o = let e = sym (ap opened_by d.1) ∙ o in cc e

module _ (role : Role) where
  pub about_follows : (S S' : FiniteMap Session) (B B' : FiniteMap Bearer) (number : ℕ) (p : PendingRequest) → Follows S S' B B' p → IsAbout role S B number p → IsAbout role S' B' number p
  about_follows S S' B B' number p f (inl e) = inl e
  about_follows S S' B B' number p f (inr (inl a)) =
      inr (inl (record {
        by = a.by;
        request = a.request;
        asked = a.asked;
        numbered = a.numbered;
        session = a.session;
        bearer = a.bearer;
        waits = f.waits a.request.control.teid (ap opened_by a.asked) a.session a.waits;
        default = f.default a.request.control.teid a.request.context.user.teid (ap opened_by a.asked) a.session a.waits a.default;
      }))
  about_follows S S' B B' number p f (inr (inr (inl d))) =
      inr
      (inr (inl (record { asked = d.asked; about = d.about; session = d.session; bearer = d.bearer; closes = f.closes d.about d.session d.closes })))
  about_follows S S' B B' number p f (inr (inr (inr (inl a)))) = inr (inr (inr (inl (record {
    by = a.by;
    request = a.request;
    asked = a.asked;
    numbered = a.numbered;
    about = a.about;
    session = a.session;
    bearer = a.bearer;
    wanted =
        ⊎_elim (λ w. f.wanted a.about a.request.context.user.teid (ap opened_by a.asked) a.session a.bearer w)
        (λ c. inr (f.ends a.about a.request.context.user.teid a.session a.bearer c.0, f.closes a.about a.session c.1)) a.wanted;
  }))))
  about_follows S S' B B' number p f (inr (inr (inr (inr d)))) =
      inr (inr (inr (inr (record {
        by = d.by;
        request = d.request;
        asked = d.asked;
        numbered = d.numbered;
        unlinked = d.unlinked;
        about = d.about;
        session = d.session;
        key = d.key;
        bearer = d.bearer;
        closes = f.ends d.about d.key d.session d.bearer d.closes;
      }))))

  pub requests_follow : (S S' : FiniteMap Session) (B B' : FiniteMap Bearer) (pending : FiniteMap PendingRequest)
      → ((m : ℕ) (q : PendingRequest) → get pending m ≡ Some q → Follows S S' B B' q) → AreSoundRequests role S B pending
      → AreSoundRequests role S' B' pending
  requests_follow S S' B B' pending f r = record { each = λ m q e. about_follows S S' B B' m q (f m q e) (r.each m q e); lone = r.lone }

  pub requests_fewer : (S : FiniteMap Session) (B : FiniteMap Bearer) (old new : FiniteMap PendingRequest)
      → ((m : ℕ) (q : PendingRequest) → get new m ≡ Some q → get old m ≡ Some q) → AreSoundRequests role S B old → AreSoundRequests role S B new
  requests_fewer S B old new stood r = record { each = λ m q e. r.each m q (stood m q e); lone = λ m n p q t a b. r.lone m n p q t (stood m p a) (stood n q b) }

  pub requests_add : (S : FiniteMap Session) (B : FiniteMap Bearer) (pending : FiniteMap PendingRequest) (number : ℕ) (p : PendingRequest)
      → IsAbout role S B number p
      → ((m : ℕ) (q : PendingRequest) (t : ℕ) → get pending m ≡ Some q → opened_by q.request ≡ Some t → opened_by p.request ≡ Some t → ⊥)
      → AreSoundRequests role S B pending → AreSoundRequests role S B (insert pending number p)
  requests_add S B pending number p about new r = record { each = Each-insert (IsAbout role S B) pending number p about r.each; lone = lone }
    where
      opens : (x : PendingRequest) (t : ℕ) → p ≡ x → opened_by x.request ≡ Some t → opened_by p.request ≡ Some t
      opens x t same o = ap (λ (k : PendingRequest). opened_by k.request) same ∙ o

      lone : AreLone (insert pending number p)
      lone m n x y t a b ox oy = elim (found-insert pending number p m x a) [
        | inl first ↦ elim (found-insert pending number p n y b) [
          | inl second ↦ first.0 ∙ sym second.0
          | inr second ↦ absurd (new n y t second.1 oy (opens x t first.1 ox))
        ]
        | inr first ↦ elim (found-insert pending number p n y b) [
          | inl second ↦ absurd (new m x t first.1 ox (opens y t second.1 oy))
          | inr second ↦ r.lone m n x y t first.1 second.1 ox oy
        ]
      ]

  -- a pending request that opens a context asks for it
  pub about_opening : (S : FiniteMap Session) (B : FiniteMap Bearer) (number : ℕ) (p : PendingRequest) (t : ℕ) → opened_by p.request ≡ Some t → IsAbout role S B number p
      → AsksSession role S B number p ⊎ AsksBearer role S B number p
  about_opening S B number p t o (inl e) = let n = sym (ap opened_by e.asked) ∙ o in absurd (cc n)
  about_opening S B number p t o (inr (inl a)) = inl a
  about_opening S B number p t o (inr (inr (inl d))) = absurd (no_delete_session role number p.request t d.asked o)
  about_opening S B number p t o (inr (inr (inr (inl a)))) = inr a
  about_opening S B number p t o (inr (inr (inr (inr d)))) = let n = sym (ap opened_by d.asked) ∙ o in absurd (cc n)

  -- what a pending request opens was drawn
  pub opened_drawn : (drawn : List ℕ) (S : FiniteMap Session) (B : FiniteMap Bearer) (number : ℕ) (p : PendingRequest) (t : ℕ) → AreSoundContexts drawn S B
      → IsAbout role S B number p → opened_by p.request ≡ Some t → Among t drawn
  opened_drawn drawn S B number p t c is o = ⊎_elim
      (λ a. let same : a.request.control.teid ≡ t = cc (sym (ap opened_by a.asked) ∙ o) in subst (λ k. Among k drawn) same (c.each_session a.request.control.teid a.waits.0 a.waits.1).own)
      (λ a.
      let same : a.request.context.user.teid ≡ t = cc (sym (ap opened_by a.asked) ∙ o) in
      subst (λ k. Among k drawn) same (⊎_elim (λ w. (c.each_bearer a.request.context.user.teid w.0 w.1).own) (λ w. (c.each_bearer a.request.context.user.teid w.0.0 w.0.1).own) a.wanted))
      (about_opening S B number p t o is)

-- more TEIDs are drawn
pub contexts_drawn : (drawn more : List ℕ) (S : FiniteMap Session) (B : FiniteMap Bearer) → ((t : ℕ) → Among t drawn → Among t more) → AreSoundContexts drawn S B → AreSoundContexts more S B
contexts_drawn drawn more S B extends c = record {
  each_session = λ t s e. let at = c.each_session t s e in record { own = extends t at.own; named = at.named; blank = at.blank };
  each_bearer = λ t b e. let at = c.each_bearer t b e in record { own = extends t at.own; of = at.of; named = at.named; blank = at.blank; range = at.range };
  apart = c.apart;
}

-- a session comes or is replaced
pub contexts_session : (drawn : List ℕ) (S : FiniteMap Session) (B : FiniteMap Bearer) (key : ℕ) (s : Session) → IsSoundSession drawn key s → AreSoundContexts drawn S B
    → AreSoundContexts drawn (insert S key s) B
contexts_session drawn S B key s is c = record {
  each_session = Each-insert (IsSoundSession drawn) S key s is c.each_session;
  each_bearer = λ t b e. let at = c.each_bearer t b e in record { own = at.own; of = there_insert S key s b.session at.of; named = at.named; blank = at.blank; range = at.range };
  apart = c.apart;
}

-- a bearer comes or is replaced
pub contexts_bearer : (drawn : List ℕ) (S : FiniteMap Session) (B : FiniteMap Bearer) (key : ℕ) (b : Bearer) → IsSoundBearer drawn S key b
    → ((t : ℕ) (a : Bearer) (identity : ℕ) → get B t ≡ Some a → t ≢ key → a.session ≡ b.session → a.identity ≡ Some identity
    → b.identity ≡ Some identity → ⊥) → AreSoundContexts drawn S B → AreSoundContexts drawn S (insert B key b)
contexts_bearer drawn S B key b is unused c = record { each_session = c.each_session; each_bearer = Each-insert (IsSoundBearer drawn S) B key b is c.each_bearer; apart = apart }
  where
    apart : AreApart (insert B key b)
    apart s t x y i ex ey same ix iy = elim (found-insert B key b s x ex) [
      | inl first ↦ elim (found-insert B key b t y ey) [
        | inl second ↦ first.0 ∙ sym second.0
        | inr second ↦ absurd (unused t y i second.1 second.0 (sym same ∙ sym (ap (λ (k : Bearer). k.session) first.1)) iy (ap (λ (k : Bearer). k.identity) first.1 ∙ ix))
      ]
      | inr first ↦ elim (found-insert B key b t y ey) [
        | inl second ↦ absurd (unused s x i first.1 first.0 (same ∙ sym (ap (λ (k : Bearer). k.session) second.1)) ix (ap (λ (k : Bearer). k.identity) second.1 ∙ iy))
        | inr second ↦ c.apart s t x y i first.1 second.1 same ix iy
      ]
    ]

-- a bearer is replaced by one of its session with its identity
pub contexts_same : (drawn : List ℕ) (S : FiniteMap Session) (B : FiniteMap Bearer) (key : ℕ) (b n : Bearer) → get B key ≡ Some b → n.session ≡ b.session
    → n.identity ≡ b.identity → IsSoundBearer drawn S key n → AreSoundContexts drawn S B → AreSoundContexts drawn S (insert B key n)
contexts_same drawn S B key b n stands session identity is c =
    contexts_bearer drawn S B key n is (λ t a i e other same ia ib. other (c.apart t key a b i e stands (same ∙ session) ia (sym identity ∙ ib))) c
