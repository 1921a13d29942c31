-- Sessions and bearers that are seen.
use Rattle.std.proofs.Common.{◌≡◌, ◌≢◌, ◌<◌, ℕ, Bool, true, false, cond, List, Option, Some, None, refl, sym, ap, ◌∙◌, nat_eq}
use Rattle.std.specs.Prelude.{not, ◌&&◌, IfSome, IfNone}
use Rattle.std.proofs.lemmas.Bool.{eqb-true}
use Rattle.std.specs.List.{list_any}
use Rattle.std.specs.Cmp.{nat_cmp_total}
use Rattle.std.specs.Cmp.Lexicographic.{bytes_decides}
use Rattle.std.specs.FinMap.{get, values, same_map, nat_cmp-IsAntisymmetric}
use Rattle.gtp_values.specs.FiniteMap.{FiniteMap, kept}
use Rattle.gtp_tables.specs.declared.context.Bearer.{Bearer}
use Rattle.gtp_tables.specs.declared.context.Session.{Session}
use Rattle.gtp_tables.specs.Contexts.{Contexts, is_pending, is_opened, left, seen, is_seen, are_seen, takes}
use Rattle.gtp_tables.specs.Identity.{IsUnused, IsBearerWith}
use Rattle.gtp_tables.specs.Free.{Pools, IpVersion, count_of, address_at, IsPlaceOf, HasAddress, IsUnusedAddress}
use Rattle.gtp_tables.specs.Part.{part_of, are_octets}
use Rattle.gtp_tables.proofs.Found.{meets, meets_not}
use Rattle.gtp_values.proofs.Tests.{both, itself}
use Rattle.gtp_tables.proofs.Kept.{passing, get_kept}

-- all values that pass are all that stand
kept_all : {X : Type 0} (m : FiniteMap X) → m ≡ kept (λ _ _. true) m
kept_all {X} m = same_map nat_cmp_total nat_cmp-IsAntisymmetric m (kept (λ _ _. true) m) (λ q. by q (get m q) ∙ sym (get_kept (λ _ _. true) m q))
  where
    by : (q : ℕ) (o : Option X) → o ≡ passing (λ _ _. true) q o
    by q None = refl
    by q (Some x) = refl

-- the sessions that are seen are those that pass
pub seen_sessions : (restarted : Bool) (c : Contexts) → (seen restarted c).sessions ≡ kept (λ _ s. is_seen restarted s) c.sessions
seen_sessions false c = kept_all c.sessions
seen_sessions true c = same_map nat_cmp_total nat_cmp-IsAntisymmetric (left c).sessions (kept (λ _ s. is_seen true s) c.sessions) (λ q.
    get_kept (λ t (s : Session). not (is_opened (get c.sessions t))) c.sessions q
    ∙ (by q (get c.sessions q) refl
    ∙ sym (get_kept (λ _ s. is_seen true s) c.sessions q)))
  where
    twice : (b : Bool) → not (not b) ≡ b
    twice true = refl
    twice false = refl

    by : (q : ℕ) (o : Option Session) → get c.sessions q ≡ o → passing (λ t (s : Session). not (is_opened (get c.sessions t))) q o ≡ passing (λ _ s. is_seen true s) q o
    by q None is = refl
    by q (Some s) is = ap (λ (b : Bool). cond b (Some s) None) (ap (λ (o : Option Session). not (is_opened o)) is ∙ twice (is_pending s.state))

-- what a restart leaves of the sessions are those that are not opened
pub pending_stay : (c : Contexts) → (left c).sessions ≡ kept (λ _ s. not (not (is_pending s.state))) c.sessions
pending_stay c = seen_sessions true c ∙ (λ i. kept (λ _ s. twice (is_pending s.state) i) c.sessions)
  where
    twice : (b : Bool) → b ≡ not (not b)
    twice true = refl
    twice false = refl

-- the bearers that are seen are those that pass
pub seen_bearers : (restarted : Bool) (c : Contexts) → (seen restarted c).bearers ≡ kept (λ _ b. are_seen restarted (get c.sessions b.session)) c.bearers
seen_bearers false c = kept_all c.bearers
seen_bearers true c = refl

-- ---- what stands among what passes

pub stands_kept : {X : Type 0} (test : X → Bool) (m : FiniteMap X) (t : ℕ) (x : X) → get m t ≡ Some x → test x ≡ true → get (kept (λ _ y. test y) m) t ≡ Some x
stands_kept {X} test m t x stands is = get_kept (λ _ y. test y) m t ∙ (ap (passing (λ _ y. test y) t) stands ∙ ap (λ (b : Bool). cond b (Some x) None) is)

pub record Passes {X : Type 0} (test : X → Bool) (m : FiniteMap X) (t : ℕ) (x : X) : Type 0 where
  pub stands : get m t ≡ Some x
  pub is : test x ≡ true

pub kept_stands : {X : Type 0} (test : X → Bool) (m : FiniteMap X) (t : ℕ) (x : X) → get (kept (λ _ y. test y) m) t ≡ Some x → Passes test m t x
kept_stands {X} test m t x stands = by (get m t) refl (sym (get_kept (λ _ y. test y) m t) ∙ stands)
  where
    chosen : (y : X) (b : Bool) → get m t ≡ Some y → test y ≡ b → cond b (Some y) None ≡ Some x → Passes test m t x
    chosen y true at is h = let same : y ≡ x = cc in record { stands = at ∙ h; is = ap test (sym same) ∙ is }
    chosen y false at is h = absurd cc

    by : (o : Option X) → get m t ≡ o → passing (λ _ y. test y) t o ≡ Some x → Passes test m t x
    by None at h = absurd cc
    by (Some y) at h = chosen y (test y) at refl h

pub gone_kept : {X : Type 0} (test : X → Bool) (m : FiniteMap X) (t : ℕ) (x : X) → get m t ≡ Some x → test x ≡ false → get (kept (λ _ y. test y) m) t ≡ None
gone_kept {X} test m t x stands is = get_kept (λ _ y. test y) m t ∙ (ap (passing (λ _ y. test y) t) stands ∙ ap (λ (b : Bool). cond b (Some x) None) is)

pub none_kept : {X : Type 0} (test : X → Bool) (m : FiniteMap X) (t : ℕ) → get m t ≡ None → get (kept (λ _ y. test y) m) t ≡ None
none_kept {X} test m t none = get_kept (λ _ y. test y) m t ∙ ap (passing (λ _ y. test y) t) none

-- ---- identities

-- a bearer that has the identity under its session's
pub bearer_seen : (restarted : Bool) (c : Contexts) (session identity teid : ℕ) → are_seen restarted (get c.sessions session) ≡ true
    → IsBearerWith c.bearers session identity teid → IsBearerWith (seen restarted c).bearers session identity teid
bearer_seen restarted c session identity teid is h =
    let test : Bearer → Bool = λ b. are_seen restarted (get c.sessions b.session) in
    record {
      bearer = h.bearer;
      stands =
          ap (λ (m : FiniteMap Bearer). get m teid) (seen_bearers restarted c)
          ∙ stands_kept test c.bearers teid h.bearer h.stands (ap (λ (k : ℕ). are_seen restarted (get c.sessions k)) h.of ∙ is);
      of = h.of;
      has = h.has;
      lowest = λ t b stands. let p = kept_stands test c.bearers t b (ap (λ (m : FiniteMap Bearer). get m t) (sym (seen_bearers restarted c)) ∙ stands) in h.lowest t b p.stands;
    }

pub unused_seen : (restarted : Bool) (c : Contexts) (session identity : ℕ) → IsUnused c.bearers session identity → IsUnused (seen restarted c).bearers session identity
unused_seen restarted c session identity unused t b stands =
    let p = kept_stands (λ (x : Bearer). are_seen restarted (get c.sessions x.session)) c.bearers t b (ap (λ (m : FiniteMap Bearer). get m t) (sym (seen_bearers restarted c)) ∙ stands) in
    unused t b p.stands

pub unused_unseen : (restarted : Bool) (c : Contexts) (session identity : ℕ) → are_seen restarted (get c.sessions session) ≡ false → IsUnused (seen restarted c).bearers session identity
unused_unseen restarted c session identity is t b stands of has =
    let p = kept_stands (λ (x : Bearer). are_seen restarted (get c.sessions x.session)) c.bearers t b (ap (λ (m : FiniteMap Bearer). get m t) (sym (seen_bearers restarted c)) ∙ stands) in
    let both : true ≡ false = sym p.is ∙ (ap (λ (k : ℕ). are_seen restarted (get c.sessions k)) of ∙ is) in
    cc

-- ---- addresses

octets_are : (octets : List ℕ) (o : Option (List ℕ)) → are_octets octets o ≡ true → o ≡ Some octets
octets_are octets None is = absurd cc
octets_are octets (Some others) is = ap Some ((bytes_decides others octets).0 is)

are_itself : (octets : List ℕ) → are_octets octets (Some octets) ≡ true
are_itself octets = (bytes_decides octets octets).1 refl

pub address_taken : (restarted : Bool) (version : IpVersion) (c : Contexts) (a : List ℕ) → list_any (takes restarted version a) (values c.sessions) ≡ true
    → HasAddress version (seen restarted c).sessions a
address_taken restarted version c a any =
    let r = meets (takes restarted version a) c.sessions any in
    let is = both (is_seen restarted r.value) (are_octets a (part_of version r.value.address)) r.meets in
    record {
      teid = r.key;
      session = r.value;
      stands = ap (λ (m : FiniteMap Session). get m r.key) (seen_sessions restarted c) ∙ stands_kept (is_seen restarted) c.sessions r.key r.value r.stands is.left;
      has = octets_are a (part_of version r.value.address) is.right;
    }

pub address_free : (restarted : Bool) (version : IpVersion) (c : Contexts) (a : List ℕ) → list_any (takes restarted version a) (values c.sessions) ≡ false
    → IsUnusedAddress version (seen restarted c).sessions a
address_free restarted version c a none t s stands has =
    let p = kept_stands (is_seen restarted) c.sessions t s (ap (λ (m : FiniteMap Session). get m t) (sym (seen_sessions restarted c)) ∙ stands) in
    let not_it : takes restarted version a s ≡ false = meets_not (takes restarted version a) c.sessions none t s p.stands in
    let here : are_octets a (part_of version s.address) ≡ true = ap (are_octets a) has ∙ are_itself a in
    let it : takes restarted version a s ≡ true = ap (λ (b : Bool). b && are_octets a (part_of version s.address)) p.is ∙ here in
    cc

-- ---- places

-- a session that is not seen with these octets does not take them
pub untaken : (restarted : Bool) (version : IpVersion) (octets : List ℕ) (s : Session)
    → (is_seen restarted s ≡ true → part_of version s.address ≡ Some octets → ⊥) → takes restarted version octets s ≡ false
untaken restarted version octets s none = by (is_seen restarted s) (are_octets octets (part_of version s.address)) refl refl
  where
    by : (a b : Bool) → is_seen restarted s ≡ a → are_octets octets (part_of version s.address) ≡ b → (is_seen restarted s && are_octets octets (part_of version s.address)) ≡ false
    by true true p q = absurd (none p (octets_are octets (part_of version s.address) q))
    by true false p q = rw (p, q) refl
    by false b p q = rw p refl

pub taken : (restarted : Bool) (version : IpVersion) (octets : List ℕ) (s : Session) → is_seen restarted s ≡ true → part_of version s.address ≡ Some octets → takes restarted version octets s ≡ true
taken restarted version octets s seen has = rw (seen, has) (are_itself octets)

-- the place of a session that is seen
pub seen_at : (pools : Pools) (restarted : Bool) (version : IpVersion) (s : Session) → is_seen restarted s ≡ true → (o : Option ℕ)
    → IfSome o (IsPlaceOf pools version (part_of version s.address))
    → IfSome o (λ place. (p : ℕ) → p < count_of pools version → takes restarted version (address_at pools version p) s ≡ nat_eq p place)
seen_at pools restarted version s seen None none = tt
seen_at pools restarted version s seen (Some place) is = λ p lt. by p lt (nat_eq p place) refl
  where
    by : (p : ℕ) → p < count_of pools version → (b : Bool) → nat_eq p place ≡ b → takes restarted version (address_at pools version p) s ≡ b
    by p lt true same = let at : p ≡ place = eqb-true p place same in taken restarted version (address_at pools version p) s seen (is.has ∙ ap (λ k. Some (address_at pools version k)) (sym at))
    by p lt false other =
        untaken restarted version (address_at pools version p) s (λ _ has.
        let at : p ≡ place = is.one p lt has in let no : true ≡ false = sym (itself place) ∙ (ap (λ k. nat_eq k place) (sym at) ∙ other) in cc no)

pub seen_within : (pools : Pools) (version : IpVersion) (part : Option (List ℕ)) (o : Option ℕ) → IfSome o (IsPlaceOf pools version part) → IfSome o (λ place. place < count_of pools version)
seen_within pools version part None none = tt
seen_within pools version part (Some place) is = is.in_pool

pub seen_nowhere : (pools : Pools) (restarted : Bool) (version : IpVersion) (s : Session) → (o : Option ℕ)
    → IfNone o ((p : ℕ) → p < count_of pools version → part_of version s.address ≢ Some (address_at pools version p))
    → IfNone o ((p : ℕ) → p < count_of pools version → takes restarted version (address_at pools version p) s ≡ false)
seen_nowhere pools restarted version s None none = λ p lt. untaken restarted version (address_at pools version p) s (λ _ has. none p lt has)
seen_nowhere pools restarted version s (Some place) some = tt
