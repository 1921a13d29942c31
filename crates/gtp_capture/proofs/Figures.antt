-- What the reading functions find is what the figures say.
use Rattle.std.proofs.Common.{◌≡◌, ◌≢◌, ℕ, zero, suc, ◌+◌, ◌-◌, ◌*◌, ◌/◌, ◌%◌, ◌<◌, ◌≤◌, List, [], ◌∷◌, length, take, drop, slice_index, slice_range}
use Rattle.std.proofs.Common.{Option, Some, None, Bool, true, false, ◌==◌, ◌||◌, nat_lt, cond, ◌⊎◌, inl, inr, refl, sym, ap, ◌∙◌, arith, subst}
use Rattle.std.proofs.Common.{IsTrue, take_all, length-drop}
use Rattle.std.specs.Int.{w16, from_be_bytes}
use Rattle.std.proofs.lemmas.Bool.{cases_lt}
use Rattle.std.proofs.lemmas.Bool.Decides.{nat_tests}
use Rattle.gtp_capture.specs.Octets.{two_at, is_either}
use Rattle.gtp_capture.specs.Udp.{Udp, IsUdp}
use Rattle.gtp_capture.specs.Link.{is_tag, IsTagged}
use Rattle.gtp_capture.specs.Internet.{Parcel, IsV4, IsHeader, IsChain, is_passed}
use Rattle.gtp_capture.specs.Carries.{CarriesV4, CarriesV6, CarriesTyped, CarriesAt, IsFamily, CarriesFamily, InFrame, Carries, ReadsWhatIsCarried}
use Rattle.gtp_values.specs.declared.address.Ip.{Ip}
use Rattle.gtp_values.specs.declared.address.Ip.TheVariants.{V4, V6}
use Rattle.gtp_values.specs.declared.address.Endpoint.{Endpoint}
use Rattle.gtp_capture.specs.Packet.{Packet, plane_at}
use Rattle.gtp_capture.specs.reading.Steps.{◌>>=◌, or_else}
use Rattle.gtp_capture.specs.reading.Udp.{udp_in}
use Rattle.gtp_capture.specs.reading.Link.{Typed, typed, untagged}
use Rattle.gtp_capture.specs.reading.Internet.{Header, Inside, sized_in, fragment_in, header_in, chain_in, chain, v4_in, v4_after, v6_in}
use Rattle.gtp_capture.specs.reading.Packet.{internet_in, typed_at, family_in, inside_in, packet_in}
use Rattle.gtp_capture.specs.declared.ports.Ports.{Ports}
use Rattle.gtp_capture.proofs.Chains.{chain_done, chain_more}
use Rattle.gtp_capture.proofs.Tags.{untagged_done, untagged_more}

-- a test that lets a value through
pub let_through : {A : Type 0} (b : Bool) (o : Option A) (x : A) → cond b None o ≡ Some x → (b ≡ false) × (o ≡ Some x)
let_through true o x e = absurd (none_some e)
  where
    none_some : {A : Type 0} {x : A} → ◌≡◌ {A = Option A} None (Some x) → ⊥
    none_some e = cc
let_through false o x e = (refl, e)

pub kept : {A : Type 0} (b : Bool) (o : Option A) (x : A) → cond b o None ≡ Some x → (b ≡ true) × (o ≡ Some x)
kept true o x e = (refl, e)
kept false o x e = absurd (none_some e)
  where
    none_some : {A : Type 0} {x : A} → ◌≡◌ {A = Option A} None (Some x) → ⊥
    none_some e = cc

pub some_is : {A : Type 0} {x y : A} → Some x ≡ Some y → x ≡ y
some_is e = cc

pub udp_found : (octets : List ℕ) (u : Udp) → udp_in octets ≡ Some u → IsUdp octets u
unfolding udp_in
udp_found octets u e =
    let a = let_through (nat_lt (length octets) 8) _ u e in
    let b = let_through (nat_lt (two_at 4 octets) 8) _ u a.1 in
    let is = some_is b.1 in
    let enough : 8 ≤ two_at 4 octets = grind (arith, nat_tests, b.0) in
    let held : u.held ≡ take u.had (drop 8 octets) = sym (ap (λ v. v.held) is) ∙ ap (λ n. take n (drop 8 octets)) (ap (λ v. v.had) is) in
    record {
      head = grind (arith, nat_tests, a.0);
      from = sym (ap (λ v. v.from) is);
      to = sym (ap (λ v. v.to) is);
      size = omega (arith, enough, ap (λ v. v.had) is);
      whole = λ _. held;
      cut = λ few. held ∙ take_all u.had (drop 8 octets) (omega (arith, few, enough, ap (λ v. v.had) is, length-drop 8 octets));
    }

udp_same : (a b c : ℕ) (d : List ℕ) (u : Udp) → u.from ≡ a → u.to ≡ b → u.had ≡ c → u.held ≡ d → ◌≡◌ {A = Option Udp} (Some (record { from = a; to = b; had = c; held = d })) (Some u)
udp_same a b c d u p q r s =
    let one : Udp → Option Udp = λ v. Some v in
    ap (λ x. one (record { from = x; to = b; had = c; held = d })) (sym p)
    ∙ ap (λ x. one (record { from = u.from; to = x; had = c; held = d })) (sym q)
    ∙ ap (λ x. one (record { from = u.from; to = u.to; had = x; held = d })) (sym r)
    ∙ ap (λ x. one (record { from = u.from; to = u.to; had = u.had; held = x })) (sym s)

-- what is held is so much of what is there
udp_held : (octets : List ℕ) (u : Udp) → IsUdp octets u → u.held ≡ take u.had (drop 8 octets)
udp_held octets u is = elim (cases_lt (length octets) (two_at 4 octets)) [
  | inl few ↦ is.cut few ∙ sym (take_all u.had (drop 8 octets) (omega (arith, few, is.size, length-drop 8 octets)))
  | inr room ↦ is.whole room
]

pub udp_only : (octets : List ℕ) (u : Udp) → IsUdp octets u → udp_in octets ≡ Some u
unfolding udp_in
udp_only octets u is =
    let a : nat_lt (length octets) 8 ≡ false = grind (arith, nat_tests, is.head) in
    let b : nat_lt (two_at 4 octets) 8 ≡ false = grind (arith, nat_tests, is.size) in
    let had : two_at 4 octets - 8 ≡ u.had = omega (arith, is.size) in
    rw (a, b)
    (udp_same (two_at 0 octets) (two_at 2 octets) (two_at 4 octets - 8) (take (two_at 4 octets - 8) (drop 8 octets)) u is.from is.to (sym had)
    (udp_held octets u is ∙ ap (λ n. take n (drop 8 octets)) (sym had)))

parcel_same : (a b : Ip) (f : Bool) (c : List ℕ) (p : Parcel) → p.from ≡ a → p.to ≡ b → p.fragment ≡ f → p.octets ≡ c
    → ◌≡◌ {A = Option Parcel} (Some (record { from = a; to = b; fragment = f; octets = c })) (Some p)
parcel_same a b f c p q r m s =
    let one : Parcel → Option Parcel = λ v. Some v in
    ap (λ x. one (record { from = x; to = b; fragment = f; octets = c })) (sym q)
    ∙ ap (λ x. one (record { from = p.from; to = x; fragment = f; octets = c })) (sym r)
    ∙ ap (λ x. one (record { from = p.from; to = p.to; fragment = x; octets = c })) (sym m)
    ∙ ap (λ x. one (record { from = p.from; to = p.to; fragment = p.fragment; octets = x })) (sym s)

pub v4_only : (octets : List ℕ) (p : Parcel) (words carried : ℕ) → IsV4 octets p words carried → v4_in octets ≡ Some p
unfolding v4_in
v4_only octets p words carried is =
    let version : slice_index octets 0 / 16 ≡ 4 = omega (arith, is.first, is.few) in
    let said : slice_index octets 0 % 16 ≡ words = omega (arith, is.first, is.few) in
    let long : nat_lt (length octets) 20 ≡ false = grind (arith, nat_tests, is.head, is.some) in
    let some : nat_lt (4 * words) 20 ≡ false = grind (arith, nat_tests, is.some) in
    let total : nat_lt (two_at 2 octets) (4 * words) ≡ false = grind (arith, nat_tests, is.size) in
    let head : nat_lt (length octets) (4 * words) ≡ false = grind (arith, nat_tests, is.head) in
    let left : two_at 2 octets - 4 * words ≡ carried = omega (arith, is.size) in
    let after : v4_after (4 * words) octets ≡ Some p =
    rw (some, total, head) (parcel_same (V4 (slice_range octets 12 16)) (V4 (slice_range octets 16 20)) (two_at 6 octets / 8192 % 2 == 1)
    (take (two_at 2 octets - 4 * words) (drop (4 * words) octets)) p is.from is.to is.more
    (is.inside ∙ ap (λ n. take n (drop (4 * words) octets)) (sym left))) in
    rw (long, ap (λ n. n == 4) version, ap (λ n. n == 17) is.protocol, ap (λ n. n == 0) is.offset) (ap (λ n. v4_after (4 * n) octets) said ∙ after)

pub v4_found : (octets : List ℕ) (p : Parcel) → v4_in octets ≡ Some p → CarriesV4 octets p
unfolding v4_in
v4_found octets p e =
    let a = let_through (nat_lt (length octets) 20) _ p e in
    let b = kept (slice_index octets 0 / 16 == 4) _ p a.1 in
    let c = kept (slice_index octets 9 == 17) _ p b.1 in
    let d = kept (two_at 6 octets % 8192 == 0) _ p c.1 in
    let words = slice_index octets 0 % 16 in
    let f = let_through (nat_lt (4 * words) 20) _ p d.1 in
    let g = let_through (nat_lt (two_at 2 octets) (4 * words)) _ p f.1 in
    let h = let_through (nat_lt (length octets) (4 * words)) _ p g.1 in
    let is = some_is h.1 in
    let version : slice_index octets 0 / 16 ≡ 4 = grind (arith, nat_tests, b.0) in
    let low : words < 16 = omega arith in
    let some : 20 ≤ 4 * words = grind (arith, nat_tests, f.0) in
    let total : 4 * words ≤ two_at 2 octets = grind (arith, nat_tests, g.0) in (
      words,
      two_at 2 octets - 4 * words,
      record {
        first = omega (arith, version);
        few = low;
        some = omega (arith, some);
        head = grind (arith, nat_tests, h.0);
        size = omega (arith, total);
        offset = grind (arith, nat_tests, d.0);
        more = sym (ap (λ v. v.fragment) is);
        protocol = grind (arith, nat_tests, c.0);
        from = sym (ap (λ v. v.from) is);
        to = sym (ap (λ v. v.to) is);
        inside = sym (ap (λ v. v.octets) is);
      },
    )

tags_found : (kind : ℕ) (octets : List ℕ) (t : Typed) → untagged kind octets ≡ Some t → (tags : ℕ) × IsTagged tags kind octets t.kind t.inside
tags_found kind (a ∷ b ∷ c ∷ d ∷ octets) t e = elim (is_tag kind) as (λ v. is_tag kind ≡ v → (tags : ℕ) × IsTagged tags kind (a ∷ b ∷ c ∷ d ∷ octets) t.kind t.inside) [
  | true ↦ λ s. let more = tags_found (from_be_bytes w16 (c ∷ d ∷ [])) octets t (rw s at e) in (suc more.0, (s, omega arith, more.1))
  | false ↦ λ s. let is = some_is (rw s at e) in (zero, (s, sym (ap (λ v. v.kind) is), sym (ap (λ v. v.inside) is)))
] refl
tags_found kind (a ∷ b ∷ c ∷ []) t e = let h = let_through (is_tag kind) _ t e in let is = some_is h.1 in (zero, (h.0, sym (ap (λ v. v.kind) is), sym (ap (λ v. v.inside) is)))
tags_found kind (a ∷ b ∷ []) t e = let h = let_through (is_tag kind) _ t e in let is = some_is h.1 in (zero, (h.0, sym (ap (λ v. v.kind) is), sym (ap (λ v. v.inside) is)))
tags_found kind (a ∷ []) t e = let h = let_through (is_tag kind) _ t e in let is = some_is h.1 in (zero, (h.0, sym (ap (λ v. v.kind) is), sym (ap (λ v. v.inside) is)))
tags_found kind [] t e = let h = let_through (is_tag kind) _ t e in let is = some_is h.1 in (zero, (h.0, sym (ap (λ v. v.kind) is), sym (ap (λ v. v.inside) is)))

tags_only : (tags kind : ℕ) (octets : List ℕ) (type : ℕ) (inside : List ℕ) → IsTagged tags kind octets type inside → untagged kind octets ≡ Some (typed type inside)
tags_only zero kind octets type inside is =
    untagged_done kind octets is.0 ∙ ap (λ k. Some (typed k octets)) (sym is.1) ∙ ap (λ l. Some (typed type l)) (sym is.2)
tags_only (suc tags) kind octets type inside is =
    let all : take (length octets - 4) (drop 4 octets) ≡ drop 4 octets = take_all (length octets - 4) (drop 4 octets) (omega (arith, length-drop 4 octets)) in
    untagged_more kind octets is.0 is.1 ∙ ap (untagged (two_at 2 octets)) all ∙ tags_only tags (two_at 2 octets) (drop 4 octets) type inside is.2

-- which way a test went
chosen : {A : Type 0} (b : Bool) (x y z : A) → cond b x y ≡ z → ((b ≡ true) × (x ≡ z)) ⊎ ((b ≡ false) × (y ≡ z))
chosen true x y z e = inl (refl, e)
chosen false x y z e = inr (refl, e)

number_is : (n m : ℕ) → (n == m) ≡ true → n ≡ m
number_is n m s = grind (arith, nat_tests)

sized_kept : (octets : List ℕ) (h : Header) → sized_in octets ≡ Some h
    → (8 * slice_index octets 1 + 8 ≤ length octets) × (h.next ≡ slice_index octets 0) × (h.more ≡ false) × (h.rest ≡ drop (8 * slice_index octets 1 + 8) octets)
sized_kept octets h e =
    let c = let_through (nat_lt (length octets) (8 * slice_index octets 1 + 8)) _ h e in
    let is = some_is c.1 in
    (grind (arith, nat_tests, c.0), sym (ap (λ v. v.next) is), sym (ap (λ v. v.more) is), sym (ap (λ v. v.rest) is))

fragment_kept : (octets : List ℕ) (h : Header) → fragment_in octets ≡ Some h
    → (two_at 2 octets / 8 ≡ 0) × (h.next ≡ slice_index octets 0) × (h.more ≡ (two_at 2 octets % 2 == 1)) × (h.rest ≡ drop 8 octets)
fragment_kept octets h e =
    let c = kept (two_at 2 octets / 8 == 0) _ h e in
    let is = some_is c.1 in
    (grind (arith, nat_tests, c.0), sym (ap (λ v. v.next) is), sym (ap (λ v. v.more) is), sym (ap (λ v. v.rest) is))

header_kept : (kind : ℕ) (octets : List ℕ) (h : Header) → header_in kind octets ≡ Some h
    → (size : ℕ) × IsHeader kind octets size h.more × (size ≤ length octets) × (h.next ≡ slice_index octets 0) × (h.rest ≡ drop size octets)
header_kept kind octets h e =
    let a = let_through (nat_lt (length octets) 8) _ h e in
    elim (chosen (is_passed kind) _ _ _ a.1) [
      | inl s ↦ let k = sized_kept octets h s.1 in (8 * slice_index octets 1 + 8, inl (s.0, refl, k.2), k.0, k.1, k.3)
      | inr s ↦
          let f = kept (kind == 44) _ h s.1 in
          let k = fragment_kept octets h f.1 in
          (8, inr (number_is kind 44 f.0, refl, k.0, k.2), grind (arith, nat_tests, a.0), k.1, k.3)
    ]

bound_is : {A B : Type 0} (o : Option A) (f : A → Option B) (y : B) → (o >>= f) ≡ Some y → (x : A) × (o ≡ Some x) × (f x ≡ Some y)
bound_is (Some x) f y e = (x, refl, e)
bound_is None f y e = absurd (none_some e)
  where
    none_some : {B : Type 0} {y : B} → ◌≡◌ {A = Option B} None (Some y) → ⊥
    none_some e = cc

chain_found : (steps kind : ℕ) (before : Bool) (octets : List ℕ) (i : Inside) → chain_in steps kind before octets ≡ Some i → (headers : ℕ) × IsChain headers kind before octets i.fragment i.octets
chain_found zero kind before octets i e =
    let a = kept (kind == 17) _ i e in
    let is = some_is a.1 in
    (zero, (grind (arith, nat_tests, a.0), sym (ap (λ v. v.fragment) is), sym (ap (λ v. v.octets) is)))
chain_found (suc steps) kind before octets i e = elim (kind == 17) as (λ v. (kind == 17) ≡ v → (headers : ℕ) × IsChain headers kind before octets i.fragment i.octets) [
  | true ↦ λ s. let is = some_is (rw s at e) in (zero, (grind (arith, nat_tests, s), sym (ap (λ v. v.fragment) is), sym (ap (λ v. v.octets) is)))
  | false ↦ λ s.
      let b = bound_is (header_in kind octets) (λ h. chain_in steps h.next (before || h.more) h.rest) i (rw s at e) in
      let k = header_kept kind octets b.0 b.1 in
      let more = chain_found steps b.0.next (before || b.0.more) b.0.rest i b.2 in (
        suc more.0,
        (
          k.0,
          b.0.more,
          k.1,
          k.2,
          subst (λ o. IsChain more.0 (slice_index octets 0) (before || b.0.more) o i.fragment i.octets) k.4
              (subst (λ n. IsChain more.0 n (before || b.0.more) b.0.rest i.fragment i.octets) k.3 more.1),
        ),
      )
] refl

inside_same : (f : Bool) (o : List ℕ) (i : Inside) → i.fragment ≡ f → i.octets ≡ o → ◌≡◌ {A = Option Inside} (Some (record { fragment = f; octets = o })) (Some i)
inside_same f o i p q =
    let one : Inside → Option Inside = λ v. Some v in
    ap (λ x. one (record { fragment = x; octets = o })) (sym p) ∙ ap (λ x. one (record { fragment = i.fragment; octets = x })) (sym q)

-- a header that is passed over is read, and is not a datagram
header_read : (kind : ℕ) (octets : List ℕ) (size : ℕ) (more : Bool) → IsHeader kind octets size more → size ≤ length octets
    → (header_in kind octets ≡ Some (record { next = slice_index octets 0; more = more; rest = drop size octets })) × (kind ≢ 17)
header_read kind octets size more (inl h) room =
    let a : nat_lt (length octets) 8 ≡ false = grind (arith, nat_tests, h.1, room) in
    let b : nat_lt (length octets) (8 * slice_index octets 1 + 8) ≡ false = grind (arith, nat_tests, h.1, room) in
    let one : Bool → ℕ → Option Header = λ m n. Some (record { next = slice_index octets 0; more = m; rest = drop n octets }) in
    let found : header_in kind octets ≡ one false (8 * slice_index octets 1 + 8) = rw (a, h.0, b) refl in
    (found ∙ ap (one false) (sym h.1) ∙ ap (λ m. one m size) (sym h.2), λ e. passed_not (subst (λ k. is_passed k ≡ true) e h.0))
  where
    passed_not : is_passed 17 ≡ true → ⊥
    passed_not e = cc
header_read kind octets size more (inr h) room =
    let a : nat_lt (length octets) 8 ≡ false = grind (arith, nat_tests, h.1, room) in
    let one : Bool → ℕ → Option Header = λ m n. Some (record { next = slice_index octets 0; more = m; rest = drop n octets }) in
    let found : header_in 44 octets ≡ one (two_at 2 octets % 2 == 1) 8 = rw (a, ap (λ n. n == 0) h.2) refl in
    (ap (λ k. header_in k octets) h.0 ∙ found ∙ ap (one (two_at 2 octets % 2 == 1)) (sym h.1) ∙ ap (λ m. one m size) (sym h.3), λ e. omega (arith, e, h.0))

chain_only : (headers steps kind : ℕ) (before : Bool) (octets : List ℕ) (i : Inside) → length octets ≤ steps
    → IsChain headers kind before octets i.fragment i.octets → chain_in steps kind before octets ≡ Some i
chain_only zero steps kind before octets i room is = chain_done steps kind before octets is.0 ∙ inside_same before octets i is.1 is.2
chain_only (suc n) steps kind before octets i room (size, more, header, fits, is) =
    let h : Header = record { next = slice_index octets 0; more = more; rest = drop size octets } in
    let found = header_read kind octets size more header fits in
    let next = chain_more steps kind before octets h found.1 found.0 room in
    next.2 ∙ chain_only n next.0 (slice_index octets 0) (before || more) (drop size octets) i next.1 is

pub v6_found : (octets : List ℕ) (p : Parcel) → v6_in octets ≡ Some p → CarriesV6 octets p
unfolding v6_in chain
v6_found octets p e =
    let carried = take (two_at 4 octets) (drop 40 octets) in
    let a = let_through (nat_lt (length octets) 40) _ p e in
    let b = kept (slice_index octets 0 / 16 == 6) _ p a.1 in
    let c =
    bound_is (chain_in (length carried) (slice_index octets 6) false carried) (λ inside.
    Some (record { from = V6 (slice_range octets 8 24); to = V6 (slice_range octets 24 40); fragment = inside.fragment; octets = inside.octets })) p
    b.1 in
    let is = some_is c.2 in
    let headers = chain_found (length carried) (slice_index octets 6) false carried c.0 c.1 in (
      headers.0,
      record {
        head = grind (arith, nat_tests, a.0);
        first = grind (arith, nat_tests, b.0);
        from = sym (ap (λ v. v.from) is);
        to = sym (ap (λ v. v.to) is);
        chain = subst (λ (v : Parcel). IsChain headers.0 (slice_index octets 6) false carried v.fragment v.octets) is headers.1;
      },
    )

pub v6_only : (octets : List ℕ) (p : Parcel) → CarriesV6 octets p → v6_in octets ≡ Some p
unfolding v6_in chain
v6_only octets p (headers, is) =
    let carried = take (two_at 4 octets) (drop 40 octets) in
    let long : nat_lt (length octets) 40 ≡ false = grind (arith, nat_tests, is.head) in
    let i : Inside = record { fragment = p.fragment; octets = p.octets } in
    let inside : chain_in (length carried) (slice_index octets 6) false carried ≡ Some i = chain_only headers (length carried) (slice_index octets 6) false carried i (omega arith) is.chain in
    rw (long, ap (λ n. n == 6) is.first, inside) (parcel_same (V6 (slice_range octets 8 24)) (V6 (slice_range octets 24 40)) p.fragment p.octets p is.from is.to refl refl)

pub typed_found : (kind : ℕ) (octets : List ℕ) (p : Parcel) → internet_in kind octets ≡ Some p → CarriesTyped kind octets p
unfolding internet_in
typed_found kind octets p e =
    let a = bound_is (untagged kind octets) (λ t. cond (t.kind == 2048) (v4_in t.inside) (cond (t.kind == 34525) (v6_in t.inside) None)) p e in
    let tags = tags_found kind octets a.0 a.1 in (
      tags.0,
      a.0.kind,
      a.0.inside,
      tags.1,
      elim (a.0.kind == 2048) as (λ v. (a.0.kind == 2048) ≡ v → ((a.0.kind ≡ 2048) × CarriesV4 a.0.inside p) ⊎ ((a.0.kind ≡ 34525) × CarriesV6 a.0.inside p)) [
        | true ↦ λ s. inl (grind (arith, nat_tests, s), v4_found a.0.inside p (rw s at a.2))
        | false ↦ λ s. let k = kept (a.0.kind == 34525) (v6_in a.0.inside) p (rw s at a.2) in inr (grind (arith, nat_tests, k.0), v6_found a.0.inside p k.1)
      ] refl,
    )

at_found : (at size : ℕ) (frame : List ℕ) (p : Parcel) → typed_at at size frame ≡ Some p → CarriesAt at size frame p
unfolding typed_at
at_found at size frame p e =
    let a = let_through (nat_lt (length frame) size) _ p e in
    (grind (arith, nat_tests, a.0), typed_found (two_at at frame) (drop size frame) p a.1)

family_found : (frame : List ℕ) (p : Parcel) → family_in frame ≡ Some p → CarriesFamily frame p
unfolding family_in
family_found frame p e =
    let a = let_through (nat_lt (length frame) 4) _ p e in (
      grind (arith, nat_tests, a.0),
      (elim (is_either 2 frame) as (λ v. is_either 2 frame ≡ v → (IsFamily 2 frame × CarriesV4 (drop 4 frame) p)
          ⊎ ((is_either 2 frame ≡ false) × IsTrue (is_either 24 frame || (is_either 28 frame || is_either 30 frame)) × CarriesV6 (drop 4 frame) p)) [
            | true ↦ λ s. inl (s, v4_found (drop 4 frame) p (rw s at a.1))
            | false ↦ λ s. let k = kept (is_either 24 frame || (is_either 28 frame || is_either 30 frame)) (v6_in (drop 4 frame)) p (rw s at a.1) in inr (s, k.0, v6_found (drop 4 frame) p k.1)
          ] refl),
    )

either_found : (o q : Option Parcel) (p : Parcel) → or_else o q ≡ Some p → (o ≡ Some p) ⊎ (q ≡ Some p)
either_found (Some x) q p e = inl e
either_found None q p e = inr e

raw_found : (frame : List ℕ) (p : Parcel) → or_else (v4_in frame) (v6_in frame) ≡ Some p → CarriesV4 frame p ⊎ CarriesV6 frame p
raw_found frame p e = elim (either_found (v4_in frame) (v6_in frame) p e) [ inl h ↦ inl (v4_found frame p h) | inr h ↦ inr (v6_found frame p h) ]

frame_found : (link : ℕ) (frame : List ℕ) (p : Parcel) → inside_in link frame ≡ Some p → InFrame link frame p
unfolding inside_in
frame_found link frame p e =
    elim (chosen ((link == 0) || (link == 108)) _ _ _ e) [
      | inl h ↦ inl (h.0, family_found frame p h.1)
      | inr n1 ↦ inr (elim (chosen (link == 1) _ _ _ n1.1) [
        | inl h ↦ inl (number_is link 1 h.0, at_found 12 14 frame p h.1)
        | inr n2 ↦ inr (elim (chosen ((link == 12) || ((link == 14) || (link == 101))) _ _ _ n2.1) [
          | inl h ↦ inl (h.0, raw_found frame p h.1)
          | inr n3 ↦ inr (elim (chosen (link == 113) _ _ _ n3.1) [
            | inl h ↦ inl (number_is link 113 h.0, at_found 14 16 frame p h.1)
            | inr n4 ↦ inr (elim (chosen (link == 228) _ _ _ n4.1) [
              | inl h ↦ inl (number_is link 228 h.0, v4_found frame p h.1)
              | inr n5 ↦ inr (elim (chosen (link == 229) _ _ _ n5.1) [
                | inl h ↦ inl (number_is link 229 h.0, v6_found frame p h.1)
                | inr n6 ↦ inr (let k = kept (link == 276) (typed_at 0 20 frame) p n6.1 in (number_is link 276 k.0, at_found 0 20 frame p k.1))
              ])
            ])
          ])
        ])
      ])
    ]

pub packet_found : (ports : Ports) (link : ℕ) (frame : List ℕ) (d : Packet) → packet_in ports link frame ≡ Some d → Carries ports link frame d
unfolding packet_in
packet_found ports link frame d e =
    let a = bound_is (inside_in link frame) _ d e in
    let b = bound_is (udp_in a.0.octets) _ d a.2 in
    let c = bound_is (plane_at ports b.0.from b.0.to) _ d b.2 in
    let is = some_is c.2 in (
      a.0,
      b.0,
      frame_found link frame a.0 a.1,
      udp_found a.0.octets b.0 b.1,
      c.1 ∙ ap (λ x. Some x) (ap (λ v. v.plane) is),
      sym (ap (λ v. v.from) is),
      sym (ap (λ v. v.to) is),
      sym (ap (λ v. v.fragment) is),
      sym (ap (λ v. v.had) is),
      sym (ap (λ v. v.octets) is),
    )

v4_read : (octets : List ℕ) (p : Parcel) → CarriesV4 octets p → v4_in octets ≡ Some p
v4_read octets p (words, carried, is) = v4_only octets p words carried is

typed_only : (kind : ℕ) (octets : List ℕ) (p : Parcel) → CarriesTyped kind octets p → internet_in kind octets ≡ Some p
unfolding internet_in
typed_only kind octets p (tags, type, inside, is, which) =
    rw (tags_only tags kind octets type inside is) (elim which [
      | inl h ↦ rw (ap (λ n. n == 2048) h.0) (v4_read inside p h.1)
      | inr h ↦ rw (ap (λ n. n == 2048) h.0, ap (λ n. n == 34525) h.0) (v6_only inside p h.1)
    ])

at_only : (at size : ℕ) (frame : List ℕ) (p : Parcel) → CarriesAt at size frame p → typed_at at size frame ≡ Some p
unfolding typed_at
at_only at size frame p (room, h) =
    let a : nat_lt (length frame) size ≡ false = grind (arith, nat_tests, room) in
    rw a (typed_only (two_at at frame) (drop size frame) p h)

family_only : (frame : List ℕ) (p : Parcel) → CarriesFamily frame p → family_in frame ≡ Some p
unfolding family_in
family_only frame p (room, which) =
    let a : nat_lt (length frame) 4 ≡ false = grind (arith, nat_tests, room) in
    rw a (elim which [
      | inl h ↦ rw h.0 (v4_read (drop 4 frame) p h.1)
      | inr h ↦ rw (h.0, h.1) (v6_only (drop 4 frame) p h.2)
    ])

-- a packet of IPv6 is none of IPv4
other_version : (frame : List ℕ) (p : Parcel) (o : Option Parcel) → CarriesV6 frame p → v4_in frame ≡ o → v4_in frame ≡ None
other_version frame p (Some q) six e =
    let four = v4_found frame q e in
    absurd (omega (arith, four.2.first, four.2.few, six.1.first))
other_version frame p None six e = e

raw_only : (frame : List ℕ) (p : Parcel) → CarriesV4 frame p ⊎ CarriesV6 frame p → or_else (v4_in frame) (v6_in frame) ≡ Some p
raw_only frame p (inl h) = ap (λ o. or_else o (v6_in frame)) (v4_read frame p h)
raw_only frame p (inr h) = ap (λ o. or_else o (v6_in frame)) (other_version frame p (v4_in frame) h refl) ∙ v6_only frame p h

either_true : (a b : Bool) → (a || b) ≡ true → (a ≡ true) ⊎ (b ≡ true)
either_true true b e = inl refl
either_true false b e = inr e

frame_only : (link : ℕ) (frame : List ℕ) (p : Parcel) → InFrame link frame p → inside_in link frame ≡ Some p
unfolding inside_in
frame_only link frame p (inl h) = rw h.0 (family_only frame p h.1)
frame_only link frame p (inr (inl h)) = subst (λ k. inside_in k frame ≡ Some p) (sym h.0) (at_only 12 14 frame p h.1)
frame_only link frame p (inr (inr (inl h))) =
    elim (either_true (link == 12) ((link == 14) || (link == 101)) h.0) [
      | inl a ↦ subst (λ k. inside_in k frame ≡ Some p) (sym (number_is link 12 a)) (raw_only frame p h.1)
      | inr b ↦ elim (either_true (link == 14) (link == 101) b) [
        | inl a ↦ subst (λ k. inside_in k frame ≡ Some p) (sym (number_is link 14 a)) (raw_only frame p h.1)
        | inr a ↦ subst (λ k. inside_in k frame ≡ Some p) (sym (number_is link 101 a)) (raw_only frame p h.1)
      ]
    ]
frame_only link frame p (inr (inr (inr (inl h)))) = subst (λ k. inside_in k frame ≡ Some p) (sym h.0) (at_only 14 16 frame p h.1)
frame_only link frame p (inr (inr (inr (inr (inl h))))) = subst (λ k. inside_in k frame ≡ Some p) (sym h.0) (v4_read frame p h.1)
frame_only link frame p (inr (inr (inr (inr (inr (inl h)))))) = subst (λ k. inside_in k frame ≡ Some p) (sym h.0) (v6_only frame p h.1)
frame_only link frame p (inr (inr (inr (inr (inr (inr h)))))) = subst (λ k. inside_in k frame ≡ Some p) (sym h.0) (at_only 0 20 frame p h.1)

packet_same : (a b : Endpoint) (f : Bool) (n : ℕ) (l : List ℕ) (d : Packet) → d.from ≡ a → d.to ≡ b → d.fragment ≡ f → d.had ≡ n → d.octets ≡ l
    → ◌≡◌ {A = Option Packet} (Some (record { from = a; to = b; plane = d.plane; fragment = f; had = n; octets = l })) (Some d)
packet_same a b f n l d p q m r s =
    let one : Packet → Option Packet = λ v. Some v in
    ap (λ x. one (record { from = x; to = b; plane = d.plane; fragment = f; had = n; octets = l })) (sym p)
    ∙ ap (λ x. one (record { from = d.from; to = x; plane = d.plane; fragment = f; had = n; octets = l })) (sym q)
    ∙ ap (λ x. one (record { from = d.from; to = d.to; plane = d.plane; fragment = x; had = n; octets = l })) (sym m)
    ∙ ap (λ x. one (record { from = d.from; to = d.to; plane = d.plane; fragment = d.fragment; had = x; octets = l })) (sym r)
    ∙ ap (λ x. one (record { from = d.from; to = d.to; plane = d.plane; fragment = d.fragment; had = d.had; octets = x })) (sym s)

pub packet_only : (ports : Ports) (link : ℕ) (frame : List ℕ) (d : Packet) → Carries ports link frame d → packet_in ports link frame ≡ Some d
unfolding packet_in
packet_only ports link frame d (p, u, inside, is, plane, from, to, fragment, had, octets) =
    rw (frame_only link frame p inside, udp_only p.octets u is, plane)
    (packet_same (record { ip = p.from; port = u.from }) (record { ip = p.to; port = u.to }) p.fragment u.had u.held d from to fragment had octets)

pub reads_what_is_carried : ReadsWhatIsCarried
reads_what_is_carried ports link frame d = (packet_found ports link frame d, packet_only ports link frame d)
