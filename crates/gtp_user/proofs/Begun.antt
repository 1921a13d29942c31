-- Reading the element at the start of octets decides which one begins them.
use Rattle.std.proofs.Common.{◌≡◌, ◌≢◌, ℕ, ◌+◌, ◌*◌, ◌<◌, ◌≤◌, Bool, true, false, cond, ltb, List, [], ◌∷◌, ◌++◌, length, take, drop, Option, Some, None, refl, sym, ap, subst, ◌∙◌, arith}
use Rattle.std.specs.Prelude.{◌==◌, nat_lt}
use Rattle.std.specs.Int.{w32, from_be_bytes}
use Rattle.std.proofs.lemmas.Bool.Decides.{nat_tests}
use Rattle.std.proofs.lemmas.Bool.{ltb-false, le-ltb}
use Rattle.std.proofs.lemmas.List.{take-append-drop, length-take, length-append, take_at, drop_at}
use Rattle.std.proofs.lemmas.Option.{same_Some}
use Rattle.gtp_values.specs.declared.address.Ip.TheVariants as addresses
use Rattle.gtp_user.specs.Element.{Element, Recovery, TeidData, Peer, Types, Skipped, BeginsElement}
use Rattle.gtp_user.specs.reading.Elements.{split, split_body, recovery_at, teid_at, types_of, types_at, address_of, with_rest, peer_of, skipped_of, element_at}
use Rattle.gtp_values.proofs.Outcomes.{none_some}
use Rattle.gtp_values.proofs.Tests.{unequal}

-- what a test chose
if_some : {X : Type 0} (P : Type 0) (b : Bool) (r s : Option X) (x : X) → (b ≡ true → r ≡ Some x → P) → (b ≡ false → s ≡ Some x → P) → cond b r s ≡ Some x → P
if_some P true r s x then_p else_p h = then_p refl h
if_some P false r s x then_p else_p h = else_p refl h

abbrev pub found : Element → List ℕ → Element × List ℕ
found e rest = (e, rest)

-- what begins the octets, found under another name
as_found : (octets : List ℕ) (d e : Element) (after rest : List ℕ) → BeginsElement octets d after → Some (found d after) ≡ Some (found e rest) → BeginsElement octets e rest
as_found octets d e after rest b h = subst (λ (p : Element × List ℕ). BeginsElement octets p.0 p.1) (same_Some (found d after) (found e rest) h) b

-- two parts of octets
record AreParts (size : ℕ) (octets a b : List ℕ) : Type 0 where
  whole : octets ≡ a ++ b
  size_is : length a ≡ size

abbrev parts : List ℕ → List ℕ → List ℕ × List ℕ
parts a b = (a, b)

split_parts : (size : ℕ) (octets a b : List ℕ) → split size octets ≡ Some (parts a b) → AreParts size octets a b
split_parts size octets a b h =
    if_some (AreParts size octets a b) (ltb (length octets) size) None (Some (parts (take size octets) (drop size octets))) (parts a b) (λ t g. absurd (none_some (parts a b) g))
    (λ t g.
    let e = same_Some (parts (take size octets) (drop size octets)) (parts a b) g in
    let enough : size ≤ length octets = ltb-false _ _ t in
    subst (λ (p : List ℕ × List ℕ). AreParts size octets p.0 p.1) e (record { whole = sym (take-append-drop size octets); size_is = omega (arith, length-take size octets) })) h

parts_split : (size : ℕ) (a b : List ℕ) → length a ≡ size → split size (a ++ b) ≡ Some (parts a b)
parts_split size a b h =
    let enough : ltb (length (a ++ b)) size ≡ false = le-ltb _ _ (omega (arith, length-append a b)) in
    let front : take size (a ++ b) ≡ a = take_at a b size h in
    let back : drop size (a ++ b) ≡ b = drop_at a b size h in
    rw (enough, front, back) refl

-- the body after a length of two octets
record IsBody (octets a b : List ℕ) : Type 0 where
  high : ℕ
  low : ℕ
  whole : octets ≡ high ∷ low ∷ (a ++ b)
  size_is : length a ≡ 256 * high + low

body_parts : (octets a b : List ℕ) → split_body octets ≡ Some (parts a b) → IsBody octets a b
body_parts [] a b h = absurd (none_some (parts a b) h)
body_parts (high ∷ []) a b h = absurd (none_some (parts a b) h)
body_parts (high ∷ low ∷ tail) a b h =
    let p = split_parts (256 * high + low) tail a b h in
    record { high = high; low = low; whole = ap (λ (xs : List ℕ). high ∷ low ∷ xs) p.whole; size_is = p.size_is }

-- ---- each type

recovery_begins : (tail : List ℕ) (e : Element) (rest : List ℕ) → recovery_at tail ≡ Some (found e rest) → BeginsElement (14 ∷ tail) e rest
recovery_begins [] e rest h = absurd (none_some (found e rest) h)
recovery_begins (counter ∷ after) e rest h = as_found (14 ∷ counter ∷ after) Recovery e after rest (counter, refl) h

teid_begins : (tail : List ℕ) (e : Element) (rest : List ℕ) → teid_at tail ≡ Some (found e rest) → BeginsElement (16 ∷ tail) e rest
teid_begins [] e rest h = absurd (none_some (found e rest) h)
teid_begins (a ∷ []) e rest h = absurd (none_some (found e rest) h)
teid_begins (a ∷ b ∷ []) e rest h = absurd (none_some (found e rest) h)
teid_begins (a ∷ b ∷ c ∷ []) e rest h = absurd (none_some (found e rest) h)
teid_begins (a ∷ b ∷ c ∷ d ∷ after) e rest h =
    as_found (16 ∷ a ∷ b ∷ c ∷ d ∷ after) (TeidData (from_be_bytes w32 (a ∷ b ∷ c ∷ d ∷ []))) e after rest (a, b, c, d, refl, refl) h

types_begins_by : (size : ℕ) (tail : List ℕ) (o : Option (List ℕ × List ℕ)) → split size tail ≡ o → (e : Element) (rest : List ℕ) → types_of o ≡ Some (found e rest)
    → BeginsElement (141 ∷ size ∷ tail) e rest
types_begins_by size tail None s e rest h = absurd (none_some (found e rest) h)
types_begins_by size tail (Some p) s e rest h =
    let q = split_parts size tail p.0 p.1 s in
    as_found (141 ∷ size ∷ tail) (Types p.0) e p.1 rest (ap (λ (xs : List ℕ). 141 ∷ size ∷ xs) q.whole ∙ ap (λ (n : ℕ). 141 ∷ n ∷ (p.0 ++ p.1)) (sym q.size_is)) h

types_begins : (tail : List ℕ) (e : Element) (rest : List ℕ) → types_at tail ≡ Some (found e rest) → BeginsElement (141 ∷ tail) e rest
types_begins [] e rest h = absurd (none_some (found e rest) h)
types_begins (size ∷ tail) e rest h = types_begins_by size tail (split size tail) refl e rest h

skipped_begins_by : (kind : ℕ) (tail : List ℕ) → 128 ≤ kind → kind ≢ 133 → kind ≢ 141 → (o : Option (List ℕ × List ℕ)) → split_body tail ≡ o
    → (e : Element) (rest : List ℕ) → skipped_of o ≡ Some (found e rest) → BeginsElement (kind ∷ tail) e rest
skipped_begins_by kind tail le a b None s e rest h = absurd (none_some (found e rest) h)
skipped_begins_by kind tail le a b (Some p) s e rest h =
    let q = body_parts tail p.0 p.1 s in
    as_found (kind ∷ tail) Skipped e p.1 rest (kind, q.high, q.low, p.0, ap (λ (xs : List ℕ). kind ∷ xs) q.whole, q.size_is, le, a, b) h

-- a length in two octets is that of an address
spells_by : (tail address rest : List ℕ) (size : ℕ) → IsBody tail address rest → length address ≡ size → size < 256 → tail ≡ 0 ∷ size ∷ (address ++ rest)
spells_by tail address rest size q is lt =
    let high : q.high ≡ 0 = omega (arith, q.size_is) in
    let low : q.low ≡ size = omega (arith, q.size_is) in
    q.whole ∙ (ap (λ (n : ℕ). n ∷ q.low ∷ (address ++ rest)) high ∙ ap (λ (n : ℕ). 0 ∷ n ∷ (address ++ rest)) low)

peer_begins_by : (tail body rest : List ℕ) → IsBody tail body rest → (e : Element) (after : List ℕ) → with_rest rest (address_of body) ≡ Some (found e after) → BeginsElement (133 ∷ tail) e after
peer_begins_by tail body rest q e after h = by_four (length body == 4) refl h where
  by_sixteen : (b : Bool) → (length body == 16) ≡ b → with_rest rest (cond b (Some (addresses.V6 body)) None) ≡ Some (found e after) → BeginsElement (133 ∷ tail) e after
  by_sixteen false t g = absurd (none_some (found e after) g)
  by_sixteen true t g =
      let is : length body ≡ 16 = grind (arith, nat_tests) in
      as_found (133 ∷ tail) (Peer (addresses.V6 body)) e rest after (tail, refl, (spells_by tail body rest 16 q is (omega arith), is)) g

  by_four : (b : Bool) → (length body == 4) ≡ b
      → with_rest rest (cond b (Some (addresses.V4 body)) (cond (length body == 16) (Some (addresses.V6 body)) None)) ≡ Some (found e after)
      → BeginsElement (133 ∷ tail) e after
  by_four true t g =
      let is : length body ≡ 4 = grind (arith, nat_tests) in
      as_found (133 ∷ tail) (Peer (addresses.V4 body)) e rest after (tail, refl, (spells_by tail body rest 4 q is (omega arith), is)) g
  by_four false t g = by_sixteen (length body == 16) refl g

peer_begins : (tail : List ℕ) (o : Option (List ℕ × List ℕ)) → split_body tail ≡ o → (e : Element) (rest : List ℕ) → peer_of o ≡ Some (found e rest) → BeginsElement (133 ∷ tail) e rest
peer_begins tail None s e rest h = absurd (none_some (found e rest) h)
peer_begins tail (Some p) s e rest h = peer_begins_by tail p.0 p.1 (body_parts tail p.0 p.1 s) e rest h

-- ---- any type

abbrev Read : Type 0
Read = Option (Element × List ℕ)

-- the cases after the first ones
abbrev from_128 : ℕ → List ℕ → Read
from_128 kind tail = cond (nat_lt kind 128) None (skipped_of (split_body tail))

abbrev from_141 : ℕ → List ℕ → Read
from_141 kind tail = cond (kind == 141) (types_at tail) (from_128 kind tail)

abbrev from_133 : ℕ → List ℕ → Read
from_133 kind tail = cond (kind == 133) (peer_of (split_body tail)) (from_141 kind tail)

abbrev from_16 : ℕ → List ℕ → Read
from_16 kind tail = cond (kind == 16) (teid_at tail) (from_133 kind tail)

-- what is read of octets of a type begins them
of_type : (n kind : ℕ) (tail : List ℕ) (e : Element) (rest : List ℕ) → (kind == n) ≡ true → BeginsElement (n ∷ tail) e rest → BeginsElement (kind ∷ tail) e rest
of_type n kind tail e rest t b = let is : n ≡ kind = grind (arith, nat_tests) in subst (λ (k : ℕ). BeginsElement (k ∷ tail) e rest) is b

-- what is found at the front begins the octets
pub element_begins : (octets : List ℕ) (e : Element) (rest : List ℕ) → element_at octets ≡ Some (found e rest) → BeginsElement octets e rest
unfolding element_at
element_begins [] e rest h = absurd (none_some (found e rest) h)
element_begins (kind ∷ tail) e rest h =
    let here : Type 0 = BeginsElement (kind ∷ tail) e rest in
    let x = found e rest in
    if_some (BeginsElement (kind ∷ tail) e rest) (kind == 14) (recovery_at tail) (from_16 kind tail) x (λ t g. of_type 14 kind tail e rest t (recovery_begins tail e rest g)) (λ a g.
    if_some (BeginsElement (kind ∷ tail) e rest) (kind == 16) (teid_at tail) (from_133 kind tail) x (λ t g. of_type 16 kind tail e rest t (teid_begins tail e rest g)) (λ b g.
    if_some (BeginsElement (kind ∷ tail) e rest) (kind == 133) (peer_of (split_body tail)) (from_141 kind tail) x
    (λ t g. of_type 133 kind tail e rest t (peer_begins tail (split_body tail) refl e rest g)) (λ c g.
    if_some (BeginsElement (kind ∷ tail) e rest) (kind == 141) (types_at tail) (from_128 kind tail) x (λ t g. of_type 141 kind tail e rest t (types_begins tail e rest g)) (λ d g.
    if_some (BeginsElement (kind ∷ tail) e rest) (nat_lt kind 128) None (skipped_of (split_body tail)) x (λ t g. absurd (none_some x g)) (λ t g.
    skipped_begins_by kind tail (grind (arith, nat_tests)) (unequal kind 133 c) (unequal kind 141 d) (split_body tail) refl e rest g) g) g) g) g) h

-- and what begins the octets is found
pub begins_element : (octets : List ℕ) (e : Element) (rest : List ℕ) → BeginsElement octets e rest → element_at octets ≡ Some (found e rest)
unfolding element_at
begins_element octets Recovery rest b = ap element_at b.1
begins_element octets (TeidData teid) rest b = ap element_at b.4 ∙ ap (λ (t : ℕ). Some (found (TeidData t) rest)) (sym b.5)
begins_element octets (Peer (addresses.V4 address)) rest b =
    let same : (length address == 4) ≡ true = rw b.2.1 refl in
    ap element_at (b.1 ∙ ap (λ (xs : List ℕ). 133 ∷ xs) b.2.0) ∙ (ap (λ o. peer_of o) (parts_split 4 address rest b.2.1) ∙ rw same refl)
begins_element octets (Peer (addresses.V6 address)) rest b =
    let other : (length address == 4) ≡ false = rw b.2.1 refl in
    let same : (length address == 16) ≡ true = rw b.2.1 refl in
    ap element_at (b.1 ∙ ap (λ (xs : List ℕ). 133 ∷ xs) b.2.0) ∙ (ap (λ o. peer_of o) (parts_split 16 address rest b.2.1) ∙ rw (other, same) refl)
begins_element octets (Types types) rest b = ap element_at b ∙ ap (λ o. types_of o) (parts_split (length types) types rest refl)
begins_element octets Skipped rest (kind, high, low, body, encoding, size, le, a, b) =
    let t14 : (kind == 14) ≡ false = grind (arith, nat_tests) in
    let t16 : (kind == 16) ≡ false = grind (arith, nat_tests) in
    let t133 : (kind == 133) ≡ false = grind (arith, nat_tests) in
    let t141 : (kind == 141) ≡ false = grind (arith, nat_tests) in
    let t128 : nat_lt kind 128 ≡ false = grind (arith, nat_tests) in
    ap element_at encoding ∙ rw (t14, t16, t133, t141, t128, parts_split (256 * high + low) body rest size) refl

-- an element takes octets
pub begins_shorter : (octets : List ℕ) (e : Element) (rest : List ℕ) → BeginsElement octets e rest → length rest < length octets
begins_shorter octets Recovery rest b = omega (arith, ap length b.1)
begins_shorter octets (TeidData teid) rest b = omega (arith, ap length b.4)
begins_shorter octets (Peer (addresses.V4 address)) rest b = omega (arith, ap length b.1, ap length b.2.0, length-append address rest)
begins_shorter octets (Peer (addresses.V6 address)) rest b = omega (arith, ap length b.1, ap length b.2.0, length-append address rest)
begins_shorter octets (Types types) rest b = omega (arith, ap length b, length-append types rest)
begins_shorter octets Skipped rest (kind, high, low, body, encoding, size, le, a, b) = omega (arith, ap length encoding, length-append body rest)

pub element_shorter : (octets : List ℕ) (e : Element) (rest : List ℕ) → element_at octets ≡ Some (found e rest) → length rest < length octets
element_shorter octets e rest h = begins_shorter octets e rest (element_begins octets e rest h)
