-- A body that says the same as another one spells the same value, one type of element after the other.
use Rattle.std.proofs.Common.{◌≡◌, ℕ, zero, suc, ◌+◌, ◌-◌, ◌<◌, ◌≤◌, Bool, true, false, cond, ◌||◌, List, [], ◌∷◌, length, take, drop, get_or, Option, Some, None, refl, sym, ap, subst, ◌∙◌, arith}
use Rattle.std.specs.Prelude.{◌==◌, IsTrue, nat_lt}
use Rattle.std.proofs.Math.Seq.{take-length}
use Rattle.std.proofs.lemmas.Bool.Decides.{nat_tests}
use Rattle.std.proofs.lemmas.List.{length-take, length-take-le}
use Rattle.std.proofs.lemmas.Bool.{ltb-false, eqb-true}
use Rattle.byteorder.specs.Endian.{big_number}
use Rattle.gtp_values.specs.declared.cause.Cause.{Cause}
use Rattle.gtp_values.specs.declared.cause.Offending.{Offending}
use Rattle.gtp_values.specs.declared.qos.Qos.{Qos}
use Rattle.gtp_values.specs.declared.paa.Paa.{Paa}
use Rattle.gtp_values.specs.declared.paa.Paa.TheVariants as paas
use Rattle.gtp_values.specs.Plmn.{IsNetwork}
use Rattle.gtp_values.specs.TunnelEnd.{TunnelEnd}
use Rattle.gtp_values.proofs.Same.{end_with, cause_with, offending_with, ambr_with}
use Rattle.gtp_ie.proofs.Again.{same_cause}
use Rattle.gtp_ie.specs.Layout.{octet, bits, is_set}
use Rattle.gtp_ie.specs.Free.{SaysTheSame, SpellsFreely, counted_by, counted_from, spare_lines}
use Rattle.gtp_ie.specs.Value.{Value, OfRecovery, OfEbi, OfRat, OfChargingId, OfPdnType, OfPti, OfSelection, OfAmbr, OfPlmn, OfFTeid, OfCause, OfPaa}
use Rattle.gtp_ie.specs.Value.{OfQos, least, least_paa, pdn_type_in, qos_in, room, network_in, fteid_in, has_v4, has_v6, encoding_of}
use Rattle.gtp_ie.specs.declared.form.Form.{Form}
use Rattle.gtp_ie.specs.declared.form.Form.TheVariants as forms
use Rattle.gtp_ie.specs.Form.{number_of, form_among, form_of}
use Rattle.gtp_ie.specs.Form.{forms as all_forms}
use Rattle.std.proofs.lemmas.Option.{same_Some}
use Rattle.gtp_ie.specs.Spelling.{Spells, SaysBy, Says}
use Rattle.gtp_ie.proofs.Free.{CountWhole, whole_from, get_same, part_same, number_same, long_same}

-- what a type of element has to meet
abbrev pub IsFree : ℕ → Type 0
IsFree kind = (body other : List ℕ) (v : Value) → SaysTheSame kind body other → Spells kind body v → Spells kind other v

-- ---- the whole body

all_same : (kind : ℕ) → CountWhole kind 5 → (body other : List ℕ) → counted_from kind 5 (take (length body) body) ≡ counted_from kind 5 (take (length other) other) → body ≡ other
all_same kind whole body other e = sym (take-length body) ∙ (whole_from kind 5 whole 5 (omega arith) (take (length body) body) (take (length other) other) e ∙ take-length other)

pub imsi_free : IsFree 1
imsi_free body other v s spells = subst (λ (b : List ℕ). Spells (number_of forms.Imsi) b v) (all_same (number_of forms.Imsi) (λ m o h. refl) body other s.same) spells

pub apn_free : IsFree 71
apn_free body other v s spells = subst (λ (b : List ℕ). Spells (number_of forms.Apn) b v) (all_same (number_of forms.Apn) (λ m o h. refl) body other s.same) spells

pub tft_free : IsFree 84
tft_free body other v s spells = subst (λ (b : List ℕ). Spells (number_of forms.Tft) b v) (all_same (number_of forms.Tft) (λ m o h. refl) body other s.same) spells

-- ---- forms of so many octets with no spare bits

front_same : (kind n m : ℕ) → CountWhole kind 5 → (body other : List ℕ) → counted_from kind 5 (take n body) ≡ counted_from kind 5 (take m other) → take n body ≡ take m other
front_same kind n m whole body other e = whole_from kind 5 whole 5 (omega arith) (take n body) (take m other) e

pub recovery_free : IsFree 3
unfolding Says
recovery_free body other v s spells =
    let same : take 1 body ≡ take 1 other = front_same 3 1 1 (λ m o h. refl) body other s.same in
    record { long_enough = long_same 1 body other spells.long_enough same; says = spells.says ∙ ap OfRecovery (get_same 1 0 body other (omega arith) same) }

pub rat_free : IsFree 82
unfolding Says
rat_free body other v s spells =
    let same : take 1 body ≡ take 1 other = front_same 82 1 1 (λ m o h. refl) body other s.same in
    record { long_enough = long_same 1 body other spells.long_enough same; says = spells.says ∙ ap OfRat (get_same 1 0 body other (omega arith) same) }

pub pti_free : IsFree 100
unfolding Says
pti_free body other v s spells =
    let same : take 1 body ≡ take 1 other = front_same 100 1 1 (λ m o h. refl) body other s.same in
    record { long_enough = long_same 1 body other spells.long_enough same; says = spells.says ∙ ap OfPti (get_same 1 0 body other (omega arith) same) }

pub charging_id_free : IsFree 94
unfolding Says
charging_id_free body other v s spells =
    let same : take 4 body ≡ take 4 other = front_same 94 4 4 (λ m o h. refl) body other s.same in
    record { long_enough = long_same 4 body other spells.long_enough same; says = spells.says ∙ ap OfChargingId (number_same 0 4 4 body other (omega arith) same) }

pub ambr_free : IsFree 72
unfolding Says
ambr_free body other v s spells =
    let same : take 8 body ≡ take 8 other = front_same 72 8 8 (λ m o h. refl) body other s.same in
    let up : big_number 4 (drop 0 body) ≡ big_number 4 (drop 0 other) = number_same 0 4 8 body other (omega arith) same in
    let down : big_number 4 (drop 4 body) ≡ big_number 4 (drop 4 other) = number_same 4 4 8 body other (omega arith) same in
    record {
      long_enough = long_same 8 body other spells.long_enough same;
      says = spells.says ∙ ap OfAmbr (ap (λ (n : ℕ). ambr_with n (big_number 4 (drop 4 body))) up ∙ ap (ambr_with (big_number 4 (drop 0 other))) down);
    }

pub plmn_free : IsFree 83
unfolding Says
plmn_free body other v s spells =
    let same : take 3 body ≡ take 3 other = front_same 83 3 3 (λ m o h. refl) body other s.same in
    let a : get_or body 0 0 ≡ get_or other 0 0 = get_same 3 0 body other (omega arith) same in
    let b : get_or body 1 0 ≡ get_or other 1 0 = get_same 3 1 body other (omega arith) same in
    let c : get_or body 2 0 ≡ get_or other 2 0 = get_same 3 2 body other (omega arith) same in
    let networks : network_in body ≡ network_in other = rw (a, b, c) refl in
    record { long_enough = long_same 3 body other spells.long_enough same; says = (subst IsNetwork networks spells.says.0, spells.says.1 ∙ ap OfPlmn networks) }

-- ---- forms whose first octet has spare bits, or says how long they are

record Heads (kind n m : ℕ) (body other : List ℕ) : Type 0 where
  pub some : 1 ≤ length other
  pub first : counted_by spare_lines kind 5 (get_or body 0 0) ≡ counted_by spare_lines kind 5 (get_or other 0 0)
  pub others : counted_from kind 6 (take (n - 1) (drop 1 body)) ≡ counted_from kind 6 (take (m - 1) (drop 1 other))

same_head : (x y : List ℕ) (xs ys : List (List ℕ)) → (x ∷ xs) ≡ (y ∷ ys) → x ≡ y
same_head x y xs ys e = cc

same_tail : (x y : List ℕ) (xs ys : List (List ℕ)) → (x ∷ xs) ≡ (y ∷ ys) → xs ≡ ys
same_tail x y xs ys e = cc

one_less : (n : ℕ) → suc n - 1 ≡ n
one_less n = omega arith

heads : (kind n m : ℕ) (body other : List ℕ) → 1 ≤ n → 1 ≤ m → 1 ≤ length body → counted_from kind 5 (take n body) ≡ counted_from kind 5 (take m other) → Heads kind n m body other
heads kind zero m body other p q r e = absurd (omega arith)
heads kind (suc n) zero body other p q r e = absurd (omega arith)
heads kind (suc n) (suc m) [] other p q r e = absurd (omega arith)
heads kind (suc n) (suc m) (x ∷ xs) [] p q r e = absurd cc
heads kind (suc n) (suc m) (x ∷ xs) (y ∷ ys) p q r e = record { some = omega arith; first = same_head _ _ _ _ e; others = rw (one_less n, one_less m) (same_tail _ _ _ _ e) }

pub ebi_free : IsFree 73
unfolding Says
ebi_free body other v s spells =
    let h = heads 73 1 1 body other (omega arith) (omega arith) spells.long_enough s.same in
    let first = h.first in
    let same : bits 4 1 (get_or body 0 0) ≡ bits 4 1 (get_or other 0 0) = cc in
    record { long_enough = h.some; says = spells.says ∙ ap OfEbi same }

pub pdn_type_free : IsFree 99
unfolding Says
pdn_type_free body other v s spells =
    let h = heads 99 1 1 body other (omega arith) (omega arith) spells.long_enough s.same in
    let first = h.first in
    let same : bits 3 1 (get_or body 0 0) ≡ bits 3 1 (get_or other 0 0) = cc in
    record { long_enough = h.some; says = spells.says ∙ ap OfPdnType same }

pub selection_free : IsFree 128
unfolding Says
selection_free body other v s spells =
    let h = heads 128 1 1 body other (omega arith) (omega arith) spells.long_enough s.same in
    let first = h.first in
    let same : bits 2 1 (get_or body 0 0) ≡ bits 2 1 (get_or other 0 0) = cc in
    record { long_enough = h.some; says = spells.says ∙ ap OfSelection same }

-- ---- quality of service

qos_whole : CountWhole 80 6
qos_whole m octet far = let other : (5 == m) ≡ false = grind (arith, nat_tests) in rw other refl

abbrev qos_with : Bool → ℕ → Bool → ℕ → ℕ → ℕ → ℕ → ℕ → Qos
qos_with c pl v qci a b d e = record { pci = c; pl = pl; pvi = v; qci = qci; mbr = record { up = a; down = b }; gbr = record { up = d; down = e } }

same_qos : {c c' v v' : Bool} {pl pl' qci qci' a a' b b' d d' e e' : ℕ} → c ≡ c' → pl ≡ pl' → v ≡ v' → qci ≡ qci' → a ≡ a' → b ≡ b' → d ≡ d' → e ≡ e'
    → qos_with c pl v qci a b d e ≡ qos_with c' pl' v' qci' a' b' d' e'
same_qos p q r s t u w z = cc

qos_parts : (x y : ℕ) (xs ys : List ℕ) → counted_by spare_lines 80 5 x ≡ counted_by spare_lines 80 5 y → take 21 xs ≡ take 21 ys → qos_in (x ∷ xs) ≡ qos_in (y ∷ ys)
qos_parts x y xs ys first same =
    let high : bits 7 3 x ≡ bits 7 3 y = cc in
    let low : bits 1 1 x ≡ bits 1 1 y = cc in
    let pci : bits 7 7 x ≡ bits 7 7 y = omega arith in
    let pl : bits 6 3 x ≡ bits 6 3 y = omega arith in
    same_qos (ap (λ (n : ℕ). n == 1) pci) pl (ap (λ (n : ℕ). n == 1) low) (get_same 21 0 xs ys (omega arith) same)
    (number_same 1 5 21 xs ys (omega arith) same) (number_same 6 5 21 xs ys (omega arith) same) (number_same 11 5 21 xs ys (omega arith) same) (number_same 16 5 21 xs ys (omega arith) same)

pub qos_free : IsFree 80
unfolding Says
qos_free [] other v s spells = absurd (omega (arith, spells.long_enough))
qos_free (x ∷ xs) [] v s spells = absurd (omega (arith, (heads 80 22 22 (x ∷ xs) [] (omega arith) (omega arith) (omega arith) s.same).some))
qos_free (x ∷ xs) (y ∷ ys) v s spells =
    let h = heads 80 22 22 (x ∷ xs) (y ∷ ys) (omega arith) (omega arith) (omega arith) s.same in
    let same : take 21 xs ≡ take 21 ys = whole_from 80 6 qos_whole 6 (omega arith) (take 21 xs) (take 21 ys) h.others in
    let long : 21 ≤ length xs = omega (arith, spells.long_enough) in
    let more : 21 ≤ length ys = long_same 21 xs ys long same in
    record { long_enough = omega (arith, more); says = spells.says ∙ ap OfQos (qos_parts x y xs ys h.first same) }

-- ---- addresses of subscribers

paa_whole : CountWhole 79 6
paa_whole m octet far = let other : (5 == m) ≡ false = grind (arith, nat_tests) in rw other refl

some_paa : (pdn : ℕ) → 1 ≤ least_paa pdn
some_paa pdn = by_tests (pdn == 1) (pdn == 2) (pdn == 3) where
  by_tests : (a b c : Bool) → 1 ≤ cond a 5 (cond b 18 (cond c 22 1))
  by_tests true b c = omega arith
  by_tests false true c = omega arith
  by_tests false false true = omega arith
  by_tests false false false = omega arith

abbrev paa_with : Bool → Bool → Bool → ℕ → List ℕ → Paa
paa_with a b c pdn xs =
    cond a (paas.V4 (take 4 xs)) (cond b (paas.V6 (get_or xs 0 0) (take 16 (drop 1 xs))) (cond c (paas.V4V6 (get_or xs 0 0) (take 16 (drop 1 xs)) (take 4 (drop 17 xs))) (paas.Other pdn)))

abbrev paa_room : Bool → Bool → Bool → ℕ
paa_room a b c = cond a 5 (cond b 18 (cond c 22 1))

same_v6 : {p q : ℕ} {a b : List ℕ} → p ≡ q → a ≡ b → paas.V6 p a ≡ paas.V6 q b
same_v6 e f = cc

same_both : {p q : ℕ} {a b c d : List ℕ} → p ≡ q → a ≡ b → c ≡ d → paas.V4V6 p a c ≡ paas.V4V6 q b d
same_both e f g = cc

paa_parts : (a b c : Bool) (pdn : ℕ) (xs ys : List ℕ) → take (paa_room a b c - 1) xs ≡ take (paa_room a b c - 1) ys → paa_with a b c pdn xs ≡ paa_with a b c pdn ys
paa_parts true b c pdn xs ys e = ap (λ (v4 : List ℕ). paas.V4 v4) e
paa_parts false true c pdn xs ys e = same_v6 (get_same 17 0 xs ys (omega arith) e) (part_same 1 17 16 xs ys (omega arith) e)
paa_parts false false true pdn xs ys e = same_both (get_same 21 0 xs ys (omega arith) e) (part_same 1 21 16 xs ys (omega arith) e) (part_same 17 21 4 xs ys (omega arith) e)
paa_parts false false false pdn xs ys e = refl

abbrev paa_of : ℕ → List ℕ → Paa
paa_of pdn xs = paa_with (pdn == 1) (pdn == 2) (pdn == 3) pdn xs

pub paa_free : IsFree 79
unfolding Says
paa_free [] other v s spells = absurd (omega (arith, spells.long_enough))
paa_free (x ∷ xs) [] v s spells =
    absurd (omega (
      arith,
      (heads 79 (least_paa (bits 3 1 x)) (least_paa (pdn_type_in [])) (x ∷ xs) [] (some_paa (bits 3 1 x)) (some_paa (pdn_type_in [])) (omega arith)
          s.same).some,
    ))
paa_free (x ∷ xs) (y ∷ ys) v s spells =
    let p : ℕ = bits 3 1 x in
    let q : ℕ = bits 3 1 y in
    let h = heads 79 (least_paa p) (least_paa q) (x ∷ xs) (y ∷ ys) (some_paa p) (some_paa q) (omega arith) s.same in
    let first = h.first in
    let pdn : bits 3 1 x ≡ bits 3 1 y = cc in
    let tails : take (least_paa p - 1) xs ≡ take (least_paa q - 1) ys = whole_from 79 6 paa_whole 6 (omega arith) (take (least_paa p - 1) xs) (take (least_paa q - 1) ys) h.others in
    let same : take (least_paa p - 1) xs ≡ take (least_paa p - 1) ys = subst (λ (n : ℕ). take (least_paa p - 1) xs ≡ take (least_paa n - 1) ys) (sym pdn) tails in
    let long : least_paa p - 1 ≤ length xs = omega (arith, spells.long_enough) in
    let more : least_paa p - 1 ≤ length ys = long_same (least_paa p - 1) xs ys long same in
    let enough : least_paa p ≤ length (y ∷ ys) = omega (arith, more) in
    record {
      long_enough = subst (λ (n : ℕ). least_paa n ≤ length (y ∷ ys)) pdn enough;
      says = spells.says ∙ ap OfPaa (paa_parts (p == 1) (p == 2) (p == 3) p xs ys same ∙ ap (λ (n : ℕ). paa_of n ys) pdn);
    }

-- ---- tunnel ends

abbrev end_room : Bool → Bool → ℕ
end_room a b = 5 + room a 4 + room b 16

same_end : {i j t u : ℕ} {a b c d : Option (List ℕ)} → i ≡ j → t ≡ u → a ≡ b → c ≡ d → end_with i t a c ≡ end_with j u b d
same_end e f g h = cc

abbrev v4_in : Bool → List ℕ → Option (List ℕ)
v4_in a body = cond a (Some (take 4 (drop 5 body))) None

abbrev v6_in : Bool → Bool → List ℕ → Option (List ℕ)
v6_in a b body = cond b (Some (take 16 (drop (10 + room a 4 - 5) body))) None

v4_same : (a b : Bool) (body other : List ℕ) → take (end_room a b) body ≡ take (end_room a b) other → v4_in a body ≡ v4_in a other
v4_same true true body other e = ap (λ (v4 : List ℕ). Some v4) (part_same 5 25 4 body other (omega arith) e)
v4_same true false body other e = ap (λ (v4 : List ℕ). Some v4) (part_same 5 9 4 body other (omega arith) e)
v4_same false b body other e = refl

v6_same : (a b : Bool) (body other : List ℕ) → take (end_room a b) body ≡ take (end_room a b) other → v6_in a b body ≡ v6_in a b other
v6_same true true body other e = ap (λ (v6 : List ℕ). Some v6) (part_same 9 25 16 body other (omega arith) e)
v6_same false true body other e = ap (λ (v6 : List ℕ). Some v6) (part_same 5 21 16 body other (omega arith) e)
v6_same a false body other e = refl

one_room : (a b c d : Bool) (body other : List ℕ) → a ≡ c → b ≡ d → take (end_room a b) body ≡ take (end_room c d) other → take (end_room a b) body ≡ take (end_room a b) other
one_room a b c d body other p q e =
    subst (λ (z : Bool). take (end_room a b) body ≡ take (end_room a z) other) (sym q) (subst (λ (z : Bool). take (end_room a b) body ≡ take (end_room z d) other) (sym p) e)

room_as : (a b c d : Bool) (n : ℕ) → a ≡ c → b ≡ d → end_room a b ≤ n → end_room c d ≤ n
room_as a b c d n p q h = subst (λ (z : Bool). end_room c z ≤ n) q (subst (λ (z : Bool). end_room z b ≤ n) p h)

abbrev end_of : Bool → Bool → List ℕ → TunnelEnd
end_of a b body = end_with (bits 6 1 (get_or body 0 0)) (big_number 4 (drop 1 body)) (v4_in a body) (v6_in a b body)

end_same : (a b : Bool) (body other : List ℕ) → take (end_room a b) body ≡ take (end_room a b) other → end_of a b body ≡ end_of a b other
end_same a b body other e =
    same_end (ap (λ (n : ℕ). bits 6 1 n) (get_same (end_room a b) 0 body other (omega arith) e))
    (number_same 1 4 (end_room a b) body other (omega arith) e) (v4_same a b body other e) (v6_same a b body other e)

end_as : (a b c d : Bool) (other : List ℕ) → a ≡ c → b ≡ d → end_of a b other ≡ end_of c d other
end_as a b c d other p q = ap (λ (z : Bool). end_of z b other) p ∙ ap (λ (z : Bool). end_of c z other) q

pub fteid_free : IsFree 87
unfolding Says
fteid_free body other v s spells =
    let enough : end_room (has_v4 body) (has_v6 body) ≤ length body = spells.long_enough in
    let h = heads 87 (end_room (has_v4 body) (has_v6 body)) (end_room (has_v4 other) (has_v6 other)) body other (omega arith) (omega arith) (omega (arith, enough)) s.same in
    let head = h.first in
    let first : get_or body 0 0 ≡ get_or other 0 0 = cc in
    let v4 : has_v4 body ≡ has_v4 other = ap (λ (n : ℕ). is_set 8 n) first in
    let v6 : has_v6 body ≡ has_v6 other = ap (λ (n : ℕ). is_set 7 n) first in
    let prefixes : take (end_room (has_v4 body) (has_v6 body)) body ≡ take (end_room (has_v4 other) (has_v6 other)) other =
    front_same 87 (end_room (has_v4 body) (has_v6 body)) (end_room (has_v4 other) (has_v6 other)) (λ m o h. refl) body other s.same in
    let same : take (end_room (has_v4 body) (has_v6 body)) body ≡ take (end_room (has_v4 body) (has_v6 body)) other =
    one_room (has_v4 body) (has_v6 body) (has_v4 other) (has_v6 other) body other v4 v6 prefixes in
    let some : IsTrue (has_v4 other || has_v6 other) = subst (λ (n : ℕ). IsTrue (is_set 8 n || is_set 7 n)) first spells.says.0 in
    let long : end_room (has_v4 body) (has_v6 body) ≤ length other = long_same (end_room (has_v4 body) (has_v6 body)) body other enough same in
    let ends : fteid_in body ≡ fteid_in other = end_same (has_v4 body) (has_v6 body) body other same ∙ end_as (has_v4 body) (has_v6 body) (has_v4 other) (has_v6 other) other v4 v6 in
    record {
      long_enough = room_as (has_v4 body) (has_v6 body) (has_v4 other) (has_v6 other) (length other) v4 v6 long;
      says = (some, spells.says.1 ∙ ap OfFTeid ends);
    }

-- ---- causes

-- one octet in two fronts
record At (kind n i : ℕ) (xs ys : List ℕ) : Type 0 where
  pub there : i < length ys
  pub octet : counted_by spare_lines kind n (get_or xs i 0) ≡ counted_by spare_lines kind n (get_or ys i 0)

at : (kind i k n m : ℕ) (xs ys : List ℕ) → i < n → i < m → i < length xs → counted_from kind k (take n xs) ≡ counted_from kind k (take m ys) → At kind (k + i) i xs ys
at kind i k zero m xs ys p q r e = absurd (omega arith)
at kind i k (suc n) zero xs ys p q r e = absurd (omega arith)
at kind i k (suc n) (suc m) [] ys p q r e = absurd (omega arith)
at kind i k (suc n) (suc m) (x ∷ xs) [] p q r e = absurd cc
at kind zero k (suc n) (suc m) (x ∷ xs) (y ∷ ys) p q r e =
    let here : k ≡ k + 0 = omega arith in
    record { there = omega arith; octet = subst (λ (j : ℕ). counted_by spare_lines kind j x ≡ counted_by spare_lines kind j y) here (same_head _ _ _ _ e) }
at kind (suc i) k (suc n) (suc m) (x ∷ xs) (y ∷ ys) p q r e =
    let others = at kind i (k + 1) n m xs ys (omega arith) (omega arith) (omega arith) (same_tail _ _ _ _ e) in
    let there = others.there in
    let next : (k + 1) + i ≡ k + suc i = omega arith in
    record { there = omega arith; octet = subst (λ (j : ℕ). counted_by spare_lines kind j (get_or xs i 0) ≡ counted_by spare_lines kind j (get_or ys i 0)) next others.octet }

length_counted : (kind k : ℕ) (xs : List ℕ) → length (counted_from kind k xs) ≡ length xs
length_counted kind k [] = refl
length_counted kind k (x ∷ xs) = ap (λ (n : ℕ). suc n) (length_counted kind (k + 1) xs)

abbrev cause_room : Bool → ℕ
cause_room b = cond b 2 6

same_lengths : (kind k n m : ℕ) (xs ys : List ℕ) → counted_from kind k (take n xs) ≡ counted_from kind k (take m ys) → length (take n xs) ≡ length (take m ys)
same_lengths kind k n m xs ys e = sym (length_counted kind k (take n xs)) ∙ (ap (λ (l : List (List ℕ)). length l) e ∙ length_counted kind k (take m ys))

same_offending : {m n i j : ℕ} → m ≡ n → i ≡ j → offending_with m i ≡ offending_with n j
same_offending e f = cc

-- a cause, by whether its form is short
abbrev offending_by : Bool → List ℕ → Option Offending
offending_by short body = cond short None (Some (offending_with (get_or body 2 0) (bits 4 1 (get_or body 5 0))))

abbrev cause_by : Bool → List ℕ → Cause
cause_by short body = cause_with (get_or body 0 0) (is_set 3 (get_or body 1 0)) (is_set 2 (get_or body 1 0)) (is_set 1 (get_or body 1 0)) (offending_by short body)

two_same : (n : ℕ) (o u : Option Offending) (body other : List ℕ) → 2 ≤ n → 2 ≤ length body
    → counted_from 2 5 (take n body) ≡ counted_from 2 5 (take n other) → o ≡ u
    → (2 ≤ length other) × (cause_with (get_or body 0 0) (is_set 3 (get_or body 1 0)) (is_set 2 (get_or body 1 0)) (is_set 1 (get_or body 1 0)) o
    ≡ cause_with (get_or other 0 0) (is_set 3 (get_or other 1 0)) (is_set 2 (get_or other 1 0)) (is_set 1 (get_or other 1 0)) u)
two_same n o u body other least long e f =
    let value = at 2 0 5 n n body other (omega arith) (omega arith) (omega arith) e in
    let flags = at 2 1 5 n n body other (omega arith) (omega arith) (omega arith) e in
    let value_octet = value.octet in
    let flags_octet = flags.octet in
    let same : get_or body 0 0 ≡ get_or other 0 0 = cc value_octet in
    let runs : bits 3 1 (get_or body 1 0) ≡ bits 3 1 (get_or other 1 0) = cc flags_octet in
    let pce : bits 3 3 (get_or body 1 0) ≡ bits 3 3 (get_or other 1 0) = omega (arith, runs) in
    let bce : bits 2 2 (get_or body 1 0) ≡ bits 2 2 (get_or other 1 0) = omega (arith, runs) in
    let cs : bits 1 1 (get_or body 1 0) ≡ bits 1 1 (get_or other 1 0) = omega (arith, runs) in
    (flags.there, same_cause same (ap (λ (n : ℕ). n == 1) pce) (ap (λ (n : ℕ). n == 1) bce) (ap (λ (n : ℕ). n == 1) cs) f)

offending_same : (body other : List ℕ) → 6 ≤ length body → counted_from 2 5 (take 6 body) ≡ counted_from 2 5 (take 6 other) → offending_by false body ≡ offending_by false other
offending_same body other long e =
    let kind = at 2 2 5 6 6 body other (omega arith) (omega arith) (omega arith) e in
    let instance = at 2 5 5 6 6 body other (omega arith) (omega arith) (omega arith) e in
    let kind_octet = kind.octet in
    let instance_octet = instance.octet in
    let first : get_or body 2 0 ≡ get_or other 2 0 = cc kind_octet in
    let second : bits 4 1 (get_or body 5 0) ≡ bits 4 1 (get_or other 5 0) = cc instance_octet in
    ap (λ (o : Offending). Some o) (same_offending first second)

cause_parts : (a b : Bool) (body other : List ℕ) (v : Value) → nat_lt (length body) 6 ≡ a → nat_lt (length other) 6 ≡ b → 2 ≤ length body
    → counted_from 2 5 (take (cause_room a) body) ≡ counted_from 2 5 (take (cause_room b) other) → v ≡ OfCause (cause_by a body)
    → (2 ≤ length other) × (v ≡ OfCause (cause_by b other))
cause_parts true true body other v s t long e says = let both = two_same 2 None None body other (omega arith) long e refl in (both.0, says ∙ ap OfCause both.1)
cause_parts false false body other v s t long e says =
    let whole = ltb-false _ _ s in
    let both = two_same 6 (offending_by false body) (offending_by false other) body other (omega arith) long e (offending_same body other whole e) in
    (both.0, says ∙ ap OfCause both.1)
cause_parts true false body other v s t long e says =
    let lengths = same_lengths 2 5 2 6 body other e in
    let few = length-take 2 body in
    let whole = ltb-false _ _ t in
    let six = length-take-le 6 other whole in
    absurd (omega (arith, lengths, few, six))
cause_parts false true body other v s t long e says =
    let lengths = same_lengths 2 5 6 2 body other e in
    let few = length-take 2 other in
    let whole = ltb-false _ _ s in
    let six = length-take-le 6 body whole in
    absurd (omega (arith, lengths, few, six))

pub cause_free : IsFree 2
unfolding Says
cause_free body other v s spells =
    let both = cause_parts (nat_lt (length body) 6) (nat_lt (length other) 6) body other v refl refl spells.long_enough s.same spells.says in
    record { long_enough = both.0; says = both.1 }

-- ---- any type

-- a form that is found has the number that was looked for
form_number : (fs : List Form) (kind : ℕ) (form : Form) → form_among fs kind ≡ Some form → kind ≡ number_of form
form_number [] kind form is = absurd cc
form_number (f ∷ fs) kind form is = by_test (kind == number_of f) refl (λ found. form_number fs kind form found) is where
  by_test : (b : Bool) → (kind == number_of f) ≡ b → (form_among fs kind ≡ Some form → kind ≡ number_of form) → cond b (Some f) (form_among fs kind) ≡ Some form → kind ≡ number_of form
  by_test true t others found = eqb-true kind (number_of f) t ∙ ap number_of (same_Some f form found)
  by_test false t others found = others found

pub found_number : (kind : ℕ) (form : Form) → form_of kind ≡ Some form → kind ≡ number_of form
found_number kind form is = form_number all_forms kind form is

-- a body that says the same spells the same value, by its form
form_free : (form : Form) → IsFree (number_of form)
form_free forms.Imsi = imsi_free
form_free forms.Cause = cause_free
form_free forms.Recovery = recovery_free
form_free forms.Apn = apn_free
form_free forms.Ambr = ambr_free
form_free forms.Ebi = ebi_free
form_free forms.Paa = paa_free
form_free forms.Qos = qos_free
form_free forms.Rat = rat_free
form_free forms.Plmn = plmn_free
form_free forms.Tft = tft_free
form_free forms.FTeid = fteid_free
form_free forms.ChargingId = charging_id_free
form_free forms.PdnType = pdn_type_free
form_free forms.Pti = pti_free
form_free forms.Selection = selection_free

-- and of a type without a form none spells one
none_free : (kind : ℕ) → form_of kind ≡ None → IsFree kind
unfolding Says
none_free kind none body other v s spells = absurd (subst (λ (o : Option Form). SaysBy o body v) none spells.says)

pub free : (kind : ℕ) (body other : List ℕ) (v : Value) → SaysTheSame kind body other → Spells kind body v → Spells kind other v
free kind = by_form (form_of kind) refl where
  by_form : (o : Option Form) → form_of kind ≡ o → IsFree kind
  by_form None is = none_free kind is
  by_form (Some form) is = subst IsFree (sym (found_number kind form is)) (form_free form)

-- so it is enough that the text of the value does
pub encoding_free : (kind : ℕ) (v : Value) → Spells kind (encoding_of v) v → SpellsFreely kind v
encoding_free kind v again = record { free = λ body s. free kind (encoding_of v) body v s again }
