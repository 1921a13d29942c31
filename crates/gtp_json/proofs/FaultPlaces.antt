-- Where the message at fault begins.
use Rattle.std.proofs.Common.{◌≡◌, ◌↔◌, ◌+◌, ◌*◌, ◌<◌, ◌≤◌, ℕ, suc, Bool, true, false, IsTrue, get_or, List, [], ◌∷◌, ◌++◌, length, take, drop}
use Rattle.std.proofs.Common.{Option, Some, None, refl, sym, ap, subst, ◌∙◌, inl, inr, append_assoc, arith}
use Rattle.std.specs.Bool.{then_some}
use Rattle.std.proofs.lemmas.List.{append-nil, take_at, drop_at, take-append-drop, length-take-le}
use Rattle.gtp_v2.specs.declared.fault.RowFault.{RowFault}
use Rattle.gtp_v2.specs.declared.fault.RowFault.TheVariants as row_faults
use Rattle.gtp_v2.specs.declared.fault.Head.{Head}
use Rattle.gtp_v2.specs.declared.fault.V2Fault.{V2Fault}
use Rattle.gtp_v2.specs.declared.fault.V2Fault.TheVariants as faults
use Rattle.gtp_v2.specs.Table.{Table}
use Rattle.gtp_v2.specs.Tables.{table_of}
use Rattle.gtp_v2.specs.Headed.{Headed}
use Rattle.gtp_v2.specs.Message.{with_head}
use Rattle.gtp_v2.specs.Datagram.{FailsBy, IsFault}
use Rattle.gtp_v2.specs.Pair.{Announces, IsDatagramFault, moved}
use Rattle.gtp_json.specs.Places.{IsSecondAt, BeginsFault, LiesAt}
use Rattle.gtp_json.specs.reading.Second.{IsSecondPlace}

-- ---- a fault of one message that another is announced is at its first octet

no_row : (head : Head) (g : RowFault) (n : ℕ) → faults.BadPiggyback n ≡ with_head head g → ⊥
no_row head (row_faults.Missing kind instance conditional group) n h = absurd cc
no_row head (row_faults.Element fault) n h = absurd cc

not_carried : (table : Option Table) (h : Headed) (n : ℕ) → FailsBy table h (faults.BadPiggyback n) → ⊥
not_carried None h n p = p
not_carried (Some table) h n (inl (form, is)) = absurd cc
not_carried (Some table) h n (inr (form, inl (place, cut, is))) = absurd cc
not_carried (Some table) h n (inr (form, inr (es, are, (g, fails, (sender, told, is))))) = no_row _ g n is

at_first : (octets : List ℕ) (n : ℕ) → IsFault octets (faults.BadPiggyback n) → n ≡ 0
at_first octets n (inl (inl (few, is))) = absurd cc
at_first octets n (inl (inr (first, kind, high, low, following, opens, inl (version, is)))) = absurd cc
at_first octets n (inl (inr (first, kind, high, low, following, opens, inr (inl (flags, small, announces, is))))) = cc
at_first octets n (inl (inr (first, kind, high, low, following, opens, inr (inr (inl (flags, small, plain, long, is)))))) = absurd cc
at_first octets n (inl (inr (first, kind, high, low, following, opens, inr (inr (inr (inl (flags, small, plain, long, few, is))))))) = absurd cc
at_first octets n (inl (inr (first, kind, high, low, following, opens, inr (inr (inr (inr (flags, small, plain, long, few, is))))))) = absurd cc
at_first octets n (inr (h, headed, fails)) = absurd (not_carried (table_of h.kind) h n fails)

-- the same of a second message, its place counted from so many octets earlier
at_second : (place n : ℕ) (g : V2Fault) (back : List ℕ) → IsFault back g → faults.BadPiggyback n ≡ moved place g → n ≡ place
at_second place n (faults.BadPiggyback k) back fails is =
    let zero_is : k ≡ 0 = at_first back k fails in
    let n_is : n ≡ place + k = cc in
    omega (arith, zero_is, n_is)
at_second place n (faults.Short held) back fails is = absurd cc
at_second place n (faults.Version version) back fails is = absurd cc
at_second place n (faults.Length stated held) back fails is = absurd cc
at_second place n (faults.FlagT kind) back fails is = absurd cc
at_second place n (faults.Missing kind instance conditional None head) back fails is = absurd cc
at_second place n (faults.Missing kind instance conditional (Some at) head) back fails is = absurd cc
at_second place n (faults.Element fault head) back fails is = absurd cc
at_second place n faults.Memory back fails is = absurd cc
at_second place n faults.TooLong back fails is = absurd cc

-- ---- a first message that lacks only the second one

-- what is announced at the front of octets is announced with all after it
announces_more : (octets : List ℕ) (n : ℕ) (front back : List ℕ) → Announces (take n octets) front back → Announces octets front (back ++ drop n octets)
announces_more octets n front back (flags, kind, high, low, following, (small, is), long, front_is) =
    let rest = drop n octets in
    let all : octets ≡ (80 + flags) ∷ kind ∷ high ∷ low ∷ (following ++ (back ++ rest)) =
    sym (take-append-drop n octets)
    ∙ (ap (λ (xs : List ℕ). xs ++ rest) is ∙ ap (λ (xs : List ℕ). (80 + flags) ∷ kind ∷ high ∷ low ∷ xs) (append_assoc following back rest)) in
    (flags, kind, high, low, following, (small, all), long, front_is)

second_there : (octets : List ℕ) (n : ℕ) → 0 < n → IsDatagramFault (take n octets) (faults.BadPiggyback n) → IsSecondAt octets n
second_there octets n some (inl (alone, fails)) =
    let none : n ≡ 0 = at_first (take n octets) n fails in
    absurd (omega (arith, none, some))
second_there octets n some (inr (inl (flags, kind, high, low, held, begins, more, is))) = absurd cc
second_there octets n some (inr (inr (front, back, announces, inl fails))) =
    let none : n ≡ 0 = at_first front n fails in
    absurd (omega (arith, none, some))
second_there octets n some (inr (inr (front, back, announces, inr (m, spelled, inl (nothing, is))))) =
    let at : n ≡ length front = cc in
    (front, back ++ drop n octets, announces_more octets n front back announces, (m, spelled), at)
second_there octets n some (inr (inr (front, back, announces, inr (m, spelled, inr (held, (g, fails, is)))))) =
    (front, back ++ drop n octets, announces_more octets n front back announces, (m, spelled), at_second (length front) n g back fails is)

-- and there is no other one
announced_size : (octets front back : List ℕ) (a b high low : ℕ) (held : List ℕ) → octets ≡ a ∷ b ∷ high ∷ low ∷ held → Announces octets front back → length front ≡ 4 + (256 * high + low)
announced_size octets front back a b high low held parts (flags, kind, h, l, following, (small, is), long, front_is) =
    let e : a ∷ b ∷ high ∷ low ∷ held ≡ (80 + flags) ∷ kind ∷ h ∷ l ∷ (following ++ back) = sym parts ∙ is in
    let hs : high ≡ h = cc in
    let ls : low ≡ l = cc in
    omega (arith, ap length front_is, hs, ls, long)

size_is : (octets : List ℕ) (at a b high low : ℕ) (held : List ℕ) → octets ≡ a ∷ b ∷ high ∷ low ∷ held → IsSecondAt octets at → at ≡ 4 + (256 * high + low)
size_is octets at a b high low held parts (front, back, announces, m, is) = is ∙ announced_size octets front back a b high low held parts announces

only_lacks : (octets : List ℕ) (at : ℕ) → IsSecondAt octets at → IsDatagramFault (take at octets) (faults.BadPiggyback at)
only_lacks octets at (front, back, (flags, kind, high, low, following, (small, is), long, front_is), (m, spelled), at_is) =
    let size = suc (suc (suc (suc (length following)))) in
    let n : at ≡ size = at_is ∙ ap length front_is in
    let cut : take size ((80 + flags) ∷ kind ∷ high ∷ low ∷ (following ++ back)) ≡ (80 + flags) ∷ kind ∷ high ∷ low ∷ (following ++ []) =
    ap (λ (xs : List ℕ). (80 + flags) ∷ kind ∷ high ∷ low ∷ xs) (take_at following back (length following) refl ∙ sym (append-nil following)) in
    let here : take at octets ≡ (80 + flags) ∷ kind ∷ high ∷ low ∷ (following ++ []) = ap (λ (i : ℕ). take i octets) n ∙ (ap (take size) is ∙ cut) in
    inr (inr (front, [], (flags, kind, high, low, following, (small, here), long, front_is), inr (m, spelled, inl (refl, ap (λ (i : ℕ). faults.BadPiggyback i) at_is))))

-- the octets of a first message, of the size that it states, decide
pub second_by : (octets : List ℕ) (size : ℕ) (lacks : Bool) → 4 ≤ length octets → size ≡ 256 * get_or octets 2 0 + get_or octets 3 0 → 4 + size ≤ length octets
    → IsTrue lacks ↔ IsDatagramFault (take (4 + size) octets) (faults.BadPiggyback (length (take (4 + size) octets))) → IsSecondPlace octets (then_some lacks (4 + size))
second_by (a ∷ b ∷ high ∷ low ∷ held) size true few is fits decides =
    let octets = a ∷ b ∷ high ∷ low ∷ held in
    let whole : length (take (4 + size) octets) ≡ 4 + size = length-take-le (4 + size) octets fits in
    second_there octets (4 + size) (omega arith) (subst (λ n. IsDatagramFault (take (4 + size) octets) (faults.BadPiggyback n)) whole (decides.0 refl))
second_by (a ∷ b ∷ high ∷ low ∷ held) size false few is fits decides = λ at second.
    let octets = a ∷ b ∷ high ∷ low ∷ held in
    let whole : length (take (4 + size) octets) ≡ 4 + size = length-take-le (4 + size) octets fits in
    let here : at ≡ 4 + size = omega (arith, is, size_is octets at a b high low held refl second) in
    let fails = subst (λ n. IsDatagramFault (take n octets) (faults.BadPiggyback n)) here (only_lacks octets at second) in
    let wrong : false ≡ true = decides.1 (subst (λ n. IsDatagramFault (take (4 + size) octets) (faults.BadPiggyback n)) (sym whole) fails) in
    absurd cc
second_by [] size lacks few is fits decides = absurd (omega (arith, few))
second_by (a ∷ []) size lacks few is fits decides = absurd (omega (arith, few))
second_by (a ∷ b ∷ []) size lacks few is fits decides = absurd (omega (arith, few))
second_by (a ∷ b ∷ c ∷ []) size lacks few is fits decides = absurd (omega (arith, few))

-- ---- each fault lies at one place

-- octets announce a second message at one place
pub same_parts : (octets front back fore rear : List ℕ) → Announces octets front back → Announces octets fore rear → (front ≡ fore) × (back ≡ rear)
same_parts octets front back fore rear (flags, kind, high, low, following, (small, is), long, front_is) (flags2, kind2, high2, low2, following2, (small2, is2), long2, fore_is) =
    let e : (80 + flags) ∷ kind ∷ high ∷ low ∷ (following ++ back) ≡ (80 + flags2) ∷ kind2 ∷ high2 ∷ low2 ∷ (following2 ++ rear) = sym is ∙ is2 in
    let f : 80 + flags ≡ 80 + flags2 = cc in
    let g : 64 + flags ≡ 64 + flags2 = omega (arith, f) in
    let k : kind ≡ kind2 = cc in
    let h : high ≡ high2 = cc in
    let l : low ≡ low2 = cc in
    let all : following ++ back ≡ following2 ++ rear = cc in
    let n : length following ≡ length following2 = omega (arith, h, l, long, long2) in
    let fs : following ≡ following2 =
    sym (take_at following back (length following) refl)
    ∙ (ap (take (length following)) all ∙ (ap (λ (i : ℕ). take i (following2 ++ rear)) n ∙ take_at following2 rear (length following2) refl)) in
    let bs : back ≡ rear =
    sym (drop_at following back (length following) refl)
    ∙ (ap (drop (length following)) all ∙ (ap (λ (i : ℕ). drop i (following2 ++ rear)) n ∙ drop_at following2 rear (length following2) refl)) in
    let same : front ≡ fore = cc in
    (same, bs)

second_one : (octets : List ℕ) (a b : ℕ) → IsSecondAt octets a → IsSecondAt octets b → a ≡ b
second_one octets a b (front, back, announces, m, is) (fore, rear, announced, n, b_is) =
    is ∙ (ap length (same_parts octets front back fore rear announces announced).0 ∙ sym b_is)

begins_one : (octets : List ℕ) (a b : ℕ) → BeginsFault octets a → BeginsFault octets b → a ≡ b
begins_one octets a b (inl second) (inl other) = second_one octets a b second other
begins_one octets a b (inl second) (inr (none, is)) = absurd (none a second)
begins_one octets a b (inr (none, is)) (inl second) = absurd (none b second)
begins_one octets a b (inr (none, is)) (inr (others, b_is)) = is ∙ sym b_is

message_one : (octets : List ℕ) (p q : Option ℕ) → (at : ℕ) × BeginsFault octets at × (p ≡ Some at) → (at : ℕ) × BeginsFault octets at × (q ≡ Some at) → p ≡ q
message_one octets p q (a, begins, is) (b, other, q_is) = is ∙ (ap (λ (n : ℕ). Some n) (begins_one octets a b begins other) ∙ sym q_is)

pub place_one : (octets : List ℕ) (f : V2Fault) (p q : Option ℕ) → LiesAt octets f p → LiesAt octets f q → p ≡ q
place_one octets (faults.Missing kind instance conditional (Some at) head) p q a b = a ∙ sym b
place_one octets (faults.Missing kind instance conditional None head) p q a b = message_one octets p q a b
place_one octets (faults.BadPiggyback at) p q a b = a ∙ sym b
place_one octets (faults.Element fault head) p q a b = a ∙ sym b
place_one octets faults.Memory p q a b = a ∙ sym b
place_one octets faults.TooLong p q a b = a ∙ sym b
place_one octets (faults.Short held) p q a b = message_one octets p q a b
place_one octets (faults.Version version) p q a b = message_one octets p q a b
place_one octets (faults.Length stated held) p q a b = message_one octets p q a b
place_one octets (faults.FlagT kind) p q a b = message_one octets p q a b
