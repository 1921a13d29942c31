-- What is written for a message is octets, where the numbers in it have room in octets.
use Rattle.std.proofs.Common.{◌≡◌, ℕ, zero, suc, ◌+◌, ◌*◌, ◌/◌, ◌%◌, ◌^◌, ◌<◌, ◌≤◌, true, not, ◌&&◌, length, List, [], ◌∷◌, ◌++◌, mod-lt, subst, sym, arith}
use Rattle.std.specs.Prelude.{◌==◌, IsTrue, nat_le, nat_lt}
use Rattle.std.specs.Int.{byte_at, bytes_high_first}
use Rattle.std.specs.List.{AllByRecursion, list_all}
use Rattle.std.proofs.lemmas.Bool.{ltb-true}
use Rattle.std.proofs.lemmas.Bool.Decides.{nat_tests}
use Rattle.std.proofs.lemmas.List.Elements.{All-nil, All-cons, All-append, recursion_from_All}
use Rattle.gtp_values.specs.Apn.{is_label_octet, IsLabel, labels_text, IsApn}
use Rattle.gtp_values.specs.Imsi.{IsImsi}
use Rattle.gtp_values.specs.Numbers.{two, three, four}
use Rattle.gtp_values.specs.Plmn.{Network, IsNetwork}
use Rattle.gtp_values.specs.declared.qos.Qos.{Qos}
use Rattle.gtp_values.specs.declared.qos.Rates.{Rates}
use Rattle.gtp_values.proofs.Tests.{both, at_most_one}
use Rattle.gtp_ie.specs.Digits.{packed, network_encoding}
use Rattle.gtp_ie.specs.Text.{element_encoding}
use Rattle.gtp_ie.specs.Value.{OfQos, rates_encoding, encoding_of}
use Rattle.gtp_machine.specs.Spelling.{AreOctets}

pub none : AreOctets []
none = record { each = All-nil (λ octet. octet < 256) }

-- one more before them
pub and : (octet : ℕ) (rest : List ℕ) → octet < 256 → AreOctets rest → AreOctets (octet ∷ rest)
and octet rest small more = record { each = All-cons (λ octet. octet < 256) octet rest small more.each }

pub joined : (first rest : List ℕ) → AreOctets first → AreOctets rest → AreOctets (first ++ rest)
joined first rest are more = record { each = All-append (λ octet. octet < 256) first rest are.each more.each }

-- octets that stand there
pub closed : (octets : List ℕ) → list_all (λ octet. nat_lt octet 256) octets ≡ true → AreOctets octets
closed [] h = none
closed (octet ∷ octets) h = let b = both (nat_lt octet 256) (list_all (λ octet. nat_lt octet 256) octets) h in and octet octets (ltb-true _ _ b.left) (closed octets b.right)

-- ---- numbers

pub small : (n : ℕ) → n % 256 < 256
small n = mod-lt n (omega arith)

byte_small : (k n : ℕ) → byte_at k n < 256
byte_small zero n = small n
byte_small (suc k) n = small (n / 256 ^ suc k)

pub big : (k n : ℕ) → AreOctets (bytes_high_first k n)
big zero n = none
big (suc k) n = and (byte_at k n) (bytes_high_first k n) (byte_small k n) (big k n)

pub in_two : (n : ℕ) (rest : List ℕ) → AreOctets rest → AreOctets (two n rest)
in_two n rest are = and _ _ (small (n / 256)) (and _ rest (small n) are)

pub in_three : (n : ℕ) (rest : List ℕ) → AreOctets rest → AreOctets (three n rest)
in_three n rest are = and _ _ (small (n / 65536)) (in_two n rest are)

pub in_four : (n : ℕ) (rest : List ℕ) → AreOctets rest → AreOctets (four n rest)
in_four n rest are = and _ _ (small (n / 16777216)) (in_three n rest are)

-- ---- digits and names

packed_octets : (digits : List ℕ) → AllByRecursion (λ digit. digit < 10) digits → AreOctets (packed digits)
packed_octets [] are = none
packed_octets (a ∷ []) are = and (240 + a) [] (omega (arith, are.0)) none
packed_octets (a ∷ b ∷ digits) are = and (16 * b + a) (packed digits) (omega (arith, are.0, are.1.0)) (packed_octets digits are.1.1)

pub imsi_octets : (digits : List ℕ) → IsImsi digits → AreOctets (packed digits)
imsi_octets digits is = packed_octets digits (recursion_from_All (λ digit. digit < 10) digits is.decimal)

codes_octets : (mcc mnc : List ℕ) → length mcc ≡ 3 → 2 ≤ length mnc → length mnc ≤ 3 → AllByRecursion (λ digit. digit < 10) mcc
    → AllByRecursion (λ digit. digit < 10) mnc → AreOctets (network_encoding (record { mcc = mcc; mnc = mnc }))
codes_octets (a ∷ b ∷ c ∷ []) (d ∷ e ∷ []) three least most country network =
    and _ _ (omega (arith, country.0, country.1.0)) (and _ _ (omega (arith, country.1.1.0)) (and _ [] (omega (arith, network.0, network.1.0)) none))
codes_octets (a ∷ b ∷ c ∷ []) (d ∷ e ∷ f ∷ []) three least most country network =
    and _ _ (omega (arith, country.0, country.1.0)) (and _ _ (omega (arith, country.1.1.0, network.1.1.0)) (and _ [] (omega (arith, network.0, network.1.0)) none))
codes_octets [] mnc three least most country network = absurd (omega (arith, three))
codes_octets (a ∷ []) mnc three least most country network = absurd (omega (arith, three))
codes_octets (a ∷ b ∷ []) mnc three least most country network = absurd (omega (arith, three))
codes_octets (a ∷ b ∷ c ∷ d ∷ mcc) mnc three least most country network = absurd (omega (arith, three))
codes_octets (a ∷ b ∷ c ∷ []) [] three least most country network = absurd (omega (arith, least))
codes_octets (a ∷ b ∷ c ∷ []) (d ∷ []) three least most country network = absurd (omega (arith, least))
codes_octets (a ∷ b ∷ c ∷ []) (d ∷ e ∷ f ∷ g ∷ mnc) three least most country network = absurd (omega (arith, most))

pub network_octets : (n : Network) → IsNetwork n → AreOctets (network_encoding n)
network_octets n is =
    codes_octets n.mcc n.mnc is.country is.least is.most (recursion_from_All (λ digit. digit < 10) n.mcc is.country_digits)
    (recursion_from_All (λ digit. digit < 10) n.mnc is.network_digits)

label_octet_small : (octet : ℕ) → is_label_octet octet ≡ true → octet < 256
label_octet_small octet h =
    let b = both (nat_le 33 octet && nat_le octet 126) (not (octet == 46)) h in
    let range = both (nat_le 33 octet) (nat_le octet 126) b.left in
    let most : nat_le octet 126 ≡ true = range.right in
    grind (arith, nat_tests)

label_octets : (label : List ℕ) → AllByRecursion (λ octet. IsTrue (is_label_octet octet)) label → AreOctets label
label_octets [] are = none
label_octets (octet ∷ label) are = and octet label (label_octet_small octet are.0) (label_octets label are.1)

labels_octets : (labels : List (List ℕ)) → AllByRecursion IsLabel labels → AreOctets (labels_text labels)
labels_octets [] are = none
labels_octets (label ∷ labels) are = and (length label) _ (omega (arith, are.0.most)) (joined label (labels_text labels) (label_octets label are.0.octets) (labels_octets labels are.1))

pub name_octets : (name : List ℕ) → IsApn name → AreOctets name
name_octets name is = subst AreOctets (sym is.labels.2) (labels_octets is.labels.0 is.labels.1)

-- ---- bit rates

rates_octets : (rates : Rates) → AreOctets (rates_encoding rates)
rates_octets rates = joined (bytes_high_first 5 rates.up) (bytes_high_first 5 rates.down) (big 5 rates.up) (big 5 rates.down)

pub quality_octets : (qos : Qos) → qos.qci < 256 → qos.pl < 16 → AreOctets (encoding_of (OfQos qos))
unfolding encoding_of
quality_octets qos class level =
    and _ _ (omega (arith, level, at_most_one qos.pci, at_most_one qos.pvi))
    (and qos.qci _ class (joined (rates_encoding qos.mbr) (rates_encoding qos.gbr) (rates_octets qos.mbr) (rates_octets qos.gbr)))

-- ---- elements

pub element_octets : (kind instance : ℕ) (body : List ℕ) → kind < 256 → instance < 256 → AreOctets body → AreOctets (element_encoding kind instance body)
element_octets kind instance body kind_small instance_small are = and kind _ kind_small (and _ _ (small (length body / 256)) (and _ _ (small (length body)) (and instance body instance_small are)))
