-- A body that says the same as another one spells the same value.
use Rattle.std.proofs.Common.{◌≡◌, ℕ, zero, suc, ◌+◌, ◌<◌, ◌≤◌, List, [], ◌∷◌, ◌++◌, length, take, drop, get_or, refl, sym, ap, ◌∙◌, arith}
use Rattle.std.proofs.lemmas.List.{take-append-le}
use Rattle.byteorder.specs.Endian.{big_number, big_from}
use Rattle.gtp_ie.specs.Free.{SaysTheSame, form_length, counted_by, counted_from, spare_lines}

pub same_as_itself : (kind : ℕ) (body : List ℕ) → SaysTheSame kind body body
same_as_itself kind body = record { same = refl }

-- octets after the form
pub more_free : (kind : ℕ) (body more : List ℕ) → form_length kind body ≤ length body → form_length kind (body ++ more) ≡ form_length kind body → SaysTheSame kind body (body ++ more)
more_free kind body more there e =
    record {
      same = sym (ap (λ (n : ℕ). counted_from kind 5 (take n (body ++ more))) e
          ∙ ap (counted_from kind 5) (take-append-le (form_length kind body) body more there));
    }

-- ---- octets that count whole

-- octets of this type from this number on count whole
abbrev pub CountWhole : ℕ → ℕ → Type 0
CountWhole kind n = (m octet : ℕ) → n ≤ m → counted_by spare_lines kind m octet ≡ octet ∷ []

pub whole_from : (kind n : ℕ) → CountWhole kind n → (m : ℕ) → n ≤ m → (xs ys : List ℕ) → counted_from kind m xs ≡ counted_from kind m ys → xs ≡ ys
whole_from kind n whole m far [] [] e = refl
whole_from kind n whole m far [] (y ∷ ys) e = absurd cc
whole_from kind n whole m far (x ∷ xs) [] e = absurd cc
whole_from kind n whole m far (x ∷ xs) (y ∷ ys) e =
    let a = whole m x far in
    let b = whole m y far in
    let heads : counted_by spare_lines kind m x ≡ counted_by spare_lines kind m y = cc in
    let tails : counted_from kind (m + 1) xs ≡ counted_from kind (m + 1) ys = cc in
    let first : x ≡ y = cc in
    let others : xs ≡ ys = whole_from kind n whole (m + 1) (omega arith) xs ys tails in
    cc

-- ---- what hangs on the first octets alone

pub get_same : (n i : ℕ) (xs ys : List ℕ) → i < n → take n xs ≡ take n ys → get_or xs i 0 ≡ get_or ys i 0
get_same zero i xs ys h e = absurd (omega arith)
get_same (suc n) i [] [] h e = refl
get_same (suc n) i [] (y ∷ ys) h e = absurd cc
get_same (suc n) i (x ∷ xs) [] h e = absurd cc
get_same (suc n) zero (x ∷ xs) (y ∷ ys) h e = cc
get_same (suc n) (suc i) (x ∷ xs) (y ∷ ys) h e = let tails : take n xs ≡ take n ys = cc in get_same n i xs ys (omega arith) tails

pub take_same : (n k : ℕ) (xs ys : List ℕ) → k ≤ n → take n xs ≡ take n ys → take k xs ≡ take k ys
take_same n zero xs ys h e = refl
take_same zero (suc k) xs ys h e = absurd (omega arith)
take_same (suc n) (suc k) [] [] h e = refl
take_same (suc n) (suc k) [] (y ∷ ys) h e = absurd cc
take_same (suc n) (suc k) (x ∷ xs) [] h e = absurd cc
take_same (suc n) (suc k) (x ∷ xs) (y ∷ ys) h e =
    let first : x ≡ y = cc in
    let tails : take n xs ≡ take n ys = cc in
    let others : take k xs ≡ take k ys = take_same n k xs ys (omega arith) tails in
    cc

pub part_same : (m n k : ℕ) (xs ys : List ℕ) → m + k ≤ n → take n xs ≡ take n ys → take k (drop m xs) ≡ take k (drop m ys)
part_same zero n k xs ys h e = take_same n k xs ys (omega arith) e
part_same (suc m) zero k xs ys h e = absurd (omega arith)
part_same (suc m) (suc n) k [] [] h e = refl
part_same (suc m) (suc n) k [] (y ∷ ys) h e = absurd cc
part_same (suc m) (suc n) k (x ∷ xs) [] h e = absurd cc
part_same (suc m) (suc n) k (x ∷ xs) (y ∷ ys) h e = let tails : take n xs ≡ take n ys = cc in part_same m n k xs ys (omega arith) tails

big_same : (i k n : ℕ) (xs ys : List ℕ) → i + k ≤ n → take n xs ≡ take n ys → big_from i k xs ≡ big_from i k ys
big_same i zero n xs ys h e = refl
big_same i (suc k) n xs ys h e =
    let first : get_or xs i 0 ≡ get_or ys i 0 = get_same n i xs ys (omega arith) e in
    let others : big_from (suc i) k xs ≡ big_from (suc i) k ys = big_same (suc i) k n xs ys (omega arith) e in
    cc

pub number_same : (m k n : ℕ) (xs ys : List ℕ) → m + k ≤ n → take n xs ≡ take n ys → big_number k (drop m xs) ≡ big_number k (drop m ys)
number_same m k n xs ys h e = big_same 0 k k (drop m xs) (drop m ys) (omega arith) (part_same m n k xs ys h e)

-- as many octets are there
pub long_same : (n : ℕ) (xs ys : List ℕ) → n ≤ length xs → take n xs ≡ take n ys → n ≤ length ys
long_same zero xs ys h e = omega arith
long_same (suc n) [] ys h e = absurd (omega arith)
long_same (suc n) (x ∷ xs) [] h e = absurd cc
long_same (suc n) (x ∷ xs) (y ∷ ys) h e = let tails : take n xs ≡ take n ys = cc in let more = long_same n xs ys (omega arith) tails in omega (arith, more)
