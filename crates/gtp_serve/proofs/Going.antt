-- Lines are answered one after the other.
use Rattle.std.proofs.Common.{arith, ◌≡◌, ℕ, ◌-◌, ◌^◌, ◌<◌, ◌≤◌, List, [], ◌∷◌, ◌++◌, length, length-take, take, take_all, inl, inr, Option, Some}
use Rattle.std.proofs.Common.{None, IfSome, codes, refl, sym, ap, ◌∙◌, subst, append-nil, append_assoc}
use Rattle.std.proofs.lemmas.Bool.{cases_lt}
use Rattle.std.proofs.KnownBytes.{Appends-trans}
use Rattle.std.specs.Io.KnownBytes.{Appends, IsAtEnd}
use Rattle.std.specs.Io.BufRead.{take_through, drop_through, DropsThrough}
use Rattle.json.specs.Json.{Json}
use Rattle.gtp_counted.specs.Lines.{BeginsWithLines}
use Rattle.gtp_counted.specs.Streams.{WritesFront}
use Rattle.gtp_counted.proofs.Written.{front_whole, front_after, front_before}
use Rattle.gtp_counted.proofs.Lines.{is_known, content, none_yet, one_more, held_some, both_parts}
use Rattle.gtp_json.specs.Tree.{line_of}
use Rattle.gtp_serve.specs.Replies.{word_json}
use Rattle.gtp_serve.specs.Served.{Answering, Answers, AnswersAll, AreAnswered, AreFirstAnswered, AreAnsweredInPart, IsAnswered, IsAnsweredInPart, Known, IsStarted}
use Rattle.gtp_serve.specs.Served.{HasNoHead, IsServed, IsFirstServed, IsServedInPart}

module _ {S : Type 0} (Does : List ℕ → Answering S) where
  -- what is answered to lines, and to one more
  answers_more : (a b c : S) (lines : List (List ℕ)) (line text : List ℕ) (answer : Json) → AnswersAll Does a lines b text → Answers Does line b answer c
      → AnswersAll Does a (lines ++ line ∷ []) c (text ++ line_of answer)
  answers_more a b c [] line text answer (same, none) is =
      (c, answer, [], subst (λ s. Answers Does line s answer c) same is, (refl, refl), ap (λ l. l ++ line_of answer) none ∙ sym (append-nil (line_of answer)))
  answers_more a b c (first ∷ lines) line text answer (next, one, rest, said, all, whole) is =
      (next, one, rest ++ line_of answer, said, answers_more next b c lines line rest answer all is, ap (λ l. l ++ line_of answer) whole ∙ append_assoc (line_of one) rest (line_of answer))

  -- so far: where the octets were known, what is left is known, and the lines before it were answered
  abbrev pub Goes : Option (List ℕ) → Option (List ℕ) → S → S → Option (List ℕ) → Option (List ℕ) → Type 0
  Goes None left old new a b = Unit {0}
  Goes (Some octets) None old new a b = ⊥
  Goes (Some octets) (Some left) old new a b = AreAnswered Does octets left old new a b

  pub begins : (s : S) (r w : Option (List ℕ)) → Goes r r s s w w
  begins s None w = tt
  begins s (Some xs) w = record { lines = []; text = []; begins = refl; answers = (refl, refl); written = none_yet w }

  -- what is answered to the octets that are held of a line is answered to the line
  answers_whole : (line : List ℕ) (old new : S) (answer : Json) → Answers Does (take 1048577 line) old answer new → Answers Does line old answer new
  answers_whole line old new answer is = elim (cases_lt 1048576 (length line)) [
    | inl long ↦ too_long long is
    | inr fits ↦ subst (λ l. Answers Does l old answer new) (take_all 1048577 line (omega (arith, fits))) is
  ]
    where
      full : 1048576 < length line → 1048576 < length (take 1048577 line)
      full long = omega (arith, long, length-take 1048577 line)

      too_long : 1048576 < length line → Answers Does (take 1048577 line) old answer new → Answers Does line old answer new
      too_long long (inl (more, stays)) = inl (long, stays)
      too_long long (inr (fits, other)) = absurd (omega (arith, full long, fits))

  -- one line more, of which so much is held
  pub goes_on : (first old new : Option (List ℕ)) (begun before now : S) (held : List ℕ) (a b c : Option (List ℕ))
      → Goes first old begun before a b → IfSome old (λ xs. held ≡ take 1048577 (take_through 10 xs)) → DropsThrough old new 10 → 0 < length held
      → IsAnswered Does held before now b c → Goes first new begun now a c
  goes_on None old new begun before now held a b c so is drops some told = tt
  goes_on (Some xs) None new begun before now held a b c so is drops some told = absurd so
  goes_on (Some xs) (Some ys) None begun before now held a b c so is drops some told = absurd (subst is_known (sym drops) tt)
  goes_on (Some xs) (Some ys) (Some zs) begun before now held a b c so is drops some (answer, said, written) =
      let rest : zs ≡ drop_through 10 ys = ap content drops in
      let whole = answers_whole (take_through 10 ys) before now answer (subst (λ l. Answers Does l before answer now) is said) in
      record {
        lines = so.lines ++ take_through 10 ys ∷ [];
        text = so.text ++ line_of answer;
        begins = subst (BeginsWithLines xs (so.lines ++ take_through 10 ys ∷ [])) (sym rest) (one_more xs so.lines ys so.begins (held_some 1048577 ys held is some));
        answers = answers_more begun before now so.lines (take_through 10 ys) so.text answer so.answers whole;
        written = Appends-trans a b c so.text (line_of answer) so.written written;
      }

  -- nothing is left
  pub ends : (first old : Option (List ℕ)) (begun now : S) (a b : Option (List ℕ)) → Goes first old begun now a b → IsAtEnd old → IfSome first (λ octets. AreAnswered Does octets [] begun now a b)
  ends None old begun now a b so over = tt
  ends (Some xs) None begun now a b so over = absurd so
  ends (Some xs) (Some ys) begun now a b so over = subst (λ l. AreAnswered Does xs l begun now a b) over so

  -- the first lines were answered
  pub first_answered : (first old : Option (List ℕ)) (begun now : S) (a b : Option (List ℕ)) → Goes first old begun now a b → IfSome first (λ octets. AreFirstAnswered Does octets begun a b)
  first_answered None old begun now a b so = tt
  first_answered (Some xs) None begun now a b so = absurd so
  first_answered (Some xs) (Some ys) begun now a b so = (ys, now, so)

  -- also where the last of them was not answered
  pub still_answered : (first old : Option (List ℕ)) (begun now : S) (a b c : Option (List ℕ)) → Goes first old begun now a b → b ≡ c
      → IfSome first (λ octets. AreFirstAnswered Does octets begun a c)
  still_answered first old begun now a b c so same = first_answered first old begun now a c (subst (λ w. Goes first old begun now a w) same so)

  -- all of their answers is a beginning of them
  pub all_in_part : (first old : Option (List ℕ)) (begun now : S) (a b : Option (List ℕ)) → Goes first old begun now a b → IfSome first (λ octets. AreAnsweredInPart Does octets begun a b)
  all_in_part None old begun now a b so = tt
  all_in_part (Some xs) None begun now a b so = absurd so
  all_in_part (Some xs) (Some ys) begun now a b so =
      record
      { lines = so.lines; rest = ys; last = now; text = so.text; begins = so.begins; answers = so.answers; written = front_whole a b so.text so.written }

  -- also where a beginning of the next answer was written
  pub next_in_part : (first old new : Option (List ℕ)) (begun before now : S) (held : List ℕ) (a b c : Option (List ℕ))
      → Goes first old begun before a b → IfSome old (λ xs. held ≡ take 1048577 (take_through 10 xs)) → DropsThrough old new 10 → 0 < length held
      → IsAnsweredInPart Does held before now b c → IfSome first (λ octets. AreAnsweredInPart Does octets begun a c)
  next_in_part None old new begun before now held a b c so is drops some told = tt
  next_in_part (Some xs) None new begun before now held a b c so is drops some told = absurd so
  next_in_part (Some xs) (Some ys) None begun before now held a b c so is drops some told = absurd (subst is_known (sym drops) tt)
  next_in_part (Some xs) (Some ys) (Some zs) begun before now held a b c so is drops some (answer, said, written) =
      let whole = answers_whole (take_through 10 ys) before now answer (subst (λ l. Answers Does l before answer now) is said) in
      record {
        lines = so.lines ++ take_through 10 ys ∷ [];
        rest = drop_through 10 ys;
        last = now;
        text = so.text ++ line_of answer;
        begins = one_more xs so.lines ys so.begins (held_some 1048577 ys held is some);
        answers = answers_more begun before now so.lines (take_through 10 ys) so.text answer so.answers whole;
        written = front_after a b c so.text (line_of answer) so.written written;
      }

-- ---- the first line

-- a line of which more is held than one may have
pub long_head : (SaysNone : List ℕ → Type 0) (old : Option (List ℕ)) (held : List ℕ) → IfSome old (λ xs. held ≡ take 1048577 (take_through 10 xs)) → 1048576 < length held → IfSome old (HasNoHead SaysNone)
long_head SaysNone None held is long = tt
long_head SaysNone (Some xs) held is long = inl (omega (arith, long, ap length is, length-take 1048577 (take_through 10 xs)))

-- a line that is held whole
whole_line : (xs held : List ℕ) → held ≡ take 1048577 (take_through 10 xs) → length held ≤ 1048576 → held ≡ take_through 10 xs
whole_line xs held is fits = is ∙ take_all 1048577 (take_through 10 xs) (omega (arith, fits, ap length is, length-take 1048577 (take_through 10 xs)))

pub no_head : (SaysNone : List ℕ → Type 0) (old : Option (List ℕ)) (held : List ℕ) → IfSome old (λ xs. held ≡ take 1048577 (take_through 10 xs)) → length held ≤ 1048576
    → SaysNone held → IfSome old (HasNoHead SaysNone)
no_head SaysNone None held is fits none = tt
no_head SaysNone (Some xs) held is fits none = inr (subst SaysNone (whole_line xs held is fits) none)

module _ {S : Type 0} (Starts : List ℕ → S → Type 0) where
  pub has_started : (old new : Option (List ℕ)) (held : List ℕ) (state : S) → IfSome old (λ xs. held ≡ take 1048577 (take_through 10 xs))
      → DropsThrough old new 10 → length held ≤ 1048576
      → Starts held state → Known (λ octets left. IsStarted Starts octets left state) old new
  has_started None new held state is drops fits starts = tt
  has_started (Some xs) None held state is drops fits starts = absurd (subst is_known (sym drops) tt)
  has_started (Some xs) (Some ys) held state is drops fits starts =
      let whole = whole_line xs held is fits in
      record {
        fits = subst (λ l. length l ≤ 1048576) whole fits;
        starts = subst (λ l. Starts l state) whole starts;
        rest = ap content drops;
      }

-- ---- all of it

module _ {S : Type 0} (Starts : List ℕ → S → Type 0) (Does : List ℕ → Answering S) where
  pub all_served : (a b c : Option (List ℕ)) (x y z : Option (List ℕ)) (new last : S)
      → Known (λ octets left. IsStarted Starts octets left new) a b → Appends x y (line_of (word_json None (codes "started")))
      → IfSome b (λ octets. AreAnswered Does octets [] new last y z) → IfSome a (λ octets. IsServed Starts Does octets x z)
  all_served None b c x y z new last begun told others = tt
  all_served (Some xs) None c x y z new last begun told others = absurd begun
  all_served (Some xs) (Some ys) c x y z new last begun told others = record {
    first = new;
    fits = begun.fits;
    starts = begun.starts;
    between = y;
    told = told;
    last = last;
    others = subst (λ left. AreAnswered Does left [] new last y z) begun.rest others;
  }

  pub first_served : (a b : Option (List ℕ)) (x y z : Option (List ℕ)) (new : S) → Known (λ octets left. IsStarted Starts octets left new) a b
      → Appends x y (line_of (word_json None (codes "started")))
      → IfSome b (λ octets. AreFirstAnswered Does octets new y z) → IfSome a (λ octets. IsFirstServed Starts Does octets x z)
  first_served None b x y z new begun told others = tt
  first_served (Some xs) None x y z new begun told others = absurd begun
  first_served (Some xs) (Some ys) x y z new begun told others = inr (record {
    first = new;
    fits = begun.fits;
    starts = begun.starts;
    between = y;
    told = told;
    others = subst (λ left. AreFirstAnswered Does left new y z) begun.rest others;
  })

  pub none_served : (a : Option (List ℕ)) (x z : Option (List ℕ)) → x ≡ z → IfSome a (λ octets. IsFirstServed Starts Does octets x z)
  none_served None x z same = tt
  none_served (Some xs) x z same = inl same

  -- what is left behind the first line is no longer
  pub long_whole : (a b : Option (List ℕ)) (new : S) → Known (λ octets left. IsStarted Starts octets left new) a b
      → IfSome b (λ octets. 2 ^ 64 - 1 ≤ length octets) → IfSome a (λ octets. 2 ^ 64 - 1 ≤ length octets)
  long_whole None b new begun many = tt
  long_whole (Some xs) None new begun many = absurd begun
  long_whole (Some xs) (Some ys) new begun many = omega (arith, many, both_parts xs, ap length begun.rest)

  -- a beginning of the line that tells of the start
  pub start_in_part : (a b : Option (List ℕ)) (x y : Option (List ℕ)) (new : S) → Known (λ octets left. IsStarted Starts octets left new) a b
      → WritesFront x y (line_of (word_json None (codes "started"))) → IfSome a (λ octets. IsServedInPart Starts Does octets x y)
  start_in_part None b x y new begun told = tt
  start_in_part (Some xs) None x y new begun told = absurd begun
  start_in_part (Some xs) (Some ys) x y new begun told = inr (record {
    first = new;
    fits = begun.fits;
    starts = begun.starts;
    lines = [];
    rest = drop_through 10 xs;
    last = new;
    text = [];
    begins = refl;
    answers = (refl, refl);
    written = front_before x y (line_of (word_json None (codes "started"))) [] told;
  })

  -- and of the answers after it
  pub served_in_part : (a b : Option (List ℕ)) (x y z : Option (List ℕ)) (new : S) → Known (λ octets left. IsStarted Starts octets left new) a b
      → Appends x y (line_of (word_json None (codes "started")))
      → IfSome b (λ octets. AreAnsweredInPart Does octets new y z) → IfSome a (λ octets. IsServedInPart Starts Does octets x z)
  served_in_part None b x y z new begun told others = tt
  served_in_part (Some xs) None x y z new begun told others = absurd begun
  served_in_part (Some xs) (Some ys) x y z new begun told others = inr (record {
    first = new;
    fits = begun.fits;
    starts = begun.starts;
    lines = others.lines;
    rest = others.rest;
    last = others.last;
    text = others.text;
    begins = subst (λ left. BeginsWithLines left others.lines others.rest) begun.rest others.begins;
    answers = others.answers;
    written = front_after x y z (line_of (word_json None (codes "started"))) others.text told others.written;
  })
