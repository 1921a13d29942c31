-- How something behind lines is served: what starts by the first line, and answers each other one.
use Rattle.std.specs.Prelude.{◌≡◌, ℕ, ◌<◌, ◌≤◌, ◌⊎◌, ⊤, List, [], ◌∷◌, ◌++◌, length, Option, None, Some, codes}
use Rattle.std.specs.Io.BufRead.{take_through, drop_through}
use Rattle.std.specs.Io.KnownBytes.{Appends}
use Rattle.json.specs.Json.{Json}
use Rattle.gtp_counted.specs.Lines.{BeginsWithLines}
use Rattle.gtp_counted.specs.Streams.{WritesFront}
use Rattle.gtp_json.specs.Tree.{line_of}
use Rattle.gtp_serve.specs.Replies.{word_json}

-- the most octets of a line, with its line feed
abbrev pub most_octets : ℕ
most_octets = 1048576

-- what answers lines goes on so, and answers this
abbrev pub Answering : Type 0 → Type 1
Answering S = S → Json → S → Type 0

-- nothing changes, and this is the outcome
abbrev pub Stays : {S : Type 0} → List ℕ → Answering S
Stays word old answer new = (answer ≡ word_json None word) × (new ≡ old)

-- where an allocation was refused, nothing changes
abbrev pub OrStays : {S : Type 0} → Answering S → Answering S
OrStays Is old answer new = Is old answer new ⊎ Stays (codes "no memory") old answer new

-- a line that is too long is not read
abbrev pub Answers : {S : Type 0} → (List ℕ → Answering S) → List ℕ → Answering S
Answers Does line old answer new =
    ((most_octets < length line) × Stays (codes "too long") old answer new) ⊎ ((length line ≤ most_octets) × OrStays (Does line) old answer new)

-- the line of an answer
abbrev pub IsLineOf : {S : Type 0} → Answering S → S → S → List ℕ → Type 0
IsLineOf Is old new text = (answer : Json) × Is old answer new × (text ≡ line_of answer)

-- it went on as some answer tells, also where nothing was told of it
abbrev pub HasAnswer : {S : Type 0} → Answering S → S → S → Type 0
HasAnswer Is old new = (answer : Json) × Is old answer new

-- Lines are answered one after the other, each from where the one before it left off; the text has the lines of all answers.
abbrev pub AnswersAll : {S : Type 0} → (List ℕ → Answering S) → S → List (List ℕ) → S → List ℕ → Type 0
AnswersAll Does old [] new text = (new ≡ old) × (text ≡ [])
AnswersAll {S = S} Does old (line ∷ lines) new text =
    (next : S) × (answer : Json) × (rest : List ℕ)
    × Answers Does line old answer next × AnswersAll Does next lines new rest × (text ≡ line_of answer ++ rest)

-- The lines before the rest were answered, and nothing else was written.
pub record AreAnswered {S : Type 0} (Does : List ℕ → Answering S) (octets rest : List ℕ) (old new : S) (before after : Option (List ℕ)) : Type 0 where
  pub lines : List (List ℕ)
  pub text : List ℕ
  pub begins : BeginsWithLines octets lines rest
  pub answers : AnswersAll Does old lines new text
  pub written : Appends before after text

-- the first lines were answered, and nothing else was written
abbrev pub AreFirstAnswered : {S : Type 0} → (List ℕ → Answering S) → List ℕ → S → Option (List ℕ) → Option (List ℕ) → Type 0
AreFirstAnswered {S = S} Does octets old before after = (rest : List ℕ) × (new : S) × AreAnswered Does octets rest old new before after

-- a beginning of the answers to the first lines was written, and nothing else
pub record AreAnsweredInPart {S : Type 0} (Does : List ℕ → Answering S) (octets : List ℕ) (old : S) (before after : Option (List ℕ)) : Type 0 where
  pub lines : List (List ℕ)
  pub rest : List ℕ
  pub last : S
  pub text : List ℕ
  pub begins : BeginsWithLines octets lines rest
  pub answers : AnswersAll Does old lines last text
  pub written : WritesFront before after text

-- one line was answered
abbrev pub IsAnswered : {S : Type 0} → (List ℕ → Answering S) → List ℕ → S → S → Option (List ℕ) → Option (List ℕ) → Type 0
IsAnswered Does line old new before after = (answer : Json) × Answers Does line old answer new × Appends before after (line_of answer)

-- or a beginning of its answer was written
abbrev pub IsAnsweredInPart : {S : Type 0} → (List ℕ → Answering S) → List ℕ → S → S → Option (List ℕ) → Option (List ℕ) → Type 0
IsAnsweredInPart Does line old new before after = (answer : Json) × Answers Does line old answer new × WritesFront before after (line_of answer)

-- P of the octets that a reader has before and after, where they are known
abbrev pub Known : (List ℕ → List ℕ → Type 0) → Option (List ℕ) → Option (List ℕ) → Type 0
Known P None left = ⊤
Known P (Some octets) None = ⊥
Known P (Some octets) (Some left) = P octets left

-- The first line starts it.
pub record IsStarted {S : Type 0} (Starts : List ℕ → S → Type 0) (octets left : List ℕ) (new : S) : Type 0 where
  pub fits : length (take_through 10 octets) ≤ most_octets
  pub starts : Starts (take_through 10 octets) new
  pub rest : left ≡ drop_through 10 octets

-- the first line starts nothing
abbrev pub HasNoHead : (List ℕ → Type 0) → List ℕ → Type 0
HasNoHead SaysNone octets = (most_octets < length (take_through 10 octets)) ⊎ SaysNone (take_through 10 octets)

-- It starts by the first line, which is told, and each other line is answered.
pub record IsServed {S : Type 0} (Starts : List ℕ → S → Type 0) (Does : List ℕ → Answering S) (octets : List ℕ) (before after : Option (List ℕ)) : Type 0 where
  pub first : S
  pub fits : length (take_through 10 octets) ≤ most_octets
  pub starts : Starts (take_through 10 octets) first
  pub between : Option (List ℕ)
  pub told : Appends before between (line_of (word_json None (codes "started")))
  pub last : S
  pub others : AreAnswered Does (drop_through 10 octets) [] first last between after

-- It has started by the first line, which was told, and the first of the other lines were answered.
pub record IsFirstAnswered {S : Type 0} (Starts : List ℕ → S → Type 0) (Does : List ℕ → Answering S) (octets : List ℕ) (before after : Option (List ℕ)) : Type 0 where
  pub first : S
  pub fits : length (take_through 10 octets) ≤ most_octets
  pub starts : Starts (take_through 10 octets) first
  pub between : Option (List ℕ)
  pub told : Appends before between (line_of (word_json None (codes "started")))
  pub others : AreFirstAnswered Does (drop_through 10 octets) first between after

-- nothing was written, or the first lines were answered
abbrev pub IsFirstServed : {S : Type 0} → (List ℕ → S → Type 0) → (List ℕ → Answering S) → List ℕ → Option (List ℕ) → Option (List ℕ) → Type 0
IsFirstServed Starts Does octets before after = (before ≡ after) ⊎ IsFirstAnswered Starts Does octets before after

-- It starts by the first line. A beginning was written of the line that tells of this, and of the answers to the first of the other lines.
pub record IsStartedInPart {S : Type 0} (Starts : List ℕ → S → Type 0) (Does : List ℕ → Answering S) (octets : List ℕ) (before after : Option (List ℕ)) : Type 0 where
  pub first : S
  pub fits : length (take_through 10 octets) ≤ most_octets
  pub starts : Starts (take_through 10 octets) first
  pub lines : List (List ℕ)
  pub rest : List ℕ
  pub last : S
  pub text : List ℕ
  pub begins : BeginsWithLines (drop_through 10 octets) lines rest
  pub answers : AnswersAll Does first lines last text
  pub written : WritesFront before after (line_of (word_json None (codes "started")) ++ text)

-- nothing was written, or a beginning of that
abbrev pub IsServedInPart : {S : Type 0} → (List ℕ → S → Type 0) → (List ℕ → Answering S) → List ℕ → Option (List ℕ) → Option (List ℕ) → Type 0
IsServedInPart Starts Does octets before after = (before ≡ after) ⊎ IsStartedInPart Starts Does octets before after
