-- Reading a datagram decides which message it is.
use Rattle.std.proofs.Common.{◌≡◌, ℕ, Bool, true, false, cond, List, Option, Some, None, Result, Ok, Err, inl, inr, refl, ap, sym, subst, ◌∙◌}
use Rattle.std.specs.Prelude.{◌≢◌, is_some, IfOk}
use Rattle.std.specs.Bool.{beq}
use Rattle.gtp_values.specs.Steps.{◌>>=◌}
use Rattle.gtp_values.specs.Decides.{Decides, First_or_later}
use Rattle.gtp_ie.specs.Element.{Element, elements_of}
use Rattle.gtp_ie.specs.Octets.{AreElements}
use Rattle.gtp_values.proofs.Outcomes.{ok_same, err_same, apart}
use Rattle.gtp_values.proofs.Decided.{decide_bind, decide_map, decide_as, known_ok, known_err}
use Rattle.gtp_v2.specs.declared.fault.RowFault.{RowFault}
use Rattle.gtp_v2.specs.declared.fault.V2Fault.{V2Fault}
use Rattle.gtp_v2.specs.declared.fault.V2Fault.TheVariants as faults
use Rattle.gtp_values.specs.TunnelEnd.{TunnelEnd}
use Rattle.gtp_ie.specs.declared.fault.IeFault.TheVariants.{Truncated}
use Rattle.gtp_v2.specs.declared.fault.RowFault.TheVariants as row_faults
use Rattle.gtp_v2.specs.declared.fault.Head.{Head}
use Rattle.gtp_v2.specs.Table.{Line, Field, start, Table}
use Rattle.gtp_v2.specs.reading.Rows.{whole, lines_at}
use Rattle.gtp_v2.specs.Grammar.{IsCutShort, LinesAre, LinesFail}
use Rattle.gtp_v2.specs.Headed.{Headed}
use Rattle.gtp_v2.specs.reading.Headed.{headed_of, header_at, HasHeader}
use Rattle.gtp_v2.specs.declared.header.Header.{Header}
use Rattle.gtp_v2.specs.declared.message.Datagram.{Datagram}
use Rattle.gtp_v2.specs.Body.{content_of, kind_of, message_value}
use Rattle.gtp_v2.specs.Header.{IsHeaded, HeaderFails}
use Rattle.gtp_v2.proofs.Headers.{header_decided}
use Rattle.gtp_v2.specs.Message.{head_of, with_head, Content, Fields, Raw, with_content, MessageValue, MessageGives, ContentAllocates}
use Rattle.gtp_v2.specs.reading.Message.{sender_of, told, list_at, fields_at, typed_at, by_table, content_at, message_at, has_form, list_by, typed_by, content_by, message_by}
use Rattle.gtp_v2.specs.Tables.{table_of}
use Rattle.gtp_v2.specs.Marks.{ContentMarked, MeetsMarks}
use Rattle.gtp_v2.proofs.MarksOf.{content_marked}
use Rattle.gtp_v2.specs.Asks.{Asks, asks_in, asks_of}
use Rattle.gtp_v2.specs.Datagram.{FieldsAre, ListFails, FieldsFail, HasForm, LacksForm, CarriesAsked, FailsAsked, IsMessageBy, IsFaultBy, CarriesBy, FailsBy, IsMessage, IsFault}
use Rattle.gtp_v2.proofs.Decided.{whole_decided, lines_decided}
use Rattle.gtp_v2.proofs.Senders.{sender_is, sender_only}

told_decided : {X : Type 0} (head : Head) (r : Result X RowFault) (P : X → Type 0) (F : RowFault → Type 0) → Decides r P F
    → Decides (told head r) P (λ f. (g : RowFault) × F g × (f ≡ with_head head g))
told_decided head (Ok x) P F d = known_ok x P (λ f. (g : RowFault) × F g × (f ≡ with_head head g)) (d.ok x refl) (λ y p. sym (ok_same RowFault x y (d.is y p))) (λ f q. apart x q.0 (d.fails q.0 q.1))
told_decided {X = X} head (Err e) P F d =
    known_err (with_head head e) P (λ f. (g : RowFault) × F g × (f ≡ with_head head g)) (e, d.err e refl, refl) (λ y p. apart y e (sym (d.is y p)))
    (λ f q. q.2 ∙ ap (λ (g : RowFault). with_head head g) (sym (err_same X e q.0 (d.fails q.0 q.1))))

-- the list of elements, told with no sender
list_decided : (h : Headed) → Decides (told (head_of h None) (whole (elements_of h.at h.rest))) (AreElements h.at h.rest) (ListFails h)
list_decided h =
    decide_as (told (head_of h None) (whole (elements_of h.at h.rest))) (AreElements h.at h.rest) (AreElements h.at h.rest)
    (λ f. (g : RowFault) × IsCutShort h.at h.rest g × (f ≡ with_head (head_of h None) g)) (ListFails h)
    (λ es p. p) (λ es p. p)
    (λ f q. (q.1.0, q.1.1, q.2 ∙ ap (with_head (head_of h None)) q.1.2))
    (λ f q. (row_faults.Element (Truncated q.0), (q.0, q.1, refl), q.2))
    (told_decided (head_of h None) (whole (elements_of h.at h.rest)) (AreElements h.at h.rest) (IsCutShort h.at h.rest) (whole_decided h.at h.rest))

-- the lines, told with the sender
fields_decided : (lines : List Line) (h : Headed) (es : List Element) → Decides (told (head_of h (sender_of h.kind es)) (lines_at start lines es)) (LinesAre start lines es) (FieldsFail lines h es)
fields_decided lines h es =
    let head : Head = head_of h (sender_of h.kind es) in
    decide_as (told head (lines_at start lines es)) (LinesAre start lines es) (LinesAre start lines es)
    (λ f. (g : RowFault) × LinesFail start lines es g × (f ≡ with_head head g)) (FieldsFail lines h es)
    (λ fs p. p) (λ fs p. p)
    (λ f q. (q.0, q.1, (sender_of h.kind es, sender_is h.kind es, q.2)))
    (λ f q. (q.0, q.1, q.2.2 ∙ ap (λ (sender : Option TunnelEnd). with_head (head_of h sender) q.0) (sender_only h.kind es q.2.0 q.2.1)))
    (told_decided head (lines_at start lines es) (LinesAre start lines es) (LinesFail start lines es) (lines_decided start lines es))

same : (a b : Bool) → beq a b ≡ true → a ≡ b
same true true h = refl
same true false h = absurd cc
same false true h = absurd cc
same false false h = refl

other : (a b : Bool) → beq a b ≡ false → a ≢ b
other true true h is = absurd cc
other true false h is = cc
other false true h is = cc
other false false h is = absurd cc

form_is : (form : Option Bool) (h : Headed) → has_form form h ≡ true → HasForm form h
form_is None h is = tt
form_is (Some has_teid) h is = same (is_some h.teid) has_teid is

form_lacks : (form : Option Bool) (h : Headed) → has_form form h ≡ false → LacksForm form h
form_lacks None h is = absurd cc
form_lacks (Some has_teid) h is = other (is_some h.teid) has_teid is

not_both : (form : Option Bool) (h : Headed) → HasForm form h → LacksForm form h → ⊥
not_both None h has lacks = lacks
not_both (Some has_teid) h has lacks = lacks has

asked_decided : (asks : Option Asks) (h : Headed) → Decides (content_by asks h) (CarriesAsked asks h) (FailsAsked asks h)
unfolding typed_by list_by
asked_decided None h = known_ok (Raw h.rest) (CarriesAsked None h) (FailsAsked None h) refl (λ c p. p) (λ f q. q)
asked_decided (Some asks) h = by_form (has_form asks.has_teid h) refl where
  by_form : (b : Bool) → has_form asks.has_teid h ≡ b
      → Decides
      ((cond b (told (head_of h None) (whole (elements_of h.at h.rest))) (Err (faults.FlagT h.kind)) >>= λ es. fields_at asks.lines h es) >>=
      λ fields. Ok (Fields fields)) (CarriesAsked (Some asks) h) (FailsAsked (Some asks) h)
  by_form true s =
      let form = form_is asks.has_teid h s in
      decide_as
      (told (head_of h None) (whole (elements_of h.at h.rest)) >>= (λ es. told (head_of h (sender_of h.kind es)) (lines_at start asks.lines es)) >>=
      λ fields. Ok (Fields fields)) (λ c. (fields : List Field) × FieldsAre asks.lines h fields × (c ≡ Fields fields)) (CarriesAsked (Some asks) h)
      (First_or_later (AreElements h.at h.rest) (ListFails h) (FieldsFail asks.lines h)) (FailsAsked (Some asks) h)
      (λ c p. (form, p.0, p.1, p.2)) (λ c p. (p.1, p.2, p.3)) (λ f p. inr (form, p)) (λ f q. elim q [ inl p ↦ absurd (not_both asks.has_teid h form p.0) | inr p ↦ p.1 ])
      (decide_map (told (head_of h None) (whole (elements_of h.at h.rest)) >>= λ es. told (head_of h (sender_of h.kind es))
      (lines_at start asks.lines es)) (λ fields. Fields fields) (FieldsAre asks.lines h)
      (First_or_later (AreElements h.at h.rest) (ListFails h) (FieldsFail asks.lines h))
      (decide_bind (told (head_of h None) (whole (elements_of h.at h.rest)))
      (λ es. told (head_of h (sender_of h.kind es)) (lines_at start asks.lines es)) (AreElements h.at h.rest) (ListFails h)
      (λ es. LinesAre start asks.lines es) (λ es. FieldsFail asks.lines h es) (list_decided h) (λ es. fields_decided asks.lines h es)))
  by_form false s =
      let lacks = form_lacks asks.has_teid h s in
      known_err (faults.FlagT h.kind) (CarriesAsked (Some asks) h) (FailsAsked (Some asks) h) (inl (lacks, refl)) (λ c p. absurd (not_both asks.has_teid h p.0 lacks))
      (λ f q. elim q [ inl p ↦ p.1 | inr p ↦ absurd (not_both asks.has_teid h p.0 lacks) ])

pub message_by_decided : (asked : ℕ → Option Asks) (octets : List ℕ) → Decides (message_by asked octets) (IsMessageBy asked octets) (IsFaultBy asked octets)
unfolding message_by
message_by_decided asked octets =
    decide_bind (header_at octets) (λ h. content_by (asked h.kind) h >>= λ content. Ok (with_content h content)) (IsHeaded octets) (HeaderFails octets)
    (λ h m. (content : Content) × CarriesAsked (asked h.kind) h content × (m ≡ with_content h content)) (λ h. FailsAsked (asked h.kind) h)
    (header_decided octets) (λ h. decide_map (content_by (asked h.kind) h) (with_content h) (CarriesAsked (asked h.kind) h) (FailsAsked (asked h.kind) h) (asked_decided (asked h.kind) h))

-- ---- by the tables here

-- with a form that is asked for
pub typed_same : (has_teid : Bool) (lines : List Line) (h : Headed) → typed_at has_teid lines h ≡ typed_by (Some has_teid) lines h
unfolding typed_at list_at typed_by list_by
typed_same has_teid lines h = refl

table_same : (table : Option Table) (h : Headed) → by_table table h ≡ content_by (asks_in table) h
table_same None h = refl
table_same (Some table) h = ap (λ (r : Result (List Field) V2Fault). r >>= λ fields. Ok (Fields fields)) (typed_same table.has_teid table.lines h)

pub content_same : (h : Headed) → content_at h ≡ content_by (asks_of h.kind) h
unfolding content_at
content_same h = table_same (table_of h.kind) h

pub message_same : (octets : List ℕ) → message_at octets ≡ message_by asks_of octets
unfolding message_at message_by
message_same octets = λ i. header_at octets >>= λ h. content_same h i >>= λ content. Ok (with_content h content)

content_decided : (table : Option Table) (h : Headed) → Decides (by_table table h) (CarriesBy table h) (FailsBy table h)
content_decided table h = subst (λ (r : Result Content V2Fault). Decides r (CarriesBy table h) (FailsBy table h)) (sym (table_same table h)) (asked_decided (asks_in table) h)

pub message_decided : (octets : List ℕ) → Decides (message_at octets) (IsMessage octets) (IsFault octets)
message_decided octets = subst (λ (r : Result MessageValue V2Fault). Decides r (IsMessage octets) (IsFault octets)) (sym (message_same octets)) (message_by_decided asks_of octets)

-- a message that was built of what carries its header and content meets the marks of its table
pub built_marked : (h : Header) (r : Result Datagram V2Fault)
    → MessageGives (ContentAllocates (table_of h.kind)) (λ d. content_of d.message.body) r (content_at (headed_of h))
    → IfOk r (λ d. kind_of d.message.body ≡ h.kind) → IfOk r (λ d. HasHeader h d.message)
    → IfOk r (λ d. MeetsMarks (message_value d.message))
unfolding content_at
built_marked h (Ok d) gives kind header =
    let content = content_of d.message.body in
    let marked = content_marked (table_of h.kind) (headed_of h) content ((content_decided (table_of h.kind) (headed_of h)).ok content gives) in
    subst (λ (k : ℕ). ContentMarked (table_of k) (is_some d.message.teid) content) (sym kind)
    (subst (λ (o : Option ℕ). ContentMarked (table_of h.kind) (is_some o) content) (sym header.0) marked)
built_marked h (Err f) gives kind header = tt
