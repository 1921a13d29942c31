-- The lines of a datagram without a fault are all that can be shown of it.
use Rattle.std.proofs.Common.{◌≡◌, ℕ, ◌+◌, ◌*◌, ◌/◌, ◌%◌, ◌<◌, true, false, List, [], ◌++◌, length, take, drop, Option, Some, None, inl, inr, refl, sym, ap, subst, ◌∙◌, arith, length-append}
use Rattle.std.specs.Prelude.{◌==◌, nat_le, nat_lt}
use Rattle.std.specs.List.{flat_map}
use Rattle.std.proofs.lemmas.Bool.{le-ltb}
use Rattle.std.proofs.lemmas.Bool.Decides.{nat_tests}
use Rattle.std.proofs.lemmas.List.{append-nil, take_at, drop_at}
use Rattle.gtp_ie.specs.Element.{Element}
use Rattle.gtp_ie.specs.Octets.{AreElements}
use Rattle.gtp_v2.specs.Headed.{Headed}
use Rattle.gtp_v2.specs.Header.{IsHeaded}
use Rattle.gtp_v2.specs.Message.{Content, Fields, Raw, raw_of, MessageValue}
use Rattle.gtp_v2.specs.Datagram.{IsMessage}
use Rattle.gtp_v2.specs.Pair.{Announces, alone, both}
use Rattle.gtp_v2.specs.Viewed.{place_of}
use Rattle.gtp_v2.proofs.Carried.{after_header}
use Rattle.gtp_names.specs.declared.names.Names.{Names}
use Rattle.gtp_lines.specs.Control.{first_line}
use Rattle.gtp_lines.specs.Named.{Named, title_in, named_lines}
use Rattle.gtp_lines.specs.Messages.{head_by, CarriedLines, HasLines}
use Rattle.gtp_lines.specs.All.{head_of, head_at, pair_at, rest_line, MessageShown, SecondShown, ShownBy}
use Rattle.gtp_lines.specs.Laws.{WholeShown}
use Rattle.gtp_lines.proofs.Before.{all_front}

-- ---- headers

third_flag : (flags : ℕ) → flags < 8 → (((64 + (8 + flags)) / 4) % 2 == 1) ≡ nat_le 4 flags
third_flag flags small = grind (arith, nat_tests)

-- the header of a message is at the front of its octets
head_is : (octets : List ℕ) (h : Headed) → IsHeaded octets h → head_at octets ≡ Some h
head_is octets h (inl (flags, a, b, c, spare, small, (high, low, lt, text, long), is)) =
    let version : ((64 + flags) / 32 == 2) ≡ true = grind (arith, nat_tests) in
    let no_teid : (((64 + flags) / 8) % 2 == 1) ≡ false = grind (arith, nat_tests) in
    ap head_at text ∙ rw (version, no_teid) (ap (λ (x : Headed). Some x) (sym is))
head_is octets h (inr (flags, a, b, c, d, e, f, g, last, small, (high, low, lt, text, long), is)) =
    let version : ((64 + (8 + flags)) / 32 == 2) ≡ true = grind (arith, nat_tests) in
    let has_teid : (((64 + (8 + flags)) / 8) % 2 == 1) ≡ true = grind (arith, nat_tests) in
    ap head_at text ∙ rw (version, has_teid, third_flag flags small) (ap (λ (x : Headed). Some x) (sym is))

-- which announces no second one
no_pair : (octets : List ℕ) (h : Headed) → IsHeaded octets h → pair_at octets ≡ None
no_pair octets h (inl (flags, a, b, c, spare, small, (high, low, lt, text, long), is)) =
    let single : (((64 + flags) / 16) % 2 == 1) ≡ false = grind (arith, nat_tests) in
    ap pair_at text ∙ rw single refl
no_pair octets h (inr (flags, a, b, c, d, e, f, g, last, small, (high, low, lt, text, long), is)) =
    let single : (((64 + (8 + flags)) / 16) % 2 == 1) ≡ false = grind (arith, nat_tests) in
    ap pair_at text ∙ rw single refl

-- the announcement changes nothing in a header
same_head : (flags kind : ℕ) (following : List ℕ) → flags < 16 → head_of (80 + flags) kind following ≡ head_of (64 + flags) kind following
same_head flags kind following small =
    let announcing : ((80 + flags) / 32 == 2) ≡ true = grind (arith, nat_tests) in
    let single : ((64 + flags) / 32 == 2) ≡ true = grind (arith, nat_tests) in
    let teid : ((80 + flags) / 8) % 2 ≡ ((64 + flags) / 8) % 2 = omega arith in
    let ranked : ((80 + flags) / 4) % 2 ≡ ((64 + flags) / 4) % 2 = omega arith in
    rw (announcing, single, teid, ranked) refl

announced : (octets front back : List ℕ) (h : Headed) → Announces octets front back → IsHeaded front h → pair_at octets ≡ Some (h, back)
announced octets front back h (flags, kind, high, low, following, (small, text), long, is) headed =
    let second : (((80 + flags) / 16) % 2 == 1) ≡ true = grind (arith, nat_tests) in
    let held : nat_lt (length (following ++ back)) (256 * high + low) ≡ false = le-ltb _ _ (omega (arith, long, length-append following back)) in
    let kept : take (256 * high + low) (following ++ back) ≡ following = take_at following back (256 * high + low) (sym long) in
    let left : drop (256 * high + low) (following ++ back) ≡ back = drop_at following back (256 * high + low) (sym long) in
    let head : head_of (80 + flags) kind following ≡ Some h = same_head flags kind following small ∙ (ap head_at (sym is) ∙ head_is front h headed) in
    ap pair_at text ∙ rw (second, held, kept, left, head) refl

-- ---- messages

fields_lines : (names : Names) (octets : List ℕ) (m : MessageValue) (content : Content) (lines : List ℕ) → CarriedLines (Named names) octets m content lines → raw_of content ≡ None
    → (es : List Element) × AreElements (place_of m.teid) (drop (place_of m.teid) octets) es × (lines ≡ flat_map (named_lines names m.kind) es)
fields_lines names octets m (Raw carried) lines l none = absurd cc
fields_lines names octets m (Fields fields) lines l none = l

-- the lines of a message after others
record ShownAfter (names : Names) (before octets text : List ℕ) : Type 0 where
  head : Headed
  headed : IsHeaded octets head
  lines : List ℕ
  shown : MessageShown names head lines
  is : text ≡ before ++ lines

message_shown : (names : Names) (before octets : List ℕ) (m : MessageValue) (text : List ℕ) → IsMessage octets m → raw_of m.content ≡ None
    → HasLines (Named names) before octets m text → ShownAfter names before octets text
message_shown names before octets m text (h, headed, (content, carries, is)) none (lines, carried, text_is) =
    let after = after_header octets h headed in
    let w = fields_lines names octets m m.content lines carried none in
    let place : place_of m.teid ≡ h.at = ap (λ (x : MessageValue). place_of x.teid) is ∙ after.place in
    let here : AreElements h.at (drop h.at octets) w.0 = subst (λ (n : ℕ). AreElements n (drop n octets) w.0) place w.1 in
    let are : AreElements h.at h.rest w.0 = subst (λ (xs : List ℕ). AreElements h.at xs w.0) after.rest here in
    let first : List ℕ = first_line (title_in names h.kind) h.kind h.teid h.seq h.priority in
    let title : head_by (Named names) m ≡ first = ap (head_by (Named names)) is in
    let kind : m.kind ≡ h.kind = ap (λ (x : MessageValue). x.kind) is in
    let named : lines ≡ flat_map (named_lines names h.kind) w.0 = w.2 ∙ ap (λ (n : ℕ). flat_map (named_lines names n) w.0) kind in
    let rest : lines ≡ flat_map (named_lines names h.kind) w.0 ++ rest_line [] = named ∙ sym (append-nil (flat_map (named_lines names h.kind) w.0)) in
    record {
      head = h;
      headed = headed;
      lines = first ++ (flat_map (named_lines names h.kind) w.0 ++ rest_line []);
      shown = (w.0, [], all_front h.at h.rest w.0 are, refl);
      is = text_is ∙ (ap (λ (xs : List ℕ). before ++ (xs ++ lines)) title ∙ ap (λ (xs : List ℕ). before ++ (first ++ xs)) rest);
    }

pub whole_shown : WholeShown
whole_shown names octets text typed (inl (m, is, has)) =
    let spelled = inl (m, is, refl) in
    let s = message_shown names [] octets m text is (typed (alone m) spelled) has in
    let here : ShownBy names None (head_at octets) text =
    subst (λ (w : Option Headed). ShownBy names None w text) (sym (head_is octets s.head s.headed))
    (subst (λ (xs : List ℕ). MessageShown names s.head xs) (sym s.is) s.shown) in
    ((alone m, spelled), subst (λ (p : Option (Headed × List ℕ)). ShownBy names p (head_at octets) text) (sym (no_pair octets s.head s.headed)) here)
whole_shown names octets text typed (inr (front, back, announces, (before, (a, isa, hasa), (b, isb, hasb)))) =
    let spelled = inr (front, back, announces, (a, isa, (b, isb, refl))) in
    let each = typed (both a b) spelled in
    let one = message_shown names [] front a before isa each.0 hasa in
    let two = message_shown names before back b text isb each.1 hasb in
    let second : SecondShown names back (head_at back) two.lines = subst (λ (w : Option Headed). SecondShown names back w two.lines) (sym (head_is back two.head two.headed)) two.shown in
    let both_are : text ≡ one.lines ++ two.lines = two.is ∙ ap (λ (xs : List ℕ). xs ++ two.lines) one.is in (
      (both a b, spelled),
      subst (λ (p : Option (Headed × List ℕ)). ShownBy names p (head_at octets) text) (sym (announced octets front back one.head announces one.headed))
          (one.lines, two.lines, one.shown, second, both_are),
    )
