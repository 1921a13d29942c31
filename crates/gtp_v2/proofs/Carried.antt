-- The elements that a datagram carries.
use Rattle.std.proofs.Common.{◌≡◌, ℕ, ◌+◌, ◌≤◌, List, length, drop, Option, Some, None, Ok, inl, inr, sym, ap, subst, ◌∙◌, arith}
use Rattle.gtp_values.proofs.Decided.{bind_ok}
use Rattle.gtp_ie.specs.Element.{Element, elements_of, list_of}
use Rattle.gtp_ie.specs.Octets.{AreElements}
use Rattle.gtp_v2.specs.Table.{Table}
use Rattle.gtp_v2.specs.reading.Checked.{forgotten}
use Rattle.gtp_v2.specs.Tables.{table_of}
use Rattle.gtp_v2.specs.Headed.{Headed}
use Rattle.gtp_v2.specs.reading.Headed.{header_at}
use Rattle.gtp_v2.specs.Header.{IsHeaded}
use Rattle.gtp_v2.specs.Message.{Content, Fields, with_content, raw_of}
use Rattle.gtp_v2.specs.reading.Message.{typed_at, by_table, content_at}
use Rattle.gtp_v2.specs.Viewed.{Viewed, place_of, ElementsAre, Carries, Follows}
use Rattle.gtp_v2.specs.reading.Viewed.{viewed, IsViewed, content_or_none, elements_by, list_or_none}
use Rattle.gtp_v2.proofs.Checks.{was_read}
use Rattle.gtp_v2.proofs.Decided.{whole_decided}
use Rattle.gtp_v2.proofs.Headers.{header_decided}
use Rattle.gtp_v2.proofs.Views.{typed_whole, whole_is, content_is, content_ok}

-- where the octets after a header begin
pub record IsAfter (octets : List ℕ) (h : Headed) : Type 0 where
  pub place : place_of h.teid ≡ h.at
  pub rest : drop h.at octets ≡ h.rest
  pub room : h.at ≤ length octets
  pub long : h.at + length h.rest ≡ length octets

pub after_header : (octets : List ℕ) (h : Headed) → IsHeaded octets h → IsAfter octets h
after_header octets h is = elim is [
  | inl (flags, a, b, c, spare, small, (high, low, lt, text, long), e) ↦
      let at : h.at ≡ 8 = ap (λ (x : Headed). x.at) e in
      let teid : place_of h.teid ≡ 8 = ap (λ (x : Headed). place_of x.teid) e in
      record { place = teid ∙ sym at; rest = ap (λ (n : ℕ). drop n octets) at ∙ ap (drop 8) text; room = omega (arith, at, ap length text); long = omega (arith, at, ap length text) }
  | inr (flags, a, b, c, d, p, q, r, last, small, (high, low, lt, text, long), e) ↦
      let at : h.at ≡ 12 = ap (λ (x : Headed). x.at) e in
      let teid : place_of h.teid ≡ 12 = ap (λ (x : Headed). place_of x.teid) e in
      record { place = teid ∙ sym at; rest = ap (λ (n : ℕ). drop n octets) at ∙ ap (drop 12) text; room = omega (arith, at, ap length text); long = omega (arith, at, ap length text) }
]

carried_by : (octets : List ℕ) (h : Headed) (elements : Option (List Element)) (table : Option Table) → IsAfter octets h → forgotten (by_table table h) ≡ Ok tt → elements ≡ elements_by table h
    → ElementsAre octets (with_content h (content_or_none (by_table table h))) (content_or_none (by_table table h)) (list_or_none elements)
carried_by octets h elements None is reads walked = ap list_or_none walked
carried_by octets h elements (Some table) is reads walked =
    let r = was_read (by_table (Some table) h) reads in
    let b = bind_ok (typed_at table.has_teid table.lines h) (λ fields. content_ok (Fields fields)) r.0 r.1 in
    let content : content_or_none (by_table (Some table) h) ≡ Fields b.0 = content_is (by_table (Some table) h) r.0 r.1 ∙ sym (content_is (content_ok (Fields b.0)) r.0 b.2) in
    let w = typed_whole table.has_teid table.lines h b.0 b.1 in
    let all : list_or_none elements ≡ w.0 = ap list_or_none walked ∙ whole_is (elements_of h.at h.rest) w.0 w.1.0 in
    let are : AreElements h.at h.rest w.0 = (whole_decided h.at h.rest).ok w.0 w.1.0 in
    let rest : AreElements h.at (drop h.at octets) w.0 = subst (λ (xs : List ℕ). AreElements h.at xs w.0) (sym is.rest) are in
    let placed : AreElements (place_of h.teid) (drop (place_of h.teid) octets) w.0 = subst (λ (n : ℕ). AreElements n (drop n octets) w.0) (sym is.place) rest in
    subst (λ (c : Content). ElementsAre octets (with_content h c) c (list_or_none elements)) (sym content)
    (subst (λ (es : List Element). AreElements (place_of h.teid) (drop (place_of h.teid) octets) es) (sym all) placed)

pub carried : (octets : List ℕ) (h : Headed) (elements : Option (List Element)) → header_at octets ≡ Ok h → IsViewed h elements → Carries octets (viewed h elements)
unfolding content_at
carried octets h elements headed inv = carried_by octets h elements (table_of h.kind) (after_header octets h ((header_decided octets).ok h headed)) inv.reads inv.walked

-- the octets after its header
pub followed : (octets : List ℕ) (h : Headed) (elements : Option (List Element)) → header_at octets ≡ Ok h → Follows octets (viewed h elements)
followed octets h elements headed =
    let after = after_header octets h ((header_decided octets).ok h headed) in
    sym after.rest ∙ ap (λ (n : ℕ). drop n octets) (sym after.place)

-- the octets of a message that is kept as octets
raw_by : (h : Headed) (elements : Option (List Element)) (rest : Option (List ℕ)) (table : Option Table) → forgotten (by_table table h) ≡ Ok tt
    → elements ≡ elements_by table h → (elements ≡ None → rest ≡ Some h.rest) → ((es : List Element) → elements ≡ Some es → rest ≡ None)
    → rest ≡ raw_of (content_or_none (by_table table h))
raw_by h elements rest None reads walked raw typed = raw walked
raw_by h elements rest (Some table) reads walked raw typed =
    let r = was_read (by_table (Some table) h) reads in
    let b = bind_ok (typed_at table.has_teid table.lines h) (λ fields. content_ok (Fields fields)) r.0 r.1 in
    let content : content_or_none (by_table (Some table) h) ≡ Fields b.0 = content_is (by_table (Some table) h) r.0 r.1 ∙ sym (content_is (content_ok (Fields b.0)) r.0 b.2) in
    typed (list_of (elements_of h.at h.rest)) walked ∙ sym (ap raw_of content)

pub raw_is : (h : Headed) (elements : Option (List Element)) (rest : Option (List ℕ)) (m : Viewed) → viewed h elements ≡ m → IsViewed h elements
    → (elements ≡ None → rest ≡ Some h.rest) → ((es : List Element) → elements ≡ Some es → rest ≡ None) → rest ≡ raw_of m.message.content
unfolding content_at
raw_is h elements rest m view inv raw typed = raw_by h elements rest (table_of h.kind) inv.reads inv.walked raw typed ∙ ap (λ (v : Viewed). raw_of v.message.content) view
