-- Octets begin with one list of whole elements.
use Rattle.std.proofs.Common.{◌≡◌, ℕ, ◌+◌, List, [], ◌∷◌, length, refl, sym, ap, subst, ◌∙◌}
use Rattle.std.proofs.lemmas.Option.{same_Some}
use Rattle.gtp_ie.specs.Element.{Element}
use Rattle.gtp_ie.specs.Octets.{BeginsWith, Spans}
use Rattle.gtp_ie.proofs.Walked.{begins_front}
use Rattle.gtp_lines.specs.Laws.{OneFront}

abbrev found : Element → List ℕ → Element × List ℕ
found e rest = (e, rest)

abbrev Ends : ℕ → List ℕ → Type 0
Ends place rest = (e : Element) (after : List ℕ) → BeginsWith place rest e after → ⊥

-- octets begin with one element
begin_alike : (at : ℕ) (octets : List ℕ) (e d : Element) (rest after : List ℕ) → BeginsWith at octets e rest → BeginsWith at octets d after → found e rest ≡ found d after
begin_alike at octets e d rest after b c = same_Some (found e rest) (found d after) (sym (begins_front at octets e rest b) ∙ begins_front at octets d after c)

-- where the rest begins with no element, none stands at the same place
ends : (at : ℕ) (octets : List ℕ) (rest : List ℕ) (place : ℕ) (e : Element) (after : List ℕ) → Spans at octets [] rest place → Ends place rest → BeginsWith at octets e after → ⊥
ends at octets rest place e after (is, here) none b = none e after (subst (λ (n : ℕ). BeginsWith n rest e after) here (subst (λ (xs : List ℕ). BeginsWith at xs e after) is b))

alike : (at : ℕ) (octets : List ℕ) (es : List Element) (rest : List ℕ) (place : ℕ) (ds : List Element) (left : List ℕ) (end : ℕ)
    → Spans at octets es rest place → Ends place rest → Spans at octets ds left end → Ends end left → (es ≡ ds) × (rest ≡ left)
alike at octets [] rest place [] left end (is, here) none (other, there) stop = (refl, sym is ∙ other)
alike at octets [] rest place (d ∷ ds) left end spans none (after, b, others) stop = absurd (ends at octets rest place d after spans none b)
alike at octets (e ∷ es) rest place [] left end (after, b, others) none spans stop = absurd (ends at octets left end e after spans stop b)
alike at octets (e ∷ es) rest place (d ∷ ds) left end (after, b, spans) none (behind, c, others) stop =
    let same = begin_alike at octets e d after behind b c in
    let moved = subst (λ (q : Element × List ℕ). Spans (at + (4 + length q.0.body)) q.1 ds left end) (sym same) others in
    let more = alike (at + (4 + length e.body)) after es rest place ds left end spans none moved stop in
    (ap (λ (q : Element × List ℕ). q.0 ∷ es) same ∙ ap (λ (xs : List Element). d ∷ xs) more.0, more.1)

pub one_front : OneFront
one_front at octets es rest others left (place, spans, none) (end, other, stop) = alike at octets es rest place others left end spans none other stop
