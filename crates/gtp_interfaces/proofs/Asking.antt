-- Tables that ask what an interface asks judge as it does.
use Rattle.std.proofs.Common.{◌≡◌, ℕ, Bool, true, false, cond, map, List, [], ◌∷◌, Option, Some, Result, Ok, Err, refl, ap, subst, ◌∙◌}
use Rattle.std.specs.Prelude.{◌==◌, IfOk, IfErr}
use Rattle.gtp_values.proofs.Outcomes.{apart, err_same}
use Rattle.gtp_v2.specs.declared.asked.Asked.{Asked}
use Rattle.gtp_v2.specs.declared.asked.Others.{Others}
use Rattle.gtp_v2.specs.declared.asked.Others.TheVariants as others
use Rattle.gtp_v2.specs.declared.asked.Tables.{Tables}
use Rattle.gtp_v2.specs.declared.fault.V2Fault.{V2Fault}
use Rattle.gtp_v2.specs.Asks.{Asks}
use Rattle.gtp_v2.specs.Asked.{asked_or, first_asked, asked_by}
use Rattle.gtp_v2.specs.reading.Lines.{asked_kept}
use Rattle.gtp_v2.specs.Pair.{DatagramValue, IsDatagramBy, IsDatagramFaultBy}
use Rattle.gtp_interfaces.specs.Interface.{asked_among}

among_same : (kind : ℕ) (asked : List Asked) (own : List (ℕ × Asks)) → map asked_kept asked ≡ own → asked_or others.Elements (first_asked kind asked) ≡ asked_among own kind
among_same kind [] [] same = refl
among_same kind [] (t ∷ own) same = absurd cc
among_same kind (a ∷ asked) [] same = absurd cc
among_same kind (a ∷ asked) (t ∷ own) same =
    let one : asked_kept a ≡ t = cc same in
    let tail : map asked_kept asked ≡ own = cc same in
    by_kind (kind == a.kind) (kind == t.0) (ap (λ (p : ℕ × Asks). kind == p.0) one) (ap (λ (p : ℕ × Asks). Some p.1) one) (among_same kind asked own tail)
  where
    by_kind : (b c : Bool) → b ≡ c → asked_or others.Elements (Some a) ≡ Some t.1 → asked_or others.Elements (first_asked kind asked) ≡ asked_among own kind
        → asked_or others.Elements (cond b (Some a) (first_asked kind asked)) ≡ cond c (Some t.1) (asked_among own kind)
    by_kind true true is one tail = one
    by_kind true false is one tail = absurd cc
    by_kind false true is one tail = absurd cc
    by_kind false false is one tail = tail

-- tables ask what a list of types asks, and of other types whole elements
pub asks_alike : (tables : Tables) (own : List (ℕ × Asks)) → map asked_kept tables.tables.now ≡ own → tables.others ≡ others.Elements
    → (kind : ℕ) → asked_by tables kind ≡ asked_among own kind
asks_alike tables own rows other kind =
    ap (λ (o : Others). asked_or o (first_asked kind tables.tables.now)) other ∙ among_same kind tables.tables.now own rows

-- ---- judging by tables that ask alike

module _ (tables : Tables) (asked : ℕ → Option Asks) (alike : (kind : ℕ) → asked_by tables kind ≡ asked kind) (octets : List ℕ) (r : Result (Unit {0}) V2Fault) where
  same : asked_by tables ≡ asked
  same = λ i kind. alike kind i

  pub found : IfOk r (λ u. (d : DatagramValue) × IsDatagramBy (asked_by tables) octets d) → IfOk r (λ u. (d : DatagramValue) × IsDatagramBy asked octets d)
  found h = subst (λ (a : ℕ → Option Asks). IfOk r (λ u. (d : DatagramValue) × IsDatagramBy a octets d)) same h

  pub only : ((d : DatagramValue) → IsDatagramBy (asked_by tables) octets d → r ≡ Ok tt) → (d : DatagramValue) → IsDatagramBy asked octets d → r ≡ Ok tt
  only h = subst (λ (a : ℕ → Option Asks). (d : DatagramValue) → IsDatagramBy a octets d → r ≡ Ok tt) same h

  pub first : ((f : V2Fault) → IsDatagramFaultBy (asked_by tables) octets f → r ≡ Err f) → (f : V2Fault) → IsDatagramFaultBy asked octets f → r ≡ Err f
  first h = subst (λ (a : ℕ → Option Asks). (f : V2Fault) → IsDatagramFaultBy a octets f → r ≡ Err f) same h

  pub fault : IfErr r (λ f. IsDatagramFaultBy (asked_by tables) octets f) → IfErr r (λ f. IsDatagramFaultBy asked octets f)
  fault h = subst (λ (a : ℕ → Option Asks). IfErr r (λ f. IsDatagramFaultBy a octets f)) same h

-- ---- judging by a view

abbrev viewed_fault : (X : Type 0) → V2Fault → Result X V2Fault
viewed_fault X f = Err f

abbrev judged_fault : V2Fault → Result (Unit {0}) V2Fault
judged_fault f = Err f

pub no_fault : {X : Type 0} (x : X) (f : V2Fault) → Ok x ≡ Err f → ⊥
no_fault x f h = apart x f h

pub one_fault : {X : Type 0} (f g : V2Fault) → viewed_fault X f ≡ Err g → judged_fault f ≡ Err g
one_fault {X = X} f g h = ap judged_fault (err_same X f g h)
