-- What a caller of a walk is told.
use Rattle.std.proofs.Common.{ℕ, List, Result, Ok, Err, refl, sym, ap, ◌∙◌}
use Rattle.gtp_ie.specs.declared.elements.Elements.{Elements}
use Rattle.gtp_ie.specs.declared.fault.IeFault.{IeFault}
use Rattle.gtp_ie.specs.declared.fault.IeFault.TheVariants.{Truncated}
use Rattle.gtp_values.specs.Decides.{Decides}
use Rattle.gtp_ie.specs.Element.{Element, elements_of}
use Rattle.gtp_ie.specs.Octets.{AreElements, IsCut}
use Rattle.gtp_ie.specs.Walked.{IsWalked, FindsElements}
use Rattle.gtp_values.proofs.Outcomes.{ok_same, err_same, apart}
use Rattle.gtp_ie.proofs.Walked.{elements_decided}

abbrev answered : List Element → Result Elements IeFault
answered es = Ok es

by_walk : (base : ℕ) (octets : List ℕ) (result : Result Elements IeFault) (walked : Result (List Element) ℕ) → IsWalked result walked
    → Decides walked (AreElements base octets) (IsCut base octets) → FindsElements base octets result
by_walk base octets (Ok es) walked h d =
    record {
      found = d.ok es h;
      only = λ other are. ap answered (ok_same ℕ es other (sym h ∙ d.is other are));
      cut = tt;
      first = λ at cut. absurd (apart es at (sym h ∙ d.fails at cut));
    }
by_walk base octets (Err f) (Err at) h d =
    record {
      found = tt;
      only = λ other are. absurd (apart other at (sym (d.is other are)));
      cut = (at, h, d.err at refl);
      first = λ place cut. ap (λ (g : IeFault). Err g) (h ∙ ap (λ (n : ℕ). Truncated n) (err_same (List Element) at place (d.fails place cut)));
    }
by_walk base octets (Err f) (Ok es) h d = absurd h

pub finds : (base : ℕ) (octets : List ℕ) (result : Result Elements IeFault) → IsWalked result (elements_of base octets) → FindsElements base octets result
finds base octets result h = by_walk base octets result (elements_of base octets) h (elements_decided base octets)
