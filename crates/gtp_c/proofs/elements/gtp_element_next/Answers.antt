use Rattle.std.proofs.Common.{◌∙◌, ap, sym}
use Rattle.gtp_ie.specs.Element.{front_of}
use Rattle.gtp_ie.specs.View.{element_of}
use Rattle.gtp_c.proofs.elements.gtp_element_next.Goals as goal

pub returns-in-Some-clause-found : goal.returns-in-Some-clause-found
returns-in-Some-clause-found c =
    λ _. record {
      element = element_of c.in-Some.view;
      rest = c.in-Some._after.now;
      front = ap (front_of c.args.place) (sym c.split_at.ensures.back) ∙ sym c.in-Some.ensures;
      is = c.of.ensures;
    }
