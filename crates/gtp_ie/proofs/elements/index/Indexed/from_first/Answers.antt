use Rattle.std.proofs.Common.{◌+◌, ◌-◌, ◌∙◌, length, ap}
use Rattle.gtp_ie.specs.Element.{elements_of, list_of, first_of, all_of}
use Rattle.gtp_ie.proofs.Indexing.{first_left, all_left}
use Rattle.gtp_ie.proofs.elements.index.Indexed.from_first.Goals as goal

pub returns-clause-first : goal.returns-clause-first
returns-clause-first c =
    let a = c.self.inside in
    let at = a.at + (length a.octets.now - c.from.result) in
    ap (λ octets. first_of c.args.kind c.args.instance (list_of (elements_of at octets))) c.split_at.ensures.back
    ∙ rw c.from.ensures (first_left a.at a.octets.now a.lefts c.args.kind c.args.instance c.slot_of.result c.self.invariant c.slot_of.ensures.value c.slot_of.ensures.range)
    ∙ ap (first_of c.args.kind c.args.instance) c.self.view_is

pub returns-clause-all : goal.returns-clause-all
returns-clause-all c =
    let a = c.self.inside in
    let at = a.at + (length a.octets.now - c.from.result) in
    ap (λ octets. all_of c.args.kind c.args.instance (list_of (elements_of at octets))) c.split_at.ensures.back
    ∙ rw c.from.ensures (all_left a.at a.octets.now a.lefts c.args.kind c.args.instance c.slot_of.result c.self.invariant c.slot_of.ensures.value c.slot_of.ensures.range)
    ∙ ap (all_of c.args.kind c.args.instance) c.self.view_is
