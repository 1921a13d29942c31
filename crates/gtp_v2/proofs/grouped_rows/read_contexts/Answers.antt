use Rattle.std.proofs.Common.{◌≡◌, length, map, rules, subst, sym}
use Rattle.std.specs.Prelude.{Ok}
use Rattle.gtp_ie.specs.Form.{bearer_context}
use Rattle.gtp_ie.specs.Element.{all_of}
use Rattle.gtp_v2.specs.declared.fault.Need.{Need}
use Rattle.gtp_v2.specs.reading.Rows.{some_groups}
use Rattle.gtp_v2.proofs.Given.{groups_given, optional_given}
use Rattle.gtp_v2.proofs.grouped_rows.read_contexts.Goals as goal

pub returns-in-Optional : goal.returns-in-Optional
returns-in-Optional g c =
    subst (λ (need : Need). some_groups need bearer_context 0 c.args.accepting g.C.Context.rows (all_of bearer_context 0 c.args.elements.now)
    ≡ Ok (map g.C.Context.values c.in-Some.contexts)) (sym c.in-Optional.is)
    (optional_given g.C.Context.values bearer_context 0 c.args.accepting g.C.Context.rows (all_of bearer_context 0 c.args.elements.now) c.in-Some.contexts c.in-Some.ensures)

pub returns-else-is_empty : goal.returns-else-is_empty
returns-else-is_empty g c =
    let there : (length c.in-Some.contexts ≡ 0 → ⊥) = search rules in
    groups_given g.C.Context.values c.args.need bearer_context 0 c.args.accepting g.C.Context.rows (all_of bearer_context 0 c.args.elements.now) c.in-Some.contexts c.in-Some.ensures there
