use Rattle.std.proofs.Common.{subst, sym}
use Rattle.std.specs.Prelude.{IsOk}
use Rattle.gtp_ie.specs.Form.{bearer_context}
use Rattle.gtp_ie.specs.Element.{all_of}
use Rattle.gtp_v2.specs.declared.fault.Need.{Need}
use Rattle.gtp_v2.specs.reading.Rows.{some_groups}
use Rattle.gtp_v2.proofs.Passing.{groups_there, groups_optional}
use Rattle.gtp_v2.proofs.grouped_rows.contexts_pass.Goals as goal

pub returns-in-Optional : goal.returns-in-Optional
returns-in-Optional g c = λ pass.
    subst (λ (need : Need). IsOk (some_groups need bearer_context 0 c.args.accepting g.C.Context.rows (all_of bearer_context 0 c.args.elements.now))) (sym c.in-Optional.is)
    (groups_optional bearer_context 0 c.args.accepting c.in-Some.silent g.C.Context.rows (all_of bearer_context 0 c.args.elements.now) c.in-Some.ensures)

pub returns-in-Mandatory : goal.returns-in-Mandatory
returns-in-Mandatory g c = λ pass.
    groups_there c.args.need bearer_context 0 c.args.accepting c.in-Some.silent g.C.Context.rows (all_of bearer_context 0 c.args.elements.now) c.in-Some.ensures pass
