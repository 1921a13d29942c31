-- Written by scripts/messages from specs/DeleteBearerResponse.antt.
use Rattle.std.proofs.Common.{rules}
use Rattle.gtp_v2.specs.reading.Rows.{lines_at}
use Rattle.gtp_v2.proofs.Passing.{ok_is}
use Rattle.gtp_v2.proofs.body.delete_bearer_response.DeleteBearerResponseHasTable.passes.Goals as goal

pub returns : goal.returns
unfolding lines_at
returns c = λ pass.
    let groups = ok_is _ (c.contexts_pass.ensures pass) in
    search (rules, groups.1)
