use Rattle.gtp_c.proofs.Carrying.{lies_at_end}
use Rattle.gtp_c.proofs.user.gtp_user_read.Goals as goal

pub returns-in-Ok-clause-found : goal.returns-in-Ok-clause-found
returns-in-Ok-clause-found c =
    λ _. record {
      message = c.in-Ok.view;
      spelled = c.in-Ok.ensures.found;
      is = c.put.ensures.told;
      lies = lies_at_end c.args.octets.now c.in-Ok.view c.in-Ok.ensures.found;
      place = c.put.ensures.place;
    }

pub returns-in-Err-clause-only : goal.returns-in-Err-clause-only
returns-in-Err-clause-only c = λ v spelled. absurd (c.in-Err.ensures.only v spelled)
