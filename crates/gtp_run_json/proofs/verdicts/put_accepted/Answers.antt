use Rattle.std.proofs.Common.{codes}
use Rattle.gtp_outcomes.specs.Owed.{WasOwed}
use Rattle.gtp_run_json.specs.Verdicts.{accepted_json}
use Rattle.gtp_run_json.proofs.Judged.{judged_member}
use Rattle.gtp_run_json.proofs.Objects.{on_ok}
use Rattle.gtp_run_json.proofs.verdicts.put_accepted.Goals as goal

pub returns : goal.returns
returns c =
    record {
      ok =
          on_ok c.end_array.result
          (judged_member (WasOwed c.args.world.now.log) accepted_json c.args.world.now.log.accepted (codes "accepted") c.args.out.now c.key.new.self
          c.begin_array.new.self c.put_all_accepted.new.out c.end_array.new.self
          c.in_ok-key.ensures.ok c.in_ok-begin_array.ensures.ok c.in_ok-put_all_accepted.ensures.ok) c.end_array.ensures.ok;
    }
