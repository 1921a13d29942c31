use Rattle.std.proofs.Common.{codes}
use Rattle.gtp_world.specs.Naming.{mutual_pairs, DoAgree}
use Rattle.gtp_run_json.specs.Verdicts.{mutual_json}
use Rattle.gtp_run_json.proofs.Judged.{judged_member}
use Rattle.gtp_run_json.proofs.Objects.{on_ok}
use Rattle.gtp_run_json.proofs.verdicts.put_mutual.Goals as goal

pub returns : goal.returns
returns c =
    record {
      ok =
          on_ok c.end_array.result
          (judged_member (DoAgree c.args.world.now) mutual_json (mutual_pairs c.args.world.now) (codes "mutual") c.args.out.now c.key.new.self
          c.begin_array.new.self c.put_all_mutual.new.out c.end_array.new.self
          c.in_ok-key.ensures.ok c.in_ok-begin_array.ensures.ok c.in_ok-put_all_mutual.ensures.ok) c.end_array.ensures.ok;
    }
