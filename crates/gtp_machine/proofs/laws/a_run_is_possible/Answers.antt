-- The runs are in `Possible` and `Further`, and in `Templates`.
use Rattle.gtp_machine.proofs.Worlds.Further as run
use Rattle.gtp_machine.proofs.Worlds.Templates.{a_template_is_possible}
use Rattle.gtp_machine.proofs.laws.a_run_is_possible.Goals as goal

pub returns : goal.returns
returns c = record {
  commanded = run.a_run_is_possible;
  template = a_template_is_possible;
}
