use Rattle.std.proofs.Common.{◌≡◌, ℕ, subst}
use Rattle.gtp_scenario.specs.Views.{scenario}
use Rattle.gtp_replay.specs.Captures.{IsFirstWithoutPacket}
use Rattle.gtp_replay.specs.Faults.{IsMemoryOr}
use Rattle.gtp_replay.specs.Told.{IsText, LacksPacket}
use Rattle.gtp_replay.specs.declared.replaying.Form.TheVariants.{Capture}
use Rattle.gtp_replay.proofs.Lacking.{memory_or_weaker, passed_on}
use Rattle.gtp_replay.proofs.replaying.told_of.Goals as goal

pub returns-in_err-text-clause-fault : goal.returns-in_err-text-clause-fault
returns-in_err-text-clause-fault c h =
    let Lacks : ℕ → Type 0 = LacksPacket c.args.form (scenario c.args.scenario.now) in
    passed_on c.from_residual.result c.in_err-text.field-0.0 (λ e. IsMemoryOr e Lacks) c.from_residual.ensures.1
    (memory_or_weaker c.in_err-text.field-0.0 (λ number. (c.args.form ≡ Capture) × IsFirstWithoutPacket c.args.ran.now.world.log.datagrams number)
    Lacks (λ number lacks. record { wanted = lacks.0; world = c.args.ran.now.world; run = h.run; first = lacks.1 }) c.in_err-text.ensures.fault)

pub returns-clause-told : goal.returns-clause-told
returns-clause-told c h = record {
  world = c.args.ran.now.world;
  run = h.run;
  text_is = subst (λ es. IsText c.args.form es c.args.ran.now.world c.in_ok-text.text.items) h.events c.in_ok-text.ensures.text;
  verdict_is = c.judged.ensures;
}
