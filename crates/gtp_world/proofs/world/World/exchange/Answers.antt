use Rattle.std.proofs.Common.{◌≡◌, ℕ, ◌+◌, length, refl, sym, ◌∙◌, ap, subst, arith}
use Rattle.std.proofs.lemmas.List.{length-map}
use Rattle.gtp_machine.specs.World.{Deliver}
use Rattle.gtp_gateway.specs.command.CreateSession.{specification}
use Rattle.gtp_world.specs.Record.{sent_by, outcome_of}
use Rattle.gtp_world.specs.Stepped.{EventLeaves}
use Rattle.gtp_world.proofs.Finding.{if_err}
use Rattle.gtp_world.specs.Exchange.{exchange_events}
use Rattle.gtp_world.proofs.Exchanging.{exchanged, so_far}
use Rattle.gtp_world.proofs.Running.{runs_on}
use Rattle.gtp_world.proofs.world.World.exchange.Goals as goal

pub returns-in_err-begun-clause-err : goal.returns-in_err-begun-clause-err
returns-in_err-begun-clause-err c =
    if_err c.from_residual.result _
    (so_far c.args.self.now (exchange_events (specification c.args.spec.now) (length c.args.self.now.log.datagrams)) c.step.new.self 0 (omega arith)
    c.in_err-begun.ensures.err)

pub returns-in_err-answered-clause-err : goal.returns-in_err-answered-clause-err
returns-in_err-answered-clause-err c =
    if_err c.from_residual-in_err-answered.result _
    (so_far c.args.self.now (exchange_events (specification c.args.spec.now) (length c.args.self.now.log.datagrams)) c.step-2.new.self 1 (omega arith)
    (c.step.new.self, c.in_ok-begun.ensures.comes, c.in_err-answered.ensures.err))

pub returns-in_err-opened-clause-err : goal.returns-in_err-opened-clause-err
returns-in_err-opened-clause-err c =
    let same : length c.datagrams.result.now ≡ length c.args.self.now.log.datagrams = sym (length-map c.datagrams.result.now sent_by) ∙ ap length c.datagrams.ensures in
    let comes = subst (λ (n : ℕ). EventLeaves c.step.new.self (Deliver n) c.step-2.new.self) same c.in_ok-answered.ensures.comes in
    if_err c.from_residual-in_err-opened.result _
    (so_far c.args.self.now (exchange_events (specification c.args.spec.now) (length c.args.self.now.log.datagrams)) c.step-3.new.self 2 (omega arith)
    (c.step.new.self, c.in_ok-begun.ensures.comes, (c.step-2.new.self, comes, c.in_err-opened.ensures.err)))

pub returns-clause-comes : goal.returns-clause-comes
returns-clause-comes c =
    let same : length c.datagrams.result.now ≡ length c.args.self.now.log.datagrams = sym (length-map c.datagrams.result.now sent_by) ∙ ap length c.datagrams.ensures in
    let there = subst (λ (n : ℕ). EventLeaves c.step.new.self (Deliver n) c.step-2.new.self) same c.in_ok-answered.ensures.comes in
    let back = subst (λ (n : ℕ). EventLeaves c.step-2.new.self (Deliver (n + 1)) c.step-3.new.self) same c.in_ok-opened.ensures.comes in
    (c.step.new.self, c.in_ok-begun.ensures.comes, (c.step-2.new.self, there, (c.step-3.new.self, back, refl)))

pub returns-clause-run : goal.returns-clause-run
returns-clause-run c = runs_on c.args.self.now (exchange_events (specification c.args.spec.now) (length c.args.self.now.log.datagrams)) c.step-3.new.self (returns-clause-comes c)

pub returns-clause-fair : goal.returns-clause-fair
returns-clause-fair c = λ reached can.
    let same : length c.datagrams.result.now ≡ length c.args.self.now.log.datagrams = sym (length-map c.datagrams.result.now sent_by) ∙ ap length c.datagrams.ensures in
    let there = subst (λ (n : ℕ). EventLeaves c.step.new.self (Deliver n) c.step-2.new.self) same c.in_ok-answered.ensures.comes in
    let back = subst (λ (n : ℕ). EventLeaves c.step-2.new.self (Deliver (n + 1)) c.step-3.new.self) same c.in_ok-opened.ensures.comes in
    exchanged c.args.self.now reached (specification c.args.spec.now) (length c.args.self.now.log.datagrams) c.step.new.self c.step-2.new.self
    c.step-3.new.self (outcome_of c.in_ok-begun.begun) (outcome_of c.in_ok-answered.answered) (outcome_of c.in_ok-opened.opened) refl
    c.in_ok-begun.ensures.comes there back c.in_ok-begun.ensures.outcome c.in_ok-answered.ensures.outcome c.in_ok-opened.ensures.outcome can
