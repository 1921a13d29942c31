use Rattle.std.proofs.Common.{sym, ◌∙◌}
use Rattle.gtp_gateway.proofs.InPlace.{counter_read}
use Rattle.gtp_gateway.proofs.receive.recovery.counter_in.Goals as goal

pub returns-then-has_counter : goal.returns-then-has_counter
returns-then-has_counter c =
    c.counter_of.ensures
    ∙ counter_read c.requires.spelled.0 c.args.view.now.message c.args.message_type c.value.result c.requires.spelled.1 c.requires.taken
    (sym c.has_counter.ensures ∙ c.if-has_counter.true) c.value.ensures.row
