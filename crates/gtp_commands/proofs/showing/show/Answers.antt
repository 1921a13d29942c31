use Rattle.std.proofs.Common.{rules, ◌≡◌}
use Rattle.gtp_commands.specs.Shown.{status_shown}
use Rattle.gtp_commands.proofs.showing.show.Goals as goal
use Rattle.gtp_commands.proofs.showing.show.Goals.{then-shown, else-shown}

pub returns-in-Ok-write_all-clause-shown : goal.returns-in-Ok-write_all-clause-shown
returns-in-Ok-write_all-clause-shown g c =
    let shown = c.in_ok-shown.shown in
    let status : c.if-shown.result ≡ status_shown shown.faulty = elim c.if-shown.branch [ then-shown w ↦ search rules | else-shown w ↦ search rules ] in
    (c.in-Ok.octets.items, shown.text.items, shown.faulty, search rules, search rules, search rules, status)
