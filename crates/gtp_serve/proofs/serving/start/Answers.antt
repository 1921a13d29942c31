use Rattle.std.proofs.Common.{rules, ◌≤◌, ◌<◌, length, subst}
use Rattle.gtp_serve.proofs.Going.{long_head, no_head, has_started}
use Rattle.gtp_serve.proofs.serving.start.Goals as goal

pub returns-then-len-gt-MOST_OCTETS-clause-bad : goal.returns-then-len-gt-MOST_OCTETS-clause-bad
returns-then-len-gt-MOST_OCTETS-clause-bad g c any =
    let long : 1048576 < length c.next_line.new.line.items = search rules in
    long_head g.S.Server.SaysNone (g.R.Read.remaining c.args.reader.now.inner) c.next_line.new.line.items c.in_default.ensures.held long

pub returns-in-Err-Wrong-clause-bad : goal.returns-in-Err-Wrong-clause-bad
returns-in-Err-Wrong-clause-bad g c any =
    let fits : length c.next_line.new.line.items ≤ 1048576 = search rules in
    let none : g.S.Server.SaysNone c.deref.result.now = search rules in
    no_head g.S.Server.SaysNone (g.R.Read.remaining c.args.reader.now.inner) c.next_line.new.line.items c.in_default.ensures.held fits
    (subst g.S.Server.SaysNone c.deref.ensures.value none)

pub returns-in-Ok-clause-started : goal.returns-in-Ok-clause-started
returns-in-Ok-clause-started g c =
    let fits : length c.next_line.new.line.items ≤ 1048576 = search rules in
    has_started g.S.Server.Starts (g.R.Read.remaining c.args.reader.now.inner) (g.R.Read.remaining c.next_line.new.reader.inner) c.next_line.new.line.items
    c.in-Ok.server c.in_default.ensures.held c.in_default.ensures.rest fits
    (subst (λ l. g.S.Server.Starts l c.in-Ok.server) c.deref.ensures.value c.in-Ok.ensures.starts)
