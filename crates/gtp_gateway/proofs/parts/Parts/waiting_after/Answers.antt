use Rattle.std.proofs.Common.{sym, ◌∙◌}
use Rattle.gtp_gateway.specs.Parts.{node_of}
use Rattle.gtp_gateway.proofs.Pendings.{waits, none_waits_at}
use Rattle.gtp_gateway.proofs.Opened.{waited, waits_on, waits_no_more}
use Rattle.gtp_gateway.proofs.parts.Parts.waiting_after.Goals as goal

pub returns-in_default-clause-none : goal.returns-in_default-clause-none
returns-in_default-clause-none c = λ at.
    let old = c.args.self.now in
    none_waits_at old.pending.waiting c.args.seq at.pending (sym c.waiting.ensures ∙ c.in_default.is) (waited c.args.heard (node_of old) c.args.seq at.pending at.waits)

pub returns-then-goes_after-clause-none : goal.returns-then-goes_after-clause-none
returns-then-goes_after-clause-none c =
    let old = c.args.self.now in
    let purpose = c.in-Some.purpose in
    let w = waits old.config.config.peer.control old.pending.waiting c.args.seq purpose old.asked (sym c.waiting.ensures ∙ c.in-Some.is) in
    waits_no_more c.args.heard (node_of old) c.args.seq purpose w.message w.stands (sym c.goes_after.ensures ∙ c.if-goes_after.true)

pub returns-clause-some : goal.returns-clause-some
returns-clause-some c =
    let old = c.args.self.now in
    let purpose = c.in-Some.purpose in
    let w = waits old.config.config.peer.control old.pending.waiting c.args.seq purpose old.asked (sym c.waiting.ensures ∙ c.in-Some.is) in
    record { message = w.message; waits = waits_on c.args.heard (node_of old) c.args.seq purpose w.message w.stands (sym c.goes_after.ensures ∙ c.if-goes_after.false); meant = w.meant }
