use Rattle.std.proofs.Common.{Some, sym, ap, ◌∙◌}
use Rattle.gtp_scenario.specs.Trees.{view}
use Rattle.gtp_serve.proofs.Faultless.{head_known}
use Rattle.gtp_serve.proofs.reason.reason_for.Goals as goal

pub head_flaw-requires : goal.head_flaw-requires
head_flaw-requires c = head_known c.args.line.now (view c.root.result) (c.in-Ok.ensures ∙ ap (λ ts. Some (view ts)) (sym c.root.ensures)) c.requires
