use Rattle.std.proofs.Common.{◌≡◌, ◌++◌, drop}
use Rattle.gtp_forms.specs.Described.{view_names}
use Rattle.gtp_forms.proofs.describing.put_view_names.Given as goal

abbrev pub invariant-loop-view : goal.invariant-loop-view
invariant-loop-view l = l.out.items ++ view_names (drop l.view-index l.views) ≡ l.fn.out.items ++ view_names l.views
