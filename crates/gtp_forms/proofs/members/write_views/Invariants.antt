use Rattle.std.proofs.Common.{◌≡◌, ◌++◌, drop}
use Rattle.gtp_forms.specs.Tokens.{written, field_members}
use Rattle.gtp_forms.proofs.members.write_views.Given as goal

-- the members so far and those of what is left are all
abbrev pub invariant-loop-view : goal.invariant-loop-view
invariant-loop-view l = record {
  tokens : l.out.tokens ++ written (field_members (drop l.view-index l.views) l.octets) ≡ l.fn.out.tokens ++ written (field_members l.views l.octets);
  before : l.out.before ≡ l.fn.out.before;
}
