use Rattle.std.proofs.Common.{◌≡◌, ◌++◌, drop, map}
use Rattle.gtp_forms.specs.Told.{event_of}
use Rattle.gtp_forms.specs.Tokens.{tokens_of}
use Rattle.gtp_forms.proofs.members.write_told.Given as goal

-- the members so far and those of what is left are all
abbrev pub invariant-loop-one : goal.invariant-loop-one
invariant-loop-one l = record {
  tokens : l.out.tokens ++ tokens_of (map event_of (drop l.one-index l.told)) ≡ l.fn.out.tokens ++ tokens_of (map event_of l.told);
  before : l.out.before ≡ l.fn.out.before;
}
