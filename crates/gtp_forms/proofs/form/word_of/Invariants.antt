use Rattle.std.proofs.Common.{◌≡◌, drop}
use Rattle.gtp_forms.specs.Text.{word_of}
use Rattle.gtp_forms.proofs.form.word_of.Given as goal

-- the first among those that are left is the first of all
abbrev pub invariant-loop-word : goal.invariant-loop-word
invariant-loop-word l = word_of (drop l.word-index l.words) l.number ≡ word_of l.words l.number
