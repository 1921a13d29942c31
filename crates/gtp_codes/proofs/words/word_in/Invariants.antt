use Rattle.std.proofs.Common.{◌≡◌, drop, map}
use Rattle.gtp_codes.specs.Words.{said_by, word_in}
use Rattle.gtp_codes.proofs.words.word_in.Given as goal

-- the word is that of what is left
abbrev pub invariant-loop-row : goal.invariant-loop-row
invariant-loop-row l = word_in (map said_by (drop l.row-index l.table)) l.number ≡ word_in (map said_by l.fn.table) l.fn.number
