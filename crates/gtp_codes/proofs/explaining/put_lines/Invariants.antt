use Rattle.std.proofs.Common.{◌≡◌, ◌++◌, drop, option_map}
use Rattle.gtp_codes.specs.Explained.{lines_of}
use Rattle.gtp_codes.proofs.explaining.put_lines.Given as goal

-- the lines so far and those of what is left are all
abbrev pub invariant-loop-meaning : goal.invariant-loop-meaning
invariant-loop-meaning l =
    l.out.items ++ lines_of (option_map (λ w. w.now) l.fn.word) (drop l.meaning-index l.meanings)
    ≡ l.fn.out.items ++ lines_of (option_map (λ w. w.now) l.fn.word) l.fn.meanings
