use Rattle.std.proofs.Common.{◌≡◌, ◌++◌, drop, map, option_map}
use Rattle.gtp_codes.specs.Explained.{explanation}
use Rattle.gtp_codes.proofs.explaining.explain.Given as goal

-- the lines so far and those of the parts that are left are all
abbrev pub invariant-loop-part : goal.invariant-loop-part
invariant-loop-part l =
    l.text.items ++ explanation (option_map (λ w. w.now) l.fn.word) (map (λ part. part.now) (drop l.part-index l.parts))
    ≡ explanation (option_map (λ w. w.now) l.fn.word) (map (λ part. part.now) l.fn.parts)
