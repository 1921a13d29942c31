use Rattle.std.proofs.Common.{◌≡◌, ℕ, ◌≤◌, length}
use Rattle.gtp_capture.specs.Options.{first_option, option_in}
use Rattle.gtp_capture.proofs.options.find_option.Given as goal

abbrev pub invariant-loop-rest : goal.invariant-loop-rest
invariant-loop-rest l = record {
  same : (most : ℕ) × (length l.rest ≤ most) × (first_option most l.order l.code l.size l.rest ≡ option_in l.order l.code l.size l.octets);
}

abbrev pub decreases-loop-rest : goal.decreases-loop-rest
decreases-loop-rest l = length l.rest
