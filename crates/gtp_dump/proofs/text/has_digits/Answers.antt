use Rattle.std.proofs.Common.{◌≡◌, ◌==◌, length, not, ap, ◌∙◌, rules}
use Rattle.gtp_dump.specs.Text.{digits_in}
use Rattle.gtp_dump.proofs.Offsets.{same_empty}
use Rattle.gtp_dump.proofs.text.has_digits.Goals as goal

pub returns : goal.returns
returns c =
    let empty : c.is_empty.result ≡ (length (digits_in c.args.text.now) == 0) = search rules ∙ same_empty c.args.text.now in
    ap not empty
