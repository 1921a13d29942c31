use Rattle.std.proofs.lemmas.Str.Ascii.{trim_ascii_start_is}
use Rattle.gtp_dump.proofs.row.from_text.Goals as goal

pub returns : goal.returns
returns c = trim_ascii_start_is _ _ c.trim_ascii_start.ensures.value
