use Rattle.std.proofs.Common.{inl, inr, refl, sym, ◌∙◌}
use Rattle.gtp_gateway.proofs.Columns.{yes, no}
use Rattle.gtp_gateway.proofs.parts.Parts.end_request.Goals as goal

pub returns-then-not-fits_asked-clause-ended : goal.returns-then-not-fits_asked-clause-ended
returns-then-not-fits_asked-clause-ended c =
    inr (
      record { purpose = c.in-Some.purpose; is = sym c.waiting.ensures ∙ c.in-Some.is },
      inl (no c.fits_asked.ensures c.if-not-fits_asked.true, (c.dropped-then-not-fits_asked.ensures, refl)),
    )

pub returns-clause-ended : goal.returns-clause-ended
returns-clause-ended c =
    inr (
      record { purpose = c.in-Some.purpose; is = sym c.waiting.ensures ∙ c.in-Some.is },
      inr (yes c.fits_asked.ensures c.if-not-fits_asked.false, (c.quiet.ensures, c.finish.ensures.node, c.finish.ensures.removes.only.role)),
    )
