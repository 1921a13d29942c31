use Rattle.std.proofs.Common.{rules}
use Rattle.gtp_c.proofs.Finding.{finds, lacks, does_not_lack}
use Rattle.gtp_c.proofs.places.gtp_places_find.Goals as goal

pub returns-in-Some-found-clause-found : goal.returns-in-Some-found-clause-found
returns-in-Some-found-clause-found c = λ _. finds _ c.in-Some.ip (search rules) _ _ c.take-addresses.ensures.taken c.in-Some-found.first (search rules)

pub returns-in-Some-found-clause-none : goal.returns-in-Some-found-clause-none
returns-in-Some-found-clause-none c = (
  λ four. search rules,
  λ lacking. absurd (does_not_lack _ c.in-Some.ip (search rules) _ _ c.take-addresses.ensures.taken c.in-Some-found.first (search rules) lacking),
)

pub returns-in-None-clause-none : goal.returns-in-None-clause-none
returns-in-None-clause-none c = (λ _. lacks _ c.in-Some.ip (search rules) _ _ c.take-addresses.ensures.taken (search rules), λ _. search rules)
