use Rattle.std.proofs.Common.{◌≡◌, ◌∙◌, true, false, None, sym}
use Rattle.gtp_tables.specs.Free.{asks_for}
use Rattle.gtp_tables.specs.Lowest.{IsLowestPlace, place_in}
use Rattle.gtp_tables.proofs.Lowest.{of_both}
use Rattle.gtp_tables.proofs.pool.Pools.lowest_places.Goals as goal

pub returns-in-false-true-clause-lowest : goal.returns-in-false-true-clause-lowest
returns-in-false-true-clause-lowest c =
    of_both (λ version. asks_for c.args.asked version ≡ true → IsLowestPlace c.args.restarted version c.args.self.now c.args.sessions.now
    (place_in (record { v4 = None; v6 = c.lowest_place-in-false-true.result }) version))
    (λ asks. let no : true ≡ false = sym asks ∙ c.in-false-true.is-0 in cc)
    (λ _. c.lowest_place-in-false-true.ensures)
