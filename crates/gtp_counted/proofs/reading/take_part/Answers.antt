use Rattle.std.proofs.Common.{◌≡◌, ◌≢◌, ◌-◌, All, take, sym, ap, subst, ◌∙◌, rules, arith, eqb-true, get_or, get_or-take, length-take-le}
use Rattle.std.proofs.lemmas.List.Elements.{All-more}
use Rattle.std.specs.Io.BufRead.{FillKeeps, DropsConsumable}
use Rattle.std.proofs.BufReadLemmas.{Consumes_shown, zero_unless_positive}
use Rattle.std.proofs.Transfers.{StopsAt-take}
use Rattle.gtp_counted.proofs.reading.take_part.Goals.{then-size-eq0, else-size-eq0}
use Rattle.gtp_counted.proofs.reading.take_part.Goals as goal

pub returns-clause-taken : goal.returns-clause-taken
returns-clause-taken g c =
    let octets = c.in-Ok.octets.now in
    let size = c.size_through-size.result in
    let sized = c.size_through-size.ensures in
    let rested = c.fill_buf.follows.lender-at-none in
    let filled = subst (FillKeeps _ (g.R.Read.remaining rested) (g.R.BufRead.consumable_len rested)) c.in-Ok.is c.fill_buf.follows.holds-at-none in
    let same : c.if-size-eq0.reader ≡ rested = search rules in
    let drops = subst (λ r. DropsConsumable (g.R.Read.remaining r) (g.R.Read.remaining c.consume.new.self) (g.R.BufRead.consumable_len r) size) same c.consume.ensures.bytes in
    let moved = Consumes_shown _ _ _ _ octets size sized.bound c.in-Ok.ensures.front c.in-Ok.ensures.end filled.0 filled.1 drops in
    let long = length-take-le size octets sized.bound in (
      take size octets,
      record {
        consumed = moved.0;
        stops = StopsAt-take _ _ _ sized.bound sized.before;
        ends = λ last some. elim c.if-size-eq0.branch [
          | then-size-eq0 w ↦ absurd (omega (arith, w.if-size-eq0.true))
          | else-size-eq0 w ↦ ap (λ n. get_or (take size octets) (n - 1) 0) long
              ∙ get_or-take size octets (size - 1) 0 (omega arith) ∙ eqb-true _ _ (sym w.is_last-is ∙ search rules)
        ];
        empty = λ last none. moved.1 (zero_unless_positive _ _ sized.some (sym long ∙ none));
        more = λ goes. elim c.if-size-eq0.branch [
          | then-size-eq0 w ↦ absurd (search rules)
          | else-size-eq0 w ↦ omega (arith, w.if-size-eq0.false, long)
        ];
        none = λ goes. elim c.if-size-eq0.branch [
          | then-size-eq0 w ↦ absurd (search rules)
          | else-size-eq0 w ↦ subst (λ k. All (λ x. x ≢ c.args.byte) (take k octets)) (omega (arith, w.if-size-eq0.false))
              (All-more (λ x. x ≢ c.args.byte) _ (size - 1) 0 (omega (arith, w.if-size-eq0.false, sized.bound)) sized.before (λ e. absurd (search rules)))
        ];
      },
      search rules,
    )
