use Rattle.std.proofs.Common.{◌≡◌, ◌∙◌, ◌<◌, ◌+◌, ◌-◌, Some, sym, arith, rules}
use Rattle.std.specs.FinMap as map
use Rattle.std.proofs.lemmas.Bool.Decides.{nat_tests}
use Rattle.gtp_tables.proofs.Found.{all_below, none_in_empty, stands_at, no_entry}
use Rattle.gtp_tables.proofs.table.Table.is_above.Goals as goal

pub returns-then-len-eq0 : goal.returns-then-len-eq0
returns-then-len-eq0 g c = (λ h. none_in_empty c.args.teid c.args.self.now.table (sym c.len-len.ensures ∙ c.if-len-eq0.true), λ each. search rules)

pub unreachable-requires : goal.unreachable-requires
unreachable-requires g c =
    let lt : c.len-len.result - 1 < map.len c.args.self.now.table = omega (arith, c.len-len.ensures, c.if-len-eq0.false) in
    no_entry c.args.self.now.table (c.len-len.result - 1) (sym c.in-None.ensures) lt

pub returns : goal.returns
returns g c =
    let last = c.in-Some.last in
    let n = c.len-len.result in
    let size : map.len c.args.self.now.table ≡ (n - 1) + 1 = omega (arith, c.len-len.ensures, c.if-len-eq0.false) in
    let there : map.get c.args.self.now.table last.0 ≡ Some last.1 = stands_at c.args.self.now.table (n - 1) (last.0, last.1) (sym c.in-Some.ensures) in (
      λ h. let lt : last.0 < c.args.teid = grind (arith, nat_tests, h) in all_below c.args.teid c.args.self.now.table (n - 1) (last.0, last.1) size (sym c.in-Some.ensures) lt,
      λ each. let lt : last.0 < c.args.teid = each last.0 last.1 there in grind (arith, nat_tests, lt),
    )
