use Rattle.std.proofs.Common.{Bor, List, ℕ, map, ap, ◌∙◌}
use Rattle.gtp_scenario.specs.Json.{has_only}
use Rattle.gtp_scenario.specs.Trees.{view}
use Rattle.gtp_scenario.proofs.Trees.{keys_found, no_keys}
use Rattle.gtp_scenario.proofs.members.has_only.Goals as goal

pub returns-in-Some : goal.returns-in-Some
returns-in-Some c =
    let keys = map (λ (k : Bor (List ℕ)). k.now) c.args.keys.now in
    let found = c.in-Some.ensures c.value.invariant.0 c.value.invariant.1 in
    c.all_among.ensures found.0 found.2 ∙ keys_found keys c.value.inside.element c.value.invariant found.0 found.1 ∙ ap (λ ts. has_only keys (view ts)) c.value.view_is

pub returns-in-None : goal.returns-in-None
returns-in-None c =
    let keys = map (λ (k : Bor (List ℕ)). k.now) c.args.keys.now in
    no_keys keys c.value.inside.element c.value.invariant c.in-None.ensures ∙ ap (λ ts. has_only keys (view ts)) c.value.view_is
