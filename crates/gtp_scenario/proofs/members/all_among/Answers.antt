use Rattle.std.proofs.Common.{◌≡◌, Bor, ◌&&◌, List, ℕ, map, sym, ap, ◌∙◌}
use Rattle.json.specs.Json.{no_members}
use Rattle.gtp_scenario.proofs.Trees.{keys_among, keys_said}
use Rattle.gtp_scenario.proofs.members.all_among.Goals as goal

pub returns-then-not-is_among : goal.returns-then-not-is_among
returns-then-not-is_among c ms inside =
    let keys = map (λ (k : Bor (List ℕ)). k.now) c.args.keys.now in
    let now = c.loop-key.invariant ms inside in
    let found = c.in-Some.ensures.value now.0 now.1 in
    ap (λ b. b && keys_among keys found.1) (sym c.if-not-is_among.true ∙ c.is_among.ensures) ∙ sym (ap (keys_among keys) found.2) ∙ now.2 ∙ keys_said keys ms

pub loop-key-preserved : goal.loop-key-preserved
loop-key-preserved c ms inside =
    let keys = map (λ (k : Bor (List ℕ)). k.now) c.args.keys.now in
    let now = c.loop-key.invariant ms inside in
    let found = c.in-Some.ensures.value now.0 now.1 in
    (found.1, found.4, ap (λ b. b && keys_among keys found.1) (sym c.if-not-is_among.false ∙ c.is_among.ensures) ∙ sym (ap (keys_among keys) found.2) ∙ now.2)

pub returns : goal.returns
returns c ms inside =
    let keys = map (λ (k : Bor (List ℕ)). k.now) c.args.keys.now in
    let now = c.loop-key.invariant ms inside in
    let done : now.0 ≡ no_members = c.in_default.ensures.value now.0 now.1 in
    sym (ap (keys_among keys) done) ∙ now.2 ∙ keys_said keys ms
