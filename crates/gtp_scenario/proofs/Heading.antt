-- The head of data.
use Rattle.std.proofs.Common.{◌≡◌, Option, Some, None, IsSome, ap}
use Rattle.serde_json.specs.Data.{Data, Items}
use Rattle.gtp_world.specs.Runs.{Setup}
use Rattle.gtp_scenario.specs.Steps.{◌>>=◌}
use Rattle.gtp_scenario.specs.Heads.{setup_of, events_at}
use Rattle.gtp_scenario.specs.Scenarios.{Head, head_in}

-- both parts, as a head
abbrev headed : Setup → Items → Option Head
headed setup items = Some (record { setup = setup; items = items })

abbrev joined : Option Setup → Option Items → Option Head
joined o p = o >>= λ setup. p >>= λ items. headed setup items

both_none : (o : Option Setup) (p : Option Items) → joined o p ≡ None → IsSome o → IsSome p → ⊥
both_none None p h some too = absurd cc
both_none (Some setup) None h some too = absurd cc
both_none (Some setup) (Some items) h some too = absurd cc

pub head_is_none : (d : Data) → head_in d ≡ None → IsSome (setup_of d) → IsSome (events_at d) → ⊥
unfolding head_in
head_is_none d h some too = both_none (setup_of d) (events_at d) h some too

-- both parts of a head
pub record Parts (d : Data) (head : Head) : Type 0 where
  pub setup : setup_of d ≡ Some head.setup
  pub items : events_at d ≡ Some head.items

both_some : (o : Option Setup) (p : Option Items) (head : Head) → joined o p ≡ Some head → (o ≡ Some head.setup) × (p ≡ Some head.items)
both_some None p head h = absurd cc
both_some (Some setup) None head h = absurd cc
both_some (Some setup) (Some items) head h = (let same : record { setup = setup; items = items } ≡ head = cc in (ap (λ (x : Head). Some x.setup) same, ap (λ (x : Head). Some x.items) same))

pub head_parts : (d : Data) (head : Head) → head_in d ≡ Some head → Parts d head
unfolding head_in
head_parts d head h = (let both = both_some (setup_of d) (events_at d) head h in record { setup = both.0; items = both.1 })
