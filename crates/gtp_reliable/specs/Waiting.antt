-- A request that waits for its answer (TS 29.274 7.6).
use Rattle.std.specs.Prelude.{ℕ, ◌+◌, List, Option, Some, None, nat_lt, if◌then◌else◌}
use Rattle.gtp_values.specs.declared.address.Endpoint.{Endpoint}
use Rattle.gtp_reliable.specs.declared.waiting.NextTick.{NextTick}
use Rattle.gtp_reliable.specs.declared.waiting.NextTick.TheVariants.{WaitsOn, SentAgain, GivenUp}

-- its number, the place that it was sent to, its octets, what it is for, the ticks since it was
-- sent last, and how often it was sent again
pub record Waiting (P : Type 0) : Type 0 where
  pub seq : ℕ
  pub to : Endpoint
  pub octets : List ℕ
  pub purpose : P
  pub waited : ℕ
  pub resent : ℕ

-- a request that was just sent
abbrev pub just_sent : {P : Type 0} → ℕ → Endpoint → List ℕ → P → Waiting P
just_sent seq to octets purpose =
    record { seq = seq; to = to; octets = octets; purpose = purpose; waited = 0; resent = 0 }

-- what the next tick does with it: where fewer than t3 ticks will have passed, it waits on; else it
-- is sent again where that was done fewer than n3 times; else it is given up
abbrev pub next_tick : {P : Type 0} → ℕ → ℕ → Waiting P → NextTick
next_tick t3 n3 w =
    if nat_lt (w.waited + 1) t3 then WaitsOn
    else (if nat_lt w.resent n3 then SentAgain else GivenUp)

-- what a tick makes of it
abbrev pub after_tick_by : {P : Type 0} → NextTick → Waiting P → Option (Waiting P)
after_tick_by WaitsOn w = Some (record w { waited = w.waited + 1 })
after_tick_by SentAgain w = Some (record w { waited = 0; resent = w.resent + 1 })
after_tick_by GivenUp w = None

abbrev pub after_tick : {P : Type 0} → ℕ → ℕ → Waiting P → Option (Waiting P)
after_tick t3 n3 w = after_tick_by (next_tick t3 n3 w) w

-- a message to be sent again: number, place and octets
pub record Message : Type 0 where
  pub seq : ℕ
  pub to : Endpoint
  pub octets : List ℕ

-- what the tick sends again
abbrev pub sent_again_by : {P : Type 0} → NextTick → Waiting P → Option Message
sent_again_by WaitsOn w = None
sent_again_by SentAgain w = Some (record { seq = w.seq; to = w.to; octets = w.octets })
sent_again_by GivenUp w = None

abbrev pub sent_again : {P : Type 0} → ℕ → ℕ → Waiting P → Option Message
sent_again t3 n3 w = sent_again_by (next_tick t3 n3 w) w

-- what it gives up: number and purpose
abbrev pub given_up_by : {P : Type 0} → NextTick → Waiting P → Option (ℕ × P)
given_up_by WaitsOn w = None
given_up_by SentAgain w = None
given_up_by GivenUp w = Some (w.seq, w.purpose)

abbrev pub given_up : {P : Type 0} → ℕ → ℕ → Waiting P → Option (ℕ × P)
given_up t3 n3 w = given_up_by (next_tick t3 n3 w) w
