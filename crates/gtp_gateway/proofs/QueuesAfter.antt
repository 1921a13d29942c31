-- What ticks go by, through the steps of a procedure.
use Rattle.std.proofs.Common.{◌≡◌, ℕ, List, Result, Ok, Err, Some, None, refl, sym, ◌∙◌, ap, subst}
use Rattle.std.specs.Prelude.{OnOk}
use Rattle.gtp_values.specs.declared.address.Endpoint.{Endpoint}
use Rattle.gtp_tables.specs.Drawn.{drawn_up_to}
use Rattle.gtp_reliable.specs.Pending.{IsNextFree}
use Rattle.gtp_gateway.specs.declared.command.purpose.Purpose.{Purpose}
use Rattle.gtp_gateway.specs.receive.Answer.{after_held}
use Rattle.gtp_gateway.specs.command.SendRequest.{after_begun}
use Rattle.gtp_gateway.specs.receive.Queues.{IsNewFor, QueuesAfterMessage}
use Rattle.gtp_gateway.specs.Parts.{pending_in}
use Rattle.gtp_gateway.specs.GatewayState.{Queues, GatewayState, NodeMatchesQueues, state_of}
use Rattle.gtp_gateway.specs.user.Receive.{RequestsWaitOn}
use Rattle.gtp_gateway.specs.declared.parts.Parts.{Parts}
use Rattle.gtp_gateway.proofs.Teids.{length_drawn}
use Rattle.gtp_gateway.proofs.GivenUp.{wait_on}
use Rattle.gtp_gateway.proofs.UserRows.{all_wait}
use Rattle.gtp_machine.specs.Node.{Arrival}

-- a gateway's node keeps what its ticks and draws go by
pub tied_of : (g : Parts) → NodeMatchesQueues (state_of g)
tied_of g = record { pending = refl; held = refl; drawn = ap (drawn_up_to g.draws.counter) (sym (length_drawn g.draws.counter g.draws.count)) }

-- what follows from what holds where a call succeeded
pub on_ok : {T E P Q : Type 0} (r : Result T E) → (P → Q) → OnOk r P → OnOk r Q
on_ok (Ok x) follows holds = follows holds
on_ok (Err e) follows holds = tt

module _ (arrival : Arrival) where
  -- no answer was given
  pub on_goes : (a b : GatewayState) → RequestsWaitOn a b → NodeMatchesQueues b → QueuesAfterMessage arrival a b
  on_goes a b on tied = record { stays = on.stays; begun = None; next = tt {0}; new_one = tt {0}; answer = None; queues = on.queues; tied = tied }

  -- some requests no longer wait, and then some others
  pub then_goes : (a b : GatewayState) (g : Parts) → RequestsWaitOn a b → RequestsWaitOn b (state_of g) → QueuesAfterMessage arrival a (state_of g)
  then_goes a b g first second = on_goes a (state_of g) (wait_on a b (state_of g) first second) (tied_of g)

  pub same_goes : (a b : GatewayState) → b ≡ a → NodeMatchesQueues a → QueuesAfterMessage arrival a b
  same_goes a b same tied =
      on_goes a b (all_wait a b (ap (λ (s : GatewayState). s.queues) same)
      (subst (λ (s : GatewayState). s.node.pending ≡ pending_in s.queues.waiting) (sym same) tied.pending)) (subst NodeMatchesQueues (sym same) tied)

  -- some requests no longer wait, and then an answer was given
  pub answered_goes : (a b c : GatewayState) (answer : List ℕ) → RequestsWaitOn a b
      → c.queues ≡ record b.queues { held = after_held arrival.source arrival.octets answer b.queues.held } → NodeMatchesQueues c
      → QueuesAfterMessage arrival a c
  answered_goes a b c answer first queues tied = record {
    stays = first.stays;
    begun = None;
    next = tt {0};
    new_one = tt {0};
    answer = Some answer;
    queues = queues ∙ (λ i. record (first.queues i) { held = after_held arrival.source arrival.octets answer (first.queues i).held });
    tied = tied;
  }

  -- an answer was made ready, which changed nothing, and was given after that
  pub readied_goes : (old readied mid : GatewayState) (g : Parts) (answer : List ℕ) → readied ≡ old → RequestsWaitOn readied mid
      → (state_of g).queues ≡ record mid.queues { held = after_held arrival.source arrival.octets answer mid.queues.held }
      → QueuesAfterMessage arrival old (state_of g)
  readied_goes old readied mid g answer same waits gives = answered_goes old mid (state_of g) answer (subst (λ (s : GatewayState). RequestsWaitOn s mid) same waits) gives (tied_of g)

  -- an answer was given
  pub given_goes : (a b : GatewayState) (answer : List ℕ) → b.queues ≡ record a.queues { held = after_held arrival.source arrival.octets answer a.queues.held }
      → NodeMatchesQueues b → QueuesAfterMessage arrival a b
  given_goes a b answer queues tied =
      let same = record a { node = record a.node { pending = pending_in a.queues.waiting } } in
      answered_goes a same b answer (all_wait a same refl refl) queues tied

  -- a request was begun, and then an answer given
  pub begun_goes : (a b c d : GatewayState) (number : ℕ) (purpose : Purpose) (to : Endpoint) (kept answer : List ℕ) → RequestsWaitOn a b
      → IsNextFree b.queues.next b.queues.waiting number → IsNewFor (record { number = number; purpose = purpose; to = to; octets = kept }) a
      → c.queues ≡ after_begun number purpose to kept b.queues
      → d.queues ≡ record c.queues { held = after_held arrival.source arrival.octets answer c.queues.held } → NodeMatchesQueues d → QueuesAfterMessage arrival a d
  begun_goes a b c d number purpose to kept answer first free is_new begins gives tied =
      record {
        stays = first.stays;
        begun = Some (record { number = number; purpose = purpose; to = to; octets = kept });
        next = subst (λ (t : Queues). IsNextFree t.next t.waiting number) first.queues free;
        new_one = is_new;
        answer = Some answer;
        queues =
            gives ∙ (λ i. record (begins i) { held = after_held arrival.source arrival.octets answer (begins i).held })
            ∙ (λ i. record (after_begun number purpose to kept (first.queues i))
            { held = after_held arrival.source arrival.octets answer (first.queues i).held });
        tied = tied;
      }

-- what is found of the queues after a datagram, where no request is begun
pub ruleset queues_after = (tied_of, on_goes, same_goes, given_goes, answered_goes)
