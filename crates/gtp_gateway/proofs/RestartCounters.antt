-- Hearing the peer's counter, for any message that is then taken.
use Rattle.std.proofs.Common.{◌≡◌, ℕ, Option, Some, None, option_map, refl, ap}
use Rattle.gtp_values.specs.Counter.{age_of}
use Rattle.gtp_values.specs.declared.counter.Counter.{Counter}
use Rattle.gtp_values.specs.declared.counter.Age.{Age}
use Rattle.gtp_values.specs.declared.counter.Age.TheVariants as ages
use Rattle.gtp_machine.specs.declared.outcome.DropReason.TheVariants.{OldCounter}
use Rattle.gtp_machine.specs.Node.{Node}
use Rattle.gtp_machine.specs.Input.{Effect, dropped}
use Rattle.gtp_machine.specs.Recovery.{Judges, Weighs, Hears, later_only, learned_by}
use Rattle.gtp_gateway.specs.declared.receive.restart_counter.Heard.{Heard}
use Rattle.gtp_gateway.specs.declared.receive.restart_counter.Heard.TheVariants as heards
use Rattle.gtp_gateway.specs.receive.RestartCounter.{aged, weighed, node_heard, IsEarlier, told_in, later_in, effect_heard}

number : Counter → ℕ
number counter = counter.0

-- hearing changes the counter that is known, the sessions, the bearers and the requests, and nothing else
rest_stays : (heard : Heard) (n : Node) → let left = node_heard heard n in left ≡ record n { known = left.known; sessions = left.sessions; bearers = left.bearers; pending = left.pending }
rest_stays heards.Nothing n = refl
rest_stays heard n = refl

pub counter_stays : (heard : Heard) (n : Node) → (node_heard heard n).counter ≡ n.counter
counter_stays heard n = ap (λ (x : Node). x.counter) (rest_stays heard n)

pub config_stays : (heard : Heard) (n : Node) → (node_heard heard n).config ≡ n.config
config_stays heard n = ap (λ (x : Node). x.config) (rest_stays heard n)

pub drawn_stays : (heard : Heard) (n : Node) → (node_heard heard n).drawn ≡ n.drawn
drawn_stays heard n = ap (λ (x : Node). x.drawn) (rest_stays heard n)

pub held_stays : (heard : Heard) (n : Node) → (node_heard heard n).held ≡ n.held
held_stays heard n = ap (λ (x : Node). x.held) (rest_stays heard n)

-- what is told of the counter is what the machine tells
pub told_is : (known : Option ℕ) (counter : Counter) → option_map (λ (c : Counter). c.0) (told_in (weighed known counter)) ≡ Some counter.0
told_is None counter = refl
told_is (Some known) counter = by (age_of known counter.0)
  where
    by : (age : Age) → option_map (λ (c : Counter). c.0) (told_in (aged age counter)) ≡ Some counter.0
    by ages.Same = refl
    by age = refl

pub later_is : (known : Option ℕ) (counter : Counter) → option_map (λ (c : Counter). c.0) (later_in (weighed known counter)) ≡ learned_by known counter.0
later_is None counter = refl
later_is (Some known) counter = by (age_of known counter.0)
  where
    by : (age : Age) → option_map (λ (c : Counter). c.0) (later_in (aged age counter)) ≡ later_only age counter.0
    by ages.Same = refl
    by age = refl

module _ (Takes : Node → Effect → Type 0) (old : Node) (counter : Counter) where
  judged : (age : Age) (taken : Effect) → (IsEarlier (aged age counter) → ⊥) → Takes (node_heard (aged age counter) old) taken → Judges Takes old counter.0 age taken
  judged ages.Earlier taken on takes = absurd (on tt)
  judged age taken on takes = takes

  -- a counter that is not of an earlier start: the message is taken by the node that is left
  weighs : (known : Option ℕ) (taken : Effect) → (IsEarlier (weighed known counter) → ⊥) → Takes (node_heard (weighed known counter) old) taken → Weighs Takes old counter.0 known taken
  weighs None taken on takes = takes
  weighs (Some known) taken on takes = judged (age_of known counter.0) taken on takes

  pub hears_on : (taken : Effect) → (IsEarlier (weighed old.known counter) → ⊥) → Takes (node_heard (weighed old.known counter) old) taken
      → Hears Takes old (Some counter.0) (effect_heard counter.0 old.known taken)
  hears_on taken on takes = (taken, weighs old.known taken on takes, refl)

  judged_old : (age : Age) → IsEarlier (aged age counter) → Judges Takes old counter.0 age (dropped old OldCounter)
  judged_old ages.Earlier is = refl
  judged_old age is = absurd is

  weighs_old : (known : Option ℕ) → IsEarlier (weighed known counter) → Weighs Takes old counter.0 known (dropped old OldCounter)
  weighs_old None is = absurd is
  weighs_old (Some known) is = judged_old (age_of known counter.0) is

  -- a counter of an earlier start: the message is dropped
  pub hears_old : IsEarlier (weighed old.known counter) → Hears Takes old (Some counter.0) (effect_heard counter.0 old.known (dropped old OldCounter))
  hears_old is = (dropped old OldCounter, weighs_old old.known is, refl)
