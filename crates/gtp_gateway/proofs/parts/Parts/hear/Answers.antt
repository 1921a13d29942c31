use Rattle.std.proofs.Common.{◌≡◌, ◌⊎◌, inl, inr, List, refl, ◌∙◌, sym, ap}
use Rattle.gtp_values.specs.FiniteMap.{FiniteMap}
use Rattle.gtp_values.specs.declared.counter.Counter.{Counter}
use Rattle.gtp_reliable.specs.Waiting.{Waiting}
use Rattle.gtp_machine.specs.Node.{Session, Node}
use Rattle.gtp_gateway.specs.declared.receive.restart_counter.Heard.{Heard}
use Rattle.gtp_gateway.specs.declared.receive.restart_counter.Heard.TheVariants.{Nothing, Same, Earlier}
use Rattle.gtp_gateway.specs.declared.command.purpose.Purpose.{Purpose}
use Rattle.gtp_gateway.specs.receive.RestartCounter.{node_heard}
use Rattle.gtp_gateway.specs.tables.Opening.{waiting_heard}
use Rattle.gtp_gateway.specs.GatewayState.{state_of}
use Rattle.gtp_gateway.proofs.Stays.{only_tables}
use Rattle.gtp_gateway.proofs.UserRows.{all_stay, all_wait}
use Rattle.gtp_gateway.proofs.parts.Parts.hear.Goals as goal

-- what is heard changes nothing
nothing_changes : (n : Node) (sessions : FiniteMap Session) (ws : List (Waiting Purpose)) (heard : Heard)
    → (heard ≡ Nothing) ⊎ (((x : Counter) × (heard ≡ Same x)) ⊎ ((x : Counter) × (heard ≡ Earlier x)))
    → (n ≡ node_heard heard n) × (ws ≡ waiting_heard heard sessions ws)
nothing_changes n sessions ws heard (inl is) = (ap (λ (h : Heard). node_heard h n) (sym is), all_stay ws ∙ ap (λ (h : Heard). waiting_heard h sessions ws) (sym is))
nothing_changes n sessions ws heard (inr (inl (x, is))) = (ap (λ (h : Heard). node_heard h n) (sym is), all_stay ws ∙ ap (λ (h : Heard). waiting_heard h sessions ws) (sym is))
nothing_changes n sessions ws heard (inr (inr (x, is))) = (ap (λ (h : Heard). node_heard h n) (sym is), all_stay ws ∙ ap (λ (h : Heard). waiting_heard h sessions ws) (sym is))

pub returns-in-Nothing : goal.returns-in-Nothing
returns-in-Nothing c =
    let old = c.args.self.now in
    let both = nothing_changes _ old.sessions.table old.pending.waiting c.args.heard c.in-Nothing.is in
    record {
      node = both.0;
      waits = all_wait (state_of old) (state_of old) refl refl;
      waiting = both.1;
      next = refl;
      ready = λ has. has;
      room = refl;
      only = only_tables old old refl refl refl;
      draws = refl;
    }

pub returns-in-First-clause-waiting : goal.returns-in-First-clause-waiting
returns-in-First-clause-waiting c = let old = c.args.self.now in all_stay old.pending.waiting ∙ ap (λ (h : Heard). waiting_heard h old.sessions.table old.pending.waiting) (sym c.in-First.is)
