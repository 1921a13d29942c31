use Rattle.std.proofs.Common.{◌≡◌, ◌<◌, ◌≤◌, ◌⊎◌, inl, inr, Option, IfSome, IfNone, List, length, ◌∙◌, sym, ap, subst}
use Rattle.gtp_values.specs.FiniteMap.{FiniteMap}
use Rattle.gtp_values.specs.declared.counter.Counter.{Counter}
use Rattle.gtp_reliable.specs.Waiting.{Waiting}
use Rattle.gtp_reliable.specs.Pending.{IsNextFree}
use Rattle.gtp_machine.specs.Node.{Session}
use Rattle.gtp_gateway.specs.declared.receive.restart_counter.Heard.{Heard}
use Rattle.gtp_gateway.specs.declared.receive.restart_counter.Heard.TheVariants.{Nothing, First, Same, Earlier}
use Rattle.gtp_gateway.specs.declared.command.purpose.Purpose.{Purpose}
use Rattle.gtp_gateway.specs.tables.Opening.{waiting_heard}
use Rattle.gtp_gateway.proofs.UserRows.{all_stay}
use Rattle.gtp_gateway.proofs.parts.Parts.number_after.Goals as goal

-- where no later counter is heard, all requests wait on
wait_on : (sessions : FiniteMap Session) (ws : List (Waiting Purpose)) (heard : Heard)
    → (heard ≡ Nothing) ⊎ (((x : Counter) × (heard ≡ First x)) ⊎ (((x : Counter) × (heard ≡ Same x)) ⊎ ((x : Counter) × (heard ≡ Earlier x))))
    → ws ≡ waiting_heard heard sessions ws
wait_on sessions ws heard (inl is) = all_stay ws ∙ ap (λ (h : Heard). waiting_heard h sessions ws) (sym is)
wait_on sessions ws heard (inr (inl (x, is))) = all_stay ws ∙ ap (λ (h : Heard). waiting_heard h sessions ws) (sym is)
wait_on sessions ws heard (inr (inr (inl (x, is)))) = all_stay ws ∙ ap (λ (h : Heard). waiting_heard h sessions ws) (sym is)
wait_on sessions ws heard (inr (inr (inr (x, is)))) = all_stay ws ∙ ap (λ (h : Heard). waiting_heard h sessions ws) (sym is)

pub returns-in-Nothing : goal.returns-in-Nothing
returns-in-Nothing c =
    let old = c.args.self.now in
    let all = wait_on old.sessions.table old.pending.waiting c.args.heard c.in-Nothing.is in
    let number = c.next_number.ensures in
    record {
      some = subst (λ (ws : List (Waiting Purpose)). IfSome c.next_number.result (λ seq. IsNextFree old.pending.next ws seq)) all number.some;
      few = subst (λ (ws : List (Waiting Purpose)). IfSome c.next_number.result (λ _. length ws < 256)) all number.few;
      none = subst (λ (ws : List (Waiting Purpose)). IfNone c.next_number.result (256 ≤ length ws)) all number.none;
      distinct = number.always.distinct;
    }
