-- What a gateway does with a control message leaves what each knows, and tells no counter.
use Rattle.std.proofs.Common.{◌≡◌, ℕ, List, [], ◌∷◌, Option, Some, None, refl, sym, ◌∙◌, ap}
use Rattle.gtp_machine.specs.Choice.{HasPending}
use Rattle.gtp_machine.specs.Message.{Echo, Message, Echo_response, Owns, recovery_of}
use Rattle.gtp_machine.specs.Node.{Role, State, Active, Closing, PendingRequest, Arrival, Node, holding, written}
use Rattle.gtp_machine.specs.Input.{EventOutcome, Came_to, Outcome, Echoed, Effect}
use Rattle.gtp_machine.specs.Removal.{finished}
use Rattle.gtp_machine.specs.Response.{finishing, EndsRequest}
use Rattle.gtp_machine.specs.Answer.{answered, echoed}
use Rattle.gtp_machine.specs.World.{Sent}
use Rattle.gtp_machine.proofs.Basics.Finishing.{quietly, on_finish}
use Rattle.gtp_machine.proofs.Origins.Drawing.{Made-plain, IsProper}
use Rattle.gtp_machine.proofs.Changes.Shrinking.{Shrunk, Shrunk-itself, Shrunk-finished}
use Rattle.gtp_machine.proofs.Changes.Steps.{at_result, IsPlain}
use Rattle.gtp_machine.proofs.Changes.After.{Knows, After, shrunk, stays, speaks, answers}

pub active_not_closing : (state : State) → state ≡ Active → state ≡ Closing → ⊥
active_not_closing state is c = cc

-- a TEID that is there, as it is written
pub named_written : (o : Option ℕ) (r : ℕ) → o ≡ Some r → o ≡ Some (written o)
named_written o r e = e ∙ ap (λ k. Some (written k)) (sym e)

-- what a control message leaves, and no counter was told
abbrev pub Took : Role → List Sent → (Arrival → Message → Type 0) → Node → Effect → Type 0
Took role history taken old e = After role history taken old e × (e.out.heard ≡ None)

module _ (role : Role) (history : List Sent) (taken : Arrival → Message → Type 0) (old : Node) (knows : Knows role history old) where
  pub took : (e f : Effect) → e ≡ f → f.out.heard ≡ None → After role history taken old f → Took role history taken old e
  took e f gives quiet after = at_result (Took role history taken old) e f gives (after, quiet)

  pub drops : (outcome : EventOutcome) (e : Effect) → e ≡ quietly old outcome → Took role history taken old e
  drops outcome e gives = took e _ gives refl (stays role history taken old knows _)

  pub ends : (number : ℕ) (p : PendingRequest) (outcome : Outcome) (e : Effect) → e ≡ finishing old number p outcome → Took role history taken old e
  ends number p outcome e gives = took e _ gives refl (shrunk role history taken old knows (finished old number p) (Shrunk-finished old number p.session p.bearer) [] (Came_to outcome))

  pub gives_answer : (request : Arrival) (m : Message) (cause : ℕ) (new : Node) (e : Effect) → e ≡ answered request m cause new → Shrunk old new → IsPlain m
      → ((t : ℕ) → Owns m t → ⊥) → ((r : ℕ) → recovery_of m ≡ Some r → r ≡ old.counter) → IsProper role m → Took role history taken old e
  gives_answer request m cause new e gives s plain none told proper =
      took e _ gives refl (answers role history taken old knows request m cause new s plain
      (Made-plain history role old (holding request (m ∷ []) new) m none told proper))

  pub takes_echo : (request : Arrival) (q : Echo) (e : Effect) → e ≡ echoed request q old → Took role history taken old e
  takes_echo request q e gives =
      took e _ gives refl
      (speaks role history taken old knows request.source (Echo_response (record { number = q.number; recovery = old.counter })) (Came_to Echoed) old
      (Shrunk-itself old) tt
      (Made-plain history role old old (Echo_response (record { number = q.number; recovery = old.counter })) (λ t none. none) (λ c e. cc e) tt))

  pub takes_response : {number : ℕ} {Fits : HasPending old number → Type 0} {outcome : Outcome} (e : Effect) → EndsRequest old number Fits outcome e → Took role history taken old e
  takes_response e r = on_finish old e (λ outcome f. drops outcome e f) (λ at f. ends _ at.pending _ e f) r
