-- What stands once a counter was heard, by what stood before.
use Rattle.std.proofs.Common.{◌≡◌, ℕ, Bool, true, false, cond, Option, Some, None, Result, Ok, Err, is_ok, refl, sym, ◌∙◌, ap}
use Rattle.std.specs.Prelude.{◌||◌, not, IfOk, OnOk, OnErr}
use Rattle.gtp_values.specs.declared.fault.Memory.{Memory}
use Rattle.std.specs.FinMap.{get, insert, get-insert, same_map, nat_cmp-IsAntisymmetric}
use Rattle.std.specs.Ordering.{nat_cmp, eq_by_cmp}
use Rattle.std.specs.Cmp.{nat_cmp_total}
use Rattle.gtp_values.specs.FiniteMap.{FiniteMap, kept}
use Rattle.gtp_values.specs.declared.identifiers.Teid.{Teid}
use Rattle.gtp_tables.specs.Contexts.{is_opened}
use Rattle.gtp_tables.proofs.Kept.{passing, get_kept}
use Rattle.gtp_machine.proofs.Basics.FiniteMaps.{found-kept, get-kept}
use Rattle.gtp_machine.specs.Choice.{HasPending}
use Rattle.gtp_machine.specs.Message.{Message}
use Rattle.gtp_machine.specs.Node.{Session, Bearer, PendingRequest, Arrival, Node}
use Rattle.gtp_machine.specs.Input.{Effect}
use Rattle.gtp_machine.specs.declared.role.Role.{Role}
use Rattle.gtp_machine.specs.Removal.{on}
use Rattle.gtp_machine.specs.Recovery.{peer_restarted}
use Rattle.gtp_machine.specs.Sound.{IsSound}
use Rattle.gtp_machine.proofs.Sound.Changes.{known_sound}
use Rattle.gtp_machine.proofs.Sound.Rows.{restarted_sound}
use Rattle.gtp_machine.proofs.Basics.Facts.{one_value}
use Rattle.gtp_machine.proofs.Basics.Counting.{tied}
use Rattle.gtp_gateway.specs.declared.receive.restart_counter.Heard.{Heard}
use Rattle.gtp_gateway.specs.declared.receive.restart_counter.Heard.TheVariants.{First, Later}
use Rattle.gtp_gateway.specs.declared.command.purpose.Purpose.{Purpose}
use Rattle.gtp_gateway.specs.declared.tables.opening.ResponseVerdict.{ResponseVerdict}
use Rattle.gtp_gateway.specs.declared.step.ControlStep.{ControlStep}
use Rattle.gtp_gateway.specs.command.SendRequest.{about}
use Rattle.gtp_gateway.specs.receive.RestartCounter.{node_heard}
use Rattle.gtp_gateway.specs.tables.Opening.{goes_after, outcome_by, node_by, effect_by, with_bearer, IsOpenedAt}
use Rattle.gtp_gateway.specs.receive.Row.{IsRow}
use Rattle.gtp_gateway.specs.GatewayState.{GatewayState}
use Rattle.gtp_gateway.specs.receive.Taken.{plain_report}
use Rattle.gtp_gateway.proofs.Rows.{ends}

-- nothing stands where all that could stand is absurd
pub none_where : {X : Type 0} (o : Option X) → ((x : X) → o ≡ Some x → ⊥) → o ≡ None
none_where None never = refl
none_where (Some x) never = absurd (never x refl)

-- a request stays, where the peer has restarted
abbrev request_stays : Node → ℕ → PendingRequest → Bool
request_stays n number p = not (on (λ t. is_opened (get n.sessions t)) p.session || on (λ t. false) p.bearer)

-- a bearer stays, where the peer has restarted
abbrev bearer_stays : Node → ℕ → Bearer → Bool
bearer_stays n t b = not (is_opened (get n.sessions b.session))

-- what stands in a table once the counter was heard stood before, where a restart leaves what passes a test
stood : {X : Type 0} (table : Node → FiniteMap X) (stays : Node → ℕ → X → Bool)
    → ((n : Node) (known : Option ℕ) → table (record n { known = known }) ≡ table n)
    → ((n : Node) (counter : ℕ) → table (peer_restarted n counter) ≡ kept (stays n) (table n))
    → (heard : Heard) (n : Node) (key : ℕ) (x : X) → get (table (node_heard heard n)) key ≡ Some x → get (table n) key ≡ Some x
stood table stays heeds restarts (First counter) n key x is = ap (λ (m : FiniteMap _). get m key) (sym (heeds n (Some counter.0))) ∙ is
stood table stays heeds restarts (Later counter) n key x is = (found-kept (stays n) (table n) key x (ap (λ (m : FiniteMap _). get m key) (sym (restarts n counter.0)) ∙ is)).1
stood table stays heeds restarts heard n key x is = is

pub waited : (heard : Heard) (n : Node) (number : ℕ) (p : PendingRequest) → get (node_heard heard n).pending number ≡ Some p → get n.pending number ≡ Some p
waited = stood (λ n. n.pending) request_stays (λ n known. refl) (λ n counter. refl)

pub bearer_stood : (heard : Heard) (n : Node) (t : ℕ) (b : Bearer) → get (node_heard heard n).bearers t ≡ Some b → get n.bearers t ≡ Some b
bearer_stood = stood (λ n. n.bearers) bearer_stays (λ n known. refl) (λ n counter. refl)

pub session_stood : (heard : Heard) (n : Node) (t : ℕ) (s : Session) → get (node_heard heard n).sessions t ≡ Some s → get n.sessions t ≡ Some s
session_stood = stood (λ n. n.sessions) (λ n t s. not (is_opened (get n.sessions t))) (λ n known. refl) (λ n counter. refl)

pub waits_on : (heard : Heard) (n : Node) (number : ℕ) (purpose : Purpose) (m : Message) → get n.pending number ≡ Some (about purpose m)
    → goes_after heard n.sessions purpose ≡ false → get (node_heard heard n).pending number ≡ Some (about purpose m)
waits_on (Later counter) n number purpose m is goes = get-kept (request_stays n) n.pending number (about purpose m) is (ap not goes)
waits_on heard n number purpose m is goes = is

pub waits_no_more : (heard : Heard) (n : Node) (number : ℕ) (purpose : Purpose) (m : Message) → get n.pending number ≡ Some (about purpose m)
    → goes_after heard n.sessions purpose ≡ true → HasPending (node_heard heard n) number → ⊥
waits_no_more (Later counter) n number purpose m is goes at =
    let found = found-kept (request_stays n) n.pending number at.pending at.waits in
    let one : at.pending ≡ about purpose m = one_value (get n.pending number) at.pending (about purpose m) found.1 is in
    let stays : true ≡ false = sym found.0 ∙ (ap (request_stays n number) one ∙ ap not goes) in
    cc
waits_no_more heard n number purpose m is goes at = absurd cc

-- an entry that passes may be put in before or after
pub kept_insert : {X : Type 0} (test : ℕ → X → Bool) (m : FiniteMap X) (k : ℕ) (x : X) → test k x ≡ true → kept test (insert m k x) ≡ insert (kept test m) k x
kept_insert {X} test m k x passes = same_map nat_cmp_total nat_cmp-IsAntisymmetric _ _ (λ q.
    get_kept test (insert m k x) q
    ∙ (ap (passing test q) (get-insert nat_cmp_total m k x q)
    ∙ (at q (eq_by_cmp nat_cmp q k) refl
    ∙ (ap (cond (eq_by_cmp nat_cmp q k) (Some x)) (sym (get_kept test m q))
    ∙ sym (get-insert nat_cmp_total (kept test m) k x q)))))
  where
    at : (q : ℕ) (b : Bool) → eq_by_cmp nat_cmp q k ≡ b → passing test q (cond b (Some x) (get m q)) ≡ cond b (Some x) (passing test q (get m q))
    at q true is = let here : test q x ≡ true = ap (λ (i : ℕ). test i x) (tied q k is) ∙ passes in ap (λ (b : Bool). cond b (Some x) None) here
    at q false is = refl

-- a bearer that stands once the counter was heard may be opened before or after
pub heard_opened : (heard : Heard) (n : Node) (teid : Teid) (b : Bearer) → IsOpenedAt (node_heard heard n).bearers teid b
    → node_heard heard (with_bearer teid b n) ≡ with_bearer teid b (node_heard heard n)
heard_opened (Later counter) n teid b at =
    let stays : bearer_stays n teid b ≡ true = ap (λ (s : ℕ). not (is_opened (get n.sessions s))) at.of ∙ (found-kept (bearer_stays n) n.bearers teid at.bearer at.stands).0 in
    let same : kept (bearer_stays n) (insert n.bearers teid b) ≡ insert (kept (bearer_stays n) n.bearers) teid b = kept_insert (bearer_stays n) n.bearers teid b stays in
    λ i. record (node_heard (Later counter) n) { bearers = same i }
heard_opened heard n teid b at = refl

-- a sound gateway is sound once the counter was heard
pub heard_sound : (role : Role) (heard : Heard) (n : Node) → IsSound role n → IsSound role (node_heard heard n)
heard_sound role (First counter) n sound = known_sound role n sound (Some counter.0)
heard_sound role (Later counter) n sound = restarted_sound n role sound counter.0
heard_sound role heard n sound = sound

-- a verdict that was carried out, as a row of the machine
pub settled : (Takes : Node → Effect → Type 0) (request : Arrival) (heard : Heard) (old new : GatewayState) (v : ResponseVerdict) (number : ℕ)
    (step : ControlStep) → step ≡ record { out = None; report = plain_report (outcome_by v) }
    → new.node ≡ node_by v number (node_heard heard old.node) → new.role ≡ old.role
    → Takes (node_heard heard old.node) (effect_by v number (node_heard heard old.node))
    → IsRow Takes request old.role (node_heard heard old.node) step new
settled Takes request heard old new v number step is becomes role takes =
    ends Takes request (record old { node = node_heard heard old.node }) new step (outcome_by v) (node_by v number (node_heard heard old.node)) is
    becomes role takes

-- what is so of each step that there may be is so of what there is
-- what holds where a call succeeded, since it did
pub succeeded : {T E P : Type 0} (r : Result T E) → true ≡ is_ok r → OnOk r P → P
succeeded (Ok x) is holds = holds
succeeded (Err e) is holds = absurd (cc is)

-- and where it failed
pub failed : {T E P : Type 0} (r : Result T E) → is_ok r ≡ false → OnErr r P → P
failed (Ok x) is holds = absurd (cc is)
failed (Err e) is holds = holds

-- what follows of the value
pub then_ok : {T E : Type 0} (P Q : T → Type 0) → ((x : T) → P x → Q x) → (r : Result T E) → IfOk r P → IfOk r Q
then_ok P Q each (Ok x) is = each x is
then_ok P Q each (Err e) is = tt

pub if_ok : {Is : ControlStep → Type 0} {Becomes : Type 0} {Taken : ControlStep → Type 0} → ((step : ControlStep) → Is step → Becomes → Taken step)
    → (o : Result ControlStep Memory) → IfOk o Is → OnOk o Becomes → IfOk o Taken
if_ok each (Ok step) is becomes = each step is becomes
if_ok each (Err e) is becomes = tt
