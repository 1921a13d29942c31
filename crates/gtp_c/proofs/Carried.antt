-- What a command to the gateway behind a handle comes to, from what the gateway says and from what is told.
use Rattle.std.proofs.Common.{◌≡◌, ◌≢◌, [], ◌∷◌, ◌++◌, ℕ, List, refl, sym, ap, ◌∙◌, subst, inl, inr, Bool, true, false, true≢false, arith}
use Rattle.std.specs.Prelude.{Option, Some, Result, Ok, Err, IfOk, IsOkAnd, OnOk, OnErr, ◌↔◌}
use Rattle.std.specs.VecDeque.{deque_len}
use Rattle.gtp_values.proofs.Outcomes.{none_some}
use Rattle.gtp_machine.specs.Input.{Command, Commanded, Create_session, refused}
use Rattle.gtp_machine.specs.Step.{Step as MachineStep}
use Rattle.gtp_gateway.specs.command.CreateSession.{specification}
use Rattle.gtp_gateway.specs.command.Command.{IsCarriedOut, IsRefusedWhere, IsTimed}
use Rattle.gtp_gateway.specs.GatewayState.{GatewayState}
use Rattle.gtp_gateway.specs.declared.command.create_session.SessionSpec.{SessionSpec}
use Rattle.gtp_gateway.specs.declared.fault.CommandFault.{CommandFault}
use Rattle.gtp_gateway.specs.declared.fault.CommandFault.TheVariants.{Refused, Memory}
use Rattle.gtp_gateway.specs.declared.sent.Begun.{Begun}
use Rattle.gtp_gateway.specs.declared.sent.Sent.{Sent}
use Rattle.gtp_c.specs.Commands.{IsCommanded, IsSettled}
use Rattle.gtp_c.specs.Common.{IsOneOf}
use Rattle.gtp_c.specs.Sessions.{IsSpecified, IsGoodSession, IsSessionAsked}
use Rattle.gtp_c.specs.Statuses.{HasStatus, command_statuses, IsFull, LacksRoom, CommandMayRunOut}
use Rattle.gtp_c.specs.Steps.{Keeps, HasBegun, IsRefused, IsUntold, begun_number}
use Rattle.gtp_c.specs.Told.{begun_told}
use Rattle.gtp_c.specs.declared.values.Identity.{Identity}
use Rattle.gtp_c.specs.declared.gateway_with_queue.GatewayWithQueue.{GatewayWithQueue}
use Rattle.gtp_c.specs.declared.session.Session.{Session}
use Rattle.gtp_c.specs.declared.told.Told.{Told}

-- ---- statuses

-- what holds of three numbers
of_three : (P : ℕ → Type 0) {a b c : ℕ} → P a → P b → P c → (n : ℕ) → IsOneOf (a ∷ b ∷ c ∷ []) n → P n
of_three P pa pb pc n (inl is) = subst P (sym is) pa
of_three P pa pb pc n (inr (inl is)) = subst P (sym is) pb
of_three P pa pb pc n (inr (inr (inl is))) = subst P (sym is) pc
of_three P pa pb pc n (inr (inr (inr none))) = absurd none

abbrev IsCommandStatus : ℕ → Type 0
IsCommandStatus n = IsOneOf command_statuses n

module _ (Bad : Type 0) (good : ¬ Bad) (desk : GatewayWithQueue) where
  -- a gateway is there, and the values are good
  has_status : (status : ℕ) → status ≢ 7 → status ≢ 1 → ((status ≡ 3) ↔ IsFull desk) → IsCommandStatus status → HasStatus command_statuses Bad (Some desk) status
  has_status status not_empty not_bad full known =
      record {
        empty = (λ is. absurd (not_empty is), λ none. absurd (none_some desk (sym none)));
        bad = (λ is. absurd (not_bad is), λ bad. absurd (good bad.1));
        full = (λ is. (full.0 is, good), λ both. full.1 both.0);
        among = known;
      }

-- ---- from before the room was made on

module _ (command : Command) (Bad : Type 0) (good : ¬ Bad) (desk mid : GatewayWithQueue) (before : Told) (kept : Keeps desk mid) where
  -- there was no room
  pub held_up : (status : ℕ) → ((status ≡ 3) ↔ IsFull desk) → (status ≡ 2 → LacksRoom 1 desk) → IsOneOf (0 ∷ 2 ∷ 3 ∷ []) status → status ≢ 0
      → IsCommanded command Bad before before (Some desk) (Some mid) status
  held_up status full memory known some =
      record {
        done = λ none. absurd (some none);
        refused = λ six. absurd (of_three (λ n. n ≢ 6) (λ e. omega (arith, e)) (λ e. omega (arith, e)) (λ e. omega (arith, e)) status known six);
        kept = λ _. kept;
        untold = λ _ _. refl;
        has = has_status Bad good desk status
            (of_three (λ n. n ≢ 7) (λ e. omega (arith, e)) (λ e. omega (arith, e)) (λ e. omega (arith, e)) status known)
            (of_three (λ n. n ≢ 1) (λ e. omega (arith, e)) (λ e. omega (arith, e)) (λ e. omega (arith, e)) status known)
            full
            (of_three IsCommandStatus (inl refl) (inr (inr (inl refl))) (inr (inr (inr (inl refl)))) status known);
        memory = λ two. inl (memory two);
      }

  module _ (new : GatewayWithQueue) (told : Told) (after : GatewayState) (r : Result Begun CommandFault) (status : ℕ)
      (settled : IsSettled r (begun_number command) before told (record { gateway = after; waiting = mid.waiting }) new status) where
    has_begun : (r : Result Begun CommandFault) → IfOk r (λ b. IsCarriedOut command mid.gateway b after) → IfOk r (λ b. IsTimed command mid.gateway b after) → IfOk r (λ b. IsUntold command b)
        → IsOkAnd r (λ b. new.waiting.items ≡ mid.waiting.items ++ b.out ∷ []) → IsOkAnd r (λ b. told ≡ begun_told (begun_number command) b (deque_len new.waiting)) → HasBegun command told desk new
    has_begun (Ok b) done timed untold waits tells =
        record {
          begun = b;
          done = subst (λ (g : GatewayState). IsCarriedOut command g b new.gateway) kept.0 (subst (λ (g : GatewayState). IsCarriedOut command mid.gateway b g) (sym settled.gateway) done);
          timed = subst (λ (g : GatewayState). IsTimed command g b new.gateway) kept.0 (subst (λ (g : GatewayState). IsTimed command mid.gateway b g) (sym settled.gateway) timed);
          untold = untold;
          waiting = waits ∙ ap (λ (xs : List Sent). xs ++ b.out ∷ []) kept.1;
          room = omega (arith, kept.2, settled.room);
          tells = tells;
        }
    has_begun (Err f) done timed untold waits tells = absurd waits

    is_refused : IsRefusedWhere command mid.gateway r → status ≡ 6 → IsRefused command told desk new
    is_refused refuses six =
        let w = settled.refused six in
        record {
          why = w.0;
          refuses = subst (λ (g : GatewayState). MachineStep g.role g.node (Commanded command) (refused g.node w.0)) kept.0 ((refuses w.0).0 w.1);
          tells = w.2;
        }

    -- a command that ran out of memory is not refused by the machine
    may_run_out : IsRefusedWhere command mid.gateway r → r ≡ Err Memory → CommandMayRunOut command desk
    may_run_out refuses out =
        inr (λ why is. true≢false (sym (ap ran_out out) ∙ ap ran_out
        ((refuses why).1 (subst (λ (g : GatewayState). MachineStep g.role g.node (Commanded command) (refused g.node why)) (sym kept.0) is)))) where
          ran_out : Result Begun CommandFault → Bool
          ran_out (Err Memory) = true
          ran_out (Err (Refused why)) = false
          ran_out (Ok b) = false

    same : (r : Result Begun CommandFault) → OnErr r (after ≡ mid.gateway) → OnOk r ⊥ → after ≡ mid.gateway
    same (Ok b) err none = absurd none
    same (Err f) err none = err

    nothing_happened : OnErr r (after ≡ mid.gateway) → status ≢ 0 → Keeps desk new
    nothing_happened err some = let still = settled.kept some in (settled.gateway ∙ (same r err still.0 ∙ kept.0), still.1 ∙ kept.1, omega (arith, kept.2, settled.room))

    -- there was room, and the gateway answered
    pub carried_out : ¬ IsFull desk → IfOk r (λ b. IsCarriedOut command mid.gateway b after) → IfOk r (λ b. IsTimed command mid.gateway b after) → IfOk r (λ b. IsUntold command b)
        → IsRefusedWhere command mid.gateway r → OnErr r (after ≡ mid.gateway) → IsCommanded command Bad before told (Some desk) (Some new) status
    carried_out room done timed untold refuses err =
        let known = settled.known in
        record {
          done = λ zero. has_begun r done timed untold (settled.waiting zero) (settled.tells zero);
          refused = is_refused refuses;
          kept = nothing_happened err;
          untold = λ zero six. settled.untold (of_three (λ n. n ≢ 0 → n ≢ 6 → n ≡ 2) (λ a b. absurd (a refl)) (λ a b. refl) (λ a b. absurd (b refl)) status known zero six);
          has = has_status Bad good desk status
              (of_three (λ n. n ≢ 7) (λ e. omega (arith, e)) (λ e. omega (arith, e)) (λ e. omega (arith, e)) status known)
              (of_three (λ n. n ≢ 1) (λ e. omega (arith, e)) (λ e. omega (arith, e)) (λ e. omega (arith, e)) status known)
              (λ three. absurd (of_three (λ n. n ≢ 3) (λ e. omega (arith, e)) (λ e. omega (arith, e)) (λ e. omega (arith, e)) status known three), λ full. absurd (room full))
              (of_three IsCommandStatus (inl refl) (inr (inr (inl refl))) (inr (inr (inr (inr (inl refl))))) status known);
          memory = λ two. may_run_out refuses (settled.memory two);
        }

-- where there was room, not too many wait
pub has_room : {Full : Type 0} (status : ℕ) → status ≡ 0 → ((status ≡ 3) ↔ Full) → ¬ Full
has_room status zero full is = let three = full.1 is in omega (arith, zero, three)

-- of the gateway behind a handle
pub behind : {command : Command} {Bad : Type 0} {before told : Told} {desk : GatewayWithQueue} {old new : Option GatewayWithQueue} {status : ℕ} → Some desk ≡ old
    → IsCommanded command Bad before told (Some desk) new status → IsCommanded command Bad before told old new status
behind {command} {Bad} {before} {told} {desk} {old} {new} {status} is said = subst (λ (v : Option GatewayWithQueue). IsCommanded command Bad before told v new status) is said

-- the same command
pub as_command : {command other : Command} {Bad : Type 0} {before told : Told} {old new : Option GatewayWithQueue} {status : ℕ} → command ≡ other
    → IsCommanded command Bad before told old new status → IsCommanded other Bad before told old new status
as_command {command} {other} {Bad} {before} {told} {old} {new} {status} is said = subst (λ (c : Command). IsCommanded c Bad before told old new status) is said

-- a session with C's values
pub asked : {c : Session} {imsi : Identity} {access_point : List ℕ} {before told : Told} {desk new : GatewayWithQueue} {old : Option GatewayWithQueue}
    {status : ℕ} (spec : SessionSpec) → IsSpecified c imsi access_point spec → Some desk ≡ old
    → IsCommanded (Create_session (specification spec)) (¬ IsGoodSession c imsi access_point) before told (Some desk) (Some new) status
    → IsSessionAsked c imsi access_point before told old (Some new) status
asked {c} {imsi} {access_point} {before} {told} {desk} {new} {old} {status} spec is there said =
    subst (λ (v : Option GatewayWithQueue). IsSessionAsked c imsi access_point before told v (Some new) status) there
    (record {
      done = λ zero. record { spec = spec; is = is; begun = said.done zero };
      refused = λ six. record { spec = spec; is = is; refused = said.refused six };
      kept = said.kept;
      untold = said.untold;
      has = said.has;
      memory = λ two. record { spec = spec; is = is; may = said.memory two };
    })

-- what holds in any case
pub always : {P : Type 0} (r : Result Begun CommandFault) → P → IfOk r (λ b. P)
always (Ok b) p = p
always (Err f) p = tt

pub always_err : {P : Type 0} (r : Result Begun CommandFault) → P → OnErr r P
always_err (Ok b) p = tt
always_err (Err f) p = p
