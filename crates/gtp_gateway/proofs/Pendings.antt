-- Requests that wait, by their numbers.
use Rattle.std.proofs.Common.{◌≡◌, inl, inr, ℕ, Bool, true, false, cond, List, [], ◌∷◌, map, Option, Some, None, refl, sym, ◌∙◌, ap, arith}
use Rattle.std.specs.Prelude.{◌==◌, not}
use Rattle.std.specs.Bool.{beq}
use Rattle.std.specs.List.{AllByRecursion}
use Rattle.std.proofs.lemmas.Bool.Decides.{nat_tests}
use Rattle.std.proofs.lemmas.List.Elements.{recursion_from_All}
use Rattle.std.specs.FinMap.{get, find, get-from_entries}
use Rattle.std.specs.Ordering.{nat_cmp}
use Rattle.std.specs.Cmp.{nat_cmp_total}
use Rattle.gtp_values.specs.declared.address.Ip.{Ip}
use Rattle.gtp_values.specs.declared.cause.Cause.{Cause}
use Rattle.gtp_tables.proofs.Rows.{turned}
use Rattle.gtp_reliable.specs.Waiting.{Waiting}
use Rattle.gtp_reliable.specs.Pending.{purpose_of}
use Rattle.gtp_machine.specs.Message.{Message, header_of}
use Rattle.gtp_machine.specs.Node.{PendingRequest}
use Rattle.gtp_machine.specs.Response.{Named}
use Rattle.gtp_gateway.specs.declared.command.purpose.Purpose.{Purpose}
use Rattle.gtp_gateway.specs.declared.command.purpose.Asked.{Asked}
use Rattle.gtp_gateway.specs.declared.receive.response.Response.{Response}
use Rattle.gtp_gateway.specs.command.SendRequest.{about}
use Rattle.gtp_gateway.specs.Parts.{pending_of, pending_in}
use Rattle.gtp_gateway.specs.receive.Response.{Names}
use Rattle.gtp_gateway.specs.messages.Spelled.{message_in, is_asked, is_for, IsAsked, AreAsked}

-- a request for the purpose waits under the number
pub record Waits (ws : List (Waiting Purpose)) (n : ℕ) (purpose : Purpose) : Type 0 where
  pub message : Message
  pub stands : get (pending_in ws) n ≡ Some (about purpose message)
  pub meant : is_for purpose message ≡ true

record Found (ws : List (Waiting Purpose)) (n : ℕ) (purpose : Purpose) : Type 0 where
  pub message : Message
  pub stands : find nat_cmp n (map pending_of ws) ≡ Some (about purpose message)
  pub meant : is_for purpose message ≡ true

found : (peer : Ip) (ws : List (Waiting Purpose)) (n : ℕ) (purpose : Purpose) → AllByRecursion (IsAsked peer) ws → purpose_of n ws ≡ Some purpose → Found ws n purpose
unfolding purpose_of
found peer [] n purpose each is = absurd cc
found peer (w ∷ ws) n purpose each is = by (w.seq == n) refl is (found peer ws n purpose each.1)
  where
    by : (b : Bool) → (w.seq == n) ≡ b → cond b (Some w.purpose) (purpose_of n ws) ≡ Some purpose → (purpose_of n ws ≡ Some purpose → Found ws n purpose) → Found (w ∷ ws) n purpose
    by true same is later =
        let one : w.purpose ≡ purpose = cc in
        record {
          message = message_in w.octets;
          stands = ap (λ (b : Bool). cond b (Some (pending_of w).1) (find nat_cmp n (map pending_of ws))) (turned n w.seq ∙ same) ∙ ap (λ (p : Purpose). Some (about p (message_in w.octets))) one;
          meant = ap (λ (p : Purpose). is_for p (message_in w.octets)) (sym one) ∙ each.0.purpose;
        }
    by false same is later =
        let f = later is in
        record { message = f.message; stands = ap (λ (b : Bool). cond b (Some (pending_of w).1) (find nat_cmp n (map pending_of ws))) (turned n w.seq ∙ same) ∙ f.stands; meant = f.meant }

pub waits : (peer : Ip) (ws : List (Waiting Purpose)) (n : ℕ) (purpose : Purpose) → AreAsked peer ws → purpose_of n ws ≡ Some purpose → Waits ws n purpose
waits peer ws n purpose each is =
    let f = found peer ws n purpose (recursion_from_All (IsAsked peer) ws each) is in
    record { message = f.message; stands = get-from_entries nat_cmp_total (map pending_of ws) n ∙ f.stands; meant = f.meant }

missing : (ws : List (Waiting Purpose)) (n : ℕ) → purpose_of n ws ≡ None → find nat_cmp n (map pending_of ws) ≡ None
unfolding purpose_of
missing [] n is = refl
missing (w ∷ ws) n is = by (w.seq == n) refl is (missing ws n)
  where
    by : (b : Bool) → (w.seq == n) ≡ b → cond b (Some w.purpose) (purpose_of n ws) ≡ None
        → (purpose_of n ws ≡ None → find nat_cmp n (map pending_of ws) ≡ None) → find nat_cmp n (map pending_of (w ∷ ws)) ≡ None
    by true same is later = absurd cc
    by false same is later = ap (λ (b : Bool). cond b (Some (pending_of w).1) (find nat_cmp n (map pending_of ws))) (turned n w.seq ∙ same) ∙ later is

-- nothing waits under the number
pub none_waits : (ws : List (Waiting Purpose)) (n : ℕ) → purpose_of n ws ≡ None → get (pending_in ws) n ≡ None
none_waits ws n is = get-from_entries nat_cmp_total (map pending_of ws) n ∙ missing ws n is

abbrev request_or_none : Option PendingRequest → Option PendingRequest
request_or_none o = o

abbrev one : ℕ → Option ℕ
one n = Some n

-- ---- which requests a response fits

-- a request asks for what its purpose says, and a purpose says what its request asks for
pub asked_there : (purpose : Purpose) (a : Asked) (m : Message) → purpose.asked ≡ a → is_for purpose m ≡ true → is_asked a purpose m ≡ true
asked_there purpose a m is meant = ap (λ (x : Asked). is_asked x purpose m) (sym is) ∙ meant

pub asked_here : (purpose : Purpose) (m k : Message) → m ≡ k → is_for purpose m ≡ true → is_asked purpose.asked purpose k ≡ true
asked_here purpose m k is meant = ap (is_for purpose) (sym is) ∙ meant

named_true : (named : Bool) (asked : ℕ) → beq named (not (asked == 0)) ≡ true → (asked ≡ 0 → ⊥) → named ≡ true
named_true true asked told other = refl
named_true false asked told other = by (asked == 0) refl told
  where
    by : (b : Bool) → (asked == 0) ≡ b → beq false (not b) ≡ true → false ≡ true
    by true zero told = absurd (other (grind (arith, nat_tests, zero)))
    by false some told = absurd cc

named_some : (named : Bool) (asked : ℕ) → beq named (not (asked == 0)) ≡ true → named ≡ true → asked ≡ 0 → ⊥
named_some named asked told is zero = by named is (subst_zero told)
  where
    subst_zero : beq named (not (asked == 0)) ≡ true → beq named false ≡ true
    subst_zero told = ap (λ (n : ℕ). beq named (not (n == 0))) (sym zero) ∙ told

    by : (b : Bool) → b ≡ true → beq b false ≡ true → ⊥
    by true is told = let no : false ≡ true = told in cc
    by false is told = let no : false ≡ true = is in cc

-- whether a TEID stood in the header of a request is what its purpose says
abbrev pub IsTold : Purpose → Message → Type 0
IsTold purpose m = beq purpose.is_named (not (header_of m == 0)) ≡ true

pub told_of : (purpose : Purpose) (m k : Message) → m ≡ k → IsTold purpose k → IsTold purpose m
told_of purpose m k is told = ap (λ (x : Message). beq purpose.is_named (not (header_of x == 0))) is ∙ told

-- a response that names the session by the machine's rule does so by what is kept of the request, and the other way round
module _ (purpose : Purpose) (m : Message) (r : Response) (header : ℕ) (cause : Cause) (told : IsTold purpose m) (at : header ≡ r.header) (of : cause ≡ r.cause) where
  pub names_here : Named (about purpose m) header cause → Names r purpose
  names_here (inl same) = inl (same ∙ ap one at)
  names_here (inr (zero, unknown, some)) = inr (sym at ∙ zero, ap (λ (c : Cause). c.value) (sym of) ∙ unknown, named_true purpose.is_named (header_of m) told some)

  pub names_there : Names r purpose → Named (about purpose m) header cause
  names_there (inl same) = inl (same ∙ ap one (sym at))
  names_there (inr (zero, unknown, is)) = inr (at ∙ zero, ap (λ (c : Cause). c.value) of ∙ unknown, named_some purpose.is_named (header_of m) told is)

pub none_waits_at : (ws : List (Waiting Purpose)) (n : ℕ) (p : PendingRequest) → purpose_of n ws ≡ None → get (pending_in ws) n ≡ Some p → ⊥
none_waits_at ws n p none is =
    let no : request_or_none None ≡ Some p = sym (none_waits ws n none) ∙ is in
    cc
