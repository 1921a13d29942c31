-- All that can be shown of a datagram is one text.
use Rattle.std.proofs.Common.{◌≡◌, ℕ, true, false, List, ◌++◌, Option, Some, None, Result, inl, inr, refl, sym, ap, ◌∙◌}
use Rattle.std.specs.List.{flat_map}
use Rattle.gtp_values.specs.Decides.{Decides}
use Rattle.gtp_values.proofs.Outcomes.{ok_same, err_same, apart}
use Rattle.gtp_values.specs.declared.plane.Plane.TheVariants as planes
use Rattle.gtp_ie.specs.Element.{Element}
use Rattle.gtp_v2.specs.Headed.{Headed}
use Rattle.gtp_v2.specs.declared.fault.V2Fault.{V2Fault}
use Rattle.gtp_v2.specs.Pair.{IsDatagramBy, IsDatagramFaultBy}
use Rattle.gtp_v2.proofs.Pairs.{datagram_by_decided}
use Rattle.gtp_user.specs.declared.fault.UserFault.{UserFault}
use Rattle.gtp_user.specs.Datagram.{IsUserMessage, IsUserFault, IsUserMessageBy, IsUserFaultBy}
use Rattle.gtp_user.proofs.Messages.{message_decided, message_with_decided}
use Rattle.gtp_interfaces.specs.Interface.{asked_on, understood_on}
use Rattle.gtp_names.specs.declared.names.Names.{Names}
use Rattle.gtp_lines.specs.Control.{first_line, fault_line}
use Rattle.gtp_lines.specs.Named.{title_in, named_lines, named_user_lines}
use Rattle.gtp_lines.specs.User.{user_fault_line}
use Rattle.gtp_lines.specs.All.{rest_line, context_line, fault_context, head_at, MessageShown, AloneShown, SecondShown, ShownBy, pair_at, user_shown, user_head_at, UserShown}
use Rattle.gtp_lines.specs.Fronts.{chain_at}
use Rattle.gtp_lines.specs.Laws.{OneText}
use Rattle.gtp_lines.proofs.Alike.{one_front}

-- ---- one outcome

record One {X E : Type 0} (Is : X → Type 0) (Fails : E → Type 0) : Type 0 where
  value : (x y : X) → Is x → Is y → x ≡ y
  fault : (f g : E) → Fails f → Fails g → f ≡ g
  either : (x : X) (f : E) → Is x → Fails f → ⊥

one_of : {X E : Type 0} (r : Result X E) (Is : X → Type 0) (Fails : E → Type 0) → Decides r Is Fails → One Is Fails
one_of {X} {E} r Is Fails d = record {
  value = λ x y a b. ok_same E x y (sym (d.is x a) ∙ d.is y b);
  fault = λ f g a b. err_same X f g (sym (d.fails f a) ∙ d.fails g b);
  either = λ x f a b. apart x f (sym (d.is x a) ∙ d.fails f b);
}

-- ---- control

message_one : (names : Names) (h : Headed) (t u : List ℕ) → MessageShown names h t → MessageShown names h u → t ≡ u
message_one names h t u (es, rest, front, t_is) (ds, left, other, u_is) =
    let p = one_front h.at h.rest es rest ds left front other in
    let lines : flat_map (named_lines names h.kind) es ++ rest_line rest ≡ flat_map (named_lines names h.kind) ds ++ rest_line left =
    ap (λ (xs : List Element). flat_map (named_lines names h.kind) xs ++ rest_line rest) p.0
    ∙ ap (λ (xs : List ℕ). flat_map (named_lines names h.kind) ds ++ rest_line xs) p.1 in
    t_is ∙ (ap (λ (xs : List ℕ). first_line (title_in names h.kind) h.kind h.teid h.seq h.priority ++ xs) lines ∙ sym u_is)

alone_one : (names : Names) (w : Option Headed) (t u : List ℕ) → AloneShown names w t → AloneShown names w u → t ≡ u
alone_one names None t u a b = a ∙ sym b
alone_one names (Some h) t u a b = message_one names h t u a b

second_one : (names : Names) (back : List ℕ) (w : Option Headed) (t u : List ℕ) → SecondShown names back w t → SecondShown names back w u → t ≡ u
second_one names back None t u a b = a ∙ sym b
second_one names back (Some h) t u a b = message_one names h t u a b

shown_one : (names : Names) (p : Option (Headed × List ℕ)) (w : Option Headed) (t u : List ℕ) → ShownBy names p w t → ShownBy names p w u → t ≡ u
shown_one names None w t u a b = alone_one names w t u a b
shown_one names (Some pair) w t u (first, second, m, s, is) (front, back, n, r, other) =
    is ∙ (ap (λ (xs : List ℕ). xs ++ second) (message_one names pair.0 first front m n) ∙ (ap (λ (xs : List ℕ). front ++ xs) (second_one names pair.1 (head_at pair.1) second back s r) ∙ sym other))

-- ---- the user plane

user_one : (names : Names) (octets t u : List ℕ) → UserShown names octets t → UserShown names octets u → t ≡ u
user_one names octets t u (inl (m, spelled, is)) (inl (n, other, u_is)) =
    let one = one_of _ (IsUserMessage octets) (IsUserFault octets) (message_decided octets) in
    is ∙ (ap (named_user_lines names) (one.value m n spelled other) ∙ sym u_is)
user_one names octets t u (inl (m, spelled, is)) (inr (none, u_is)) = absurd (none m spelled)
user_one names octets t u (inr (none, is)) (inl (m, spelled, u_is)) = absurd (none m spelled)
user_one names octets t u (inr (none, is)) (inr (other, u_is)) = is ∙ sym u_is

-- ---- both

pub one_text : OneText
one_text names interface planes.Control octets t true u true (f, fails, (shown, a, is)) (g, fault, (other, b, u_is)) =
    let one = one_of _ (IsDatagramBy (asked_on interface) octets) (IsDatagramFaultBy (asked_on interface) octets) (datagram_by_decided (asked_on interface) octets) in
    let same = shown_one names (pair_at octets) (head_at octets) shown other a b in
    let ends : V2Fault → List ℕ = λ (x : V2Fault). fault_line x ++ context_line (fault_context octets x) in
    (is ∙ (ap (λ (xs : List ℕ). xs ++ ends f) same ∙ (ap (λ (x : V2Fault). other ++ ends x) (one.fault f g fails fault) ∙ sym u_is)), refl)
one_text names interface planes.Control octets t true u false (f, fails, more) ((d, spelled), b) =
    let one = one_of _ (IsDatagramBy (asked_on interface) octets) (IsDatagramFaultBy (asked_on interface) octets) (datagram_by_decided (asked_on interface) octets) in
    absurd (one.either d f spelled fails)
one_text names interface planes.Control octets t false u true ((d, spelled), a) (f, fails, more) =
    let one = one_of _ (IsDatagramBy (asked_on interface) octets) (IsDatagramFaultBy (asked_on interface) octets) (datagram_by_decided (asked_on interface) octets) in
    absurd (one.either d f spelled fails)
one_text names interface planes.Control octets t false u false (d, a) (e, b) = (shown_one names (pair_at octets) (head_at octets) t u a b, refl)
one_text names interface planes.User octets t true u true (f, fails, is) (g, fault, u_is) =
    let one = one_of _ (IsUserMessageBy (understood_on interface) octets) (IsUserFaultBy (understood_on interface) octets) (message_with_decided (understood_on interface) octets) in
    (is ∙ (ap (λ (x : UserFault). user_shown names (user_head_at octets) (chain_at octets) ++ user_fault_line x) (one.fault f g fails fault) ∙ sym u_is), refl)
one_text names interface planes.User octets t true u false (f, fails, is) ((m, spelled), b) =
    let one = one_of _ (IsUserMessageBy (understood_on interface) octets) (IsUserFaultBy (understood_on interface) octets) (message_with_decided (understood_on interface) octets) in
    absurd (one.either m f spelled fails)
one_text names interface planes.User octets t false u true ((m, spelled), a) (f, fails, u_is) =
    let one = one_of _ (IsUserMessageBy (understood_on interface) octets) (IsUserFaultBy (understood_on interface) octets) (message_with_decided (understood_on interface) octets) in
    absurd (one.either m f spelled fails)
one_text names interface planes.User octets t false u false (m, a) (n, b) = (user_one names octets t u a b, refl)
