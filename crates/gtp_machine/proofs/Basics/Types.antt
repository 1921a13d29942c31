-- The types of messages that gateways take.
use Rattle.std.proofs.Common.{◌≡◌, ℕ, Bool, true, false, List, [], ◌∷◌, Some, refl, ◌∙◌, ap}
use Rattle.std.specs.Prelude.{◌==◌, if◌then◌else◌}
use Rattle.gtp_machine.specs.Input.{MessageType}
use Rattle.gtp_machine.specs.MessageType.{type_row, all_types, type_among, type_at}
use Rattle.gtp_values.proofs.Tests.{same_number}

type_has : (kind : ℕ) (types : List MessageType) (t : MessageType) → type_among types kind ≡ Some t → kind ≡ (type_row t).kind
type_has kind [] t is = absurd cc
type_has kind (u ∷ types) t is = by (kind == (type_row u).kind) refl is (λ later. type_has kind types t later)
  where
    by : (b : Bool) → (kind == (type_row u).kind) ≡ b → (if b then Some u else type_among types kind) ≡ Some t → (type_among types kind ≡ Some t → kind ≡ (type_row t).kind) → kind ≡ (type_row t).kind
    by true same is later = let one : u ≡ t = cc in same_number kind _ same ∙ ap (λ k. (type_row k).kind) one
    by false other is later = later is

-- a type has the number that it is found by
pub type_kind : (kind : ℕ) (t : MessageType) → type_at kind ≡ Some t → kind ≡ (type_row t).kind
type_kind kind t is = type_has kind all_types t is
