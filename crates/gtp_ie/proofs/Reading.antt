-- What a caller of a reading function is told.
use Rattle.std.proofs.Common.{ap, ◌≡◌, ℕ, List, Result, Ok, Err}
use Rattle.std.specs.Prelude.{IfOk, IsOkAnd, IsErrOf, ◌↔◌}
use Rattle.gtp_values.specs.Steps.{Gives}
use Rattle.gtp_ie.specs.declared.fault.ReadFault.{ReadFault}
use Rattle.gtp_ie.specs.Value.{Value, value_at}
use Rattle.gtp_ie.specs.Spelling.{Spells}
use Rattle.gtp_ie.specs.reading.Spelling.{SpellsNone}
use Rattle.gtp_ie.proofs.Spelled.{value_decided}

pub reads_value : {X : Type 0} (view : X → Value) (r : Result X ReadFault) (kind : ℕ) (body : List ℕ) → Gives view r (value_at kind body) → IfOk r (λ x. Spells kind body (view x))
reads_value view (Ok x) kind body h = (value_decided kind body).ok (view x) h
reads_value view (Err f) kind body h = tt

pub reads_only : {X : Type 0} (view : X → Value) (r : Result X ReadFault) (kind : ℕ) (body : List ℕ) → Gives view r (value_at kind body) → (v : Value)
    → Spells kind body v → IsOkAnd r (λ x. view x ≡ v)
reads_only view (Ok x) kind body h v s = let e = (value_decided kind body).is v s in cc
reads_only view (Err f) kind body h v s = let e = (value_decided kind body).is v s in absurd cc

-- where no two have one value
pub reads_back : {X : Type 0} (view : X → Value) (r : Result X ReadFault) (kind : ℕ) (body : List ℕ) → Gives view r (value_at kind body)
    → ((x y : X) → view x ≡ view y → x ≡ y) → (x : X) → Spells kind body (view x) → r ≡ Ok x
reads_back view (Ok y) kind body h one x s = ap Ok (one y x (reads_only view (Ok y) kind body h (view x) s))
reads_back view (Err f) kind body h one x s = absurd (reads_only view (Err f) kind body h (view x) s)

failed : {X : Type 0} (r : Result X ReadFault) (view : X → Value) (kind : ℕ) (body : List ℕ) (f : ReadFault) → Gives view r (value_at kind body) → value_at kind body ≡ Err f → IsErrOf r f
failed (Ok x) view kind body f h e = absurd cc
failed (Err g) view kind body f h e = cc

fails : {X : Type 0} (r : Result X ReadFault) (view : X → Value) (kind : ℕ) (body : List ℕ) (f : ReadFault) → Gives view r (value_at kind body) → IsErrOf r f → value_at kind body ≡ Err f
fails (Ok x) view kind body f h e = absurd cc
fails (Err g) view kind body f h e = cc

pub reads_fault : {X : Type 0} (view : X → Value) (r : Result X ReadFault) (kind : ℕ) (body : List ℕ) (f : ReadFault) → Gives view r (value_at kind body) → IsErrOf r f ↔ SpellsNone kind body f
reads_fault view r kind body f h = (λ e. (value_decided kind body).err f (fails r view kind body f h e), λ s. failed r view kind body f h ((value_decided kind body).fails f s))
