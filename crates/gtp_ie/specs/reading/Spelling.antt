-- Reading, for proofs: why a body spells no value, by the fault that is answered.
use Rattle.std.specs.Prelude.{ℕ, List}
use Rattle.gtp_ie.specs.declared.fault.ReadFault.{ReadFault}
use Rattle.gtp_ie.specs.declared.fault.ReadFault.TheVariants.{Short, Bad}
use Rattle.gtp_ie.specs.Spelling.{IsShort, IsBad}

-- why a body spells no value
abbrev pub SpellsNone : ℕ → List ℕ → ReadFault → Type 0
SpellsNone kind body Short = IsShort kind body
SpellsNone kind body Bad = IsBad kind body
