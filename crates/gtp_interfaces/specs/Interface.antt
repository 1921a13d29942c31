-- What is asked of datagrams on an interface.
use Rattle.std.specs.Prelude.{ℕ, List, [], ◌∷◌, Option, Some, ◌==◌, if◌then◌else◌}
use Rattle.gtp_v2.specs.Asks.{Asks, asks_of}
use Rattle.gtp_v2.specs.Asked.{whole_elements}
use Rattle.gtp_interfaces.specs.declared.interface.Interface.{Interface}
use Rattle.gtp_interfaces.specs.declared.interface.Interface.TheVariants as interfaces
use Rattle.gtp_interfaces.specs.Any.{any}
use Rattle.gtp_interfaces.specs.S11.{s11}

-- what the first of these asks of a type; of a type that is none of them, whole elements
abbrev pub asked_among : List (ℕ × Asks) → ℕ → Option Asks
asked_among [] kind = Some whole_elements
asked_among (t ∷ tables) kind = if kind == t.0 then Some t.1 else asked_among tables kind

-- what is asked of messages of each type: on S5/S8 what the tables of the gateways ask, on S11 the rows of its messages, on any interface headers and whole elements
abbrev pub asked_on : Interface → ℕ → Option Asks
asked_on interfaces.S5S8 = asks_of
asked_on interfaces.S11 = asked_among s11
asked_on interfaces.Any = asked_among any

-- the types of extension headers that are defined for the user plane (TS 29.281 figure 5.2.1-3)
abbrev pub defined : List ℕ
defined =
    3  -- Long PDCP PDU Number, which need not be understood
    ∷ 32  -- Service Class Indicator
    ∷ 64  -- UDP Port
    ∷ 129  -- RAN Container
    ∷ 130  -- Long PDCP PDU Number
    ∷ 131  -- Xw RAN Container
    ∷ 132  -- NR RAN Container
    ∷ 133  -- PDU Session Container
    ∷ 192  -- PDCP PDU Number
    ∷ []

-- those that are understood: the gateways of S5/S8 understand none that has to be
abbrev pub understood_on : Interface → List ℕ
understood_on interfaces.S5S8 = []
understood_on interfaces.S11 = defined
understood_on interfaces.Any = defined
