-- What messages have to have on each interface (TS 29.274 5.5.1): no TEID, or one.
use Rattle.std.specs.Prelude.{ℕ, List, [], ◌∷◌}
use Rattle.gtp_v2.specs.Asks.{Asks}
use Rattle.gtp_interfaces.specs.Header.{without_teid, with_teid}

-- of a message of another type nothing is asked but whole elements
abbrev pub any : List (ℕ × Asks)
any =
    (1, without_teid [])  -- Echo Request
    ∷ (2, without_teid [])  -- Echo Response
    ∷ (3, without_teid [])  -- Version Not Supported Indication
    ∷ (32, with_teid [])  -- Create Session Request
    ∷ (33, with_teid [])  -- Create Session Response
    ∷ (36, with_teid [])  -- Delete Session Request
    ∷ (37, with_teid [])  -- Delete Session Response
    ∷ (95, with_teid [])  -- Create Bearer Request
    ∷ (96, with_teid [])  -- Create Bearer Response
    ∷ (99, with_teid [])  -- Delete Bearer Request
    ∷ (100, with_teid [])  -- Delete Bearer Response
    ∷ []
