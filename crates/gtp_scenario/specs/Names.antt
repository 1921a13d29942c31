-- Names of sessions and bearers.
use Rattle.std.specs.Prelude.{[], ◌∷◌, codes, if◌then◌else◌, Option, Some, None}
use Rattle.serde_json.specs.Data.{Data}
use Rattle.gtp_scenario.specs.declared.name.SessionName.{SessionName}
use Rattle.gtp_scenario.specs.declared.name.BearerName.{BearerName}
use Rattle.gtp_scenario.specs.Steps.{◌>>=◌}
use Rattle.gtp_scenario.specs.Json.{text_at, has_only}
use Rattle.gtp_scenario.specs.Texts.{imsi_of, apn_of}
use Rattle.gtp_scenario.specs.Events.{ebi_at}

-- a session, by its subscriber and its access point
unfoldable pub session_name_of : Data → Option SessionName
session_name_of d =
    if has_only (codes "imsi" ∷ codes "apn" ∷ []) d
    then (do
      imsi ← text_at (codes "imsi") d >>= imsi_of
      apn ← text_at (codes "apn") d >>= apn_of
      Some (record { imsi = imsi; access_point = apn }))
    else None

-- a bearer of it, by its EPS bearer identity
unfoldable pub bearer_name_of : Data → Option BearerName
bearer_name_of d =
    if has_only (codes "imsi" ∷ codes "apn" ∷ codes "ebi" ∷ []) d
    then (do
      imsi ← text_at (codes "imsi") d >>= imsi_of
      apn ← text_at (codes "apn") d >>= apn_of
      ebi ← ebi_at d
      Some (record { session = record { imsi = imsi; access_point = apn }; identity = ebi }))
    else None
