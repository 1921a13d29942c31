-- What messages have to have on S11, between a mobility management entity and a serving gateway (TS 29.274 7.1, 7.2).
use Rattle.std.specs.Prelude.{ℕ, List, [], ◌∷◌}
use Rattle.gtp_ie.specs.Form.{number_of, bearer_context}
use Rattle.gtp_ie.specs.declared.form.Form.TheVariants.{Ambr, Apn, Cause, Ebi, FTeid, Imsi, Paa, PdnType, Pti, Qos, Rat, Recovery, Tft}
use Rattle.gtp_v2.specs.declared.table.Row.{Row}
use Rattle.gtp_v2.specs.declared.table.Row.TheVariants.{Mandatory, Conditional, Accepted, Optional}
use Rattle.gtp_v2.specs.Table.{Line, Single, Grouped}
use Rattle.gtp_v2.specs.Asks.{Asks}
use Rattle.gtp_interfaces.specs.Header.{without_teid, with_teid}

-- the rows of bearer contexts
abbrev pub create_session_request_context : List Row
create_session_request_context = Mandatory (number_of Ebi) 0 ∷ Mandatory (number_of Qos) 0 ∷ []

abbrev pub with_identity_and_cause : List Row
with_identity_and_cause = Mandatory (number_of Ebi) 0 ∷ Mandatory (number_of Cause) 0 ∷ []

abbrev pub with_identity : List Row
with_identity = Mandatory (number_of Ebi) 0 ∷ []

abbrev pub create_bearer_request_context : List Row
create_bearer_request_context = Mandatory (number_of Ebi) 0 ∷ Mandatory (number_of Tft) 0 ∷ Conditional (number_of FTeid) 0 ∷ Mandatory (number_of Qos) 0 ∷ []

abbrev pub create_bearer_response_context : List Row
create_bearer_response_context = Mandatory (number_of Ebi) 0 ∷ Mandatory (number_of Cause) 0 ∷ Accepted (number_of FTeid) 0 ∷ Accepted (number_of FTeid) 1 ∷ []

-- a restart counter, and nothing else
abbrev pub recovery_alone : List Line
recovery_alone = Single (Mandatory (number_of Recovery) 0) ∷ []

-- a cause, and nothing else
abbrev pub cause_alone : List Line
cause_alone = Single (Mandatory (number_of Cause) 0) ∷ []

-- Create Session Request
abbrev pub create_session_request : List Line
create_session_request =
    Single (Optional (number_of Imsi) 0)
    ∷ Single (Mandatory (number_of Rat) 0)
    ∷ Single (Mandatory (number_of FTeid) 0)
    ∷ Single (Mandatory (number_of Apn) 0)
    ∷ Single (Optional (number_of PdnType) 0)
    ∷ Grouped (Mandatory bearer_context 0) create_session_request_context
    ∷ []

-- Create Session Response
abbrev pub create_session_response : List Line
create_session_response =
    Single (Mandatory (number_of Cause) 0)
    ∷ Single (Accepted (number_of FTeid) 0)
    ∷ Single (Accepted (number_of FTeid) 1)
    ∷ Single (Optional (number_of Paa) 0)
    ∷ Grouped (Accepted bearer_context 0) with_identity_and_cause
    ∷ []

-- Modify Bearer Request
abbrev pub modify_bearer_request : List Line
modify_bearer_request =
    Grouped (Optional bearer_context 0) with_identity
    ∷ []

-- Change Notification Request
abbrev pub change_notification_request : List Line
change_notification_request =
    Single (Mandatory (number_of Rat) 0)
    ∷ []

-- Modify Bearer Command
abbrev pub modify_bearer_command : List Line
modify_bearer_command =
    Single (Mandatory (number_of Ambr) 0)
    ∷ Grouped (Mandatory bearer_context 0) with_identity
    ∷ []

-- Delete Bearer Command
abbrev pub delete_bearer_command : List Line
delete_bearer_command =
    Grouped (Mandatory bearer_context 0) with_identity
    ∷ []

-- Delete Bearer Failure Indication
abbrev pub delete_bearer_failure_indication : List Line
delete_bearer_failure_indication =
    Single (Mandatory (number_of Cause) 0)
    ∷ Grouped (Mandatory bearer_context 0) with_identity_and_cause
    ∷ []

-- Bearer Resource Command
abbrev pub bearer_resource_command : List Line
bearer_resource_command =
    Single (Mandatory (number_of Ebi) 0)
    ∷ Single (Mandatory (number_of Pti) 0)
    ∷ []

-- Bearer Resource Failure Indication
abbrev pub bearer_resource_failure_indication : List Line
bearer_resource_failure_indication =
    Single (Mandatory (number_of Cause) 0)
    ∷ Single (Mandatory (number_of Ebi) 0)
    ∷ Single (Mandatory (number_of Pti) 0)
    ∷ []

-- Create Bearer Request
abbrev pub create_bearer_request : List Line
create_bearer_request =
    Single (Mandatory (number_of Ebi) 0)
    ∷ Grouped (Mandatory bearer_context 0) create_bearer_request_context
    ∷ []

-- Create Bearer Response
abbrev pub create_bearer_response : List Line
create_bearer_response =
    Single (Mandatory (number_of Cause) 0)
    ∷ Grouped (Accepted bearer_context 0) create_bearer_response_context
    ∷ []

-- Update Bearer Request
abbrev pub update_bearer_request : List Line
update_bearer_request =
    Grouped (Mandatory bearer_context 0) with_identity
    ∷ Single (Mandatory (number_of Ambr) 0)
    ∷ []

-- Update Bearer Response
abbrev pub update_bearer_response : List Line
update_bearer_response =
    Single (Mandatory (number_of Cause) 0)
    ∷ Grouped (Accepted bearer_context 0) with_identity_and_cause
    ∷ []

-- a line each; of a message of another type nothing is asked but whole elements
abbrev pub s11 : List (ℕ × Asks)
s11 =
    (1, without_teid recovery_alone)  -- Echo Request
    ∷ (2, without_teid recovery_alone)  -- Echo Response
    ∷ (3, without_teid [])  -- Version Not Supported Indication
    ∷ (32, with_teid create_session_request)
    ∷ (33, with_teid create_session_response)
    ∷ (34, with_teid modify_bearer_request)
    ∷ (35, with_teid cause_alone)  -- Modify Bearer Response
    ∷ (36, with_teid [])  -- Delete Session Request
    ∷ (37, with_teid cause_alone)  -- Delete Session Response
    ∷ (38, with_teid change_notification_request)
    ∷ (39, with_teid cause_alone)  -- Change Notification Response
    ∷ (64, with_teid modify_bearer_command)
    ∷ (65, with_teid cause_alone)  -- Modify Bearer Failure Indication
    ∷ (66, with_teid delete_bearer_command)
    ∷ (67, with_teid delete_bearer_failure_indication)
    ∷ (68, with_teid bearer_resource_command)
    ∷ (69, with_teid bearer_resource_failure_indication)
    ∷ (70, with_teid cause_alone)  -- Downlink Data Notification Failure Indication
    ∷ (95, with_teid create_bearer_request)
    ∷ (96, with_teid create_bearer_response)
    ∷ (97, with_teid update_bearer_request)
    ∷ (98, with_teid update_bearer_response)
    ∷ (99, with_teid [])  -- Delete Bearer Request
    ∷ (100, with_teid [])  -- Delete Bearer Response
    ∷ (162, with_teid [])  -- Suspend Notification
    ∷ (163, with_teid cause_alone)  -- Suspend Acknowledge
    ∷ (165, with_teid cause_alone)  -- Resume Acknowledge
    ∷ (167, with_teid cause_alone)  -- Create Indirect Data Forwarding Tunnel Response
    ∷ (169, with_teid cause_alone)  -- Delete Indirect Data Forwarding Tunnel Response
    ∷ (170, with_teid [])  -- Release Access Bearers Request
    ∷ (171, with_teid cause_alone)  -- Release Access Bearers Response
    ∷ (176, with_teid [])  -- Downlink Data Notification
    ∷ (177, with_teid cause_alone)  -- Downlink Data Notification Acknowledge
    ∷ (212, with_teid cause_alone)  -- Modify Access Bearers Response
    ∷ []
