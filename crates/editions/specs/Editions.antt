-- The messages of an edition. Each is one clause: its number for C, its frame (000, 9.3.3; 004, 4.4.3) and its table of elements (000, 9.3.4; 004, 4.4.4).
-- A new message is a clause of printed_form and its name in messages_of; nothing else here asks which message it is.
use Rattle.std.specs.Prelude.{ℕ, Bool, true, false, ◌&&◌, List, [], ◌∷◌, eqb, None, Option, Some}
use Rattle.lists.specs.Lists.{pick}
use Rattle.rows.specs.declared.Kind.{Kind}
use Rattle.rows.specs.declared.Kind.TheVariants.{Carried, Mme, Mce, Tmgi, OneOctet, TwoOctets, Cause, Wait, Name, ResetType, Acknowledged, Diagnostics}
use Rattle.rows.specs.declared.Triggers.TheVariants.{Three, Four}
use Rattle.rows.specs.declared.Row.{Row}
use Rattle.editions.specs.declared.Message.{Message}
use Rattle.editions.specs.declared.Message.TheVariants.{StartRequest, StartResponse, StartFailure, StopRequest, StopResponse, Reset, ResetAcknowledge, ErrorIndication, SetupRequest, SetupResponse, SetupFailure, StopWarningRequest, StopWarningResponse, WarningErrorIndication}
use Rattle.editions.specs.declared.Code.{Code}
use Rattle.editions.specs.declared.Edition.{Edition}
use Rattle.editions.specs.declared.Edition.TheVariants.{Release18, Warnings, WarningsLab}
use Rattle.editions.specs.Ids.{id_mme_mbms_m3ap_id, id_mce_mbms_m3ap_id, id_tmgi, id_mbms_session_id, id_mbms_e_rab_qo_s_parameters, id_mbms_session_duration, id_mbms_service_area, id_tnl_information, id_criticality_diagnostics, id_cause, id_time_to_wait, id_reset_type, id_mbms_service_associated_logical_m3_connection_list_res_ack, id_minimum_time_to_mbms_data_transfer, id_global_mce_id, id_mc_ename, id_mbms_service_area_list, id_time_of_mbms_data_transfer, id_time_of_mbms_data_stop, id_reestablishment, id_alternative_tnl_information, id_mbms_cell_list}
use Rattle.editions.specs.WarningIds.{id_s_bc_cause, id_s_bc_criticality_diagnostics, id_message_identifier, id_serial_number, id_list_of_ta_is, id_warning_area_list, id_omc_id, id_unknown_tracking_area_list, id_send_stop_warning_indication, id_stop_all_indicator}

abbrev reject : ℕ
reject = 0

abbrev ignore : ℕ
ignore = 1

abbrev mandatory : ℕ → ℕ → Kind → Row
mandatory id crit kind = record { id = id; crit = crit; kind = kind; mandatory = true }

abbrev optional : ℕ → ℕ → Kind → Row
optional id crit kind = record { id = id; crit = crit; kind = kind; mandatory = false }

-- kind (0 initiating, 1 successful, 2 unsuccessful), procedure code, criticality
abbrev frame : ℕ → ℕ → ℕ → Code
frame kind code crit = record { kind = kind; code = code; crit = crit }

-- container: the message can have extensions beside its elements; lab: the rows that the lab profile knows
pub record Form : Type 0 where
  pub number : ℕ
  pub code : Code
  pub container : Bool
  pub rows : List Row
  pub lab : List Row

-- no container, and the lab profile knows all rows
abbrev form : ℕ → Code → List Row → Form
form n c t = record { number = n; code = c; container = false; rows = t; lab = t }

abbrev with_container : ℕ → Code → List Row → List Row → Form
with_container n c t l = record { number = n; code = c; container = true; rows = t; lab = l }

-- of each Stop-Warning message the first two
abbrev identifier : Row
identifier = mandatory id_message_identifier reject TwoOctets

abbrev serial : Row
serial = mandatory id_serial_number reject TwoOctets

abbrev pub printed_form : Message → Form
printed_form StartRequest = form 1 (frame 0 0 reject)
    (mandatory id_mme_mbms_m3ap_id reject Mme
    ∷ mandatory id_tmgi reject Tmgi
    ∷ optional id_mbms_session_id ignore OneOctet
    ∷ mandatory id_mbms_e_rab_qo_s_parameters reject Carried
    ∷ mandatory id_mbms_session_duration reject Carried
    ∷ mandatory id_mbms_service_area reject Carried
    ∷ mandatory id_minimum_time_to_mbms_data_transfer reject Carried
    ∷ mandatory id_tnl_information reject Carried
    ∷ optional id_time_of_mbms_data_transfer ignore Carried
    ∷ optional id_reestablishment ignore Carried
    ∷ optional id_alternative_tnl_information ignore Carried
    ∷ optional id_mbms_cell_list reject Carried ∷ [])
printed_form StartResponse = form 2 (frame 1 0 reject)
    (mandatory id_mme_mbms_m3ap_id ignore Mme
    ∷ mandatory id_mce_mbms_m3ap_id ignore Mce
    ∷ optional id_criticality_diagnostics ignore (Diagnostics Three) ∷ [])
printed_form StartFailure = form 3 (frame 2 0 reject)
    (mandatory id_mme_mbms_m3ap_id ignore Mme
    ∷ mandatory id_cause ignore Cause
    ∷ optional id_criticality_diagnostics ignore (Diagnostics Three) ∷ [])
printed_form StopRequest = form 4 (frame 0 1 reject)
    (mandatory id_mme_mbms_m3ap_id reject Mme
    ∷ mandatory id_mce_mbms_m3ap_id reject Mce
    ∷ optional id_time_of_mbms_data_stop ignore Carried ∷ [])
printed_form StopResponse = form 5 (frame 1 1 reject)
    (mandatory id_mme_mbms_m3ap_id ignore Mme
    ∷ mandatory id_mce_mbms_m3ap_id ignore Mce
    ∷ optional id_criticality_diagnostics ignore (Diagnostics Three) ∷ [])
printed_form Reset = form 6 (frame 0 4 reject)
    (mandatory id_cause ignore Cause
    ∷ mandatory id_reset_type reject ResetType ∷ [])
printed_form ResetAcknowledge = form 7 (frame 1 4 reject)
    (optional id_mbms_service_associated_logical_m3_connection_list_res_ack ignore Acknowledged
    ∷ optional id_criticality_diagnostics ignore (Diagnostics Three) ∷ [])
printed_form ErrorIndication = form 8 (frame 0 2 ignore)
    (optional id_mme_mbms_m3ap_id ignore Mme
    ∷ optional id_mce_mbms_m3ap_id ignore Mce
    ∷ optional id_cause ignore Cause
    ∷ optional id_criticality_diagnostics ignore (Diagnostics Three) ∷ [])
printed_form SetupRequest = form 9 (frame 0 7 reject)
    (mandatory id_global_mce_id reject Carried
    ∷ optional id_mc_ename ignore Name
    ∷ mandatory id_mbms_service_area_list reject Carried ∷ [])
printed_form SetupResponse = form 10 (frame 1 7 reject)
    (optional id_criticality_diagnostics ignore (Diagnostics Three) ∷ [])
printed_form SetupFailure = form 11 (frame 2 7 reject)
    (mandatory id_cause ignore Cause
    ∷ optional id_time_to_wait ignore Wait
    ∷ optional id_criticality_diagnostics ignore (Diagnostics Three) ∷ [])
printed_form StopWarningRequest = with_container 1 (frame 0 1 reject)
    (identifier
    ∷ serial
    ∷ optional id_list_of_ta_is reject Carried
    ∷ optional id_warning_area_list ignore Carried
    ∷ optional id_omc_id ignore Carried
    ∷ optional id_send_stop_warning_indication ignore Carried
    ∷ optional id_stop_all_indicator reject Carried ∷ [])
    (identifier ∷ serial ∷ [])
printed_form StopWarningResponse =
    let t = identifier
    ∷ serial
    ∷ mandatory id_s_bc_cause reject OneOctet
    ∷ optional id_s_bc_criticality_diagnostics ignore (Diagnostics Four)
    ∷ optional id_unknown_tracking_area_list ignore Carried ∷ [] in
    with_container 2 (frame 1 1 reject) t t
printed_form WarningErrorIndication = form 3 (frame 0 2 ignore)
    (optional id_s_bc_cause ignore OneOctet
    ∷ optional id_s_bc_criticality_diagnostics ignore (Diagnostics Four) ∷ [])

-- the same, shut: what is shown of a message shows no table
unfoldable pub printed : Message → Form
printed m = printed_form m

abbrev pub in_lab : Form → Form
in_lab f = record { number = f.number; code = f.code; container = f.container; rows = f.lab; lab = f.lab }

-- Release 18 of M3AP; warnings over SBc-AP, and their lab profile
abbrev pub form_of : Edition → Message → Form
form_of Release18 m = printed m
form_of Warnings m = printed m
form_of WarningsLab m = in_lab (printed m)

abbrev pub messages_of : Edition → List Message
messages_of Release18 = StartRequest ∷ StartResponse ∷ StartFailure ∷ StopRequest ∷ StopResponse ∷ Reset ∷ ResetAcknowledge ∷ ErrorIndication ∷ SetupRequest ∷ SetupResponse ∷ SetupFailure ∷ []
messages_of Warnings = StopWarningRequest ∷ StopWarningResponse ∷ WarningErrorIndication ∷ []
messages_of WarningsLab = StopWarningRequest ∷ StopWarningResponse ∷ WarningErrorIndication ∷ []

-- the editions of M3AP, whose requests reach a unit
abbrev pub of_m3ap : Edition → Bool
of_m3ap Release18 = true
of_m3ap Warnings = false
of_m3ap WarningsLab = false

abbrev pub table_of : Edition → Message → List Row
table_of e m = (form_of e m).rows

abbrev pub code_of : Edition → Message → Code
code_of e m = (form_of e m).code

abbrev pub container_of : Edition → Message → Bool
container_of e m = (form_of e m).container

abbrev pub number_of : Edition → Message → ℕ
number_of e m = (form_of e m).number

-- the first message that passes a test
unfoldable pub first_of : (Message → Bool) → List Message → Option Message
first_of p [] = None
first_of p (m ∷ ms) = pick (p m) (Some m) (first_of p ms)

-- by kind and code of the frame; by the number for C
unfoldable pub named_by : Edition → ℕ → ℕ → Option Message
named_by e kind code = first_of (λ (m : Message). eqb kind (code_of e m).kind && eqb code (code_of e m).code) (messages_of e)

unfoldable pub numbered_by : Edition → ℕ → Option Message
numbered_by e n = first_of (λ (m : Message). eqb n (number_of e m)) (messages_of e)
