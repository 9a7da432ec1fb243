-- The ids of SBc-AP's elements, by the names of 004, clause 4.4.7; two that M3AP has too are marked as SBc-AP's.
use Rattle.std.specs.Prelude.{ℕ}

abbrev pub id_s_bc_cause : ℕ
id_s_bc_cause = 1

abbrev pub id_s_bc_criticality_diagnostics : ℕ
id_s_bc_criticality_diagnostics = 2

abbrev pub id_message_identifier : ℕ
id_message_identifier = 5

abbrev pub id_serial_number : ℕ
id_serial_number = 11

abbrev pub id_list_of_ta_is : ℕ
id_list_of_ta_is = 14

abbrev pub id_warning_area_list : ℕ
id_warning_area_list = 15

abbrev pub id_omc_id : ℕ
id_omc_id = 19

abbrev pub id_unknown_tracking_area_list : ℕ
id_unknown_tracking_area_list = 22

abbrev pub id_send_stop_warning_indication : ℕ
id_send_stop_warning_indication = 26

abbrev pub id_stop_all_indicator : ℕ
id_stop_all_indicator = 27
