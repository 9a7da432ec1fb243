-- Worked examples: Criticality Diagnostics and their octets; and octets that are none, with why and where reading them stops.
use Rattle.std.specs.Prelude.{ℕ, true, false, ◌≡◌, List, [], ◌∷◌, map, Ok, Err, None, Some}
use Rattle.octets.specs.Read.{cut_short, no_meaning, extended}
use Rattle.octets.specs.declared.Stop.{Stop}
use Rattle.diagnostics.specs.Diagnostics.{Diagnostics, empty_head, diagnostics_at}
use Rattle.diagnostics.specs.Written.{diagnostics_octets}

pub record DiagnosticsExample : Type 0 where
  pub octets : List ℕ
  pub value : Diagnostics

pub record RefusedDiagnostics : Type 0 where
  pub octets : List ℕ
  pub reason : Stop

abbrev pub diagnostics_examples : List DiagnosticsExample
diagnostics_examples =
    -- nothing is there
    record { octets = 0x00 ∷ []; value = record { head = empty_head; entries = [] } }
    -- without a code the triggering message stands in the first octet
    ∷ record {
      octets = 0x32 ∷ 0x80 ∷ [];
      value = record { head = record { code = None; trigger = Some 2; crit = Some 2; listed = false }; entries = [] };
    }
    -- the second entry shares the octet of the first one's type of error
    ∷ record {
      octets = 0x08 ∷ 0x01 ∷ 0x20 ∷ 0x00 ∷ 0x63 ∷ 0x48 ∷ 0x00 ∷ 0x64 ∷ 0x00 ∷ [];
      value = record {
        head = record { code = None; trigger = None; crit = None; listed = true };
        entries = record { crit = 2; id = 99; error = 1 } ∷ record { crit = 2; id = 100; error = 0 } ∷ [];
      };
    }
    -- all is there
    ∷ record {
      octets = 0x78 ∷ 0x01 ∷ 0x10 ∷ 0x00 ∷ 0x20 ∷ 0x00 ∷ 0x63 ∷ 0x00 ∷ [];
      value = record {
        head = record { code = Some 1; trigger = Some 0; crit = Some 1; listed = true };
        entries = record { crit = 2; id = 99; error = 0 } ∷ [];
      };
    }
    ∷ []

abbrev pub refused_diagnostics : List RefusedDiagnostics
refused_diagnostics =
    -- extensions present, before a criticality with no meaning in the list
    record { octets = 0x0C ∷ 0x00 ∷ 0x30 ∷ 0x00 ∷ 0x63 ∷ 0x00 ∷ []; reason = extended 0 }
    -- a triggering message with no meaning
    ∷ record { octets = 0x23 ∷ []; reason = no_meaning 0 }
    -- a criticality that is not there
    ∷ record { octets = 0x32 ∷ []; reason = cut_short 1 }
    -- the second entry's criticality has no meaning
    ∷ record { octets = 0x08 ∷ 0x01 ∷ 0x20 ∷ 0x00 ∷ 0x63 ∷ 0x4C ∷ 0x00 ∷ 0x64 ∷ 0x00 ∷ []; reason = no_meaning 5 }
    ∷ []

-- of three meanings, each is written as its octets and read back whole, and each refusal stops where it says; of four, the last is one
abbrev pub DiagnosticsHold : Type 0
DiagnosticsHold =
    (map (λ (e : DiagnosticsExample). diagnostics_octets e.value) diagnostics_examples ≡ map (λ (e : DiagnosticsExample). e.octets) diagnostics_examples)
    × (map (λ (e : DiagnosticsExample). diagnostics_at 3 e.octets 0) diagnostics_examples ≡ map (λ (e : DiagnosticsExample). Ok e.value) diagnostics_examples)
    × (map (λ (r : RefusedDiagnostics). diagnostics_at 3 r.octets 0) refused_diagnostics ≡ map (λ (r : RefusedDiagnostics). Err r.reason) refused_diagnostics)
    × (diagnostics_at 4 (0x23 ∷ []) 0 ≡ Ok (record { head = record { code = None; trigger = Some 3; crit = None; listed = false }; entries = [] }))
