-- The examples hold, by computing.
-- Assumes nothing.
use mathlib.Core.Path.{refl}
use Rattle.packed.specs.Packed.{bits_of, packed_in}
use Rattle.octets.specs.Field.{flag_at, plain_at, choice_at, pad_at, number_at, ends_at}
use Rattle.octets.specs.Write.{number_octets}
use Rattle.octets.specs.Many.{many}
use Rattle.diagnostics.specs.Diagnostics.{marks_at, code_at, maybe_at, head_at, diagnostics_at}
use Rattle.entries.specs.Entries.{crit_at, entry_at, entries_at, list_at}
use Rattle.diagnostics.specs.Written.{pairs, head_octets, entries_octets, diagnostics_octets}
use Rattle.diagnostics.specs.Examples.{DiagnosticsHold}

pub hold : DiagnosticsHold
unfolding bits_of flag_at plain_at choice_at pad_at number_at ends_at many marks_at code_at maybe_at head_at crit_at entry_at entries_at list_at diagnostics_at
    packed_in number_octets pairs head_octets entries_octets diagnostics_octets
hold = (refl, refl, refl, refl)
