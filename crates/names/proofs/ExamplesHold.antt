-- The examples hold, by computing.
-- Assumes nothing.
use mathlib.Core.Path.{refl}
use Rattle.packed.specs.Packed.{bits_of, packed_in}
use Rattle.octets.specs.Field.{plain_at, pad_at, ends_at}
use Rattle.names.specs.Names.{printable, name_allowed, size_at, char_at, name_at}
use Rattle.names.specs.Written.{name_octets}
use Rattle.names.specs.Examples.{NamesHold}

pub hold : NamesHold
unfolding bits_of packed_in plain_at pad_at ends_at printable name_allowed size_at char_at name_at name_octets
hold = (refl, refl, refl, refl, refl)
