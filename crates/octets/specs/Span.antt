-- Where octets stand, and where none do.
use Rattle.std.specs.Prelude.{Bool, ltb}
use Rattle.octets.specs.declared.Span.{Span}

abbrev pub no_span : Span
no_span = record { from = 0; to = 0 }

-- something stands there
abbrev pub present : Span → Bool
present v = ltb 0 v.to
