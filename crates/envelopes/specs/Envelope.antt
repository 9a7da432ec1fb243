-- Elements in their envelopes, and the faults in them.
use Rattle.std.specs.Prelude.{ℕ, zero, suc, ◌+◌, List, [], ◌∷◌, take, Ok, Err}
use Rattle.octets.specs.Read.{Read, ◌>>=◌, ◌>>◌}
use Rattle.octets.specs.Field.{choice_at, pad_at, number_at, open_at}
use Rattle.kinds.specs.Kinds.{legible_at}
use Rattle.rows.specs.declared.Row.{Row}
use Rattle.envelopes.specs.declared.Head.{Head}
use Rattle.rows.specs.Table.{kind_of}

-- two criticality bits (0 reject, 1 ignore, 2 notify), and pad
unfoldable pub criticality_at : List ℕ → ℕ → Read ℕ
criticality_at s at = do
  crit ← choice_at 3 2 s at 0
  pad_at s at 2
  Ok crit

-- an element: a two-octet id, its criticality, a length and the value
unfoldable pub envelope_at : List ℕ → ℕ → Read Head
envelope_at s at = do
  id ← number_at 2 s at
  crit ← criticality_at s (at + 2)
  v ← open_at s (at + 3)
  Ok (record { id = id; crit = crit; value = v })

-- n elements, and the values of known ones can be read: where they end
unfoldable pub scan_at : List Row → List ℕ → ℕ → ℕ → Read ℕ
scan_at t s zero at = Ok at
scan_at t s (suc n) at = do
  h ← envelope_at s at
  legible_at (kind_of t h.id) (take h.value.to s) h.value.from
  scan_at t s n h.value.to

-- the elements, as far as they can be read
abbrev pub on_head : (Head → List Head) → Read Head → List Head
on_head go (Ok h) = h ∷ go h
on_head go (Err x) = []

unfoldable pub heads_at : List ℕ → ℕ → ℕ → List Head
heads_at s zero at = []
heads_at s (suc n) at = on_head (λ h. heads_at s n h.value.to) (envelope_at s at)
