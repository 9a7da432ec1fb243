-- 01's bench examples, as one table: what each is in Release 18, and its octets.
use Rattle.std.specs.Prelude.{ℕ, List, [], ◌∷◌, ◌≡◌, length, Ok, Err, None, Some}
use Rattle.lists.specs.Lists.{fill}
use Rattle.octets.specs.declared.Stop.TheVariants as stopped
use Rattle.octets.specs.Field.{length_at}
use Rattle.octets.specs.Write.{length_octets}
use Rattle.octets.specs.Many.{Each}
use Rattle.identity.specs.declared.Item.{Item}
use Rattle.values.specs.declared.Cause.{Cause}
use Rattle.values.specs.Values.{cause_at}
use Rattle.values.specs.Written.{cause_octets}
use Rattle.items.specs.Items.{ResetType, whole, part, reset_at}
use Rattle.item.specs.Item.{item_at}
use Rattle.items.specs.Written.{item_octets, reset_octets}
use Rattle.editions.specs.declared.Message.{Message}
use Rattle.editions.specs.declared.Message.TheVariants.{Reset, ResetAcknowledge}
use Rattle.editions.specs.declared.Edition.TheVariants.{Release18}
use Rattle.meaning.specs.Value as value
use Rattle.meaning.specs.Value.{Given, given, absent, Said}
use Rattle.meaning.specs.Written as written
use Rattle.meaning.specs.Written.{encoded}
use Rattle.layout.specs.Record as layout
use Rattle.round_trips.specs.Ties.{ReadAs, Rewritable}
use Rattle.round_trips.specs.LentDiffer.{shown, carried_in}

-- what octets are: a length, no length, with the octet at fault, a value, or a message
pub data What : Type 0 where
  number : ℕ → What
  no_number : ℕ → What
  item : Item → What
  cause : Cause → What
  reset : ResetType → What
  message : Message → List (Given (List ℕ)) → What

pub record Example : Type 0 where
  pub what : What
  pub octets : List ℕ

abbrev saying_values : Message → List (Given (List ℕ)) → Said
saying_values m vs = record { message = m; values = vs }

-- the octets are read as what they are, all of them
abbrev pub Reads : What → List ℕ → Type 0
Reads (number n) s = length_at s 0 ≡ Ok (record { value = n; next = length s })
Reads (no_number at) s = length_at s 0 ≡ Err (stopped.Fault (record { octet = at }))
Reads (item i) s = item_at s 0 ≡ Ok i
Reads (cause c) s = cause_at s 0 ≡ Ok c
Reads (reset r) s = reset_at s 0 ≡ Ok r
Reads (message m vs) s = ReadAs Release18 s (saying_values m vs)

-- it is written as the octets; what is no length is not written
abbrev pub WrittenAs : What → List ℕ → Type 0
WrittenAs (number n) s = length_octets n ≡ s
WrittenAs (no_number at) s = (n : ℕ) → length_octets n ≡ s → ⊥
WrittenAs (item i) s = item_octets i ≡ s
WrittenAs (cause c) s = cause_octets c ≡ s
WrittenAs (reset r) s = reset_octets r ≡ s
WrittenAs (message m vs) s = encoded Release18 (saying_values m vs) ≡ written.octets s

abbrev both : ℕ → ℕ → Item
both m c = record { mme = Some (record { 0 = m }); mce = Some (record { 0 = c }) }

abbrev hardware_failure : Cause
hardware_failure = record { group = 4; value = 2 }

-- a RESET of one item, and its acknowledgement
abbrev pub partial_reset : List ℕ
partial_reset =
    0x00 ∷ 0x04 ∷ 0x00 ∷ 0x17
    ∷ 0x00 ∷ 0x00 ∷ 0x02
    ∷ 0x00 ∷ 0x09 ∷ 0x40 ∷ 0x01 ∷ 0x42
    ∷ 0x00 ∷ 0x0D ∷ 0x00 ∷ 0x0B ∷ 0x40 ∷ 0x00 ∷ 0x00 ∷ 0x0E ∷ 0x00 ∷ 0x05 ∷ 0x60 ∷ 0x00 ∷ 0x01 ∷ 0x00 ∷ 0x02 ∷ []

abbrev pub acknowledgement : List ℕ
acknowledgement =
    0x20 ∷ 0x04 ∷ 0x00 ∷ 0x11
    ∷ 0x00 ∷ 0x00 ∷ 0x01
    ∷ 0x00 ∷ 0x0F ∷ 0x40 ∷ 0x0A ∷ 0x00 ∷ 0x00 ∷ 0x0E ∷ 0x40 ∷ 0x05 ∷ 0x60 ∷ 0x00 ∷ 0x01 ∷ 0x00 ∷ 0x02 ∷ []

abbrev pub examples : List Example
examples =
    record { what = number 127; octets = 0x7F ∷ [] }
    ∷ record { what = number 128; octets = 0x80 ∷ 0x80 ∷ [] }
    ∷ record { what = number 16383; octets = 0xBF ∷ 0xFF ∷ [] }
    ∷ record { what = no_number 0; octets = 0x80 ∷ 0x05 ∷ [] }
    ∷ record { what = item (both 1 2); octets = 0x60 ∷ 0x00 ∷ 0x01 ∷ 0x00 ∷ 0x02 ∷ [] }
    ∷ record { what = item (record { mme = Some (record { 0 = 1 }); mce = None }); octets = 0x40 ∷ 0x00 ∷ 0x01 ∷ [] }
    ∷ record { what = item (record { mme = None; mce = Some (record { 0 = 2 }) }); octets = 0x20 ∷ 0x00 ∷ 0x02 ∷ [] }
    ∷ record { what = item (record { mme = None; mce = None }); octets = 0x00 ∷ [] }
    ∷ record { what = cause hardware_failure; octets = 0x42 ∷ [] }
    ∷ record { what = reset whole; octets = 0x00 ∷ [] }
    ∷ record { what = message Reset (given (value.cause hardware_failure) ∷ given (value.reset (part (both 1 2 ∷ []))) ∷ []); octets = partial_reset }
    ∷ record { what = message ResetAcknowledge (given (value.list (both 1 2 ∷ [])) ∷ absent ∷ []); octets = acknowledgement }
    ∷ record { what = message ResetAcknowledge (absent ∷ absent ∷ []); octets = 0x20 ∷ 0x04 ∷ 0x00 ∷ 0x03 ∷ 0x00 ∷ 0x00 ∷ 0x00 ∷ [] } ∷ []

-- Each example is written as its octets, and read from them.
abbrev pub Hold : Type 0
Hold = Each (λ (e : Example). WrittenAs e.what e.octets × Reads e.what e.octets) examples

-- The rewriting theorem speaks of this RESET.
abbrev pub ResetRewritable : Type 0
ResetRewritable = Rewritable Release18 partial_reset

-- A STOP REQUEST of identities 1 and 2 that carries a Time of MBMS Data Stop of one octet, as C lends it, by what its message does not say:
-- the frame's criticality, and where the octet lies.
abbrev pub stop_record : ℕ → ℕ → List ℕ
stop_record crit at =
    fill 0 2662
    (4 ∷ crit
    ∷ 1 ∷ 0 ∷ 1 ∷ 0 ∷ 0 ∷ 0 ∷ 0 ∷ 0
    ∷ 1 ∷ 0 ∷ 2 ∷ 0 ∷ 0 ∷ 0 ∷ 0 ∷ 0
    ∷ 1 ∷ 0 ∷ at ∷ 0 ∷ 1 ∷ 0 ∷ 0 ∷ 0 ∷ [])

abbrev pub stop_request : List ℕ
stop_request =
    0x00 ∷ 0x01 ∷ 0x00 ∷ 0x14
    ∷ 0x00 ∷ 0x00 ∷ 0x03
    ∷ 0x00 ∷ 0x00 ∷ 0x00 ∷ 0x02 ∷ 0x00 ∷ 0x01
    ∷ 0x00 ∷ 0x01 ∷ 0x00 ∷ 0x02 ∷ 0x00 ∷ 0x02
    ∷ 0x00 ∷ 0x16 ∷ 0x40 ∷ 0x01 ∷ 0x2A ∷ []

-- Records that differ in these alone have one message, and are shown and carry the same.
abbrev pub OneMessage : Type 0
OneMessage =
    (layout.written Release18 (stop_record 0 0) (0x2A ∷ []) ≡ written.octets stop_request)
    × (layout.written Release18 (stop_record 2 3) (0x01 ∷ 0x02 ∷ 0x03 ∷ 0x2A ∷ []) ≡ written.octets stop_request)
    × (shown Release18 (stop_record 2 3) ≡ stop_record 0 0)
    × (carried_in Release18 (stop_record 2 3) (0x01 ∷ 0x02 ∷ 0x03 ∷ 0x2A ∷ []) ≡ (0x2A ∷ []) ∷ [])
