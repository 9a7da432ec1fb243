-- Criticality Diagnostics, as 9.3.5 and X.691 lay them out: fields of bits follow each other, and numbers of whole octets are aligned.
use Rattle.std.specs.Prelude.{ℕ, ◌+◌, ◌/◌, Bool, true, false, List, Ok, None, Option, Some}
use Rattle.octets.specs.Read.{Read, ◌>>=◌, ◌>>◌}
use Rattle.octets.specs.Field.{flag_at, plain_at, choice_at, pad_at, number_at}
use Rattle.octets.specs.declared.Part.{Part}
use Rattle.entries.specs.declared.Entry.{Entry}
use Rattle.entries.specs.Entries.{maybe_list_at}
use Rattle.diagnostics.specs.declared.Head.{Head}
use Rattle.diagnostics.specs.declared.Marks.{Marks}

abbrev pub empty_head : Head
empty_head = record { code = None; trigger = None; crit = None; listed = false }

-- Criticality Diagnostics: the fields before the list, and the list, which is empty where there is none
pub record Diagnostics : Type 0 where
  pub head : Head
  pub entries : List Entry

-- behind p bits, a field of n bits more, if it is there
abbrev pub after : Bool → ℕ → ℕ → ℕ
after false n p = p
after true n p = p + n

-- a choice among n, p bits behind the begin, if it is there
unfoldable pub maybe_at : ℕ → Bool → List ℕ → ℕ → ℕ → Read (Option ℕ)
maybe_at n false s at p = Ok None
maybe_at n true s at p = choice_at n 2 s (at + p / 8) p >>= λ v. Ok (Some v)

-- the procedure code, an aligned octet behind the pad of the first, if it is there
unfoldable pub code_at : Bool → List ℕ → ℕ → Read (Option ℕ)
code_at false s at = Ok None
code_at true s at = pad_at s at 6 >> (number_at 1 s (at + 1) >>= λ v. Ok (Some v))

unfoldable pub marks_at : List ℕ → ℕ → Read Marks
marks_at s at = do
  plain_at s at 0
  c ← flag_at s at 1
  t ← flag_at s at 2
  k ← flag_at s at 3
  l ← flag_at s at 4
  plain_at s at 5
  Ok (record { code = c; trigger = t; crit = k; listed = l })

-- how many bits there are up to the end of each field: six marks, the code in an octet of its own (16 bits in all then),
-- two bits each for the others
abbrev pub behind_code : Marks → ℕ
behind_code m = after m.code 10 6

abbrev pub behind_trigger : Marks → ℕ
behind_trigger m = after m.trigger 2 (behind_code m)

abbrev pub behind_crit : Marks → ℕ
behind_crit m = after m.crit 2 (behind_trigger m)

-- the fields before the list, and pad; the triggering message has n meanings
unfoldable pub head_at : ℕ → List ℕ → ℕ → Read (Part Head)
head_at n s at = do
  m ← marks_at s at
  code ← code_at m.code s at
  trigger ← maybe_at n m.trigger s at (behind_code m)
  crit ← maybe_at 3 m.crit s at (behind_trigger m)
  pad_at s (at + behind_crit m / 8) (behind_crit m)
  Ok (record {
    value = record { code = code; trigger = trigger; crit = crit; listed = m.listed };
    next = at + (behind_crit m + 7) / 8;
  })

unfoldable pub diagnostics_at : ℕ → List ℕ → ℕ → Read Diagnostics
diagnostics_at n s at = do
  h ← head_at n s at
  es ← maybe_list_at h.value.listed s h.next
  Ok (record { head = h.value; entries = es })
