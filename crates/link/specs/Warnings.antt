-- What a process in C may rely on of warnings over SBc-AP, in the ordinary profile and in the lab's: the statements of M3AP's reader and writer, over other tables.
use Rattle.std.specs.Prelude.{ℕ, ◌≡◌, not, ◌||◌, List, [], map, eqb}
use Rattle.lists.specs.Lists.{keep}
use Rattle.rows.specs.declared.Row.{Row}
use Rattle.rows.specs.Table.{known}
use Rattle.envelopes.specs.declared.Head.{Head}
use Rattle.elements.specs.Judge.{ignored, unknown_of}
use Rattle.elements.specs.Extensions.{ExtensionsJudged}
use Rattle.editions.specs.declared.Edition.{Edition}
use Rattle.editions.specs.declared.Edition.TheVariants.{Warnings, WarningsLab}
use Rattle.editions.specs.declared.Message.TheVariants.{StopWarningRequest, StopWarningResponse, WarningErrorIndication}
use Rattle.editions.specs.WarningIds.{id_message_identifier, id_serial_number}
use Rattle.editions.specs.Editions.{table_of}
use Rattle.link.specs.Link.{write_for}
use Rattle.link.specs.ReadsAs.{ReadsAs}
use Rattle.link.specs.Again.{Again}

pub record Profile (k : Edition) : Type 0 where
  -- which answer reading gives
  pub reads : ReadsAs k
  -- both round trips; and what differs stays different
  pub again : Again k
  -- no element is a name, so writing is answered 0, 10 or 11
  pub nameless : (s values d : List ℕ) → (write_for k s values d).answer.answer ≡ 12 → ⊥

-- "an extension there counts as an unknown element of its id": as not understood, whatever the id, unless it is to be ignored; each on its own, in order
abbrev pub ExtensionsUnknown : Type 0
ExtensionsUnknown =
    (xs : List Head) → unknown_of [] xs ≡ map (λ (h : Head). record { crit = h.crit; id = h.id; error = 0 }) (keep (λ (h : Head). not (ignored h.crit)) xs)

-- "A lab profile treats every element of the request but Message Identifier and Serial Number as unknown."
pub record OnlyTwo : Type 0 where
  pub request : (id : ℕ) → known (table_of WarningsLab StopWarningRequest) id ≡ (eqb id_message_identifier id || eqb id_serial_number id)
  pub response : table_of WarningsLab StopWarningResponse ≡ table_of Warnings StopWarningResponse
  pub indication : table_of WarningsLab WarningErrorIndication ≡ table_of Warnings WarningErrorIndication

pub record OverSbcap : Type 0 where
  pub ordinary : Profile Warnings
  pub lab : Profile WarningsLab
  pub extensions : ExtensionsUnknown
  -- and so the judging counts it, of any table
  pub judged : (t : List Row) (n : ℕ) (hs xs : List Head) → ExtensionsJudged t n hs xs
  pub only_two : OnlyTwo
