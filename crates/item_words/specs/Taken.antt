-- Scaffolding: no demand speaks of it. Items read as words, and what stands in lent words after a list was read into them.
use Rattle.std.specs.Prelude.{ℕ, ◌+◌, ◌%◌, ◌<◌, ◌≤◌, ◌≡◌, Bool, true, false, List, [], map, length, get_or, Option, None, Some, Ok, Err}
use Rattle.std.proofs.lemmas.List.Edits.{sets}
use Rattle.octets.specs.Read.{Read, ◌>>=◌, or_none}
use Rattle.octets.specs.declared.Part.{Part}
use Rattle.octets.specs.Write.{Wrote}
use Rattle.identity.specs.declared.Item.{Item}
use Rattle.items.specs.Items.{ResetType, whole, part}
use Rattle.item_words.specs.Words.{word_of}

abbrev pub worded : Read (Part Item) → Read (Part ℕ)
worded (Ok p) = Ok (record { value = word_of p.value; next = p.next })
worded (Err x) = Err x

-- the items of a part of the interface
abbrev pub part_items : Read ResetType → List Item
part_items (Ok whole) = []
part_items (Ok (part is)) = is
part_items (Err x) = []

-- how many items were read
abbrev pub taken_of : Read (List Item) → Read ℕ
taken_of q = q >>= λ is. Ok (length is)

-- and of a part of the interface; none for the whole
abbrev pub reset_taken_of : Read ResetType → Read (Option ℕ)
reset_taken_of (Ok whole) = Ok None
reset_taken_of (Ok (part is)) = Ok (Some (length is))
reset_taken_of (Err x) = Err x

-- l and m are the words before and after, r is the answer; where nothing is put in, m is l
abbrev pub Taking : Read (List Item) → List ℕ → Read ℕ → List ℕ → Type 0
Taking q l r m = (r ≡ taken_of q) × (m ≡ sets l 0 (map word_of (or_none q)))

abbrev pub ResetTaking : Read ResetType → List ℕ → Read (Option ℕ) → List ℕ → Type 0
ResetTaking q l r m = (r ≡ reset_taken_of q) × (m ≡ sets l 0 (map word_of (part_items q)))

-- ---- inside the reader

-- the octets of an item with both identities, in its envelope
pub record FullAt (s : List ℕ) (at : ℕ) : Type 0 where
  pub room : at + 9 ≤ length s
  pub first : get_or s at 0 ≡ 0
  pub second : get_or s (at + 1) 0 ≡ 14
  pub pad : get_or s (at + 2) 0 % 64 ≡ 0
  pub crit : get_or s (at + 2) 0 < 192
  pub size : get_or s (at + 3) 0 ≡ 5
  pub marks : get_or s (at + 4) 0 ≡ 96

-- said where the answer is yes
abbrev pub IfFull : Bool → List ℕ → ℕ → Type 0
IfFull true s at = FullAt s at
IfFull false s at = Unit

-- said where the items can be read: r is the place behind the last word
abbrev pub Filling : Read (Part (List Item)) → List ℕ → List ℕ → ℕ → Type 0
Filling (Ok p) l m r = Wrote l 0 (map word_of p.value) m r
Filling (Err x) l m r = Unit
