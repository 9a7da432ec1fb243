-- For each public function: any two results that its statement allows are equal, with what is left behind the `&mut`.
-- Assumes nothing.
use mathlib.Core.Path.{◌≡◌, refl}
use Rattle.lists.proofs.Unique.{Determined, ◌same◌, ◌&◌}
use mathlib.Core.List.{List}
use Prim.Native.Nat.{ℕ}
use Rattle.std.specs.Prelude.{Ok, Err}
use Rattle.octets.specs.Read.{Read}
use Rattle.entries.specs.declared.Entry.{Entry}
use Rattle.entries.specs.Entries.{maybe_list_at}
use Rattle.entry_words.specs.EntryWords.{EntriesTaking}
use Rattle.entry_words.proofs.entry_word.Kinds as entry_word'
use Rattle.entry_words.proofs.entry_word.Reads as entry_word
use Rattle.entry_words.proofs.entry_of.Kinds as entry_of'
use Rattle.entry_words.proofs.entry_of.Reads as entry_of
use Rattle.entry_words.proofs.list_gate.Kinds as list_gate'
use Rattle.entry_words.proofs.list_gate.Reads as list_gate
use Rattle.entry_words.proofs.diagnostics_gate.Kinds as diagnostics_gate'
use Rattle.entry_words.proofs.diagnostics_gate.Reads as diagnostics_gate
use Rattle.entry_words.proofs.list_into.Kinds as list_into'
use Rattle.entry_words.proofs.list_into.Reads as list_into

one_taking : (r : Read (List Entry)) (l : List ℕ) {m n : List ℕ} {a b : Read ℕ} → EntriesTaking r l a m → EntriesTaking r l b n → (a ≡ b) × (m ≡ n)
one_taking (Ok es) l e f = (e.0 same f.0, e.1 same f.1)
one_taking (Err x) l e f = (e.0 same f.0, e.1 same f.1)

pub entry_word_is : Determined entry_word'.ps entry_word'.r entry_word.Asked entry_word.Learnt
entry_word_is κs a p x y e f = (e same f) & refl

pub entry_of_is : Determined entry_of'.ps entry_of'.r entry_of.Asked entry_of.Learnt
entry_of_is κs a p x y e f = (e same f) & refl

pub list_gate_is : Determined list_gate'.ps list_gate'.r list_gate.Asked list_gate.Learnt
list_gate_is κs a p x y e f = (e same f) & refl

pub diagnostics_gate_is : Determined diagnostics_gate'.ps diagnostics_gate'.r diagnostics_gate.Asked diagnostics_gate.Learnt
diagnostics_gate_is κs a p x y e f = (e same f) & refl

pub list_into_is : Determined list_into'.ps list_into'.r list_into.Asked list_into.Learnt
list_into_is κs a p x y e f = let o = one_taking (maybe_list_at a.0 a.1.0.now a.1.1.0) a.1.1.1.0.now e f in o.0 & refl & refl & refl & o.1 & refl
