-- The entry that an entry's word says is the entry, for an id of two octets and other numbers of one: each number is a part of the word. So of lists.
-- Assumes nothing.
use mathlib.Core.Path.{◌≡◌, refl}
use mathlib.Core.List.{List, [], ◌∷◌, map}
use Prim.Native.Nat.{ℕ, ◌+◌, ◌*◌, ◌/◌, ◌%◌, ◌<◌}
use native.Mathlib.Omega.{arith}
use Rattle.octets.specs.Many.{Each}
use Rattle.entries.specs.declared.Entry.{Entry}
use Rattle.entry_words.specs.EntryWords.{entry_word, entry_by}

-- each number fits its octets
pub record FitsWord (e : Entry) : Type 0 where
  pub id : e.id < 65536
  pub crit : e.crit < 256
  pub error : e.error < 256

pub entry_back : (e : Entry) → FitsWord e → entry_by (entry_word e) ≡ e
entry_back e f =
    let a : entry_word e % 65536 ≡ e.id = omega (arith, f.id) in
    let u : entry_word e / 65536 ≡ e.crit + 256 * e.error = omega (arith, f.id) in
    let b : (e.crit + 256 * e.error) % 256 ≡ e.crit = omega (arith, f.crit) in
    let v : entry_word e / 16777216 ≡ e.error = omega (arith, f.id, f.crit) in
    let c : e.error % 256 ≡ e.error = omega (arith, f.error) in
    rw (a, u, b, v, c)

pub entries_back : (es : List Entry) → Each FitsWord es → map entry_by (map entry_word es) ≡ es
entries_back [] f = refl
entries_back (e ∷ es) f = λ i. entry_back e f.0 i ∷ entries_back es f.1 i

-- and every word below 2 ^ 32 is the word of the entry that it says
pub word_back : (w : ℕ) → w < 4294967296 → entry_word (entry_by w) ≡ w
word_back w h = omega arith
