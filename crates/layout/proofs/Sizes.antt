-- A record has one size, for each part of it has: a slot 8 octets, an item's row 6, an entry's 4, and zeros stand where there is less.
-- Assumes nothing.
use Rattle.std.specs.Prelude.{None, Option, Some}
use Rattle.identity.specs.declared.MceId.{MceId}
use Rattle.identity.specs.declared.MmeId.{MmeId}
use mathlib.Core.Path.{◌≡◌, refl}
use mathlib.Core.List.{List, ◌++◌}
use Prim.Native.Nat.{ℕ, ◌+◌, ◌*◌, ◌≤◌}
use native.Mathlib.Nat.{mul-le-mul_left}
use native.Mathlib.Omega.{arith}
use lib.ListN.{length, length-append}
use Rattle.lists.specs.Lists.{fill}
use Rattle.lists.proofs.Fill.{length_fill}
use Rattle.octets.specs.Many.{each_octets}
use Rattle.octets.specs.Write.{number_octets}
use Rattle.octets.specs.declared.Span.{Span}
use Rattle.octets.proofs.EachWritten.{each_size}
use Rattle.identity.specs.declared.Item.{Item}
use Rattle.items.specs.Items.{whole, part}
use Rattle.entries.specs.declared.Entry.{Entry}
use Rattle.diagnostics.specs.declared.Head.{Head}
use Rattle.editions.specs.declared.Edition.{Edition}
use Rattle.meaning.specs.Value.{Value, Given, given, absent, carried, mme, mce, tmgi, one, two, cause, wait, name, reset, list, diagnostics, Record}
use Rattle.layout.specs.Rows.{mme_row, mce_row, item_row, entry_row, list_octets}
use Rattle.layout.specs.Record.{lists_of, number_slot_octets, head_slot_octets, slot_of, slot_octets, record_octets}

-- ---- slots of 8

maybe_size : (x : Option ℕ) → length (number_slot_octets x) ≡ 2
maybe_size (Some v) = refl
maybe_size None = refl

head_size : (h : Head) → length (head_slot_octets h) ≡ 7
head_size h = rw (length-append, length-append, length-append, maybe_size h.code, maybe_size h.trigger, maybe_size h.crit)

slot_small : (v : Value Span) → length (slot_of v) ≤ 8
unfolding slot_of number_octets
slot_small (carried v) = omega arith
slot_small (mme v) = omega arith
slot_small (mce v) = omega arith
slot_small (tmgi v) = omega arith
slot_small (one v) = omega arith
slot_small (two v) = omega arith
slot_small (cause v) = omega arith
slot_small (wait v) = omega arith
slot_small (name v) = omega arith
slot_small (reset whole) = omega arith
slot_small (reset (part is)) = omega arith
slot_small (list is) = omega arith
slot_small (diagnostics t d) = omega (arith, head_size d.head)

pub slot_size : (v : Given Span) → length (slot_octets v) ≡ 8
slot_size (given v) = length_fill 0 8 (slot_of v) (slot_small v)
slot_size absent = refl

pub slots_size : (vs : List (Given Span)) → length (each_octets slot_octets vs) ≡ 8 * length vs
slots_size vs = each_size slot_octets 8 slot_size vs

-- ---- items of 6, entries of 4

mme_size : (x : Option MmeId) → length (mme_row x) ≡ 3
unfolding number_octets
mme_size (Some v) = refl
mme_size None = refl

mce_size : (x : Option MceId) → length (mce_row x) ≡ 3
unfolding number_octets
mce_size (Some v) = refl
mce_size None = refl

pub item_size : (x : Item) → length (item_row x) ≡ 6
item_size x = rw (length-append, mme_size x.mme, mce_size x.mce)

pub entry_size : (e : Entry) → length (entry_row e) ≡ 4
unfolding number_octets
entry_size e = refl

module _ {A : Type 0} (row : A → List ℕ) (k : ℕ) (size : (a : A) → length (row a) ≡ k) (l : List A) (few : length l ≤ 256) where
  pub list_size : length (list_octets (k * 256) row l) ≡ 2 + k * 256
  unfolding number_octets
  list_size =
      let s : length (each_octets row l) ≤ k * 256 = rw (each_size row k size l) (mul-le-mul_left k few) in
      rw (length-append, length_fill 0 (k * 256) (each_octets row l) s)

pub items_size : (is : List Item) → length is ≤ 256 → length (list_octets 1536 item_row is) ≡ 1538
items_size is h = list_size item_row 6 item_size is h

pub entries_size : (es : List Entry) → length es ≤ 256 → length (list_octets 1024 entry_row es) ≡ 1026
entries_size es h = list_size entry_row 4 entry_size es h

-- ---- the record

pub rows_size : (vs : List (Given Span)) → length vs ≤ 12 → length (fill 0 96 (each_octets slot_octets vs)) ≡ 96
rows_size vs h = length_fill 0 96 (each_octets slot_octets vs) (rw (slots_size vs) (omega arith))

pub record_size : (e : Edition) (r : Record) → length r.values ≤ 12 → length (lists_of r.values).items ≤ 256 → length (lists_of r.values).entries ≤ 256
    → length (record_octets e r) ≡ 2662
unfolding record_octets
record_size e r v i n =
    let l = lists_of r.values in
    let is = list_octets 1536 item_row l.items in
    let es = list_octets 1024 entry_row l.entries in
    omega (arith, length-append (fill 0 96 (each_octets slot_octets r.values)) (is ++ es), length-append is es, rows_size r.values v, items_size l.items i, entries_size l.entries n)
