-- What lent octets say is in range, whatever they are: a number comes from its octets, and a value is of its row's kind by how the slot is read.
-- Assumes nothing.
use Rattle.std.specs.Prelude.{Option}
use Rattle.identity.specs.declared.MceId.{MceId}
use Rattle.identity.specs.declared.MmeId.{MmeId}
use mathlib.Core.Path.{◌≡◌, refl}
use mathlib.Core.Bool.{Bool, false}
use mathlib.Core.List.{List, [], ◌∷◌, map, Memᴰ}
use Prim.Native.Nat.{ℕ, zero, suc, min, ◌+◌, ◌<◌}
use native.Mathlib.Omega.{arith}
use lib.Dec.{eqb, leb}
use lib.ListN.{length, get_or, take, drop}
use lib.Seq.{get_or-drop}
use Rattle.lists.specs.Lists.{pick}
use Rattle.lists.proofs.Tests.{on-pick}
use Rattle.octets.specs.Field.{value_at}
use Rattle.octets.specs.Many.{Each}
use Rattle.octets.specs.Stands.{Octets}
use Rattle.octets.specs.declared.Span.{Span}
use Rattle.octets.proofs.Again.{value_below}
use Rattle.octets.proofs.Stood.{octets_front}
use Rattle.items.specs.Written.{mme_in, mce_in, GoodMaybe, GoodItem}
use Rattle.entries.specs.declared.Entry.{Entry}
use Rattle.diagnostics.specs.Written.{Under}
use Rattle.rows.specs.declared.Kind.{Kind}
use Rattle.rows.specs.declared.Kind.TheVariants as kind
use Rattle.rows.specs.declared.Row.{Row}
use Rattle.editions.specs.declared.Edition.{Edition}
use Rattle.editions.specs.declared.Message.{Message}
use Rattle.editions.specs.Editions.{messages_of}
use Rattle.meaning.specs.Value.{Given, octets_in, on_carried, on_given, said_by}
use Rattle.meaning.specs.Ranges.{ResetRange, InRange, value_kind, RowRange, Ranged}
use Rattle.layout.specs.Rows.{row_item, row_entry, each_row}
use Rattle.layout.specs.Record.{Lists, head_in, slot_says, slots_say, lists_in, said_record}
use Rattle.round_trips.specs.Ties.{InTypes}

octets_drop : (n : ℕ) (s : List ℕ) → Octets s → Octets (drop n s)
octets_drop n s o i = rw get_or-drop (o (n + i))

-- ---- the lists

item_said : (p : List ℕ) → Octets p → GoodItem (row_item p)
item_said p o = (
  on-pick (λ (x : Option MmeId). GoodMaybe (mme_in x)) (eqb (get_or p 0 0) 0) tt (value_below 2 p 1 o),
  on-pick (λ (x : Option MceId). GoodMaybe (mce_in x)) (eqb (get_or (drop 3 p) 0 0) 0) tt (value_below 2 (drop 3 p) 1 (octets_drop 3 p o)),
)

rows_said_lem : {A : Type 0} (one : List ℕ → A) (w : ℕ) (P : A → Type 0) → ((p : List ℕ) → Octets p → P (one p)) → (n : ℕ) (p : List ℕ) → Octets p → Each P (each_row one w n p)
unfolding each_row
rows_said_lem one w P f zero p o = tt
rows_said_lem one w P f (suc n) p o = (f p o, rows_said_lem one w P f n (drop w p) (octets_drop w p o))

abbrev InTwo : Entry → Type 0
InTwo x = x.id < 65536

abbrev ListsRange : Lists → Type 0
ListsRange l = Each GoodItem l.items × Each InTwo l.entries

lists_said : (s : List ℕ) → Octets s → ListsRange (lists_in s)
lists_said s o = (
  rows_said_lem row_item 6 GoodItem item_said (min (value_at 2 s 98) 256) (drop 100 s) (octets_drop 100 s o),
  rows_said_lem row_entry 4 InTwo (λ q k. value_below 2 q 1 k) (min (value_at 2 s 1636) 256) (drop 1638 s) (octets_drop 1638 s o),
)

-- ---- the values

pub octets_in_lem : (values : List ℕ) (v : Span) → Octets values → Octets (octets_in values v)
octets_in_lem values v o = on-pick Octets (leb v.to (length values)) (octets_drop v.from (take v.to values) (octets_front values v.to o)) (λ i. omega arith)

module _ (values : List ℕ) (o : Octets values) (l : Lists) (g : ListsRange l) where
  value_said : (k : Kind) (p : List ℕ) → Octets p → (value_kind (on_carried (octets_in values) (slot_says l k p)) ≡ k) × InRange (on_carried (octets_in values) (slot_says l k p))
  unfolding slot_says on_carried
  value_said kind.Carried p h = (refl, octets_in_lem values (record { from = value_at 2 p 1; to = value_at 2 p 1 + value_at 2 p 3 }) o)
  value_said kind.Mme p h = (refl, value_below 2 p 1 h)
  value_said kind.Mce p h = (refl, value_below 2 p 1 h)
  value_said kind.Tmgi p h = (refl, (h 1, h 2, h 3, h 4, h 5, h 6))
  value_said kind.OneOctet p h = (refl, h 1)
  value_said kind.TwoOctets p h = (refl, value_below 2 p 1 h)
  value_said kind.Cause p h = (refl, tt)
  value_said kind.Wait p h = (refl, tt)
  value_said kind.Name p h = (refl, octets_in_lem values (record { from = value_at 2 p 1; to = value_at 2 p 1 + value_at 2 p 3 }) o)
  value_said kind.ResetType p h = (refl, on-pick ResetRange (eqb (get_or p 0 0) 2) g.0 tt)
  value_said kind.Acknowledged p h = (refl, g.0)
  value_said (kind.Diagnostics t) p h = (
    refl,
    record {
      code = on-pick (Under 256) (eqb (get_or (drop 1 p) 0 0) 0) tt (octets_drop 1 p h 1);
      ids = on-pick (Each InTwo) (head_in p).listed g.1 tt;
      none = λ e. unlisted (head_in p).listed e;
    },
  )
    where
      unlisted : (b : Bool) → b ≡ false → pick b l.entries [] ≡ []
      unlisted b e = rw e

  slots_said : (t : List Row) (p : List ℕ) → Octets p → Ranged t (map (on_given (octets_in values)) (slots_say l t p))
  unfolding Ranged slots_say
  slots_said [] p h = tt
  slots_said (r ∷ t) p h = (
    on-pick (λ (x : Given Span). RowRange r (on_given (octets_in values) x)) (eqb (get_or p 0 0) 0) tt (value_said r.kind p h),
    slots_said t (drop 8 p) (octets_drop 8 p h),
  )

pub said_types : (e : Edition) (m : Message) (s values : List ℕ) → Memᴰ m (messages_of e) → Octets s → Octets values → InTypes e (said_by values (said_record e m s))
unfolding said_by said_record
said_types e m s values d o h = record { message = d; values = slots_said values h (lists_in s) (lists_said s o) _ (drop 2 s) (octets_drop 2 s o) }
