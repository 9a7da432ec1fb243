-- A message whose values are octets is octets; and so are identities, TMGIs, causes and lists of items.
-- Assumes nothing.
use Prim.Native.Nat.{ℕ, ◌-◌, ◌<◌}
use mathlib.Core.Bool.{Bool, true, false}
use mathlib.Core.List.{List, [], ◌∷◌, ◌++◌, map}
use native.Mathlib.Omega.{arith}
use native.Mathlib.Nat.{lt_of_lt_of_le}
use lib.Dec.{eqb}
use lib.ListN.{length}
use Rattle.lists.proofs.Tests.{on-pick}
use Rattle.std.specs.Prelude.{None, Option, Some}
use Rattle.octets.specs.Stands.{Octets}
use Rattle.packed.specs.Packed.{Field, ◌bits◌, bit, packed, Fit}
use Rattle.octets.specs.Write.{length_octets}
use Rattle.octets.specs.Many.{Each}
use Rattle.identity.specs.declared.MmeId.{MmeId}
use Rattle.identity.specs.declared.MceId.{MceId}
use Rattle.identity.specs.declared.Tmgi.{Tmgi}
use Rattle.identity.specs.declared.Item.{Item}
use Rattle.values.specs.declared.Cause.{Cause}
use Rattle.values.specs.Values.{bits_of_root}
use Rattle.values.specs.Written.{tmgi_octets, cause_octets, GoodCause}
use Rattle.values.proofs.Back.{cause_octets_lem}
use Rattle.values.proofs.Roots.{root_width, root_group}
use Rattle.items.specs.Items.{part}
use Rattle.items.specs.Written.{mme_in, mce_in, is_there, maybe_octets, item_octets, item_element_octets, items_octets, reset_crit, reset_octets}
use Rattle.rows.specs.declared.Row.{Row}
use Rattle.editions.specs.declared.Message.{Message}
use Rattle.editions.specs.declared.Code.{Code}
use Rattle.editions.specs.declared.Edition.{Edition}
use Rattle.editions.specs.Editions.{table_of, code_of}
use Rattle.meaning.specs.Value as value
use Rattle.meaning.specs.Value.{Value, Given, given, absent}
use Rattle.meaning.specs.Written.{octets_of, element_octets, elements_octets, how_many, inside_octets, frame_octets, message_octets}
use Rattle.meaning.specs.Ranges.{InRange}
use Rattle.editions.proofs.Tables.{Fits, rows_fit}
use Rattle.editions.proofs.Names.{bounds}
use Rattle.replies.specs.Replies.{Element, value_of, saying}
use Rattle.demands.proofs.AllOctets.{All, all_none, all_more, all_join, all_number, all_packed, all_length, all_each}

-- a criticality in two bits, a length, and as many octets
all_crit : (crit : ℕ) {os : List ℕ} → crit < 4 → All os → All (packed (2 bits crit ∷ []) ∷ (length_octets (length os) ++ os))
all_crit crit {os} h o = all_packed (2 bits crit ∷ []) (omega arith, h, tt) (all_join (all_length (length os)) o)

all_value : (r : Row) (v : Value (List ℕ)) → r.crit < 4 → All (octets_of v) → All (element_octets r (given v))
all_value r v h o = all_join (all_number 2 r.id) (all_crit r.crit h o)

all_frame : (c : Code) {os : List ℕ} → c.kind < 4 → c.code < 256 → c.crit < 4 → All os → All (frame_octets c os)
all_frame c h k l o = all_packed (bit false ∷ 2 bits c.kind ∷ []) (omega arith, omega arith, (omega arith, h, tt)) (all_more k (all_crit c.crit l o))

-- ---- values

all_cause : (k : Cause) → GoodCause k → All (cause_octets k)
all_cause k g =
    let i = (root_width k.group).0 in
    let n = root_group k.group g in
    let fs : List Field = bit false ∷ 3 bits k.group ∷ bit false ∷ bits_of_root k.group bits k.value ∷ [] in
    let fit : Fit 8 fs =
    (omega arith, omega arith, (omega arith, omega arith, (omega arith, omega arith, (omega arith, lt_of_lt_of_le g (root_width k.group).1, tt)))) in
    rw (cause_octets_lem k g) (all_packed fs fit all_none)

all_maybe : (x : Option ℕ) → All (maybe_octets x)
all_maybe (Some v) = all_number 2 v
all_maybe None = all_none

marks_fit : (a b : Bool) → Fit 8 (bit false ∷ bit a ∷ bit b ∷ bit false ∷ [])
marks_fit true true = (omega arith, omega arith, (omega arith, omega arith, (omega arith, omega arith, (omega arith, omega arith, tt))))
marks_fit true false = (omega arith, omega arith, (omega arith, omega arith, (omega arith, omega arith, (omega arith, omega arith, tt))))
marks_fit false true = (omega arith, omega arith, (omega arith, omega arith, (omega arith, omega arith, (omega arith, omega arith, tt))))
marks_fit false false = (omega arith, omega arith, (omega arith, omega arith, (omega arith, omega arith, (omega arith, omega arith, tt))))

all_item : (i : Item) → All (item_octets i)
unfolding item_octets
all_item i =
    let x : Option ℕ = mme_in i.mme in
    let y : Option ℕ = mce_in i.mce in
    all_packed (bit false ∷ bit (is_there x) ∷ bit (is_there y) ∷ bit false ∷ []) (marks_fit (is_there x) (is_there y)) (all_join (all_maybe x) (all_maybe y))

all_element : (i : Item) → All (item_element_octets reset_crit i)
unfolding item_element_octets
all_element i = all_join (all_number 2 14) (all_crit reset_crit (omega arith) (all_item i))

all_reset : (is : List Item) → All (reset_octets (part is))
unfolding reset_octets items_octets
all_reset is =
    all_packed (bit false ∷ bit true ∷ []) (omega arith, omega arith, (omega arith, omega arith, tt))
    (all_join (all_number 1 (length is - 1)) (all_each (item_element_octets reset_crit) all_element is))

-- ---- the message

abbrev AllGiven : Given (List ℕ) → Type 0
AllGiven (given v) = All (octets_of v)
AllGiven absent = Unit

all_elements : (t : List Row) (vs : List (Given (List ℕ))) → Each Fits t → Each AllGiven vs → All (elements_octets t vs)
unfolding elements_octets
all_elements [] vs f h = all_none
all_elements (r ∷ t) [] f h = all_none
all_elements (r ∷ t) (given v ∷ vs) f h = let c = f.0.crit in all_join (all_value r v (omega arith) h.0) (all_elements t vs f.1 h.1)
all_elements (r ∷ t) (absent ∷ vs) f h = all_elements t vs f.1 h.1

-- of elements whose values are octets
abbrev pub AllElement : Element → Type 0
AllElement x = All (octets_of x.value)

module _ (xs : List Element) (h : Each AllElement xs) where
  all_of : (id : ℕ) → AllGiven (value_of xs id)
  unfolding value_of
  all_of id = by xs h
    where
      by : (ys : List Element) → Each AllElement ys → AllGiven (value_of ys id)
      by [] g = tt
      by (y ∷ ys) g = on-pick AllGiven (eqb y.id id) g.0 (by ys g.1)

  all_rows : (t : List Row) → Each AllGiven (map (λ (r : Row). value_of xs r.id) t)
  all_rows [] = tt
  all_rows (r ∷ t) = (all_of r.id, all_rows t)

  pub message_octets_lem : (e : Edition) (m : Message) → Octets (message_octets e (saying e m xs))
  unfolding message_octets inside_octets
  message_octets_lem e m =
      let c = bounds e m in
      let k = c.kind in
      let l = c.crit in
      let vs : List (Given (List ℕ)) = (saying e m xs).values in
      let inside : All (inside_octets (table_of e m) vs) =
      all_packed (bit false ∷ []) (omega arith, omega arith, tt) (all_join (all_number 2 (how_many vs)) (all_elements (table_of e m) vs (rows_fit e m) (all_rows (table_of e m)))) in
      (all_frame (code_of e m) (omega arith) c.code (omega arith) inside).octets

-- ---- values

pub value_cause : (k : Cause) → GoodCause k → All (octets_of (value.cause k))
unfolding octets_of
value_cause k g = all_cause k g

pub value_part : (items : List Item) → All (octets_of (value.reset (part items)))
unfolding octets_of
value_part items = all_reset items

pub value_mme : (m : MmeId) → All (octets_of (value.mme m))
unfolding octets_of
value_mme m = all_number 2 m.0

pub value_mce : (c : MceId) → All (octets_of (value.mce c))
unfolding octets_of
value_mce c = all_number 2 c.0

pub value_tmgi : (t : Tmgi) → InRange (value.tmgi t) → All (octets_of (value.tmgi t))
unfolding octets_of tmgi_octets
value_tmgi t g =
    all_packed (bit false ∷ []) (omega arith, omega arith, tt)
    (all_more g.0 (all_more g.1 (all_more g.2 (all_more g.3 (all_more g.4 (all_more g.5 all_none))))))

pub value_one : (v : ℕ) → All (octets_of (value.one v))
unfolding octets_of
value_one v = all_number 1 v

-- one octet that is carried
pub value_carried : (v : ℕ) → v < 256 → All (octets_of (value.carried (v ∷ [])))
unfolding octets_of
value_carried v h = all_more h all_none
