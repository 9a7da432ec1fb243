-- Octets are a record's: slot by slot, then zeros, then the items and the entries that the slots announce, or none.
-- Assumes nothing.
use Rattle.std.specs.Prelude.{None, Some}
use mathlib.Core.Path.{◌≡◌, ◌∙◌, refl, sym, ap}
use mathlib.Core.Bool.{Bool, true, false, not, ◌&&◌, ◌||◌, and_assoc, and-false, or_assoc, or-false}
use mathlib.Core.List.{List, [], ◌∷◌, ◌++◌, append_assoc}
use Prim.Native.Nat.{ℕ, zero, suc, ◌+◌, ◌*◌, ◌-◌, min, ◌≤◌}
use native.Mathlib.Omega.{arith}
use borrow.Author.Tests.{eq-eqb, eqb-true}
use lib.Dec.{eqb}
use lib.ListN.{length, take, drop, get_or, replicate, length-append, length-drop, length-replicate}
use lib.Seq.{drop-drop}
use Rattle.lists.specs.Lists.{pick, fill}
use Rattle.lists.proofs.Parts.{take_drop}
use Rattle.octets.specs.Field.{value_at}
use Rattle.octets.specs.Many.{each_octets}
use Rattle.items.specs.Items.{whole, part}
use Rattle.identity.specs.declared.Item.{Item}
use Rattle.entries.specs.declared.Entry.{Entry}
use Rattle.lent.specs.Lent.{same}
use Rattle.lent.proofs.Reading.{same_is}
use Rattle.rows.specs.declared.Kind.{Kind}
use Rattle.rows.specs.declared.Kind.TheVariants as kind
use Rattle.rows.specs.declared.Row.{Row}
use Rattle.editions.specs.declared.Edition.{Edition}
use Rattle.editions.specs.declared.Message.{Message}
use Rattle.editions.specs.Editions.{table_of, number_of}
use Rattle.meaning.specs.Value.{Value, Given, given, absent, reset, list}
use Rattle.octets.specs.declared.Span.{Span}
use Rattle.layout.specs.Rows.{unless0, item_row, row_item, entry_row, row_entry, each_row, list_octets}
use Rattle.layout.specs.Record.{Lists, no_lists, announced, lists_of, slot_octets, slot_of, slot_says, slots_say, lists_in, record_octets, said_record}
use Rattle.layout.proofs.Sizes.{slot_size, slots_size, items_size, entries_size, rows_size}
use Rattle.record_form.specs.Form.{Form, slot_good, says_items, says_entries, form_from, items_part, entries_part, zeros_at, behind_slots, formed}

-- ---- parts of octets that are the same

pub same_append : (a b s : List ℕ) → length a ≤ length s → same (a ++ b) s ≡ (same a (take (length a) s) && same b (drop (length a) s))
unfolding same
same_append [] b s h = refl
same_append (x ∷ a) b [] h = absurd (omega arith)
same_append (x ∷ a) b (y ∷ s) h = ap (eqb x y &&◌) (same_append a b s (omega arith)) ∙ sym (and_assoc (eqb x y) (same a (take (length a) s)) (same b (drop (length a) s)))

-- ---- what a slot is does not depend on the lists

slot_any : (l : Lists) (k : Kind) (p : List ℕ) → slot_octets (unless0 p absent (given (slot_says l k p))) ≡ slot_octets (unless0 p absent (given (slot_says no_lists k p)))
unfolding slot_says slot_of
slot_any l kind.Carried p = refl
slot_any l kind.Mme p = refl
slot_any l kind.Mce p = refl
slot_any l kind.Tmgi p = refl
slot_any l kind.OneOctet p = refl
slot_any l kind.TwoOctets p = refl
slot_any l kind.Cause p = refl
slot_any l kind.Wait p = refl
slot_any l kind.Name p = refl
slot_any l kind.ResetType p = by (eqb (get_or p 0 0) 0) (eqb (get_or p 0 0) 2)
  where
    by : (a b : Bool) → slot_octets (pick a absent (given (reset (pick b (part l.items) whole)))) ≡ slot_octets (pick a absent (given (reset (pick b (part []) whole))))
    by true b = refl
    by false true = refl
    by false false = refl
slot_any l kind.Acknowledged p = by (eqb (get_or p 0 0) 0)
  where
    by : (a : Bool) → slot_octets (pick a absent (given (slot_says l kind.Acknowledged p))) ≡ slot_octets (pick a absent (given (slot_says no_lists kind.Acknowledged p)))
    by true = refl
    by false = refl
slot_any l (kind.Diagnostics t) p = by (eqb (get_or p 0 0) 0)
  where
    by : (a : Bool) → slot_octets (pick a absent (given (slot_says l (kind.Diagnostics t) p))) ≡ slot_octets (pick a absent (given (slot_says no_lists (kind.Diagnostics t) p)))
    by true = refl
    by false = refl

-- ---- slots one after another

abbrev slots_good : List Row → List ℕ → Bool
slots_good [] p = true
slots_good (r ∷ t) p = slot_good r.kind p && slots_good t (drop 8 p)

abbrev some_items : List Row → List ℕ → Bool
some_items [] p = false
some_items (r ∷ t) p = says_items r.kind (get_or p 0 0) || some_items t (drop 8 p)

abbrev some_entries : List Row → List ℕ → Bool
some_entries [] p = false
some_entries (r ∷ t) p = says_entries r.kind (get_or p 0 0) (get_or p 7 0) || some_entries t (drop 8 p)

form_all : (a b : Bool) (t : List Row) (p : List ℕ) → form_from a b t p ≡ pick (slots_good t p) (Some (record { items = a || some_items t p; entries = b || some_entries t p })) None
unfolding form_from
form_all a b [] p = rw (or-false a, or-false b)
form_all a b (r ∷ t) p =
    let x = says_items r.kind (get_or p 0 0) in
    let y = says_entries r.kind (get_or p 0 0) (get_or p 7 0) in
    by (slot_good r.kind p) (slots_good t (drop 8 p)) (Some (record { items = a || (x || some_items t (drop 8 p)); entries = b || (y || some_entries t (drop 8 p)) }))
    (form_all (a || x) (b || y) t (drop 8 p) ∙ rw (or_assoc a x (some_items t (drop 8 p)), or_assoc b y (some_entries t (drop 8 p))))
  where
    by : (g s : Bool) (h : Form) {f : Form} → f ≡ pick s h None → pick g f None ≡ pick (g && s) h None
    by true s h e = e
    by false s h e = refl

slots_same : (l : Lists) (t : List Row) (p rest : List ℕ) → 8 * length t ≤ length p
    → same (each_octets slot_octets (slots_say l t p) ++ rest) p ≡ (slots_good t p && same rest (drop (8 * length t) p))
unfolding slots_say slot_good
slots_same l [] p rest h = refl
slots_same l (r ∷ t) p rest h =
    let v = unless0 p absent (given (slot_says l r.kind p)) in
    let os = slot_octets v in
    let more = each_octets slot_octets (slots_say l t (drop 8 p)) in
    let k : length os ≤ length p = omega (arith, slot_size v) in
    let n : 8 * length t ≤ length (drop 8 p) = omega (arith, length-drop 8 p) in
    let m : 8 + 8 * length t ≡ 8 * suc (length t) = omega arith in
    ap (λ (x : List ℕ). same x p) (append_assoc os more rest)
    ∙ same_append os (more ++ rest) p k
    ∙ rw (slot_size v, slot_any l r.kind p, slots_same l t (drop 8 p) rest n, drop-drop (8 * length t) 8 p, m)
    (sym (and_assoc (slot_good r.kind p) (slots_good t (drop 8 p)) (same rest (drop (8 * suc (length t)) p))))

-- ---- the lists that the slots announce

pick_self : {A : Type 0} (b : Bool) (x : A) → pick b x x ≡ x
pick_self true x = refl
pick_self false x = refl

pick_or : {A : Type 0} (b d : Bool) (x y : A) → pick b x (pick d x y) ≡ pick (b || d) x y
pick_or true d x y = refl
pick_or false d x y = refl

abbrev items_of : Lists → List Item
items_of l = l.items

abbrev entries_of : Lists → List Entry
entries_of l = l.entries

module _ (l : Lists) (p : List ℕ) (vs : List (Given Span)) where
  one : (a : Bool) (v : Value Span) → lists_of (pick a absent (given v) ∷ vs) ≡ pick a (lists_of vs) (announced v (lists_of vs))
  unfolding lists_of
  one true v = refl
  one false v = refl

  abbrev first : Kind → Given Span
  first k = unless0 p absent (given (slot_says l k p))

  -- a value that announces nothing
  plain : (v : Value Span) → announced v (lists_of vs) ≡ lists_of vs → lists_of (unless0 p absent (given v) ∷ vs) ≡ lists_of vs
  plain v e = one (eqb (get_or p 0 0) 0) v ∙ ap (pick (eqb (get_or p 0 0) 0) (lists_of vs)) e ∙ pick_self (eqb (get_or p 0 0) 0) (lists_of vs)

  step_items : (k : Kind) → (lists_of (first k ∷ vs)).items ≡ pick (says_items k (get_or p 0 0)) l.items (lists_of vs).items
  unfolding slot_says
  step_items kind.Carried = ap items_of (plain (slot_says l kind.Carried p) refl)
  step_items kind.Mme = ap items_of (plain (slot_says l kind.Mme p) refl)
  step_items kind.Mce = ap items_of (plain (slot_says l kind.Mce p) refl)
  step_items kind.Tmgi = ap items_of (plain (slot_says l kind.Tmgi p) refl)
  step_items kind.OneOctet = ap items_of (plain (slot_says l kind.OneOctet p) refl)
  step_items kind.TwoOctets = ap items_of (plain (slot_says l kind.TwoOctets p) refl)
  step_items kind.Cause = ap items_of (plain (slot_says l kind.Cause p) refl)
  step_items kind.Wait = ap items_of (plain (slot_says l kind.Wait p) refl)
  step_items kind.Name = ap items_of (plain (slot_says l kind.Name p) refl)
  step_items kind.ResetType =
      ap items_of (one (eqb (get_or p 0 0) 0) (reset (pick (eqb (get_or p 0 0) 2) (part l.items) whole)))
      ∙ by (eqb (get_or p 0 0) 0) refl (eqb (get_or p 0 0) 2) refl
    where
      by : (a : Bool) → eqb (get_or p 0 0) 0 ≡ a → (b : Bool) → eqb (get_or p 0 0) 2 ≡ b
          → (pick a (lists_of vs) (announced {C = Span} (reset (pick b (part l.items) whole)) (lists_of vs))).items ≡ pick b l.items (lists_of vs).items
      by true e true f = let x = eqb-true (get_or p 0 0) 0 e in let y = eqb-true (get_or p 0 0) 2 f in absurd (omega arith)
      by true e false f = refl
      by false e true f = refl
      by false e false f = refl
  step_items kind.Acknowledged = ap items_of (one (eqb (get_or p 0 0) 0) (list l.items)) ∙ by (eqb (get_or p 0 0) 0)
    where
      by : (a : Bool) → (pick a (lists_of vs) (announced {C = Span} (list l.items) (lists_of vs))).items ≡ pick (not a) l.items (lists_of vs).items
      by true = refl
      by false = refl
  step_items (kind.Diagnostics t) = ap items_of (one (eqb (get_or p 0 0) 0) (slot_says l (kind.Diagnostics t) p)) ∙ by (eqb (get_or p 0 0) 0)
    where
      by : (a : Bool) → (pick a (lists_of vs) (announced (slot_says l (kind.Diagnostics t) p) (lists_of vs))).items ≡ (lists_of vs).items
      by true = refl
      by false = refl

  step_entries : (k : Kind) → (lists_of (first k ∷ vs)).entries ≡ pick (says_entries k (get_or p 0 0) (get_or p 7 0)) l.entries (lists_of vs).entries
  unfolding slot_says
  step_entries kind.Carried = ap entries_of (plain (slot_says l kind.Carried p) refl)
  step_entries kind.Mme = ap entries_of (plain (slot_says l kind.Mme p) refl)
  step_entries kind.Mce = ap entries_of (plain (slot_says l kind.Mce p) refl)
  step_entries kind.Tmgi = ap entries_of (plain (slot_says l kind.Tmgi p) refl)
  step_entries kind.OneOctet = ap entries_of (plain (slot_says l kind.OneOctet p) refl)
  step_entries kind.TwoOctets = ap entries_of (plain (slot_says l kind.TwoOctets p) refl)
  step_entries kind.Cause = ap entries_of (plain (slot_says l kind.Cause p) refl)
  step_entries kind.Wait = ap entries_of (plain (slot_says l kind.Wait p) refl)
  step_entries kind.Name = ap entries_of (plain (slot_says l kind.Name p) refl)
  step_entries kind.ResetType =
      ap entries_of (one (eqb (get_or p 0 0) 0) (reset (pick (eqb (get_or p 0 0) 2) (part l.items) whole)))
      ∙ by (eqb (get_or p 0 0) 0) (eqb (get_or p 0 0) 2)
    where
      by : (a b : Bool) → (pick a (lists_of vs) (announced {C = Span} (reset (pick b (part l.items) whole)) (lists_of vs))).entries ≡ (lists_of vs).entries
      by true b = refl
      by false true = refl
      by false false = refl
  step_entries kind.Acknowledged = ap entries_of (one (eqb (get_or p 0 0) 0) (list l.items)) ∙ by (eqb (get_or p 0 0) 0)
    where
      by : (a : Bool) → (pick a (lists_of vs) (announced {C = Span} (list l.items) (lists_of vs))).entries ≡ (lists_of vs).entries
      by true = refl
      by false = refl
  step_entries (kind.Diagnostics t) = ap entries_of (one (eqb (get_or p 0 0) 0) (slot_says l (kind.Diagnostics t) p)) ∙ by (eqb (get_or p 0 0) 0) (eqb (get_or p 7 0) 0)
    where
      by : (a b : Bool) → (pick a (lists_of vs) (record { items = (lists_of vs).items; entries = pick (not b) (pick (not b) l.entries []) (lists_of vs).entries })).entries
          ≡ pick (pick a false (not b)) l.entries (lists_of vs).entries
      by true b = refl
      by false true = refl
      by false false = refl

items_by_lem : (l : Lists) (t : List Row) (p : List ℕ) → (lists_of (slots_say l t p)).items ≡ pick (some_items t p) l.items []
unfolding slots_say lists_of
items_by_lem l [] p = refl
items_by_lem l (r ∷ t) p =
    step_items l p (slots_say l t (drop 8 p)) r.kind
    ∙ rw (items_by_lem l t (drop 8 p)) (pick_or (says_items r.kind (get_or p 0 0)) (some_items t (drop 8 p)) l.items [])

entries_by : (l : Lists) (t : List Row) (p : List ℕ) → (lists_of (slots_say l t p)).entries ≡ pick (some_entries t p) l.entries []
unfolding slots_say lists_of
entries_by l [] p = refl
entries_by l (r ∷ t) p =
    step_entries l p (slots_say l t (drop 8 p)) r.kind
    ∙ rw (entries_by l t (drop 8 p)) (pick_or (says_entries r.kind (get_or p 0 0) (get_or p 7 0)) (some_entries t (drop 8 p)) l.entries [])

said_size : (l : Lists) (t : List Row) (p : List ℕ) → length (slots_say l t p) ≡ length t
unfolding slots_say
said_size l [] p = refl
said_size l (r ∷ t) p = ap suc (said_size l t (drop 8 p))

-- ---- at most 256 of each

pub length_rows : {A : Type 0} (one : List ℕ → A) (w n : ℕ) (s : List ℕ) → length (each_row one w n s) ≡ n
unfolding each_row
length_rows one w zero s = refl
length_rows one w (suc n) s = ap suc (length_rows one w n (drop w s))

few : {A : Type 0} (one : List ℕ → A) (w n : ℕ) (s : List ℕ) (b : Bool) → length (pick b (each_row one w (min n 256) s) []) ≤ 256
few one w n s true = omega (arith, length_rows one w (min n 256) s)
few one w n s false = omega arith

module _ (t : List Row) (s : List ℕ) (l : length s ≡ 2662) (h : length t ≤ 12) where
  parts : formed t s ≡ (slots_good t (drop 2 s) && (zeros_at s (2 + 8 * length t) (96 - 8 * length t) && (items_part s (some_items t (drop 2 s)) && entries_part s (some_entries t (drop 2 s)))))
  unfolding formed
  parts =
      let vs = slots_say (lists_in s) t (drop 2 s) in
      let os = each_octets slot_octets vs in
      let n = length t in
      let is = pick (some_items t (drop 2 s)) (lists_in s).items [] in
      let es = pick (some_entries t (drop 2 s)) (lists_in s).entries [] in
      let b = list_octets 1536 item_row is in
      let d = list_octets 1024 entry_row es in
      let z : List ℕ = replicate (96 - 8 * n) 0 in
      let os_size : length os ≡ 8 * n = slots_size vs ∙ ap (8 *◌) (said_size (lists_in s) t (drop 2 s)) in
      let z_size : length z ≡ 96 - 8 * n = length-replicate (96 - 8 * n) 0 in
      let b_size : length b ≡ 1538 = items_size is (few row_item 6 (value_at 2 s 98) (drop 100 s) (some_items t (drop 2 s))) in
      let k1 : 8 * n ≤ length (drop 2 s) = omega (arith, length-drop 2 s) in
      let k2 : length z ≤ length (drop (2 + 8 * n) s) = omega (arith, length-drop (2 + 8 * n) s) in
      let k3 : length b ≤ length (drop 98 s) = omega (arith, length-drop 98 s) in
      let m : 2 + 8 * n + (96 - 8 * n) ≡ 98 = omega arith in
      rw (
        items_by_lem (lists_in s) t (drop 2 s),
        entries_by (lists_in s) t (drop 2 s),
        os_size,
        append_assoc os z (b ++ d),
        slots_same (lists_in s) t (drop 2 s) (z ++ (b ++ d)) k1,
        drop-drop (8 * n) 2 s,
        same_append z (b ++ d) (drop (2 + 8 * n) s) k2,
        z_size,
        drop-drop (96 - 8 * n) (2 + 8 * n) s,
        m,
        same_append b d (drop 98 s) k3,
        b_size,
        drop-drop 1538 98 s,
        take_drop 1538 98 s,
      )

  pub formed_by : {f : Form} → f ≡ form_from false false t (drop 2 s) → behind_slots (length t) s f ≡ formed t s
  formed_by e = ap (behind_slots (length t) s) (e ∙ form_all false false t (drop 2 s)) ∙ by (slots_good t (drop 2 s)) ∙ sym parts
    where
      by : (g : Bool) → behind_slots (length t) s (pick g (Some (record { items = some_items t (drop 2 s); entries = some_entries t (drop 2 s) })) None)
          ≡ (g && (zeros_at s (2 + 8 * length t) (96 - 8 * length t) && (items_part s (some_items t (drop 2 s)) && entries_part s (some_entries t (drop 2 s)))))
      by true = refl
      by false = refl

-- other octets than 2,662 are no record's
pub formed_not : (t : List Row) (s : List ℕ) → length t ≤ 12 → (length s ≡ 2662 → ⊥) → formed t s ≡ false
unfolding formed
formed_not t s h z =
    let vs = slots_say (lists_in s) t (drop 2 s) in
    let a = fill 0 96 (each_octets slot_octets vs) in
    let b = list_octets 1536 item_row (lists_of vs).items in
    let d = list_octets 1024 entry_row (lists_of vs).entries in
    let k : length vs ≤ 12 = omega (arith, said_size (lists_in s) t (drop 2 s)) in
    let is : length (lists_of vs).items ≤ 256 = rw (items_by_lem (lists_in s) t (drop 2 s)) (few row_item 6 (value_at 2 s 98) (drop 100 s) (some_items t (drop 2 s))) in
    let es : length (lists_of vs).entries ≤ 256 = rw (entries_by (lists_in s) t (drop 2 s)) (few row_entry 4 (value_at 2 s 1636) (drop 1638 s) (some_entries t (drop 2 s))) in
    differ (a ++ (b ++ d)) (drop 2 s) (λ e. z (omega (arith, e, length-append a (b ++ d), length-append b d, rows_size vs k, items_size (lists_of vs).items is, entries_size (lists_of vs).entries es, length-drop 2 s)))
  where
    differ : (x y : List ℕ) → (length x ≡ length y → ⊥) → same x y ≡ false
    differ x y n = by (same x y) refl
      where
        by : (g : Bool) → same x y ≡ g → g ≡ false
        by true e = absurd (n (ap length (same_is x y e)))
        by false e = refl

pub record_formed : (e : Edition) (m : Message) (s : List ℕ) → length s ≡ 2662 → number_of e m ≡ get_or s 0 0 → same (record_octets e (said_record e m s)) s ≡ formed (table_of e m) s
unfolding record_octets said_record formed same
record_formed e m [] l f = absurd (omega arith)
record_formed e m (x ∷ []) l f = absurd (omega arith)
record_formed e m (x ∷ y ∷ s) l f = rw (eq-eqb (number_of e m) x f, eq-eqb y y refl)

pub record_not : (e : Edition) (m : Message) (s : List ℕ) → formed (table_of e m) s ≡ false → same (record_octets e (said_record e m s)) s ≡ false
unfolding record_octets said_record formed same
record_not e m [] f = refl
record_not e m (x ∷ []) f = and-false (eqb (number_of e m) x)
record_not e m (x ∷ y ∷ s) f = rw (f, and-false (eqb y y)) (and-false (eqb (number_of e m) x))
