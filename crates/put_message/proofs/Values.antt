-- The value of a slot, by its row's kind; and the values of a table's rows, one for each.
-- Assumes nothing.
use mathlib.Core.Path.{◌≡◌, ◌∙◌, refl, sym, ap}
use mathlib.Core.Bool.{Bool, true, false}
use mathlib.Core.List.{List, [], ◌∷◌, map}
use Prim.Native.Nat.{ℕ, zero, suc, ◌+◌, ◌*◌, ◌≤◌, ◌<◌}
use native.Mathlib.Omega.{arith}
use lib.Dec.{eqb}
use lib.ListN.{length, take, drop, get_or, length-map, length-drop}
use lib.Seq.{drop-drop}
use Rattle.lists.specs.Lists.{pick}
use Rattle.octets.specs.declared.Span.{Span}
use Rattle.rows.specs.declared.Kind.{Kind}
use Rattle.rows.specs.declared.Kind.TheVariants as kind
use Rattle.rows.specs.declared.Row.{Row}
use Rattle.rows.specs.Table.{no_row}
use Rattle.meaning.specs.Value.{Value, Given, given, absent, octets_in, on_carried, on_given}
use Rattle.layout.specs.Rows.{unless0}
use Rattle.layout.specs.Record.{Lists, lists_in, slot_says, slots_say}
use Rattle.plan.specs.Plan.{size_given}
use Rattle.record_form.proofs.Slots.{front_of}
use Rattle.put_message.specs.Said.{value_by, given_by, said_in}

-- a value that has a size is there
pub given_there : (values s : List ℕ) (k : Kind) (p : List ℕ) → (size_given (given_by values s k p) ≡ 0 → ⊥) → given_by values s k p ≡ given (value_by values s k p)
unfolding given_by size_given
given_there values s k p = by (eqb (get_or p 0 0) 0)
  where
    by : (b : Bool) → (size_given (pick b absent (given (value_by values s k p))) ≡ 0 → ⊥) → pick b absent (given (value_by values s k p)) ≡ given (value_by values s k p)
    by true z = absurd (z refl)
    by false z = refl

-- what stands behind a slot says nothing of its value
pub given_front : (values s : List ℕ) (k : Kind) (p : List ℕ) → 8 ≤ length p → given_by values s k (take 8 p) ≡ given_by values s k p
unfolding given_by value_by slot_says
given_front values s k = front_of (given_by values s k) (by k)
  where
    by : (k : Kind) (a b c d e f g h : ℕ) (q : List ℕ) → given_by values s k (a ∷ b ∷ c ∷ d ∷ e ∷ f ∷ g ∷ h ∷ []) ≡ given_by values s k (a ∷ b ∷ c ∷ d ∷ e ∷ f ∷ g ∷ h ∷ q)
    by kind.Carried a b c d e f g h q = refl
    by kind.Mme a b c d e f g h q = refl
    by kind.Mce a b c d e f g h q = refl
    by kind.Tmgi a b c d e f g h q = refl
    by kind.OneOctet a b c d e f g h q = refl
    by kind.TwoOctets a b c d e f g h q = refl
    by kind.Cause a b c d e f g h q = refl
    by kind.Wait a b c d e f g h q = refl
    by kind.Name a b c d e f g h q = refl
    by kind.ResetType a b c d e f g h q = refl
    by kind.Acknowledged a b c d e f g h q = refl
    by (kind.Diagnostics t) a b c d e f g h q = refl

-- ---- one for each row

slots_count : (l : Lists) (t : List Row) (p : List ℕ) → length (slots_say l t p) ≡ length t
unfolding slots_say
slots_count l [] p = refl
slots_count l (r ∷ t) p = ap suc (slots_count l t (drop 8 p))

slot_at : (f : Given Span → Given (List ℕ)) (l : Lists) (t : List Row) (p : List ℕ) (i : ℕ) → i < length t
    → get_or (map f (slots_say l t p)) i absent ≡ f (unless0 (drop (8 * i) p) absent (given (slot_says l (get_or t i no_row).kind (drop (8 * i) p))))
unfolding slots_say
slot_at f l [] p i h = absurd (omega arith)
slot_at f l (r ∷ t) p zero h = refl
slot_at f l (r ∷ t) p (suc i) h =
    let k : 8 + 8 * i ≡ 8 * suc i = omega arith in
    slot_at f l t (drop 8 p) i (omega arith) ∙ rw (drop-drop (8 * i) 8 p, k)

module _ (values s : List ℕ) (t : List Row) where
  pub said_count : length t ≡ length (said_in values s t)
  unfolding said_in
  said_count = sym (length-map (slots_say (lists_in s) t (drop 2 s)) (on_given (octets_in values)) ∙ slots_count (lists_in s) t (drop 2 s))

  pub said_at_lem : (i : ℕ) → i < length t → get_or (said_in values s t) i absent ≡ given_by values s (get_or t i no_row).kind (drop (2 + 8 * i) s)
  unfolding said_in given_by value_by
  said_at_lem i h =
      slot_at (on_given (octets_in values)) (lists_in s) t (drop 2 s) i h
      ∙ rw (drop-drop (8 * i) 2 s) (by (eqb (get_or (drop (2 + 8 * i) s) 0 0) 0) (slot_says (lists_in s) (get_or t i no_row).kind (drop (2 + 8 * i) s)))
    where
      by : (b : Bool) (v : Value Span) → on_given (octets_in values) (pick b absent (given v)) ≡ pick b absent (given (on_carried (octets_in values) v))
      by true v = refl
      by false v = refl

  pub said_here : (i : ℕ) → i < length t → length t ≤ 12 → length s ≡ 2662 → given_by values s (get_or t i no_row).kind (take 8 (drop (2 + 8 * i) s)) ≡ get_or (said_in values s t) i absent
  said_here i h few l = given_front values s (get_or t i no_row).kind (drop (2 + 8 * i) s) (omega (arith, length-drop (2 + 8 * i) s)) ∙ sym (said_at_lem i h)
