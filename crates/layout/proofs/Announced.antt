-- The lists beside the slots are those that the values announce. The first to announce a list is the only one, for a lawful table has one row
-- for items and one for entries: so what stands in front changes nothing for what stands behind.
-- Assumes nothing.
use mathlib.Core.Path.{◌≡◌, refl, sym, ap}
use mathlib.Core.Bool.{Bool, true, false}
use mathlib.Core.List.{List, [], ◌∷◌, Memᴰ}
use Prim.Native.Nat.{suc, ◌<◌}
use native.Mathlib.Omega.{arith}
use lib.ListN.{length}
use Rattle.lists.specs.Lists.{pick}
use Rattle.lists.proofs.Tests.{on-pick}
use Rattle.octets.specs.Many.{Each}
use Rattle.octets.specs.declared.Span.{Span}
use Rattle.identity.specs.declared.Item.{Item}
use Rattle.items.specs.Items.{whole, part}
use Rattle.entries.specs.declared.Entry.{Entry}
use Rattle.diagnostics.specs.Diagnostics.{Diagnostics}
use Rattle.rows.specs.declared.Kind.{Kind}
use Rattle.rows.specs.declared.Row.{Row}
use Rattle.editions.specs.Lawful.{fills, lawful}
use Rattle.editions.proofs.Tables.{lawful_rest, lawful_first}
use Rattle.meaning.specs.Value.{Value, Given, given, absent, carried, mme, mce, tmgi, one, two, cause, wait, name, reset, list, diagnostics}
use Rattle.meaning.specs.Ranges.{value_kind}
use Rattle.layout.specs.Record.{Lists, announced, lists_of}
use Rattle.layout.specs.Held.{ItemsFit, EntriesFit, DiagnosticsFit, Fits, RowsFit}
use Rattle.layout.proofs.SlotBack.{Agrees, AgreesGiven}

-- ---- one value in front of others

other_items : (w : Value Span) (is : List Item) (l : Lists) → (0 < fills (value_kind w) → 6 ≡ fills (value_kind w) → ⊥) → Agrees l w
    → Agrees (record { items = is; entries = l.entries }) w
other_items (carried x) is l h a = a
other_items (mme x) is l h a = a
other_items (mce x) is l h a = a
other_items (tmgi x) is l h a = a
other_items (one x) is l h a = a
other_items (two x) is l h a = a
other_items (cause x) is l h a = a
other_items (wait x) is l h a = a
other_items (name x) is l h a = a
other_items (reset whole) is l h a = a
other_items (reset (part js)) is l h a = absurd (h (omega arith) refl)
other_items (list js) is l h a = absurd (h (omega arith) refl)
other_items (diagnostics t d) is l h a = a

other_entries : (w : Value Span) (es : List Entry) (l : Lists) → (0 < fills (value_kind w) → 7 ≡ fills (value_kind w) → ⊥) → Agrees l w
    → Agrees (record { items = l.items; entries = es }) w
other_entries (carried x) es l h a = a
other_entries (mme x) es l h a = a
other_entries (mce x) es l h a = a
other_entries (tmgi x) es l h a = a
other_entries (one x) es l h a = a
other_entries (two x) es l h a = a
other_entries (cause x) es l h a = a
other_entries (wait x) es l h a = a
other_entries (name x) es l h a = a
other_entries (reset whole) es l h a = a
other_entries (reset (part js)) es l h a = a
other_entries (list js) es l h a = a
other_entries (diagnostics t d) es l h a = absurd (h (omega arith) refl)

-- what fills another list than the value in front still agrees
in_front_lem : (v w : Value Span) (l : Lists) → (0 < fills (value_kind v) → 0 < fills (value_kind w) → fills (value_kind v) ≡ fills (value_kind w) → ⊥) → Agrees l w → Agrees (announced v l) w
in_front_lem (carried x) w l h a = a
in_front_lem (mme x) w l h a = a
in_front_lem (mce x) w l h a = a
in_front_lem (tmgi x) w l h a = a
in_front_lem (one x) w l h a = a
in_front_lem (two x) w l h a = a
in_front_lem (cause x) w l h a = a
in_front_lem (wait x) w l h a = a
in_front_lem (name x) w l h a = a
in_front_lem (reset whole) w l h a = a
in_front_lem (reset (part is)) w l h a = other_items w is l (h (omega arith)) a
in_front_lem (list is) w l h a = other_items w is l (h (omega arith)) a
in_front_lem (diagnostics t d) w l h a = other_entries w (pick d.head.listed d.entries l.entries) l (h (omega arith)) a

own_entries : (d : Diagnostics) (es : List Entry) (b : Bool) → d.head.listed ≡ b → DiagnosticsFit d → pick b (pick b d.entries es) [] ≡ d.entries
own_entries d es true e f = refl
own_entries d es false e f = sym (f.none e)

-- a value agrees with what it announces
own : (v : Value Span) (l : Lists) → Fits v → Agrees (announced v l) v
own (carried x) l f = tt
own (mme x) l f = tt
own (mce x) l f = tt
own (tmgi x) l f = tt
own (one x) l f = tt
own (two x) l f = tt
own (cause x) l f = tt
own (wait x) l f = tt
own (name x) l f = tt
own (reset whole) l f = tt
own (reset (part is)) l f = refl
own (list is) l f = refl
own (diagnostics t d) l f = own_entries d l.entries d.head.listed refl f

-- ---- all values of a table

-- no row fills what a value of this kind does
abbrev Alone : Kind → List Row → Type 0
Alone k t = (q : Row) → Memᴰ q t → 0 < fills k → 0 < fills q.kind → fills k ≡ fills q.kind → ⊥

all_behind : (v : Value Span) (l : Lists) (t : List Row) (vs : List (Given Span)) → Alone (value_kind v) t → RowsFit t vs → Each (AgreesGiven l) vs → Each (AgreesGiven (announced v l)) vs
all_behind v l [] [] n f a = tt
all_behind v l [] (w ∷ vs) n f a = absurd f
all_behind v l (r ∷ t) [] n f a = absurd f
all_behind v l (r ∷ t) (given w ∷ vs) n f a =
    (in_front_lem v w l (rw f.0.0 (n r (Memᴰ.head refl))) a.0, all_behind v l t vs (λ q m. n q (Memᴰ.tail m)) f.1 a.1)
all_behind v l (r ∷ t) (absent ∷ vs) n f a = (tt, all_behind v l t vs (λ q m. n q (Memᴰ.tail m)) f.1 a.1)

pub announced_agree : (t : List Row) (vs : List (Given Span)) → lawful t ≡ true → RowsFit t vs → Each (AgreesGiven (lists_of vs)) vs
unfolding lists_of
announced_agree [] [] h f = tt
announced_agree [] (v ∷ vs) h f = absurd f
announced_agree (r ∷ t) [] h f = absurd f
announced_agree (r ∷ t) (given v ∷ vs) h f =
    let alone : Alone (value_kind v) t = rw f.0.0 (λ q m k. lawful_first r t h k q m) in
    (own v (lists_of vs) f.0.1, all_behind v (lists_of vs) t vs alone f.1 (announced_agree t vs (lawful_rest r t h) f.1))
announced_agree (r ∷ t) (absent ∷ vs) h f = (tt, announced_agree t vs (lawful_rest r t h) f.1)

-- ---- what fits announces what fits

pub record ListsFit (l : Lists) : Type 0 where
  pub items : ItemsFit l.items
  pub entries : EntriesFit l.entries

announced_fit : (v : Value Span) (l : Lists) → Fits v → ListsFit l → ListsFit (announced v l)
announced_fit (carried x) l f g = g
announced_fit (mme x) l f g = g
announced_fit (mce x) l f g = g
announced_fit (tmgi x) l f g = g
announced_fit (one x) l f g = g
announced_fit (two x) l f g = g
announced_fit (cause x) l f g = g
announced_fit (wait x) l f g = g
announced_fit (name x) l f g = g
announced_fit (reset whole) l f g = g
announced_fit (reset (part is)) l f g = record { items = f; entries = g.entries }
announced_fit (list is) l f g = record { items = f; entries = g.entries }
announced_fit (diagnostics t d) l f g = record { items = g.items; entries = on-pick EntriesFit d.head.listed f.entries g.entries }

pub lists_fit : (t : List Row) (vs : List (Given Span)) → RowsFit t vs → ListsFit (lists_of vs)
unfolding lists_of
lists_fit [] [] f = record { items = record { few = omega arith; each = tt }; entries = record { few = omega arith; each = tt } }
lists_fit [] (v ∷ vs) f = absurd f
lists_fit (r ∷ t) [] f = absurd f
lists_fit (r ∷ t) (given v ∷ vs) f = announced_fit v (lists_of vs) f.0.1 (lists_fit t vs f.1)
lists_fit (r ∷ t) (absent ∷ vs) f = lists_fit t vs f.1

pub rows_count : (t : List Row) (vs : List (Given Span)) → RowsFit t vs → length vs ≡ length t
rows_count [] [] f = refl
rows_count [] (v ∷ vs) f = absurd f
rows_count (r ∷ t) [] f = absurd f
rows_count (r ∷ t) (v ∷ vs) f = ap suc (rows_count t vs f.1)
