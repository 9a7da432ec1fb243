-- Lists of octets, joined and taken apart; numbers, lengths, fields and tables that are written are octets.
-- Assumes nothing.
use Prim.Native.Nat.{ℕ, zero, suc, ◌-◌, ◌/◌, ◌<◌}
use mathlib.Core.Path.{◌≡◌, refl, sym, subst}
use mathlib.Core.Bool.{Bool, true, false}
use mathlib.Core.List.{List, [], ◌∷◌, ◌++◌, Memᴰ}
use native.Mathlib.Omega.{arith}
use borrow.Author.Tests.{ltb-true}
use lib.Dec.{ltb}
use lib.ListN.{length, get_or, replicate}
use Rattle.octets.specs.Stands.{Octets}
use Rattle.packed.specs.Packed.{Field, ◌bits◌, packed, Fit}
use Rattle.octets.specs.Write.{number_octets, length_octets}
use Rattle.packed.proofs.Packed.{packed_below}
use Rattle.octets.specs.Many.{each_octets}
use Rattle.table.specs.declared.Association.{Association}
use Rattle.table.specs.Table.{State}
use Rattle.lent.specs.Lent.{row_octets, rows_octets}
use Rattle.units.specs.Unit.{Unit, open_octet, mark_octets, unit_octets}

-- Octets, as a record, so that the list is read off
pub record All (vs : List ℕ) : Type 0 where
  pub octets : Octets vs

pub all_none : All []
all_none = record { octets = λ i. omega arith }

pub all_more : {v : ℕ} {vs : List ℕ} → v < 256 → All vs → All (v ∷ vs)
all_more {v} {vs} h o = record { octets = at }
  where
    at : (i : ℕ) → get_or (v ∷ vs) i 0 < 256
    at zero = h
    at (suc i) = o.octets i

-- taken apart
all_rest : {v : ℕ} {vs : List ℕ} → All (v ∷ vs) → (v < 256) × All vs
all_rest o = (o.octets 0, record { octets = λ i. o.octets (suc i) })

pub all_join : {vs ws : List ℕ} → All vs → All ws → All (vs ++ ws)
all_join {vs} {ws} o p = by vs o
  where
    by : (vs : List ℕ) → All vs → All (vs ++ ws)
    by [] o = p
    by (v ∷ vs) o = let r = all_rest o in all_more r.0 (by vs r.1)

pub all_split : (vs ws : List ℕ) → All (vs ++ ws) → All vs × All ws
all_split [] ws o = (all_none, o)
all_split (v ∷ vs) ws o = let r = all_rest o in let q = all_split vs ws r.1 in (all_more r.0 q.0, q.1)

pub all_number : (k v : ℕ) → All (number_octets k v)
unfolding number_octets
all_number zero v = all_none
all_number (suc k) v = all_more (omega arith) (all_number k v)

pub all_zeros : (n : ℕ) → All (replicate n 0)
all_zeros zero = all_none
all_zeros (suc n) = all_more (omega arith) (all_zeros n)

-- fields that fit an octet
pub all_packed : (fs : List Field) {os : List ℕ} → Fit 8 fs → All os → All (packed fs ∷ os)
all_packed fs h o = all_more (packed_below 8 fs h) o

pub all_length : (n : ℕ) → All (length_octets n)
unfolding length_octets
all_length n = by (ltb n 128) refl (ltb n 16384) refl
  where
    by : (b : Bool) → ltb n 128 ≡ b → (c : Bool) → ltb n 16384 ≡ c → All (length_octets n)
    by true e c f = let h = ltb-true n 128 e in rw e (all_more (omega arith) all_none)
    by false e true f =
        let h = ltb-true n 16384 f in
        rw (e, f) (all_packed (2 bits 2 ∷ 6 bits (n / 256) ∷ []) (omega arith, omega arith, (omega arith, omega arith, tt)) (all_more (omega arith) all_none))
    by false e false f = rw (e, f) all_none

pub all_each : {A : Type 0} (octets : A → List ℕ) → ((v : A) → All (octets v)) → (vs : List A) → All (each_octets octets vs)
all_each octets one [] = all_none
all_each octets one (v ∷ vs) = all_join (one v) (all_each octets one vs)

-- ---- a table: exactly where each row is

all_rows : (l : State) → ((a : Association) → Memᴰ a l → Octets (row_octets a)) → All (rows_octets l)
unfolding rows_octets
all_rows [] h = all_none
all_rows (a ∷ l) h = all_join {vs = row_octets a} (record { octets = h a (Memᴰ.head refl) }) (all_rows l (λ b m. h b (Memᴰ.tail m)))

all_row : (l : State) → All (rows_octets l) → (a : Association) → Memᴰ a l → Octets (row_octets a)
unfolding rows_octets
all_row [] o a m = elim m [ ]
all_row (b ∷ l) o a (Memᴰ.head e) = subst (λ (x : Association). Octets (row_octets x)) (sym e) (all_split (row_octets b) (rows_octets l) o).0.octets
all_row (b ∷ l) o a (Memᴰ.tail m) = all_row l (all_split (row_octets b) (rows_octets l) o).1 a m

module _ (u : Unit) where
  abbrev front : List ℕ
  front = number_octets 2 (length u.held) ++ rows_octets u.held

  abbrev rest : List ℕ
  rest = replicate (3074 - length front) 0

  all_marks : All (mark_octets u)
  all_marks = all_join {vs = 0 ∷ 0 ∷ []} (all_zeros 2) (all_join {vs = open_octet u.is_open ∷ []} (mark u.is_open) (all_zeros 11))
    where
      mark : (b : Bool) → All (open_octet b ∷ [])
      mark true = all_more (omega arith) all_none
      mark false = all_zeros 1

  pub octets_unit : ((a : Association) → Memᴰ a u.held → Octets (row_octets a)) → Octets (unit_octets u)
  unfolding unit_octets
  octets_unit h = (all_join {vs = front ++ rest} (all_join {vs = front} (all_join (all_number 2 (length u.held)) (all_rows u.held h)) (all_zeros (3074 - length front))) all_marks).octets

  pub octets_held : Octets (unit_octets u) → (a : Association) → Memᴰ a u.held → Octets (row_octets a)
  unfolding unit_octets
  octets_held o =
      let t = (all_split (front ++ rest) (mark_octets u) (record { octets = o })).0 in
      let f = (all_split front rest t).0 in
      all_row u.held (all_split (number_octets 2 (length u.held)) (rows_octets u.held) f).1
