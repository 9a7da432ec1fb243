-- A message whose values suit the rows of its table, in few octets, is written; and what is written is read back.
-- Assumes nothing.
use Prim.Native.Nat.{ℕ, ◌+◌, ◌≤◌}
use mathlib.Core.Path.{◌≡◌, refl}
use mathlib.Core.Bool.{true, false}
use mathlib.Core.List.{List, [], ◌∷◌, ◌++◌, Memᴰ}
use native.Mathlib.Omega.{arith}
use borrow.Author.Tests.{le-leb}
use lib.Dec.{ltb}
use lib.ListN.{length, length-append}
use Rattle.lists.proofs.Tests.{on-pick}
use Rattle.packed.specs.Packed.{◌bits◌, packed}
use Rattle.octets.specs.Write.{number_octets, length_octets}
use Rattle.octets.proofs.Back.{length_number}
use Rattle.rows.specs.declared.Row.{Row}
use Rattle.editions.specs.declared.Edition.{Edition}
use Rattle.editions.specs.Editions.{messages_of, table_of}
use Rattle.meaning.specs.Value.{Value, Given, given, absent, Said}
use Rattle.meaning.specs.Written.{octets_of, has_octets, element_octets, elements_octets, how_many, inside_octets, message_octets, element_good, elements_good, is_written, octets, encoded}
use Rattle.meaning.specs.Ranges.{value_kind, InRange, RowRange, Ranged}
use Rattle.round_trips.specs.Ties.{InTypes, ReadAs}
use Rattle.round_trips.proofs.Back.{message_back}
use Rattle.replies.specs.Replies.{says, reply_octets}

-- ---- rows and tables

-- a value that suits a row, of at most n octets with its envelope
pub record Takes (r : Row) (v : Given (List ℕ)) (n : ℕ) : Type 0 where
  pub range : RowRange r v
  pub good : element_good r v ≡ true
  pub size : length (element_octets r v) ≤ n

-- values that suit the rows, of at most n octets together
pub record Taken (t : List Row) (vs : List (Given (List ℕ))) (n : ℕ) : Type 0 where
  pub range : Ranged t vs
  pub good : elements_good t vs ≡ true
  pub size : length (elements_octets t vs) ≤ n

pub taken_none : Taken [] [] 0
unfolding Ranged elements_good elements_octets
taken_none = record { range = tt; good = refl; size = omega arith }

pub taken_more : {r : Row} {t : List Row} {v : Given (List ℕ)} {vs : List (Given (List ℕ))} {n k : ℕ} → Takes r v n → Taken t vs k → Taken (r ∷ t) (v ∷ vs) (n + k)
unfolding Ranged elements_good elements_octets
taken_more a b =
    let x = a.size in
    let y = b.size in
    record { range = (a.range, b.range); good = rw (a.good, b.good); size = rw length-append (omega arith) }

length_size : (n : ℕ) → length (length_octets n) ≤ 2
unfolding length_octets
length_size n =
    on-pick (λ (os : List ℕ). length os ≤ 2) (ltb n 128) (omega arith)
    (on-pick (λ (os : List ℕ). length os ≤ 2) (ltb n 16384) (omega arith) (omega arith))

element_size_lem : (r : Row) (v : Value (List ℕ)) → length (element_octets r (given v)) ≤ 5 + length (octets_of v)
element_size_lem r v =
    let os : List ℕ = octets_of v in
    let a = length-append (number_octets 2 r.id) (packed (2 bits r.crit ∷ []) ∷ (length_octets (length os) ++ os)) in
    let b = length_number 2 r.id in
    let c = length-append (length_octets (length os)) os in
    let d = length_size (length os) in
    omega arith

module _ {r : Row} where
  pub takes_value : (v : Value (List ℕ)) (n : ℕ) → value_kind v ≡ r.kind → InRange v → has_octets v ≡ true → length (octets_of v) ≤ n → Takes r (given v) (5 + n)
  takes_value v n k g h l = let e = element_size_lem r v in record { range = (k, g); good = h; size = omega arith }

  pub takes_absent : (n : ℕ) → r.mandatory ≡ false → Takes r absent n
  takes_absent n e = record { range = tt; good = rw e; size = omega arith }

-- ---- messages

module _ (e : Edition) (w : Said) where
  message_size_lem : length (message_octets e w) ≤ 8 + length (elements_octets (table_of e w.message) w.values)
  unfolding message_octets inside_octets
  message_size_lem =
      let t : List Row = table_of e w.message in
      let es : List ℕ = elements_octets t w.values in
      let a = length-append (number_octets 2 (how_many w.values)) es in
      let b = length_number 2 (how_many w.values) in
      let c = length-append (length_octets (length (inside_octets t w.values))) (inside_octets t w.values) in
      let d = length_size (length (inside_octets t w.values)) in
      omega arith

  module _ (d : Memᴰ w.message (messages_of e)) (n : ℕ) (g : Taken (table_of e w.message) w.values n) where
    is_written_lem : n ≤ 8184 → is_written e w ≡ true
    is_written_lem b = let s = message_size_lem in let k = g.size in rw g.good (le-leb (length (message_octets e w)) 8192 (omega arith))

    -- values that suit the rows, in few octets, are read back
    pub taken_back : n ≤ 8184 → ReadAs e (message_octets e w) w
    taken_back b = message_back e w (record { message = d; values = g.range }) (is_written_lem b)

  -- what is written, and its octets, which are read with answer 0 and nothing to note, and say the same
  pub record Written : Type 0 where
    pub types : InTypes e w
    pub octets : encoded e w ≡ octets (message_octets e w)
    pub reply : reply_octets e (says w) ≡ message_octets e w
    pub size : length (reply_octets e (says w)) ≤ 3200
    pub back : ReadAs e (reply_octets e (says w)) w

  module _ (d : Memᴰ w.message (messages_of e)) (n : ℕ) (g : Taken (table_of e w.message) w.values n) (b : n ≤ 3192) where
    has_octets_lem : encoded e w ≡ octets (message_octets e w)
    unfolding encoded
    has_octets_lem = let k = is_written_lem d n g (omega arith) in rw k

    is_reply : reply_octets e (says w) ≡ message_octets e w
    unfolding reply_octets
    is_reply = rw has_octets_lem

    pub written : Written
    written = record {
      types = record { message = d; values = g.range };
      octets = has_octets_lem;
      reply = is_reply;
      size = let s = message_size_lem in let k = g.size in rw is_reply (omega arith);
      back = rw is_reply (taken_back d n g (omega arith));
    }
