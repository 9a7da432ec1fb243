-- What the steps of the writer put is what the octets of Criticality Diagnostics are made of.
--     with_more, with_bit_lem, with_none   a field is put behind others
--     pairs_one, pairs_from_lem            numbers of two bits each
--     marks_put, with_code_lem, without_code   the fields before the list
--     listing_none, -more, -all        entries, one after another
--     listed_yes, listed_no            and all, with entries that words say, and without
-- Assumes nothing.
use Rattle.std.specs.Prelude.{None, Some}
use mathlib.Core.Path.{◌≡◌, ◌∙◌, refl, sym, ap, subst}
use mathlib.Core.Bool.{Bool, true, false}
use mathlib.Core.List.{List, [], ◌∷◌, ◌++◌, map, append_assoc, append-nil}
use Prim.Native.Nat.{ℕ, ◌+◌, ◌%◌, ◌^◌, ◌<◌, ◌≤◌}
use native.Mathlib.Omega.{arith}
use native.Mathlib.Numerals.{add-one}
use native.Mathlib.Nat.{mod-mod, mod-lt, zero-mul}
use borrow.Author.Tests.{ltb-true, eqb-true, eqb-false, ne_eqb}
use lib.Bits.{bit_or, or_zero_r}
use lib.Dec.{ltb, eqb}
use lib.ListN.{length, get_or, drop, drop_of_length-le}
use lib.Seq.{drop-cons}
use lib.Pow.{pow_pos}
use mir.Val.{bool_byte}
use Rattle.lists.specs.Lists.{pick}
use Rattle.packed.specs.Packed.{Field, ◌bits◌, bit, widths, packed, packed_in, placed}
use Rattle.octets.specs.Write.{Wrote}
use Rattle.packed.proofs.Packed.{together}
use Rattle.octets.proofs.Writing.{number_one, wrote_none, wrote_then}
use Rattle.entries.specs.declared.Entry.{Entry}
use Rattle.diagnostics.specs.declared.Marks.{Marks}
use Rattle.diagnostics.specs.Written.{marks, octet_of, pairs, with_code, head_octets, crit_fields, error_fields, entries_octets, entry_list_octets, diagnostics_octets}
use Rattle.diagnostics.proofs.Fields.{bits_width, widths_join}
use Rattle.diagnostics.proofs.Pairs.{Begun, begun_none, begun_more, begun_marks, more, more_width, octet_some}
use Rattle.diagnostics.specs.declared.Head.{Head}
use Rattle.entry_words.specs.EntryWords.{entry_by}
use Rattle.put_diagnostics.specs.Put.{listed_by, pairs_from, entry_octets}

-- octets that are the same
pub wrote_as : {l vs ws m : List ℕ} {at r : ℕ} → vs ≡ ws → Wrote l at vs m r → Wrote l at ws m r
wrote_as {l} {vs} {ws} {m} {at} {r} e w = subst (λ (ys : List ℕ). Wrote l at ys m r) e w

-- ---- fields

pub with_more : (fs : List Field) (x b w v : ℕ) → x ≡ packed fs → widths fs ≡ b → b < 8 → b + w ≤ 8 → bit_or x (placed b w v) ≡ packed (fs ++ w bits (v % 2 ^ w) ∷ [])
unfolding placed
with_more fs x b w v e d l r =
    let m = mod-mod v (2 ^ w) in
    rw (e, ← d) (rw m at (together fs w (v % 2 ^ w) (rw d r) (rw d l) (mod-lt v (pow_pos w))))

bit_value : (v : Bool) → 1 bits (bool_byte v % 2) ≡ bit v
bit_value true = refl
bit_value false = refl

pub with_bit_lem : (fs : List Field) (x b : ℕ) (v : Bool) → x ≡ packed fs → widths fs ≡ b → b < 8 → bit_or x (placed b 1 (bool_byte v)) ≡ packed (fs ++ bit v ∷ [])
with_bit_lem fs x b v e d l = with_more fs x b 1 (bool_byte v) e d l (omega arith) ∙ ap (λ (f : Field). packed (fs ++ f ∷ [])) (bit_value v)

-- a bit that is not set changes nothing
pub with_none : (fs : List Field) → widths fs < 8 → packed fs ≡ packed (fs ++ bit false ∷ [])
unfolding placed
with_none fs l = sym (or_zero_r (packed fs)) ∙ (ap (bit_or (packed fs)) (sym (zero-mul _)) ∙ with_bit_lem fs (packed fs) (widths fs) false refl refl l)

-- ---- numbers of two bits each

pub pairs_one : (x b v : ℕ) → bit_or x (placed b 2 v) ∷ [] ≡ pairs_from x b (v ∷ [])
unfolding pairs_from
pairs_one x b v = by (ltb (b + 2) 8)
  where
    by : (t : Bool) → bit_or x (placed b 2 v) ∷ [] ≡ pick t (pairs_from (bit_or x (placed b 2 v)) (b + 2) []) (bit_or x (placed b 2 v) ∷ pairs_from 0 0 [])
    by true = rw (ne_eqb (b + 2) 0 (λ e. omega arith))
    by false = refl

pub pairs_from_lem : (us : List Field) (vs : List ℕ) (x b p : ℕ) → x ≡ packed us → b ≡ widths us → Begun us p → pairs_from x b vs ≡ pairs us vs
unfolding pairs_from pairs packed_in
pairs_from_lem us [] x b p e d k = by (eqb b 0) refl
  where
    by : (t : Bool) → eqb b 0 ≡ t → pick t [] (x ∷ []) ≡ octet_of us
    by true t =
        let z = eqb-true b 0 t in
        let w = k.width in
        let o = k.octet in
        sym (drop_of_length-le (octet_of us) {i = 0} (omega arith))
    by false t =
        let z = eqb-false b 0 t in
        sym (octet_some us (omega arith) ∙ ap (λ (y : ℕ). y ∷ []) (sym e))
pairs_from_lem us (v ∷ vs) x b p e d k =
    let w = k.width in
    let o = k.even in
    let m = more_width k v in
    let s : widths (more us v) ≡ b + 2 = omega arith in
    let y : bit_or x (placed b 2 v) ≡ packed (more us v) = with_more us x b 2 v e (sym d) (omega arith) (omega arith) in
    by (ltb (b + 2) 8) refl s y
    (λ l. pairs_from_lem (more us v) vs (bit_or x (placed b 2 v)) (b + 2) (p + 2) y (sym s) (begun_more k v (omega arith)))
    (pairs_from_lem [] vs 0 0 0 refl refl (begun_none 0 refl))
  where
    by : (t : Bool) → ltb (b + 2) 8 ≡ t → widths (more us v) ≡ b + 2 → bit_or x (placed b 2 v) ≡ packed (more us v)
        → (b + 2 < 8 → pairs_from (bit_or x (placed b 2 v)) (b + 2) vs ≡ pairs (more us v) vs)
        → pairs_from 0 0 vs ≡ pairs [] vs
        → pick t (pairs_from (bit_or x (placed b 2 v)) (b + 2) vs) (bit_or x (placed b 2 v) ∷ pairs_from 0 0 vs)
        ≡ pick (ltb (widths (more us v)) 8) (pairs (more us v) vs) (packed (more us v) ∷ pairs [] vs)
    by true t s y i j = rw (s, t) (i (ltb-true (b + 2) 8 t))
    by false t s y i j = rw (s, t, y, j)

-- ---- the fields before the list

pub marks_put : (m : Marks)
    → bit_or (bit_or (bit_or (bit_or 0 (placed 1 1 (bool_byte m.code))) (placed 2 1 (bool_byte m.trigger))) (placed 3 1 (bool_byte m.crit))) (placed 4 1 (bool_byte m.listed))
    ≡ packed (map bit (marks m))
unfolding packed_in
marks_put m =
    let c = false ∷ m.code ∷ [] in
    let t = false ∷ m.code ∷ m.trigger ∷ [] in
    let k = false ∷ m.code ∷ m.trigger ∷ m.crit ∷ [] in
    let all = false ∷ m.code ∷ m.trigger ∷ m.crit ∷ m.listed ∷ [] in
    let w = bits_width all in
    let a = with_bit_lem (map bit (false ∷ [])) 0 1 m.code refl refl (omega arith) in
    let b = with_bit_lem (map bit c) _ 2 m.trigger a (bits_width c) (omega arith) in
    let d = with_bit_lem (map bit t) _ 3 m.crit b (bits_width t) (omega arith) in
    with_bit_lem (map bit k) _ 4 m.listed d (bits_width k) (omega arith) ∙ with_none (map bit all) (omega arith)

module _ (m : Marks) (x : ℕ) (vs : List ℕ) (e : x ≡ packed (map bit (marks m))) where
  pub with_code_lem : (v : ℕ) → v < 256 → x ∷ v ∷ pairs_from 0 0 vs ≡ with_code (Some v) (map bit (marks m)) vs
  unfolding packed_in
  with_code_lem v h = rw (e, number_one v h, pairs_from_lem [] vs 0 0 0 refl refl (begun_none 0 refl))

  pub without_code : pairs_from x 6 vs ≡ with_code None (map bit (marks m)) vs
  without_code = pairs_from_lem (map bit (marks m)) vs x 6 6 e (sym (bits_width (marks m))) (begun_marks m)

-- ---- entries

crit_octet : (us : List Field) (x b v : ℕ) → x ≡ packed us → b ≡ widths us → b ≤ 2 → bit_or x (placed (b + 2) 2 v) ≡ packed (us ++ crit_fields v)
crit_octet us x b v e d l =
    let one = widths_join us (bit false ∷ []) in
    let fs : List Field = (us ++ bit false ∷ []) ++ bit false ∷ [] in
    let two = widths_join (us ++ bit false ∷ []) (bit false ∷ []) in
    let p : x ≡ packed fs = e ∙ (with_none us (omega arith) ∙ with_none (us ++ bit false ∷ []) (omega arith)) in
    let q : fs ++ 2 bits (v % 4) ∷ [] ≡ us ++ crit_fields v = append_assoc (us ++ bit false ∷ []) (bit false ∷ []) _ ∙ append_assoc us (bit false ∷ []) _ in
    with_more fs x (b + 2) 2 v p (omega arith) (omega arith) (omega arith) ∙ ap (λ (gs : List Field). packed gs) q

error_octet : (v : ℕ) → bit_or 0 (placed 1 1 v) ≡ packed (error_fields v)
unfolding packed_in
error_octet v = with_more (bit false ∷ []) 0 1 1 v refl refl (omega arith) (omega arith)

-- the first i entries are written, but for the type of error of the last: that stands in x, of which b bits are used
pub record Listing (es : List Entry) (l : List ℕ) (at : ℕ) (m : List ℕ) (next x b i : ℕ) : Type 0 where
  us : List Field
  vs : List ℕ
  octet : x ≡ packed us
  width : b ≡ widths us
  pub small : b ≤ 2
  pub wrote : Wrote l at vs m next
  rest : vs ++ entries_octets us (drop i es) ≡ entries_octets [] es

module _ (es : List Entry) (l : List ℕ) (at : ℕ) where
  pub listing_none : at ≤ length l → Listing es l at l at 0 0 0
  unfolding packed_in
  listing_none h = record { us = []; vs = []; octet = refl; width = refl; small = omega arith; wrote = wrote_none l at (omega arith); rest = refl }

  module _ {m : List ℕ} {next x b i : ℕ} (k : Listing es l at m next x b i) where
    pub listing_more : (d e : Entry) {n : List ℕ} {r : ℕ} → e ≡ get_or es i d → i < length es → Wrote m next (entry_octets x b e.crit e.id) n r
        → Listing es l at n r (bit_or 0 (placed 1 1 e.error)) 2 (i + 1)
    unfolding entries_octets
    listing_more d e q h w =
        let c = crit_octet k.us x b e.crit k.octet k.width k.small in
        let f : drop i es ≡ e ∷ drop (i + 1) es = drop-cons es i d h ∙ rw (q, add-one i) in
        record {
          us = error_fields e.error;
          vs = k.vs ++ entry_octets x b e.crit e.id;
          octet = error_octet e.error;
          width = refl;
          small = omega arith;
          wrote = wrote_then k.wrote w;
          rest = append_assoc k.vs (entry_octets x b e.crit e.id) _ ∙ (rw c (sym (ap (λ (ys : List Entry). k.vs ++ entries_octets k.us ys) f)) ∙ k.rest);
        }

    pub listing_all : length es ≤ i → {n : List ℕ} {r : ℕ} → Wrote m next (x ∷ []) n r → Wrote l at (entries_octets [] es) n r
    unfolding entries_octets
    listing_all h w =
        let e : k.vs ++ x ∷ [] ≡ entries_octets [] es =
        ap (λ (y : ℕ). k.vs ++ y ∷ []) k.octet ∙ (ap (λ (ys : List Entry). k.vs ++ entries_octets k.us ys) (sym (drop_of_length-le es {i = i} h)) ∙ k.rest) in
        wrote_as e (wrote_then k.wrote w)

-- ---- with a list, and without

module _ (h : Head) (ws : List ℕ) where
  pub listed_yes : h.listed ≡ true → head_octets h ++ entry_list_octets true (map entry_by ws) ≡ diagnostics_octets (listed_by h ws)
  unfolding diagnostics_octets
  listed_yes e = ap (λ (b : Bool). head_octets h ++ entry_list_octets b (pick b (map entry_by ws) [])) (sym e)

  pub listed_no : h.listed ≡ false → head_octets h ≡ diagnostics_octets (listed_by h ws)
  unfolding diagnostics_octets
  listed_no e = sym (append-nil (head_octets h)) ∙ ap (λ (b : Bool). head_octets h ++ entry_list_octets b (pick b (map entry_by ws) [])) (sym e)
