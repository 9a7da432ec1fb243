-- No reader stops behind the octets: a place is at most their number. So a place is a small number, whatever is handed in.
-- Assumes nothing.
use Prim.Native.Nat.{ℕ, zero, suc, ◌+◌, ◌-◌, ◌/◌, ◌%◌, ◌≤◌}
use mathlib.Core.Path.{◌≡◌, refl, sym, ap, subst}
use mathlib.Core.Bool.{Bool, true, false}
use mathlib.Core.List.{List, []}
use native.Mathlib.Omega.{arith}
use borrow.Author.Tests.{eqb-true, eqb-false}
use lib.Dec.{ltb, eqb}
use lib.ListN.{length, take, get_or, length-take}
use Rattle.lists.specs.Lists.{pick}
use Rattle.lists.proofs.Tests.{on-pick}
use Rattle.std.specs.Prelude.{Ok, Err, Option}
use Rattle.octets.specs.Read.{Read, cut_short, no_meaning, left_over, extended, ◌>>=◌}
use Rattle.octets.specs.declared.Stop.TheVariants.{Fault, Extension}
use Rattle.octets.specs.Field.{bits_at, there, flag_at, plain_at, choice_at, pad_at, number_at, string_at, same_at, below_at, long_at, long_length_at, length_at, open_at, ends_at}
use Rattle.octets.specs.Many.{many}
use Rattle.octets.specs.declared.Part.{Part}
use Rattle.octets.proofs.Chain.{then_got, same_got}
use Rattle.octets.proofs.Got.{plain_got, choice_got, pad_got, number_got, string_got, wanted_got, below_got, open_in}
use Rattle.values.specs.Values.{whole_at, identity_at, mme_at, mce_at, one_at, two_at, tmgi_at, root_of, bits_of_root, cause_at, wait_at}
use Rattle.names.specs.Names.{printable, across_at, size_at, char_at, chars_at, name_at}
use Rattle.names.proofs.Size.{size_got}
use Rattle.identity.specs.declared.MmeId.{MmeId}
use Rattle.identity.specs.declared.MceId.{MceId}
use Rattle.identity.specs.declared.Item.{Item}
use Rattle.item.specs.Item as item
use Rattle.items.specs.Items as items
use Rattle.item.proofs.Inside as within
use Rattle.entries.specs.Entries as entries
use Rattle.diagnostics.specs.Diagnostics as diagnostics
use Rattle.diagnostics.specs.declared.Marks.{Marks}
use Rattle.entries.specs.declared.Entry.{Entry}
use Rattle.diagnostics.specs.declared.Head.{Head}
use Rattle.entries.proofs.Bounds as entry_bounds
use Rattle.diagnostics.proofs.Bounds as bounds
use Rattle.rows.specs.declared.Kind.{Kind}
use Rattle.rows.specs.declared.Kind.TheVariants as kind
use Rattle.kinds.specs.Kinds.{legible_at}
use Rattle.rows.specs.declared.Row.{Row}
use Rattle.rows.specs.Table.{kind_of, meanings}
use Rattle.envelopes.specs.Envelope.{criticality_at, envelope_at, scan_at}
use Rattle.elements.specs.Judge.{extensions_at, extensions_behind, elements_at}
use Rattle.envelopes.proofs.ScanLaws.{envelope_in}
use Rattle.frames.specs.declared.Frame.{Frame}
use Rattle.frames.specs.Frame.{kind_at, frame_at, container_at, count_at}
use Rattle.frames.specs.declared.Count.{Count}
use Rattle.verdicts.specs.Verdict.{opened_at}

-- a reading stops at octet n or before
abbrev pub Near : {A : Type 0} → ℕ → Read A → Type 0
Near n (Ok a) = Unit
Near n (Err (Fault p)) = p.octet ≤ n
Near n (Err (Extension p)) = p.octet ≤ n

pub near_then : {A B : Type 0} (n : ℕ) (r : Read A) (go : A → Read B) → Near n r → ((a : A) → Ok a ≡ r → Near n (go a)) → Near n (r >>= go)
near_then n (Ok a) go h k = k a refl
near_then n (Err (Fault p)) go h k = h
near_then n (Err (Extension p)) go h k = h

-- ---- fields

module _ (n : ℕ) (s : List ℕ) (at : ℕ) (i : at ≤ n) where
  there_near : {A : Type 0} (k : ℕ) (x : Read A) → Near n x → Near n (there k s at x)
  unfolding cut_short
  there_near k x h = on-pick (Near n) (ltb (length s) (at + k)) i h

  flag_near : (b : ℕ) → Near n (flag_at s at b)
  unfolding flag_at
  flag_near b = there_near 1 _ tt

  plain_near : (b : ℕ) → Near n (plain_at s at b)
  unfolding plain_at extended
  plain_near b = there_near 1 _ (on-pick (Near n) (eqb (bits_at s at b 1) 0) tt i)

  choice_near : (m w b : ℕ) → Near n (choice_at m w s at b)
  unfolding choice_at no_meaning
  choice_near m w b = there_near 1 _ (on-pick (Near n) (ltb (bits_at s at b w) m) tt i)

  pad_near : (b : ℕ) → Near n (pad_at s at b)
  unfolding pad_at no_meaning
  pad_near b = on-pick (Near n) (eqb (b % 8) 0) tt (there_near 1 _ (on-pick (Near n) (eqb (bits_at s at b (8 - b % 8)) 0) tt i))

  number_near : (k : ℕ) → Near n (number_at k s at)
  unfolding number_at
  number_near k = there_near k _ tt

  string_near : (k : ℕ) → Near n (string_at k s at)
  unfolding string_at
  string_near k = there_near k _ tt

  same_near : (v : ℕ) → Near n (same_at v s at)
  unfolding same_at no_meaning
  same_near v = near_then n (number_at 2 s at) _ (number_near 2) (λ x q. on-pick (Near n) (eqb x v) tt i)

  below_near : (m : ℕ) → Near n (below_at m s at)
  unfolding below_at no_meaning
  below_near m = near_then n (number_at 2 s at) _ (number_near 2) (λ x q. on-pick (Near n) (ltb x m) tt i)

  length_near : Near n (length_at s at)
  unfolding length_at long_length_at no_meaning
  length_near =
      there_near 1 _
      (on-pick (Near n) (eqb (bits_at s at 0 1) 0) tt
      (on-pick (Near n) (eqb (bits_at s at 0 2) 3) i (there_near 2 _ (on-pick (Near n) (ltb (long_at s at) 128) i tt))))

  open_near : Near n (open_at s at)
  unfolding open_at no_meaning
  open_near =
      near_then n (length_at s at) _ length_near
      (λ c q. on-pick (Near n) (eqb c.value 0) i (on-pick (Near n) (ltb (length s) (c.next + c.value)) i tt))

  char_near : Near n (char_at s at)
  unfolding char_at no_meaning
  char_near = there_near 1 _ (on-pick (Near n) (printable (get_or s at 0)) tt i)

  ends_near : Near n (ends_at s at)
  unfolding ends_at left_over
  ends_near = on-pick (Near n) (ltb at (length s)) i tt

-- several, each inside where the last ended inside
many_near : {A : Type 0} (n : ℕ) (one : ℕ → Read (Part A)) → ((at : ℕ) → at ≤ n → Near n (one at)) → ((at : ℕ) (p : Part A) → Ok p ≡ one at → p.next ≤ n)
    → (k at : ℕ) → at ≤ n → Near n (many one k at)
unfolding many
many_near n one near ends zero at i = tt
many_near n one near ends (suc k) at i =
    near_then n (one at) _ (near at i)
    (λ x q. near_then n (many one k x.next) _ (many_near n one near ends k x.next (ends at x q)) (λ xs r. tt))

many_ends : {A : Type 0} (n : ℕ) (one : ℕ → Read (Part A)) → ((at : ℕ) (p : Part A) → Ok p ≡ one at → p.next ≤ n)
    → (k at : ℕ) (p : Part (List A)) → at ≤ n → Ok p ≡ many one k at → p.next ≤ n
unfolding many
many_ends {A} n one ends zero at p i q = subst (λ (x : Part (List A)). x.next ≤ n) (sym (same_got q)) i
many_ends {A} n one ends (suc k) at p i q =
    let a = then_got (one at) _ q in
    let b = then_got (many one k a.0.next) _ a.2 in
    subst (λ (x : Part (List A)). x.next ≤ n) (sym (same_got b.2)) (many_ends n one ends k a.0.next b.0 (ends at a.0 a.1) b.1)

-- ---- values, in octets of which there are at most n

module _ (n : ℕ) (s : List ℕ) (l : length s ≤ n) (at : ℕ) (i : at ≤ n) where
  whole_near : (k : ℕ) → Near n (whole_at k s at)
  whole_near k =
      near_then n (number_at k s at) _ (number_near n s at i k)
      (λ v q. let h = (number_got s at k q).0 in near_then n (ends_at s (at + k)) _ (ends_near n s (at + k) (omega arith)) (λ x r. tt))

  one_near : Near n (one_at s at)
  unfolding one_at
  one_near = whole_near 1

  two_near : Near n (two_at s at)
  unfolding two_at
  two_near = whole_near 2

  identity_near : {I : Type 0} (numbered : ℕ → I) → Near n (identity_at numbered s at)
  unfolding identity_at
  identity_near numbered = near_then n (two_at s at) _ two_near (λ v q. tt)

  tmgi_near : Near n (tmgi_at s at)
  unfolding tmgi_at
  tmgi_near =
      near_then n (plain_at s at 0) _ (plain_near n s at i 0) (λ a q. let h = (plain_got s at 0 q).0 in
      near_then n (pad_at s at 1) _ (pad_near n s at i 1) (λ b r.
      near_then n (string_at 3 s (at + 1)) _ (string_near n s (at + 1) (omega arith) 3) (λ c u. let k = (string_got s (at + 1) 3 u).0 in
      near_then n (string_at 3 s (at + 4)) _ (string_near n s (at + 4) (omega arith) 3) (λ d v. let m = (string_got s (at + 4) 3 v).0 in
      near_then n (ends_at s (at + 7)) _ (ends_near n s (at + 7) (omega arith)) (λ e w. tt)))))

  cause_near : Near n (cause_at s at)
  unfolding cause_at
  cause_near =
      near_then n (plain_at s at 0) _ (plain_near n s at i 0) (λ a q. let h = (plain_got s at 0 q).0 in
      near_then n (choice_at 5 3 s at 1) _ (choice_near n s at i 5 3 1) (λ g r.
      near_then n (plain_at s at 4) _ (plain_near n s at i 4) (λ c u.
      near_then n (choice_at (root_of g) (bits_of_root g) s at 5) _ (choice_near n s at i (root_of g) (bits_of_root g) 5) (λ d v.
      near_then n (pad_at s at (5 + bits_of_root g)) _ (pad_near n s at i (5 + bits_of_root g)) (λ e w.
      near_then n (ends_at s (at + 1)) _ (ends_near n s (at + 1) (omega arith)) (λ f x. tt))))))

  wait_near : Near n (wait_at s at)
  unfolding wait_at
  wait_near =
      near_then n (plain_at s at 0) _ (plain_near n s at i 0) (λ a q. let h = (plain_got s at 0 q).0 in
      near_then n (choice_at 6 3 s at 1) _ (choice_near n s at i 6 3 1) (λ v r.
      near_then n (pad_at s at 4) _ (pad_near n s at i 4) (λ b u.
      near_then n (ends_at s (at + 1)) _ (ends_near n s (at + 1) (omega arith)) (λ c w. tt))))

  size_near : Near n (size_at s at)
  unfolding size_at no_meaning
  size_near = there_near n s at i 2 _ (on-pick (Near n) (ltb (across_at s at) 150) (on-pick (Near n) (ltb (length s) (at + 2 + (across_at s at + 1))) i tt) i)

  chars_near : (k from : ℕ) → from + k ≤ n → Near n (chars_at k s from)
  chars_near zero from j = tt
  chars_near (suc k) from j = near_then n (char_at s from) _ (char_near n s from (omega arith)) (λ a q. chars_near k (from + 1) (omega arith))

  name_near : Near n (name_at s at)
  unfolding name_at
  name_near =
      near_then n (plain_at s at 0) _ (plain_near n s at i 0) (λ a q.
      near_then n (size_at s at) _ size_near (λ m r. let h = (size_got s at r).2 in
      near_then n (pad_at s (at + 1) 1) _ (pad_near n s (at + 1) (omega arith) 1) (λ b u.
      near_then n (chars_at m s (at + 2)) _ (chars_near m (at + 2) (omega arith)) (λ c v.
      near_then n (ends_at s (at + 2 + m)) _ (ends_near n s (at + 2 + m) (omega arith)) (λ d w. tt)))))

-- ---- items

module _ (n : ℕ) (s : List ℕ) (l : length s ≤ n) where
  module _ {I : Type 0} (numbered : ℕ → I) where
    maybe_near : (b : Bool) (at : ℕ) → at ≤ n → Near n (item.maybe_identity_at numbered b s at)
    maybe_near false at i = tt
    maybe_near true at i = near_then n (number_at 2 s at) _ (number_near n s at i 2) (λ v q. tt)

    maybe_ends : (b : Bool) (at : ℕ) {x : Option I} → at ≤ n → Ok x ≡ item.maybe_identity_at numbered b s at → item.behind b at ≤ n
    maybe_ends false at i q = i
    maybe_ends true at i q = let a = then_got (number_at 2 s at) _ q in let h = (number_got s at 2 a.1).0 in omega arith

  abbrev mme_is : ℕ → MmeId
  mme_is v = record { 0 = v }

  abbrev mce_is : ℕ → MceId
  mce_is v = record { 0 = v }

  marks_near : (at : ℕ) → at ≤ n → Near n (item.item_marks_at s at)
  unfolding item.item_marks_at
  marks_near at i =
      near_then n (plain_at s at 0) _ (plain_near n s at i 0) (λ a q.
      near_then n (flag_at s at 1) _ (flag_near n s at i 1) (λ b r.
      near_then n (flag_at s at 2) _ (flag_near n s at i 2) (λ c u.
      near_then n (plain_at s at 3) _ (plain_near n s at i 3) (λ d v.
      near_then n (pad_at s at 4) _ (pad_near n s at i 4) (λ e w. tt)))))

  item_near : (at : ℕ) → at ≤ n → Near n (item.item_at s at)
  unfolding item.item_at
  item_near at i =
      near_then n (item.item_marks_at s at) _ (marks_near at i) (λ h q. let k = within.marks_in_lem s at q in let j : at + 1 ≤ n = omega arith in
      near_then n (item.maybe_mme_at h.mme s (at + 1)) _ (maybe_near mme_is h.mme (at + 1) j) (λ x r. let u = maybe_ends mme_is h.mme (at + 1) j r in
      near_then n (item.maybe_mce_at h.mce s (item.behind h.mme (at + 1))) _ (maybe_near mce_is h.mce (item.behind h.mme (at + 1)) u) (λ y v.
      near_then n (ends_at s (item.behind h.mce (item.behind h.mme (at + 1)))) _
      (ends_near n s (item.behind h.mce (item.behind h.mme (at + 1))) (maybe_ends mce_is h.mce (item.behind h.mme (at + 1)) u v)) (λ e w. tt))))

cut_short_lem : (n : ℕ) (s : List ℕ) (k : ℕ) → length s ≤ n → length (take k s) ≤ n
cut_short_lem n s k l = let e = length-take k s in omega arith

module _ (n : ℕ) (s : List ℕ) (l : length s ≤ n) where
  element_near : (at : ℕ) → at ≤ n → Near n (item.item_element_at s at)
  unfolding item.item_element_at
  element_near at i =
      near_then n (same_at 14 s at) _ (same_near n s at i 14) (λ a q. let h = (wanted_got s at 14 q).0 in
      near_then n (choice_at 3 2 s (at + 2) 0) _ (choice_near n s (at + 2) (omega arith) 3 2 0) (λ b r. let k = (choice_got s (at + 2) 3 2 0 r).0 in
      near_then n (pad_at s (at + 2) 2) _ (pad_near n s (at + 2) (omega arith) 2) (λ c u.
      near_then n (open_at s (at + 3)) _ (open_near n s (at + 3) (omega arith)) (λ v w. let o = open_in s (at + 3) w in let f = o.1 in let t = o.2 in
      near_then n (item.item_at (take v.to s) v.from) _ (item_near n (take v.to s) (cut_short_lem n s v.to l) v.from (omega arith)) (λ x y. tt)))))

  element_ends : (at : ℕ) (p : Part Item) → Ok p ≡ item.item_element_at s at → p.next ≤ n
  unfolding item.item_element_at
  element_ends at p q =
      let a = then_got (same_at 14 s at) _ q in
      let b = then_got (choice_at 3 2 s (at + 2) 0) _ a.2 in
      let c = then_got (pad_at s (at + 2) 2) _ b.2 in
      let d = then_got (open_at s (at + 3)) _ c.2 in
      let e = then_got (item.item_at (take d.0.to s) d.0.from) _ d.2 in
      let t = (open_in s (at + 3) d.1).2 in
      let z : p.next ≡ d.0.to = ap (λ (x : Part Item). x.next) (same_got {b = record { value = e.0; next = d.0.to }} e.2) in
      omega arith

  items_near : (at : ℕ) → at ≤ n → Near n (items.items_at s at)
  unfolding items.items_at
  items_near at i =
      near_then n (number_at 1 s at) _ (number_near n s at i 1) (λ k q. let h = (number_got s at 1 q).0 in let j : at + 1 ≤ n = omega arith in
      near_then n (many (item.item_element_at s) (k + 1) (at + 1)) _ (many_near n (item.item_element_at s) element_near element_ends (k + 1) (at + 1) j) (λ is r.
      near_then n (ends_at s is.next) _ (ends_near n s is.next (many_ends n (item.item_element_at s) element_ends (k + 1) (at + 1) is j r)) (λ x u. tt)))

  reset_by_near : (b : Bool) (at : ℕ) → at + 1 ≤ n → Near n (items.chosen_reset_at b s at)
  reset_by_near false at i =
      near_then n (plain_at s at 2) _ (plain_near n s at (omega arith) 2) (λ a q.
      near_then n (pad_at s at 3) _ (pad_near n s at (omega arith) 3) (λ b r.
      near_then n (ends_at s (at + 1)) _ (ends_near n s (at + 1) i) (λ c u. tt)))
  reset_by_near true at i =
      near_then n (pad_at s at 2) _ (pad_near n s at (omega arith) 2) (λ a q.
      near_then n (items.items_at s (at + 1)) _ (items_near (at + 1) i) (λ b r. tt))

  reset_near : (at : ℕ) → at ≤ n → Near n (items.reset_at s at)
  unfolding items.reset_at
  reset_near at i =
      near_then n (plain_at s at 0) _ (plain_near n s at i 0) (λ a q. let h = (plain_got s at 0 q).0 in
      near_then n (flag_at s at 1) _ (flag_near n s at i 1) (λ p r. reset_by_near p at (omega arith)))

-- ---- diagnostics

module _ (n : ℕ) (s : List ℕ) (l : length s ≤ n) where
  bits_near : (at : ℕ) → at ≤ n → Near n (diagnostics.marks_at s at)
  unfolding diagnostics.marks_at
  bits_near at i =
      near_then n (plain_at s at 0) _ (plain_near n s at i 0) (λ a q.
      near_then n (flag_at s at 1) _ (flag_near n s at i 1) (λ b r.
      near_then n (flag_at s at 2) _ (flag_near n s at i 2) (λ c u.
      near_then n (flag_at s at 3) _ (flag_near n s at i 3) (λ d v.
      near_then n (flag_at s at 4) _ (flag_near n s at i 4) (λ e w.
      near_then n (plain_at s at 5) _ (plain_near n s at i 5) (λ f x. tt))))))

  code_near : (b : Bool) (at : ℕ) → at + 1 ≤ n → Near n (diagnostics.code_at b s at)
  unfolding diagnostics.code_at
  code_near false at i = tt
  code_near true at i =
      near_then n (pad_at s at 6) _ (pad_near n s at (omega arith) 6) (λ a q.
      near_then n (number_at 1 s (at + 1)) _ (number_near n s (at + 1) i 1) (λ b r. tt))

  code_ends : (b : Bool) (at : ℕ) {x : Option ℕ} → at ≤ n → Ok x ≡ diagnostics.code_at b s at → at + diagnostics.after b 10 6 / 8 ≤ n
  unfolding diagnostics.code_at
  code_ends false at i q = omega arith
  code_ends true at i q =
      let a = then_got (pad_at s at 6) _ q in
      let b = then_got (number_at 1 s (at + 1)) _ a.2 in
      let h = (number_got s (at + 1) 1 b.1).0 in
      omega arith

  pair_near : (k : ℕ) (b : Bool) (at p : ℕ) → at + p / 8 ≤ n → Near n (diagnostics.maybe_at k b s at p)
  unfolding diagnostics.maybe_at
  pair_near k false at p i = tt
  pair_near k true at p i = near_then n (choice_at k 2 s (at + p / 8) p) _ (choice_near n s (at + p / 8) i k 2 p) (λ v q. tt)

  pair_ends : (k : ℕ) (b : Bool) (at p : ℕ) {x : Option ℕ} → at + p / 8 ≤ n → Ok x ≡ diagnostics.maybe_at k b s at p → at + diagnostics.after b 2 p / 8 ≤ n
  unfolding diagnostics.maybe_at
  pair_ends k false at p i q = i
  pair_ends k true at p i q =
      let a = then_got (choice_at k 2 s (at + p / 8) p) _ q in
      let h = (choice_got s (at + p / 8) k 2 p a.1).0 in
      omega arith

  pad_ends : (at p : ℕ) → at + p / 8 ≤ n → Ok tt ≡ pad_at s (at + p / 8) p → at + (p + 7) / 8 ≤ n
  pad_ends at p i q = by (eqb (p % 8) 0) refl
    where
      by : (b : Bool) → eqb (p % 8) 0 ≡ b → at + (p + 7) / 8 ≤ n
      by true e = let z = eqb-true (p % 8) 0 e in omega arith
      by false e = let h = (pad_got s (at + p / 8) p (eqb-false (p % 8) 0 e) q).0 in omega arith

  head_near : (k at : ℕ) → at ≤ n → Near n (diagnostics.head_at k s at)
  unfolding diagnostics.head_at
  head_near k at i =
      near_then n (diagnostics.marks_at s at) _ (bits_near at i) (λ m q. let h = bounds.marks_in_lem s at q in
      near_then n (diagnostics.code_at m.code s at) _ (code_near m.code at (omega arith)) (λ c r. let a = code_ends m.code at i r in
      near_then n (diagnostics.maybe_at k m.trigger s at (diagnostics.behind_code m)) _ (pair_near k m.trigger at (diagnostics.behind_code m) a) (λ t u.
      let b = pair_ends k m.trigger at (diagnostics.behind_code m) a u in
      near_then n (diagnostics.maybe_at 3 m.crit s at (diagnostics.behind_trigger m)) _ (pair_near 3 m.crit at (diagnostics.behind_trigger m) b) (λ x v.
      let d = pair_ends 3 m.crit at (diagnostics.behind_trigger m) b v in
      near_then n (pad_at s (at + diagnostics.behind_crit m / 8) (diagnostics.behind_crit m)) _
      (pad_near n s (at + diagnostics.behind_crit m / 8) d (diagnostics.behind_crit m)) (λ e w. tt)))))

  head_ends : (k at : ℕ) (p : Part Head) → at ≤ n → Ok p ≡ diagnostics.head_at k s at → p.next ≤ n
  unfolding diagnostics.head_at
  head_ends k at p i q =
      let a = then_got (diagnostics.marks_at s at) _ q in
      let m : Marks = a.0 in
      let b = then_got (diagnostics.code_at m.code s at) _ a.2 in
      let c = then_got (diagnostics.maybe_at k m.trigger s at (diagnostics.behind_code m)) _ b.2 in
      let d = then_got (diagnostics.maybe_at 3 m.crit s at (diagnostics.behind_trigger m)) _ c.2 in
      let e = then_got (pad_at s (at + diagnostics.behind_crit m / 8) (diagnostics.behind_crit m)) _ d.2 in
      let f = code_ends m.code at i b.1 in
      let g = pair_ends k m.trigger at (diagnostics.behind_code m) f c.1 in
      let h = pair_ends 3 m.crit at (diagnostics.behind_trigger m) g d.1 in
      let z : p.next ≡ at + (diagnostics.behind_crit m + 7) / 8 = ap (λ (x : Part Head). x.next) (same_got e.2) in
      subst (λ (x : ℕ). x ≤ n) (sym z) (pad_ends at (diagnostics.behind_crit m) h e.1)

  crit_near : (at b : ℕ) → at ≤ n → Near n (entries.crit_at s at b)
  unfolding entries.crit_at
  crit_near at b i =
      near_then n (plain_at s at b) _ (plain_near n s at i b) (λ a q.
      near_then n (plain_at s at (b + 1)) _ (plain_near n s at i (b + 1)) (λ c r.
      near_then n (choice_at 3 2 s at (b + 2)) _ (choice_near n s at i 3 2 (b + 2)) (λ d u.
      near_then n (pad_at s at (b + 4)) _ (pad_near n s at i (b + 4)) (λ e v. tt))))

  entry_near : (from at : ℕ) → at ≤ n → Near n (entries.entry_at s from at)
  unfolding entries.entry_at
  entry_near from at i =
      near_then n (entries.crit_at s at (entries.begins from at)) _ (crit_near at (entries.begins from at) i) (λ a q.
      let h = entry_bounds.crit_in s at (entries.begins from at) q in
      near_then n (number_at 2 s (at + 1)) _ (number_near n s (at + 1) (omega arith) 2) (λ b r. let k = (number_got s (at + 1) 2 r).0 in
      near_then n (plain_at s (at + 3) 0) _ (plain_near n s (at + 3) (omega arith) 0) (λ c u.
      near_then n (choice_at 2 1 s (at + 3) 1) _ (choice_near n s (at + 3) (omega arith) 2 1 1) (λ d v. tt))))

  entry_ends : (from at : ℕ) (p : Part Entry) → Ok p ≡ entries.entry_at s from at → p.next ≤ n
  unfolding entries.entry_at
  entry_ends from at p q =
      let a = then_got (entries.crit_at s at (entries.begins from at)) _ q in
      let b = then_got (number_at 2 s (at + 1)) _ a.2 in
      let c = then_got (plain_at s (at + 3) 0) _ b.2 in
      let d = then_got (choice_at 2 1 s (at + 3) 1) _ c.2 in
      let h = (plain_got s (at + 3) 0 c.1).0 in
      let z : p.next ≡ at + 3 = ap (λ (x : Part Entry). x.next) (same_got d.2) in
      omega arith

  entries_near : (k at : ℕ) → at ≤ n → Near n (entries.entries_at k s at)
  unfolding entries.entries_at
  entries_near k at i =
      near_then n (many (entries.entry_at s at) k at) _ (many_near n (entries.entry_at s at) (entry_near at) (entry_ends at) k at i) (λ es q.
      let j = many_ends n (entries.entry_at s at) (entry_ends at) k at es i q in
      near_then n (pad_at s es.next 2) _ (pad_near n s es.next j 2) (λ a r. let h = (pad_got s es.next 2 (λ e. omega arith) r).0 in
      near_then n (ends_at s (es.next + 1)) _ (ends_near n s (es.next + 1) (omega arith)) (λ b u. tt)))

  list_near : (at : ℕ) → at ≤ n → Near n (entries.list_at s at)
  unfolding entries.list_at
  list_near at i =
      near_then n (number_at 1 s at) _ (number_near n s at i 1) (λ k q. let h = (number_got s at 1 q).0 in entries_near (k + 1) (at + 1) (omega arith))

  maybe_list_near : (b : Bool) (at : ℕ) → at ≤ n → Near n (entries.maybe_list_at b s at)
  maybe_list_near false at i = near_then n (ends_at s at) _ (ends_near n s at i) (λ a q. tt)
  maybe_list_near true at i = list_near at i

  diagnostics_near : (k at : ℕ) → at ≤ n → Near n (diagnostics.diagnostics_at k s at)
  unfolding diagnostics.diagnostics_at
  diagnostics_near k at i =
      near_then n (diagnostics.head_at k s at) _ (head_near k at i) (λ h q. let j = head_ends k at h i q in
      near_then n (entries.maybe_list_at h.value.listed s h.next) _ (maybe_list_near h.value.listed h.next j) (λ es r. tt))

-- ---- elements

module _ (n : ℕ) (s : List ℕ) (l : length s ≤ n) where
  value_near : (k : Kind) (at : ℕ) → at ≤ n → Near n (legible_at k s at)
  unfolding legible_at
  value_near kind.Carried at i = tt
  value_near kind.Mme at i = near_then n (mme_at s at) _ (identity_near n s l at i (λ v. record { 0 = v })) (λ v q. tt)
  value_near kind.Mce at i = near_then n (mce_at s at) _ (identity_near n s l at i (λ v. record { 0 = v })) (λ v q. tt)
  value_near kind.Tmgi at i = near_then n (tmgi_at s at) _ (tmgi_near n s l at i) (λ v q. tt)
  value_near kind.OneOctet at i = near_then n (one_at s at) _ (one_near n s l at i) (λ v q. tt)
  value_near kind.TwoOctets at i = near_then n (two_at s at) _ (two_near n s l at i) (λ v q. tt)
  value_near kind.Cause at i = near_then n (cause_at s at) _ (cause_near n s l at i) (λ v q. tt)
  value_near kind.Wait at i = near_then n (wait_at s at) _ (wait_near n s l at i) (λ v q. tt)
  value_near kind.Name at i = near_then n (name_at s at) _ (name_near n s l at i) (λ v q. tt)
  value_near kind.ResetType at i = near_then n (items.reset_at s at) _ (reset_near n s l at i) (λ v q. tt)
  value_near kind.Acknowledged at i = near_then n (items.items_at s at) _ (items_near n s l at i) (λ v q. tt)
  value_near (kind.Diagnostics t) at i = near_then n (diagnostics.diagnostics_at (meanings t) s at) _ (diagnostics_near n s l (meanings t) at i) (λ v q. tt)

  criticality_near : (at : ℕ) → at ≤ n → Near n (criticality_at s at)
  unfolding criticality_at
  criticality_near at i =
      near_then n (choice_at 3 2 s at 0) _ (choice_near n s at i 3 2 0) (λ c q. near_then n (pad_at s at 2) _ (pad_near n s at i 2) (λ a r. tt))

  criticality_in : (at : ℕ) {c : ℕ} → Ok c ≡ criticality_at s at → at + 1 ≤ n
  unfolding criticality_at
  criticality_in at q = let a = then_got (choice_at 3 2 s at 0) _ q in let h = (choice_got s at 3 2 0 a.1).0 in omega arith

  envelope_near : (at : ℕ) → at ≤ n → Near n (envelope_at s at)
  unfolding envelope_at
  envelope_near at i =
      near_then n (number_at 2 s at) _ (number_near n s at i 2) (λ a q. let h = (number_got s at 2 q).0 in
      near_then n (criticality_at s (at + 2)) _ (criticality_near (at + 2) (omega arith)) (λ c r. let k = criticality_in (at + 2) r in
      near_then n (open_at s (at + 3)) _ (open_near n s (at + 3) (omega arith)) (λ v u. tt)))

module _ (n : ℕ) (s : List ℕ) (l : length s ≤ n) (t : List Row) where
  scan_near : (k at : ℕ) → at ≤ n → Near n (scan_at t s k at)
  unfolding scan_at
  scan_near zero at i = tt
  scan_near (suc k) at i =
      near_then n (envelope_at s at) _ (envelope_near n s l at i) (λ h q. let e = envelope_in s at q in let f = e.1 in let g = e.2 in
      near_then n (legible_at (kind_of t h.id) (take h.value.to s) h.value.from) _
      (value_near n (take h.value.to s) (cut_short_lem n s h.value.to l) (kind_of t h.id) h.value.from (omega arith)) (λ a r.
      scan_near k h.value.to (omega arith)))

  -- and they end inside
  scan_in : (k at : ℕ) {end : ℕ} → at ≤ n → Ok end ≡ scan_at t s k at → end ≤ n
  unfolding scan_at
  scan_in zero at i q = rw (← same_got q) at i
  scan_in (suc k) at i q =
      let a = then_got (envelope_at s at) _ q in
      let b = then_got (legible_at (kind_of t a.0.id) (take a.0.value.to s) a.0.value.from) _ a.2 in
      let e = (envelope_in s at a.1).2 in
      scan_in k a.0.value.to (omega arith) b.2

module _ (n : ℕ) (s : List ℕ) (l : length s ≤ n) where
  extensions_near : (c : Bool) (at : ℕ) → at ≤ n → Near n (extensions_at c s at)
  unfolding extensions_at
  extensions_near false at i = near_then n (ends_at s at) _ (ends_near n s at i) (λ a q. tt)
  extensions_near true at i =
      near_then n (below_at 65535 s at) _ (below_near n s at i 65535) (λ k q. let h = (below_got s at 65535 q).0 in
      near_then n (scan_at [] s (k + 1) (at + 2)) _ (scan_near n s l [] (k + 1) (at + 2) (omega arith)) (λ end r. let j = scan_in n s l [] (k + 1) (at + 2) (omega arith) r in
      near_then n (ends_at s end) _ (ends_near n s end j) (λ a u. tt)))

  elements_near : (t : List Row) (c : Bool) (k at : ℕ) → at ≤ n → Near n (elements_at t c s k at)
  unfolding elements_at
  elements_near t c k at i =
      near_then n (extensions_behind t c s k at) _
      (near_then n (scan_at t s k at) _ (scan_near n s l t k at i) (λ end q. extensions_near c end (scan_in n s l t k at i q))) (λ a q. tt)

-- ---- messages

module _ (n : ℕ) (s : List ℕ) (l : length s ≤ n) where
  kind_near : Near n (kind_at s)
  unfolding kind_at
  kind_near =
      near_then n (plain_at s 0 0) _ (plain_near n s 0 (omega arith) 0) (λ a q.
      near_then n (choice_at 3 2 s 0 1) _ (choice_near n s 0 (omega arith) 3 2 1) (λ b r.
      near_then n (pad_at s 0 3) _ (pad_near n s 0 (omega arith) 3) (λ c u. tt)))

  kind_in : {k : ℕ} → Ok k ≡ kind_at s → 1 ≤ n
  unfolding kind_at
  kind_in q = let a = then_got (plain_at s 0 0) _ q in let h = (plain_got s 0 0 a.1).0 in omega arith

  pub frame_near : Near n (frame_at s)
  unfolding frame_at
  frame_near =
      near_then n (kind_at s) _ kind_near (λ k q. let h = kind_in q in
      near_then n (number_at 1 s 1) _ (number_near n s 1 h 1) (λ c r. let i = (number_got s 1 1 r).0 in
      near_then n (criticality_at s 2) _ (criticality_near n s l 2 (omega arith)) (λ d u. let j = criticality_in n s l 2 u in
      near_then n (open_at s 3) _ (open_near n s 3 (omega arith)) (λ v w. let o = (open_in s 3 w).2 in
      near_then n (ends_at s v.to) _ (ends_near n s v.to (omega arith)) (λ e x. tt)))))

  -- what is inside the frame begins inside
  pub frame_in : {f : Frame} → Ok f ≡ frame_at s → f.from ≤ n
  unfolding frame_at
  frame_in {f} q =
      let a = then_got (kind_at s) _ q in
      let b = then_got (number_at 1 s 1) _ a.2 in
      let c = then_got (criticality_at s 2) _ b.2 in
      let d = then_got (open_at s 3) _ c.2 in
      let e = then_got (ends_at s d.0.to) _ d.2 in
      let o = open_in s 3 d.1 in
      let x = o.1 in
      let y = o.2 in
      let z : f.from ≡ d.0.from = ap (λ (g : Frame). g.from) (same_got e.2) in
      omega arith

  container_near : (c : Bool) (at : ℕ) → at ≤ n → Near n (container_at c s at)
  unfolding container_at
  container_near false at i = tt
  container_near true at i = flag_near n s at i 1

  count_near : (c : Bool) (at : ℕ) → at ≤ n → Near n (count_at c s at)
  unfolding count_at
  count_near c at i =
      near_then n (plain_at s at 0) _ (plain_near n s at i 0) (λ a q. let h = (plain_got s at 0 q).0 in
      near_then n (container_at c s at) _ (container_near c at i) (λ x z.
      near_then n (pad_at s at (pick c 2 1)) _ (pad_near n s at i (pick c 2 1)) (λ b r.
      near_then n (number_at 2 s (at + 1)) _ (number_near n s (at + 1) (omega arith) 2) (λ k u. tt))))

  count_in : (c : Bool) (at : ℕ) {k : Count} → Ok k ≡ count_at c s at → at + 3 ≤ n
  unfolding count_at
  count_in c at q =
      let a = then_got (plain_at s at 0) _ q in
      let x = then_got (container_at c s at) _ a.2 in
      let b = then_got (pad_at s at (pick c 2 1)) _ x.2 in
      let h = (number_got s (at + 1) 2 (then_got (number_at 2 s (at + 1)) _ b.2).1).0 in
      omega arith

  pub opened_near : (t : List Row) (c : Bool) (from : ℕ) → from ≤ n → Near n (opened_at t c s from)
  unfolding opened_at
  opened_near t c from i =
      near_then n (count_at c s from) _ (count_near c from i) (λ k q. let h = count_in c from q in
      near_then n (elements_at t k.container s k.elements (from + 3)) _ (elements_near n s l t k.container k.elements (from + 3) h) (λ f r. tt))
