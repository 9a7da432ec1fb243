-- What a gate tells of a reading, and what is known of words after a list was read: nothing was kept where reading stops, all of it where it does not.
--     same_gate, gate_then              a reading, and only whether it succeeds
--     number_in, in_list                what is known of a number that was read, and of a list whose gate is passed, by its number
--     wrote_some, -nothing, -known      what is put where all was read
--     taken_all                         the answer
-- Assumes nothing.
use mathlib.Core.Path.{◌≡◌, ◌∙◌, refl, sym, ap, subst}
use mathlib.Core.List.{List, map}
use Prim.Native.Nat.{ℕ, ◌+◌, ◌<◌}
use native.Mathlib.Omega.{arith}
use lib.ListN.{length}
use Rattle.std.specs.Prelude.{Ok, Err}
use Rattle.octets.specs.Read.{Read, ◌>>=◌, ◌>>◌, checked}
use Rattle.octets.specs.Field.{number_at, pad_at, ends_at}
use Rattle.octets.specs.Many.{many}
use Rattle.octets.specs.declared.Part.{Part}
use Rattle.octets.specs.Write.{Wrote}
use Rattle.octets.specs.declared.Stop.{Stop}
use Rattle.octets.proofs.Chain.{then_got, same_got}
use Rattle.octets.proofs.Got.{number_got}
use Rattle.octets.proofs.ManyLaws.{many_each}
use Rattle.entries.specs.declared.Entry.{Entry}
use Rattle.entries.specs.Entries.{entry_at, entries_at, list_at}
use Rattle.entry_words.specs.EntryWords.{entry_word, WroteIf, EntriesTaking}

-- ---- gates

-- what is made of a value does not matter
pub same_gate : {A B : Type 0} (x : Read A) (f : A → B) → checked x ≡ checked (x >>= λ a. Ok (f a))
same_gate (Ok a) f = refl
same_gate (Err x) f = refl

-- a gate at the end of a reading
pub gate_then : {A : Type 0} (x : Read Unit) (a : A) → x ≡ checked (x >> Ok a)
gate_then (Ok tt) a = refl
gate_then (Err x) a = refl

-- a number that was read is there
pub number_in : (s : List ℕ) (at : ℕ) {v : ℕ} → Ok v ≡ number_at 1 s at → at < length s
number_in s at q = omega (arith, (number_got s at 1 q).0)

-- ---- a list

pub in_list : (s : List ℕ) (at : ℕ) {v : ℕ} → Ok v ≡ number_at 1 s at → ◌≡◌ {A = Read Unit} (Ok tt) (checked (list_at s at))
    → (p : Part (List Entry)) × (Ok p ≡ many (entry_at s (at + 1)) (v + 1) (at + 1)) × (Ok p.value ≡ list_at s at) × (length p.value ≡ v + 1)
unfolding list_at entries_at
in_list s at {v} h c =
    let l = then_got (list_at s at) _ c in
    let a = then_got (number_at 1 s at) _ l.1 in
    let e : v ≡ a.0 = same_got (h ∙ sym a.1) in
    let b = then_got (many (entry_at s (at + 1)) (a.0 + 1) (at + 1)) _ a.2 in
    let d = then_got (pad_at s b.0.next 2) _ b.2 in
    let f = then_got (ends_at s (b.0.next + 1)) _ d.2 in
    let m : Ok b.0 ≡ many (entry_at s (at + 1)) (v + 1) (at + 1) = rw e b.1 in
    (b.0, m, sym f.2 ∙ l.1, (many_each (entry_at s (at + 1)) (λ (x : Entry). Unit) (λ at p q. tt) (v + 1) (at + 1) b.0 m).0)

-- ---- puts

module _ {A : Type 0} (put : A → List ℕ) {f : Read (Part A)} (l : List ℕ) (at : ℕ) (m : List ℕ) (r : ℕ) where
  pub wrote_some : {p : Part A} → Ok p ≡ f → Wrote l at (put p.value) m r → WroteIf put f l at m r
  wrote_some q w = subst (λ (y : Read (Part A)). WroteIf put y l at m r) q w

  pub wrote_nothing : {x : Stop} → Err x ≡ f → WroteIf put f l at m r
  wrote_nothing q = subst (λ (y : Read (Part A)). WroteIf put y l at m r) q tt

  pub wrote_known : {p : Part A} → Ok p ≡ f → WroteIf put f l at m r → Wrote l at (put p.value) m r
  wrote_known q w = subst (λ (y : Read (Part A)). WroteIf put y l at m r) (sym q) w

module _ {r : Read (List Entry)} (l : List ℕ) where
  pub taken_all : (es : List Entry) {m : List ℕ} {k n : ℕ} → Ok es ≡ r → length es ≡ n → Wrote l 0 (map entry_word es) m k → EntriesTaking r l (Ok n) m
  taken_all es {m} {k} {n} q h w = subst (λ (y : Read (List Entry)). EntriesTaking y l (Ok n) m) q (ap (λ (k : ℕ). Ok k) (sym h), w.octets)
