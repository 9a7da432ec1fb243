-- A message of an edition is named by its own frame and by its own number, and by no other: frames and numbers of an edition are apart, by computing.
--     code_names, number_names      forth;   named_code, numbered_number   back
--     named_listed, numbered_listed what is named is a message of the edition
--     bounds                        what the frame and the number fit in
-- Assumes nothing.
use Rattle.std.specs.Prelude.{Some}
use Prim.Native.Nat.{ℕ, ◌<◌}
use mathlib.Core.Path.{◌≡◌, refl, subst}
use mathlib.Core.Bool.{Bool, true, false, not, ◌&&◌}
use mathlib.Core.List.{List, [], ◌∷◌, Memᴰ}
use native.Mathlib.Omega.{arith}
use borrow.Author.Tests.{eq-eqb, eqb-true, ltb-true, not-true}
use lib.Dec.{ltb, eqb}
use Rattle.lists.specs.Lists.{pick, some, apart}
use Rattle.lists.proofs.Some.{none_at}
use Rattle.lists.proofs.Tests.{and_left, and_right}
use Rattle.editions.specs.declared.Edition.{Edition}
use Rattle.editions.specs.declared.Edition.TheVariants.{Release18, Warnings, WarningsLab}
use Rattle.editions.specs.declared.Message.{Message}
use Rattle.editions.specs.Editions.{printed, messages_of, code_of, number_of, of_m3ap, first_of, named_by, numbered_by}
use Rattle.editions.proofs.Listed.{all_messages, first_listed, every}

-- the first that passes passes
first_passes : (p : Message → Bool) (m : Message) (ms : List Message) → Some m ≡ first_of p ms → p m ≡ true
unfolding first_of
first_passes p m [] q = let z : ◌≡◌ {A = ℕ} 0 1 = cc in absurd (omega arith)
first_passes p m (x ∷ ms) q = by (p x) refl (first_passes p m ms) q
  where
    by : (b : Bool) → p x ≡ b → (Some m ≡ first_of p ms → p m ≡ true) → Some m ≡ pick b (Some x) (first_of p ms) → p m ≡ true
    by true e go q = let h : x ≡ m = cc in subst (λ (y : Message). p y ≡ true) h e
    by false e go q = go q

-- of messages that are apart, the first that is like one is that one
first_alike : (alike : Message → Message → Bool) (m : Message) → alike m m ≡ true → {ms : List Message} → Memᴰ m ms
    → apart (λ (x y : Message). alike y x) ms ≡ true → first_of (alike m) ms ≡ Some m
unfolding first_of
first_alike alike m self (Memᴰ.head h) e = rw (← h, self)
first_alike alike m self (Memᴰ.tail {x = x} {xs = xs} d) e =
    let others : some (λ (y : Message). alike y x) xs ≡ false = not-true _ (and_left (not (some (λ (y : Message). alike y x) xs)) _ e) in
    rw (none_at (λ (y : Message). alike y x) d others) (first_alike alike m self d (and_right (not (some (λ (y : Message). alike y x) xs)) _ e))

abbrev same_code : Edition → Message → Message → Bool
same_code e m x = eqb (code_of e m).kind (code_of e x).kind && eqb (code_of e m).code (code_of e x).code

codes_apart : (e : Edition) → apart (λ (x y : Message). same_code e y x) (messages_of e) ≡ true
unfolding printed
codes_apart Release18 = refl
codes_apart Warnings = refl
codes_apart WarningsLab = refl

pub code_names : (e : Edition) (m : Message) → Memᴰ m (messages_of e) → named_by e (code_of e m).kind (code_of e m).code ≡ Some m
unfolding named_by
code_names e m d = first_alike (same_code e) m (rw (eq-eqb (code_of e m).kind _ refl, eq-eqb (code_of e m).code _ refl)) d (codes_apart e)

abbrev same_number : Edition → Message → Message → Bool
same_number e m x = eqb (number_of e m) (number_of e x)

numbers_apart : (e : Edition) → apart (λ (x y : Message). same_number e y x) (messages_of e) ≡ true
unfolding printed
numbers_apart Release18 = refl
numbers_apart Warnings = refl
numbers_apart WarningsLab = refl

pub number_names : (e : Edition) (m : Message) → Memᴰ m (messages_of e) → numbered_by e (number_of e m) ≡ Some m
unfolding numbered_by
number_names e m d = first_alike (same_number e) m (eq-eqb (number_of e m) _ refl) d (numbers_apart e)

pub named_listed : (e : Edition) (kind code : ℕ) (m : Message) → named_by e kind code ≡ Some m → Memᴰ m (messages_of e)
unfolding named_by
named_listed e kind code m q = first_listed (λ (x : Message). eqb kind (code_of e x).kind && eqb code (code_of e x).code) m (messages_of e) q

pub numbered_listed : (e : Edition) (n : ℕ) (m : Message) → numbered_by e n ≡ Some m → Memᴰ m (messages_of e)
unfolding numbered_by
numbered_listed e n m q = first_listed (λ (x : Message). eqb n (number_of e x)) m (messages_of e) q

-- M3AP has one edition
pub only_m3ap : (e : Edition) → of_m3ap e ≡ true → Release18 ≡ e
only_m3ap Release18 k = refl
only_m3ap Warnings k = let z : ◌≡◌ {A = ℕ} 0 1 = cc in absurd (omega arith)
only_m3ap WarningsLab k = let z : ◌≡◌ {A = ℕ} 0 1 = cc in absurd (omega arith)

-- a message has the kind and the code by which it was named
pub named_code : (e : Edition) (kind code : ℕ) (m : Message) → Some m ≡ named_by e kind code → (kind ≡ (code_of e m).kind) × (code ≡ (code_of e m).code)
unfolding named_by
named_code e kind code m q =
    let h = first_passes (λ (x : Message). eqb kind (code_of e x).kind && eqb code (code_of e x).code) m (messages_of e) q in
    (eqb-true kind _ (and_left (eqb kind (code_of e m).kind) _ h), eqb-true code _ (and_right (eqb kind (code_of e m).kind) _ h))

-- and the number
pub numbered_number : (e : Edition) (n : ℕ) (m : Message) → Some m ≡ numbered_by e n → n ≡ number_of e m
unfolding numbered_by
numbered_number e n m q = eqb-true n _ (first_passes (λ (x : Message). eqb n (number_of e x)) m (messages_of e) q)

pub record Bounds (e : Edition) (m : Message) : Type 0 where
  pub kind : (code_of e m).kind < 3
  pub code : (code_of e m).code < 256
  pub crit : (code_of e m).crit < 3
  pub number : number_of e m < 256

-- the same as a test
abbrev bounded : Edition → Message → Bool
bounded e m = ltb (code_of e m).kind 3 && (ltb (code_of e m).code 256 && (ltb (code_of e m).crit 3 && ltb (number_of e m) 256))

all_bounded : (e : Edition) → some (λ (m : Message). not (bounded e m)) all_messages ≡ false
unfolding printed
all_bounded Release18 = refl
all_bounded Warnings = refl
all_bounded WarningsLab = refl

pub bounds : (e : Edition) (m : Message) → Bounds e m
bounds e m =
    let h = every (bounded e) (all_bounded e) m in
    let i = and_right (ltb (code_of e m).kind 3) _ h in
    let j = and_right (ltb (code_of e m).code 256) _ i in
    record {
      kind = ltb-true _ 3 (and_left (ltb (code_of e m).kind 3) _ h);
      code = ltb-true _ 256 (and_left (ltb (code_of e m).code 256) _ i);
      crit = ltb-true _ 3 (and_left (ltb (code_of e m).crit 3) _ j);
      number = ltb-true _ 256 (and_right (ltb (code_of e m).crit 3) _ j);
    }
