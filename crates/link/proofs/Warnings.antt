-- Warnings over SBc-AP: the theorems of reading and writing, of two more editions. No table of theirs has a name, so no name is refused (nameless).
-- Assumes nothing.
use Rattle.std.specs.Prelude.{None, Option, Some}
use Prim.Native.Nat.{ℕ, suc}
use mathlib.Core.Path.{◌≡◌, refl}
use mathlib.Core.Bool.{Bool, true, false, not, ◌||◌}
use mathlib.Core.List.{List, [], ◌∷◌, map}
use native.Mathlib.Omega.{arith}
use borrow.Author.Tests.{not-true}
use lib.Dec.{ltb, leb, eqb}
use lib.ListN.{length, drop, get_or}
use Rattle.lists.specs.Lists.{pick, some}
use Rattle.lists.proofs.Tests.{or_left, or_right, on-pick}
use Rattle.octets.specs.declared.Span.{Span}
use Rattle.rows.specs.declared.Kind.{Kind}
use Rattle.rows.specs.declared.Kind.TheVariants as kind
use Rattle.rows.specs.declared.Row.{Row}
use Rattle.rows.specs.Table.{find}
use Rattle.elements.proofs.ExtensionLaws.{no_row_is_theirs, extensions_judged}
use Rattle.editions.specs.declared.Edition.{Edition}
use Rattle.editions.specs.declared.Edition.TheVariants.{Warnings, WarningsLab}
use Rattle.editions.specs.declared.Message.{Message}
use Rattle.editions.specs.Editions.{printed, table_of, messages_of, numbered_by}
use Rattle.editions.proofs.Names.{numbered_listed}
use Rattle.lists.proofs.Some.{none_at}
use Rattle.meaning.specs.Value.{Given, on_carried, on_given, octets_in, said_by}
use Rattle.meaning.specs.Written.{Encoded, octets, none}
use Rattle.layout.specs.Record.{Lists, slot_says, slots_say, lists_in, record_octets, said_record, LentRecord, lent_as, read_record, bad_name, name_refused_by, name_refused, written}
use Rattle.lent.specs.Lent.{same}
use Rattle.plan.specs.Written.{Writing, written_in}
use Rattle.link.specs.Link.{written_as, allowed_for, write_for}
use Rattle.link.specs.Warnings.{Profile, OnlyTwo, OverSbcap}
use Rattle.link.proofs.Again.{over_records}
use Rattle.link.proofs.ReadsAs.{reads_as}

-- ---- no name

abbrev is_name : Kind → Bool
is_name kind.Name = true
is_name kind.Carried = false
is_name kind.Mme = false
is_name kind.Mce = false
is_name kind.Tmgi = false
is_name kind.OneOctet = false
is_name kind.TwoOctets = false
is_name kind.Cause = false
is_name kind.Wait = false
is_name kind.ResetType = false
is_name kind.Acknowledged = false
is_name (kind.Diagnostics t) = false

abbrev named_row : Row → Bool
named_row r = is_name r.kind

module _ (l : Lists) (values : List ℕ) where
  other_good : (k : Kind) (p : List ℕ) → is_name k ≡ false → bad_name (on_given (octets_in values) (Given.given (slot_says l k p))) ≡ false
  unfolding slot_says on_carried
  other_good kind.Name p q = absurd (let z : ◌≡◌ {A = ℕ} 0 1 = cc in omega arith)
  other_good kind.Carried p q = refl
  other_good kind.Mme p q = refl
  other_good kind.Mce p q = refl
  other_good kind.Tmgi p q = refl
  other_good kind.OneOctet p q = refl
  other_good kind.TwoOctets p q = refl
  other_good kind.Cause p q = refl
  other_good kind.Wait p q = refl
  other_good kind.ResetType p q = refl
  other_good kind.Acknowledged p q = refl
  other_good (kind.Diagnostics t) p q = refl

  slots_good_lem : (t : List Row) (p : List ℕ) → some named_row t ≡ false → some bad_name (map (on_given (octets_in values)) (slots_say l t p)) ≡ false
  unfolding slots_say
  slots_good_lem [] p q = refl
  slots_good_lem (r ∷ t) p q =
      rw (on-pick (λ (g : Given Span). bad_name (on_given (octets_in values) g) ≡ false) (eqb (get_or p 0 0) 0) refl (other_good r.kind p (or_left (named_row r) (some named_row t) q)))
      (slots_good_lem t (drop 8 p) (or_right (named_row r) (some named_row t) q))

abbrev no_names : Edition → Bool
no_names k = not (some (λ (m : Message). some named_row (table_of k m)) (messages_of k))

never_refused : (k : Edition) → no_names k ≡ true → (s values : List ℕ) → name_refused k s values ≡ false
unfolding name_refused read_record said_record said_by
never_refused k q s values = by (numbered_by k (get_or s 0 0)) refl
  where
    by : (n : Option Message) → numbered_by k (get_or s 0 0) ≡ n → name_refused_by values (lent_as k s n) ≡ false
    by (Some m) e =
        on-pick (λ (x : LentRecord). name_refused_by values x ≡ false) (same (record_octets k (said_record k m s)) s)
        (slots_good_lem (lists_in s) values (table_of k m) (drop 2 s) (none_at (λ (m : Message). some named_row (table_of k m)) (numbered_listed k (get_or s 0 0) m e) (not-true _ q))) refl
    by None e = refl

not_twelve : (d : List ℕ) (x : Encoded) → (written_as (written_in d x)).answer.answer ≡ 12 → ⊥
unfolding written_in
not_twelve d none q = omega arith
not_twelve d (octets os) q = on-pick (λ (w : Writing). (written_as w).answer.answer ≡ 12 → ⊥) (leb (length os) (length d)) (λ q. omega arith) (λ q. omega arith) q

profile : (k : Edition) → no_names k ≡ true → Profile k
unfolding write_for allowed_for
profile k q = record {
  reads = reads_as k;
  again = over_records k;
  nameless = λ s values d e. not_twelve d (written k s values) (rw (never_refused k q s values) at e);
}

-- ---- the lab profile

only_two : OnlyTwo
unfolding printed find
only_two = record { request = λ id. by (eqb 5 id) (eqb 11 id); response = refl; indication = refl }
  where
    by : (a b : Bool) → ltb (pick a 0 (suc (pick b 0 1))) 2 ≡ (a || b)
    by true b = refl
    by false true = refl
    by false false = refl

pub over_sbcap : OverSbcap
unfolding printed
over_sbcap = record { ordinary = profile Warnings refl; lab = profile WarningsLab refl; extensions = no_row_is_theirs; judged = extensions_judged; only_two = only_two }
