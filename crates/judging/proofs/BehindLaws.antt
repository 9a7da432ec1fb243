-- What stands behind the elements: nothing, or the extensions in a container, one after another.
--     follows_as, follows_stop, follows_got, follows_none   what is the same; what cannot be read; what was read; nothing
--     stops_there, counted_there               what stands there, by what is handed back
--     Passing, passing-*                       the extensions passed are counted, and what is left
-- Assumes nothing.
use mathlib.Core.Path.{◌≡◌, ◌∙◌, refl, sym, ap, subst}
use mathlib.Core.Bool.{false}
use mathlib.Core.List.{List, [], ◌∷◌, ◌++◌, append-nil, append_assoc}
use Prim.Native.Nat.{ℕ, ◌-◌}
use Rattle.std.specs.Prelude.{Ok, Err}
use Rattle.octets.specs.Read.{Read}
use Rattle.octets.specs.Field.{ends_at}
use Rattle.octets.specs.declared.Stop.{Stop}
use Rattle.octets.proofs.Chain.{past, halt, same_got, got_stop}
use Rattle.kinds.proofs.Laws.{carried}
use Rattle.entries.specs.declared.Entry.{Entry}
use Rattle.rows.specs.Table.{find}
use Rattle.envelopes.specs.declared.Head.{Head}
use Rattle.envelopes.specs.Envelope.{envelope_at, scan_at, heads_at}
use Rattle.envelopes.proofs.ScanLaws.{scan_none, scan_cut, scan_more, heads_none, heads_one}
use Rattle.elements.specs.Judge.{unknown_of, counted_extensions_at, extensions_at}
use Rattle.elements.proofs.WalkLaws.{unknown_snoc}
use Rattle.judging.specs.declared.Tally.{Tally}
use Rattle.judging.specs.Judging.{tally_of, tallied, CountedBehind, Follows}
use Rattle.judging.proofs.TallyLaws.{none_more, tally_more}

module _ (x : Read (List Head)) (before : Tally) where
  pub follows_as : (r : Read Tally) {y : Read (List Head)} → x ≡ y → Follows x before r → Follows y before r
  follows_as r q p = subst (λ (z : Read (List Head)). Follows z before r) q p

  pub follows_stop : {y : Stop} → Err y ≡ x → Follows x before (Err y)
  follows_stop {y} q = subst (λ (z : Read (List Head)). Follows z before (Err y)) q refl

  pub follows_got : {xs : List Head} {after : Tally} → Ok xs ≡ x → CountedBehind (unknown_of [] xs) before after → Follows x before (Ok after)
  follows_got {after = after} q p = subst (λ (z : Read (List Head)). Follows z before (Ok after)) q (after, refl, p)

-- and what is known of what stands there, by what is handed back
pub stops_there : (x : Read (List Head)) (before : Tally) {y : Stop} → Follows x before (Err y) → Err y ≡ x
stops_there (Ok xs) before p = got_stop (sym p.1)
stops_there (Err z) before p = by p
  where
    by : {y : Stop} → ◌≡◌ {A = Read Tally} (Err y) (Err z) → ◌≡◌ {A = Read (List Head)} (Err y) (Err z)
    by q = cc

pub counted_there : (x : Read (List Head)) {before after : Tally} → Follows x before (Ok after) → (xs : List Head) × (Ok xs ≡ x) × CountedBehind (unknown_of [] xs) before after
counted_there (Ok xs) {before} p = (xs, refl, subst (λ (z : Tally). CountedBehind (unknown_of [] xs) before z) (sym (same_got p.1)) p.2)
counted_there (Err z) p = got_stop p

pub follows_none : (s : List ℕ) (at : ℕ) (before : Tally) → Ok tt ≡ ends_at s at → Follows (extensions_at false s at) before (Ok before)
unfolding extensions_at unknown_of
follows_none s at before q = follows_got _ _ (past _ tt q refl) (none_more refl)

-- ---- extensions

pub record Passing (s : List ℕ) (n from : ℕ) (before : Tally) (left at : ℕ) (tally : Tally) : Type 0 where
  pub done : List Head
  pub heads : done ++ heads_at s left at ≡ heads_at s n from
  pub faults : scan_at [] s left at ≡ scan_at [] s n from
  pub counted : CountedBehind (unknown_of [] done) before tally

pub passing_start : (s : List ℕ) (n from : ℕ) (before : Tally) → Passing s n from before n from before
unfolding unknown_of
passing_start s n from before = record { done = []; heads = refl; faults = refl; counted = none_more refl }

module _ {s : List ℕ} {n from : ℕ} {before : Tally} {left at : ℕ} {tally : Tally} (p : Passing s n from before left at tally) where
  pub passing_cut : (left ≡ 0 → ⊥) → {y : Stop} → Err y ≡ envelope_at s at → Follows (counted_extensions_at s n from) before (Err y)
  passing_cut a q = follows_stop _ _ (halt _ (scan_cut [] s left at a q ∙ p.faults))

  pub passing_more : (left ≡ 0 → ⊥) → (h : Head) → Ok h ≡ envelope_at s at → Passing s n from before (left - 1) h.value.to (tallied tally h.crit)
  unfolding find
  passing_more a h q =
      let d = p.done in
      record {
        done = d ++ h ∷ [];
        heads = append_assoc d (h ∷ []) _ ∙ (ap (λ (x : List Head). d ++ x) (sym (heads_one [] s left at a h q)) ∙ p.heads);
        faults = scan_more [] s left at a h q (carried _ _) ∙ p.faults;
        counted = λ es e.
            tally_more tally (es ++ unknown_of [] d) (p.counted es e) (record { crit = h.crit; id = h.id; error = 0 })
            ∙ ap tally_of (append_assoc es (unknown_of [] d) _ ∙ ap (λ (xs : List Entry). es ++ xs) (sym (unknown_snoc [] d h)));
      }

  module _ (e : left ≡ 0) where
    all : heads_at s n from ≡ p.done
    all = sym p.heads ∙ (ap (λ (x : List Head). p.done ++ x) (heads_none [] s left at e) ∙ append-nil p.done)

    ends : Ok at ≡ scan_at [] s n from
    ends = scan_none [] s left at e ∙ p.faults

    pub passing_left : {y : Stop} → Err y ≡ ends_at s at → Follows (counted_extensions_at s n from) before (Err y)
    passing_left q = follows_stop _ _ (past _ at ends (halt _ q))

    pub passing_all : Ok tt ≡ ends_at s at → Follows (counted_extensions_at s n from) before (Ok tally)
    passing_all q = follows_got _ _ (past _ at ends (past _ tt q (ap Ok (sym all)))) p.counted
