-- An extension is looked for among no rows, so each that is not to be ignored is listed as not understood, and no value is read from it.
--     no_row_is_theirs    which are listed
--     extensions_judged   what the judging makes of them
--     each_extension      they are elements of the message too: what holds of each element that octets can have holds of each of them
-- Assumes nothing.
use Prim.Native.Nat.{ℕ, ◌+◌}
use mathlib.Core.Path.{◌≡◌, refl, sym, ap, subst}
use mathlib.Core.Bool.{Bool, true, false, not}
use mathlib.Core.List.{List, [], ◌∷◌, ◌++◌, map, append-nil}
use borrow.Author.Tests.{eq-eqb, ne_eqb}
use lib.ListN.{length}
use Rattle.lists.specs.Lists.{pick, keep}
use Rattle.std.specs.Prelude.{Ok}
use Rattle.octets.specs.Field.{below_at, ends_at}
use Rattle.octets.specs.Many.{Each}
use Rattle.octets.proofs.Chain.{then_got, same_got}
use Rattle.entries.specs.declared.Entry.{Entry}
use Rattle.rows.specs.declared.Row.{Row}
use Rattle.rows.specs.Table.{find}
use Rattle.envelopes.specs.declared.Head.{Head}
use Rattle.envelopes.specs.Envelope.{scan_at, heads_at}
use Rattle.elements.specs.Judge.{front, read_of, ignored, unknown_of, missing_of, judged_of, extensions_at}
use Rattle.elements.specs.Extensions.{not_understood, ExtensionsJudged}

pub no_row_is_theirs : (xs : List Head) → unknown_of [] xs ≡ not_understood xs
unfolding unknown_of find
no_row_is_theirs [] = refl
no_row_is_theirs (h ∷ xs) = by (ignored h.crit) (no_row_is_theirs xs)
  where
    entry : Head → Entry
    entry h = record { crit = h.crit; id = h.id; error = 0 }

    kept' : List Head
    kept' = keep (λ (x : Head). not (ignored x.crit)) xs

    by : (b : Bool) → unknown_of [] xs ≡ map entry kept' → pick b [] (entry h ∷ []) ++ unknown_of [] xs ≡ map entry (pick (not b) (h ∷ []) [] ++ kept')
    by true e = e
    by false e = ap (λ (es : List Entry). entry h ∷ es) e

pub extensions_judged : (t : List Row) (n : ℕ) (hs xs : List Head) → ExtensionsJudged t n hs xs
unfolding judged_of
extensions_judged t n hs xs =
    let f : List Head = front t 0 hs in
    record {
      listed = λ q. rw (eq-eqb (length f) n q) (ap (λ (es : List Entry). unknown_of t f ++ (es ++ missing_of t (read_of t f))) (no_row_is_theirs xs));
      unseen = λ q. rw (ne_eqb (length f) n q) (append-nil (unknown_of t f));
      place = refl;
      spans = refl;
    }

module _ (P : Head → Type 0) (s : List ℕ) (each : (n at : ℕ) → Each P (heads_at s n at)) where
  pub each_extension : (container : Bool) (at : ℕ) {xs : List Head} → Ok xs ≡ extensions_at container s at → Each P xs
  unfolding extensions_at
  each_extension false at q = subst (Each P) (sym (same_got (then_got (ends_at s at) _ q).2)) tt
  each_extension true at q =
      let a = then_got (below_at 65535 s at) _ q in
      let b = then_got (scan_at [] s (a.0 + 1) (at + 2)) _ a.2 in
      subst (Each P) (sym (same_got (then_got (ends_at s b.0) _ b.2).2)) (each (a.0 + 1) (at + 2))
