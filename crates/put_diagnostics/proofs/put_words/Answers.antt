-- `put_diagnostics::put_words` meets its contract: the loop has written the entries up to the type of error of the last, which waits in the octet that has begun.
-- Assumes nothing.
use mathlib.Core.List.{List, [], ◌∷◌, ◌++◌, map}
use mathlib.Core.Path.{◌≡◌, ◌∙◌, ap, sym, refl}
use Prim.Native.Nat.{◌-◌, ◌/◌, ◌%◌, ℕ}
use native.Mathlib.Omega.{arith}
use lib.ListN.{get_or-map, length-map}
use Rattle.diagnostics.specs.Written.{entries_octets}
use Rattle.entry_words.specs.EntryWords.{entry_by}
use Rattle.octets.proofs.Writing.{wrote_length, wrote_then}
use Rattle.octets.specs.Write.{number_octets}
use Rattle.put_diagnostics.proofs.Putting.{listing_all, listing_more, listing_none, wrote_as}
use Rattle.put_diagnostics.proofs.put_words.Goals as goal

-- the octet of a count says it less 1
count_said : (n : ℕ) {r : ℕ} → r ≡ (n - 1) % 256 → r ∷ [] ≡ number_octets 1 (n - 1)
unfolding number_octets
count_said n q = let a : (n - 1) / 1 % 256 ≡ (n - 1) % 256 = omega arith in rw (q, a) refl

pub loop-w-init : goal.loop-w-init
loop-w-init c = listing_none _ _ _ (omega (arith, c.put_octet-next.ensures.next, wrote_length c.put_octet-next.ensures))

pub loop-w-preserved : goal.loop-w-preserved
loop-w-preserved c = let ws = c.args.words.now in
    let l = c.loop-w in
    let n = length-map ws entry_by in
    rw c.with_bits.ensures (listing_more _ _ _ l.invariant (entry_by 0) c.entry_of-entry.result (c.entry_of-entry.ensures ∙ sym (get_or-map entry_by ws l.w-index 0)) (omega arith) c.put_entry-next.ensures)

pub returns : goal.returns
returns c = let ws = c.args.words.now in
    let n = length-map ws entry_by in
    wrote_as (ap (λ (ns : List ℕ). ns ++ entries_octets [] (map entry_by ws)) (count_said _ c.count_octet.ensures ∙ ap (λ (k : ℕ). number_octets 1 (k - 1)) (sym n)))
    (wrote_then c.put_octet-next.ensures (listing_all _ _ _ c.loop-w.invariant (omega arith) c.put_octet.ensures))
