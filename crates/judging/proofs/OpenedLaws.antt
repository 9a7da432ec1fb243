-- What the walk found, and then the rows, as what is inside the frame.
--     count_in                  the elements begin inside
--     judges-*, opens-*         the answer, by what there is; got_by, stop_by  and what there is, by the answer
--     opened_places             where the values stand
--     opened_front, opened_all  by rule 1, or by rules 2 and 3
--     opened_rows               there is a place for each row
-- Assumes nothing.
use Prim.Native.Nat.{ℕ, ◌+◌, ◌≤◌, ◌<◌}
use mathlib.Core.Path.{◌≡◌, ◌∙◌, refl, sym, ap, subst}
use mathlib.Core.Bool.{Bool, true, false, true≢false}
use mathlib.Core.List.{List, [], ◌++◌, append-nil, append_assoc}
use native.Mathlib.Omega.{arith}
use borrow.Author.Tests.{lt-ltb, le-ltb, eq-eqb, ne_eqb}
use lib.ListN.{length, take, replicate}
use Rattle.lists.specs.Lists.{pick, fill}
use Rattle.lists.proofs.Fill.{take_fill}
use Rattle.std.specs.Prelude.{Ok, Err}
use Rattle.std.specs.Result.{is_err}
use Rattle.octets.specs.Read.{Read}
use Rattle.octets.specs.Field.{plain_at, pad_at, number_at}
use Rattle.octets.specs.declared.Stop.{Stop}
use Rattle.octets.specs.declared.Span.{Span}
use Rattle.octets.specs.Span.{no_span}
use Rattle.octets.proofs.Chain.{then_got, same_got, got_stop}
use Rattle.octets.proofs.Got.{number_got}
use Rattle.rows.specs.declared.Row.{Row}
use Rattle.envelopes.specs.declared.Head.{Head}
use Rattle.envelopes.specs.Envelope.{heads_at}
use Rattle.elements.specs.Judge.{front, read_of, unknown_of, missing_of, judged_of, extensions_behind, elements_at}
use Rattle.elements.proofs.WalkLaws.{read_rows}
use Rattle.frames.specs.declared.Count.{Count}
use Rattle.frames.specs.Frame.{container_at, count_at}
use Rattle.verdicts.specs.declared.Outcome.TheVariants.{Misplaced}
use Rattle.verdicts.specs.Verdict.{Opening, opening_by, opened_at}
use Rattle.judging.specs.declared.Opened.{Opened}
use Rattle.judging.specs.declared.Tally.{Tally}
use Rattle.judging.specs.declared.Reached.{Reached}
use Rattle.judging.specs.Judging.{opened_by, Opens, Judges, rejected_by, tally_of, CountedBehind, Seen}

pub count_in : (c : Bool) (s : List ℕ) (from : ℕ) {n : Count} → Ok n ≡ count_at c s from → from + 3 ≤ length s
unfolding count_at
count_in c s from q =
    let a = then_got (plain_at s from 0) _ q in
    let x = then_got (container_at c s from) _ a.2 in
    let b = then_got (pad_at s from (pick c 2 1)) _ x.2 in
    let h = (number_got s (from + 1) 2 (then_got (number_at 2 s (from + 1)) _ b.2).1).0 in
    omega arith

-- ---- the answer

module _ {o : Read Opening} {m : List Span} where
  pub judges_as : {w : Read Opening} {r : Read Opened} → o ≡ w → Judges o r m → Judges w r m
  judges_as {r = r} q j = subst (λ (x : Read Opening). Judges x r m) q j

  pub judges_stop : {x : Stop} → Err x ≡ o → Judges o (Err x) m
  judges_stop q = record { result = ap opened_by q; places = λ y e. got_stop (e ∙ sym q) }

  pub judges_got : {y : Opening} {r : Read Opened} → Ok y ≡ o → r ≡ opened_by (Ok y) → m ≡ fill no_span 12 y.spans → Judges o r m
  judges_got {y} {r} q a b =
      subst (λ (x : Read Opening). Judges x r m) q (record { result = a; places = λ z e. b ∙ ap (λ (x : Opening). fill no_span 12 x.spans) (sym (same_got e)) })

-- of octets at fault the places are cleared
pub opens_got : (o : Read Opening) {r : Read Opened} {m : List Span} → Judges o r m → is_err r ≡ false → Opens o r m
opens_got (Ok y) j e = record { result = j.result; places = j.places y refl }
opens_got (Err x) j e = absurd (true≢false (sym (ap is_err j.result) ∙ e))

pub opens_stop : (o : Read Opening) {r : Read Opened} {m : List Span} → Judges o r m → is_err r ≡ true → Opens o r (replicate 12 no_span)
opens_stop (Ok y) j e = absurd (true≢false (sym e ∙ ap is_err j.result))
opens_stop (Err x) j e = record { result = j.result; places = refl }

-- what there is, by the answer
pub got_by : (r : Read Opening) {o : Opened} → Ok o ≡ opened_by r → (y : Opening) × (Ok y ≡ r) × (o ≡ record { outcome = y.outcome; noted = length y.noted })
got_by (Ok y) q = (y, refl, same_got q)
got_by (Err x) q = got_stop q

pub stop_by : (r : Read Opening) {x : Stop} → Err x ≡ opened_by r → Err x ≡ r
stop_by (Ok y) q = got_stop (sym q)
stop_by (Err x) q = cc

-- ---- what is inside

module _ (t : List Row) (n : ℕ) (hs xs : List Head) (places : List Span) (w : Reached) (p : Seen t (front t 0 hs) places w) where
  pub opened_places : places ≡ fill no_span 12 (opening_by n (judged_of t n hs xs)).spans
  unfolding judged_of
  opened_places = p.spans

  -- nothing counts as missing where the walk stopped
  pub opened_front : w.place < n
      → Ok (record { outcome = Misplaced w.place; noted = w.tally.count }) ≡ opened_by (Ok (opening_by n (judged_of t n hs xs)))
  unfolding judged_of tally_of
  opened_front h =
      let l = p.place in
      rw (lt-ltb (length (front t 0 hs)) n (omega arith), ne_eqb (length (front t 0 hs)) n (λ q. omega arith), append-nil (unknown_of t (front t 0 hs)), p.place, p.tally)

  -- where all count, the extensions and then the rows that have no value come behind them
  pub opened_all : n ≤ w.place → w.place ≤ n
      → {b m : Tally} → CountedBehind (unknown_of [] xs) w.tally b → CountedBehind (missing_of t (take (length t) places)) b m
      → Ok (record { outcome = rejected_by m.reject; noted = m.count }) ≡ opened_by (Ok (opening_by n (judged_of t n hs xs)))
  unfolding judged_of tally_of
  opened_all h b {m = m} x q =
      let l = p.place in
      let z : take (length t) places ≡ read_of t (front t 0 hs) =
      ap (take (length t)) p.spans ∙ (ap (λ (k : ℕ). take k (fill no_span 12 (read_of t (front t 0 hs)))) (sym (read_rows t (front t 0 hs))) ∙ take_fill no_span 12 (read_of t (front t 0 hs))) in
      let u = unknown_of t (front t 0 hs) in
      let g : m ≡ tally_of (u ++ (unknown_of [] xs ++ missing_of t (read_of t (front t 0 hs)))) =
      q (u ++ unknown_of [] xs) (x u p.tally) ∙ (ap tally_of (append_assoc u (unknown_of [] xs) (missing_of t (take (length t) places))) ∙ ap (λ (x : List Span). tally_of (u ++ (unknown_of [] xs ++ missing_of t x))) z) in
      rw (g, le-ltb (length (front t 0 hs)) n (omega arith), eq-eqb (length (front t 0 hs)) n (omega arith))

module _ (t : List Row) (c : Bool) (s : List ℕ) (from : ℕ) where
  pub opened_rows : {o : Opening} → Ok o ≡ opened_at t c s from → length o.spans ≡ length t
  unfolding opened_at elements_at judged_of
  opened_rows {o} q =
      let a = then_got (count_at c s from) _ q in
      let n = a.0.elements in
      let b = then_got (elements_at t a.0.container s n (from + 3)) _ a.2 in
      let x = then_got (extensions_behind t a.0.container s n (from + 3)) _ b.1 in
      ap (λ (x : Opening). length x.spans) (same_got b.2 ∙ ap (opening_by n) (same_got x.2))
      ∙ read_rows t (front t 0 (heads_at s n (from + 3)))
