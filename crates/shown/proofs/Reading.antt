-- What is found of octets, by the steps in which the code comes to it.
-- Assumes nothing.
use Rattle.std.specs.Prelude.{Ok, Err, Some, Option}
use Rattle.std.specs.Result.{result_ok}
use Rattle.rows.specs.declared.Row.{Row}
use Rattle.octets.specs.declared.Span.{Span}
use Prim.Native.Nat.{ℕ}
use mathlib.Core.Bool.{Bool}
use mathlib.Core.Path.{◌≡◌, ◌∙◌, sym, ap}
use mathlib.Core.List.{List}
use Rattle.octets.specs.Read.{Read}
use Rattle.editions.specs.declared.Edition.{Edition}
use Rattle.editions.specs.declared.Message.{Message}
use Rattle.editions.specs.Editions.{table_of, container_of}
use Rattle.frames.specs.declared.Frame.{Frame}
use Rattle.meaning.specs.Reading.{values_in}
use Rattle.verdicts.specs.Verdict.{Opening, opened_at, verdict_of}
use Rattle.judging.specs.declared.Opened.{Opened}
use Rattle.judging.specs.Judging.{Opens}
use Rattle.judging.proofs.Steps.{passed}
use Rattle.shown.specs.Shown.{found_among, if_accepted, found_in}

-- what was read, by the option
got_of : {A : Type 0} (r : Read A) {a : A} → Some a ≡ result_ok r → r ≡ Ok a
got_of (Ok a) q = cc
got_of (Err x) q = cc

module _ (e : Edition) (m : Message) (f : Frame) (s : List ℕ) {t : List Row} {c : Bool} (rows : t ≡ table_of e m) (container : c ≡ container_of e m) {r : Read Opened} {ps : List Span} (q : Opens (opened_at t c s f.from) r ps) where
  pub opened : {o : Opened} → Some o ≡ result_ok r → {x : Option Span} → x ≡ found_among (values_in t s ps)
      → if_accepted o.outcome x ≡ found_in (verdict_of (table_of e m) m f s (opened_at (table_of e m) (container_of e m) s f.from))
  opened n {x} a =
      let y = passed e m f s rows container q (got_of r n) in
      let v : x ≡ found_among (values_in (table_of e m) s y.opening.spans) = a ∙ ap found_among y.values in
      (λ i. if_accepted (y.outcome i) (v i)) ∙ sym (ap (λ (r : Read Opening). found_in (verdict_of (table_of e m) m f s r)) y.is)
