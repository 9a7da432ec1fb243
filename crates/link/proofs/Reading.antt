-- What the reader and the writer hand to C: no place and no number of octets is over 8,192, so none is cut; and what is handed over is what was read or written.
-- Assumes nothing.
use Rattle.std.specs.Prelude.{Result, Err, Ok}
use Rattle.plan.specs.declared.Unwritten.TheVariants.{NoRoom, NotWritten}
use Prim.Native.Nat.{ℕ, ◌^◌, ◌<◌, ◌≤◌}
use mathlib.Core.Path.{◌≡◌, refl, sym, ap, subst, ◌∙◌}
use mathlib.Core.Bool.{Bool, true, false}
use mathlib.Core.List.{List}
use native.Mathlib.Omega.{arith}
use lib.Dec.{leb}
use lib.ListN.{length}
use Rattle.lists.proofs.Tests.{on-pick}
use Rattle.editions.specs.declared.Edition.{Edition}
use Rattle.meaning.specs.Value.{said_by}
use Rattle.meaning.specs.Written.{Encoded, octets, none}
use Rattle.verdicts.specs.declared.Refusal.{Refusal}
use Rattle.verdicts.specs.Verdict.{Verdict, refused, understood, every, read_of}
use Rattle.layout.specs.Record.{written}
use Rattle.plan.specs.Written.{written_number, put_of, Writing, written_in, Writes, Written}
use Rattle.round_trips.proofs.LentDiffer.{lent_record}
use Rattle.verdicts.specs.declared.Outcome.{Outcome}
use Rattle.reader.specs.declared.Unread.{Unread}
use Rattle.reader.specs.declared.Unread.TheVariants as unread
use Rattle.reader.specs.Reader.{answer_to, Answers}
use Rattle.link.specs.declared.Answer.{Answer}
use Rattle.link.specs.Link.{refusal_number, refusal_place, outcome_number, recorded, verdict_as, read_for, allowed_for, Put}
use Rattle.link.proofs.Sizes.{PlacedBy, read_placed, encoded_small}

-- ---- reading

abbrev Reading : Type 0
Reading = Result Outcome Unread

abbrev numbers_of : Reading → Answer
numbers_of (Err (unread.Refused x)) = record { answer = refusal_number x; place = refusal_place x; octets = 0; bit = 0; wait = 0 }
numbers_of (Err unread.NoRoom) = record { answer = 10; place = 0; octets = 0; bit = 0; wait = 0 }
numbers_of (Ok o) = record { answer = outcome_number o; place = 0; octets = 2662; bit = 0; wait = 0 }

abbrev Small : Reading → Type 0
Small (Err (unread.Refused x)) = refusal_place x ≤ 8192
Small (Err unread.NoRoom) = Unit
Small (Ok o) = Unit

answer_small : (v : Verdict) (n : ℕ) → PlacedBy 8192 v → Small (answer_to v n)
answer_small (refused x) n h = h
answer_small (understood u) n h = on-pick Small (leb 2662 n) tt tt

in_numbers : (k : Edition) (d : List ℕ) (v : Verdict) {r : Reading} {m : List ℕ} → Answers k v d r m → Put (verdict_as k d v) (numbers_of r) m
unfolding recorded
in_numbers k d (refused x) h = record { answer = ap numbers_of h.0; room = h.1 }
in_numbers k d (understood u) {r} {m} h = by (leb 2662 (length d)) refl
  where
    by : (b : Bool) → leb 2662 (length d) ≡ b → Put (verdict_as k d (understood u)) (numbers_of r) m
    by true q = let z = rw q at h in rw q (record { answer = ap numbers_of z.0; room = z.1 })
    by false q = let z = rw q at h in rw q (record { answer = ap numbers_of z.0; room = z.1 })

module _ (k : Edition) (s d : List ℕ) {r : Reading} {m : List ℕ} (h : Answers k (read_of k every s) d r m) where
  -- as r says
  pub put_read : {y : Reading} → r ≡ y → {a : Answer} → a ≡ numbers_of y → Put (read_for k s d) a m
  unfolding read_for
  put_read {y} e {a} q = let p = in_numbers k d (read_of k every s) h in record { answer = q ∙ (ap numbers_of (sym e) ∙ p.answer); room = p.room }

  pub refusal_small : {x : Refusal} → r ≡ Err (unread.Refused x) → refusal_place x ≤ 8192
  refusal_small e = subst Small (sym h.0 ∙ e) (answer_small (read_of k every s) (length d) (read_placed k every 8192 s (λ l. l)))

-- ---- writing

abbrev SmallPut : Written → Type 0
SmallPut (Ok n) = n ≤ 8192
SmallPut (Err NoRoom) = Unit
SmallPut (Err NotWritten) = Unit

put_small : (d : List ℕ) (x : Encoded) → ((os : List ℕ) → x ≡ octets os → length os ≤ 8192) → SmallPut (written_in d x).answer
unfolding written_in
put_small d none h = tt
put_small d (octets os) h = on-pick (λ (w : Writing). SmallPut w.answer) (leb (length os) (length d)) (h os refl) tt

written_small : (k : Edition) (s values os : List ℕ) → written k s values ≡ octets os → length os ≤ 8192
written_small k s values os q = let r = lent_record k s values os q in encoded_small k (said_by values r.what) os r.message

module _ (k : Edition) (s values d : List ℕ) {x : Written} {m : List ℕ} (h : Writes (written_in d (written k s values)) x m) where
  pub octets_small : {n : ℕ} → x ≡ Ok n → n < 2 ^ 32
  octets_small e =
      let z = subst SmallPut (sym h.answer ∙ e) (put_small d (written k s values) (written_small k s values)) in
      omega arith

  -- as x says
  pub put_written : {y : Written} → x ≡ y → {a : Answer} → a ≡ record { answer = written_number y; place = 0; octets = put_of y; bit = 0; wait = 0 } → Put (allowed_for k s values d) a m
  unfolding allowed_for
  put_written {y} e {a} q =
      let z : y ≡ (written_in d (written k s values)).answer = sym e ∙ h.answer in
      record { answer = q ∙ ap (λ (w : Written). record { answer = written_number w; place = 0; octets = put_of w; bit = 0; wait = 0 }) z; room = h.room }
