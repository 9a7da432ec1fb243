-- 01's round trips over the octets of records: nothing that was read is cut in its record's octets, and rewriting what was read gives the octets;
-- and what was written is the message that stands in front of the room, so records that differ have messages that differ.
-- Assumes nothing.
use Rattle.std.specs.Prelude.{Err}
use Rattle.plan.specs.declared.Unwritten.TheVariants.{NoRoom}
use Prim.Native.Nat.{ℕ, ◌≤◌, ◌<◌}
use mathlib.Core.Path.{◌≡◌, sym, ap, ◌∙◌}
use mathlib.Core.Bool.{Bool, true, false}
use mathlib.Core.List.{List, ◌++◌}
use native.Mathlib.Omega.{arith}
use borrow.Author.Tests.{le-leb, lt-ltb}
use lib.Dec.{leb}
use lib.ListN.{length, take, drop}
use lib.Seq.{take-append_seam}
use Rattle.lists.specs.Lists.{pick}
use Rattle.octets.specs.Stands.{Octets}
use Rattle.editions.specs.declared.Edition.{Edition}
use Rattle.meaning.specs.Value.{Record, said_by}
use Rattle.meaning.specs.Written.{Encoded, octets, none, encoded}
use Rattle.verdicts.specs.Verdict.{Understood, understood, every, read_of}
use Rattle.layout.specs.Record.{record_octets, record_out, LentRecord, is_record, read_record, written, name_refused}
use Rattle.layout.proofs.RecordBack.{held_size, record_back}
use Rattle.plan.specs.Written.{Writing, kept, in_front, written_in}
use Rattle.round_trips.specs.Ties.{InTypes, ReadAs, Rewritable}
use Rattle.round_trips.proofs.Accepted.{opened}
use Rattle.round_trips.proofs.Again.{rewritten}
use Rattle.round_trips.proofs.Back.{read_back}
use Rattle.round_trips.proofs.LentDiffer.{Lent, lent_record, in_types, said_shown, lent_differ}
use Rattle.demands.proofs.Sound.{read_sound}
use Rattle.link.specs.Link.{HandedBack, handed_back, recorded, read_for, written_as, allowed_for, write_for}
use Rattle.link.proofs.Named.{written_named}
use Rattle.link.specs.Again.{record_at, GivesBack, Again}
use Rattle.reader.proofs.Record.{read_held}

module _ (ed : Edition) where
  -- ---- what was read

  -- the octets of a record of that size stand in front
  put_front : (r : Record) (d : List ℕ) → length (record_octets ed r) ≡ 2662 → leb 2662 (length d) ≡ true → take 2662 (record_out ed r d) ≡ record_octets ed r
  put_front r d n e = rw (e, ← n) (take-append_seam (record_octets ed r) (drop (length (record_octets ed r)) d))

  module _ (s d : List ℕ) (u : Understood) (o : Octets s) (h : 2662 ≤ length d) (q : read_of ed every s ≡ understood u) where
    put_room : (read_for ed s d).room ≡ record_out ed u.what d
    unfolding read_for recorded
    put_room = let e = le-leb 2662 (length d) h in rw (q, e)

    record_at_lem : record_at ed s d ≡ record_octets ed u.what
    record_at_lem = ap (take 2662) put_room ∙ put_front u.what d (held_size ed u.what (read_held ed s o q)) (le-leb 2662 (length d) h)

    whole : read_record ed (record_at ed s d) ≡ is_record u.what
    whole = ap (read_record ed) record_at_lem ∙ record_back ed u.what (read_held ed s o q)

    -- the criticality that was read
    root : u.what.crit < 3
    root =
        let e : u.what.crit ≡ u.frame.crit = ap (λ (y : Understood). y.what.crit) (sym (opened ed every s u q).is) in
        let c = (read_sound ed s o every u q).frame.crit in
        omega arith

  -- ---- written again

  written_again : (s d : List ℕ) → Octets s → (g : Rewritable ed s) → 2662 ≤ length d → written ed (record_at ed s d) s ≡ octets s
  unfolding written
  written_again s d o g h =
      rw (whole s d g.what o h g.read, lt-ltb g.what.what.crit 3 (root s d g.what o h g.read)) (rewritten ed s g)

  fits_front : (os d : List ℕ) → length os ≤ length d → written_as (written_in d (octets os)) ≡ handed_back 0 0 (length os) (os ++ drop (length os) d)
  unfolding written_in
  fits_front os d h = rw (le-leb (length os) (length d) h)

  again : (s d e : List ℕ) → Octets s → Rewritable ed s → 2662 ≤ length d → length s ≤ length e → write_for ed (record_at ed s d) s e ≡ handed_back 0 0 (length s) (s ++ drop (length s) e)
  unfolding write_for allowed_for
  again s d e o g h k =
      let w = written_again s d o g h in
      rw (written_named ed (record_at ed s d) s s w) (ap (λ (x : Encoded). written_as (written_in e x)) w ∙ fits_front s e k)

  -- ---- a message that stands in front of the room is what was written

  was_written : (d message : List ℕ) (x : Encoded) → written_as (written_in d x) ≡ handed_back 0 0 (length message) (message ++ drop (length message) d) → x ≡ octets message
  unfolding written_in
  was_written d message none q = absurd (omega (arith, ap (λ (g : HandedBack). g.answer.answer) q))
  was_written d message (octets os) q = by (leb (length os) (length d)) q
    where
      by : (b : Bool) → written_as (pick {A = Writing} b (in_front d os) (kept (Err NoRoom) d)) ≡ handed_back 0 0 (length message) (message ++ drop (length message) d) → octets os ≡ octets message
      by true q =
          let n : length os ≡ length message = ap (λ (g : HandedBack). g.answer.octets) q in
          let r : os ++ drop (length os) d ≡ message ++ drop (length message) d = ap (λ (g : HandedBack). g.room) q in
          let z : take (length os) (message ++ drop (length message) d) ≡ message = ap (λ (k : ℕ). take k (message ++ drop (length message) d)) n ∙ take-append_seam message (drop (length message) d) in
          ap octets (sym (take-append_seam os (drop (length os) d)) ∙ (ap (take (length os)) r ∙ z))
      by false q = absurd (omega (arith, ap (λ (g : HandedBack). g.answer.answer) q))

  wrote : (s values d message : List ℕ) → write_for ed s values d ≡ handed_back 0 0 (length message) (message ++ drop (length message) d) → written ed s values ≡ octets message
  unfolding write_for allowed_for
  wrote s values d message q = by (name_refused ed s values) q
    where
      by : (b : Bool) → pick b (handed_back 12 0 0 d) (written_as (written_in d (written ed s values))) ≡ handed_back 0 0 (length message) (message ++ drop (length message) d) → written ed s values ≡ octets message
      by true q = absurd (omega (arith, ap (λ (g : HandedBack). g.answer.answer) q))
      by false q = was_written d message (written ed s values) q

  -- ---- what was written is read back

  same_record : {r t : Record} {x : LentRecord} → x ≡ is_record r → x ≡ is_record t → r ≡ t
  same_record p q = cc

  module _ (s values message e : List ℕ) (r : Lent ed s values message) (g : InTypes ed (said_by values r.what)) (m : Octets message) (h : 2662 ≤ length e) where
    read : ReadAs ed message (said_by values r.what)
    read = read_back ed (said_by values r.what) message g r.message

    answer_back : (read_for ed message e).answer ≡ (handed_back 0 0 2662 e).answer
    unfolding read_for recorded
    answer_back = rw (read.read, read.accepted, le-leb 2662 (length e) h)

    record_back_is : read_record ed (record_at ed message e) ≡ is_record read.what.what
    record_back_is = whole message e read.what m h read.read

    written_back : written ed (record_at ed message e) message ≡ octets message
    unfolding written
    written_back =
        rw (record_back_is, lt-ltb read.what.what.crit 3 (root message e read.what m h read.read)) (ap (encoded ed) read.said ∙ r.message)

    back_again : GivesBack ed s values message e
    back_again =
        let q : Lent ed (record_at ed message e) message message = lent_record ed (record_at ed message e) message message written_back in
        let w : said_by values r.what ≡ said_by message q.what = sym read.said ∙ ap (said_by message) (same_record record_back_is q.read) in
        let x = said_shown ed s (record_at ed message e) values message message r q g w in
        record { answer = answer_back; fields = sym x.0; carried = sym x.1 }

  pub over_records : Again ed
  over_records = record {
    whole = λ s d u o h q. whole s d u o h q;
    rewritten = λ s d e o g h k. again s d e o g h k;
    back = λ s values d message e o v m w h. let r = lent_record ed s values message (wrote s values d message w.given) in back_again s values message e r (in_types ed s values message o v r) m h;
    different = λ s z values others d e message o p v w x y. lent_differ ed s z values others message o p v w (wrote s values d message x.given) (wrote z others e message y.given);
  }
