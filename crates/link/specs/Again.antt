-- 01's round trips and the user's sentence in a link process's own words: over the octets of records, as m3ap_read puts them and m3ap_write takes them,
-- in the edition k; sbcap_read and sbcap_write likewise.
use Rattle.std.specs.Prelude.{ℕ, ◌≤◌, ◌≡◌, List, ◌++◌, length, take, drop}
use Rattle.octets.specs.Stands.{Octets}
use Rattle.editions.specs.declared.Edition.{Edition}
use Rattle.verdicts.specs.Verdict.{Understood, understood, every, read_of}
use Rattle.layout.specs.Record.{is_record, read_record}
use Rattle.round_trips.specs.Ties.{Rewritable}
use Rattle.round_trips.specs.LentDiffer.{shown, carried_in}
use Rattle.link.specs.Link.{handed_back, read_for, write_for}

module _ (k : Edition) where
  -- the record that m3ap_read put
  abbrev pub record_at : List ℕ → List ℕ → List ℕ
  record_at s d = take 2662 (read_for k s d).room

  -- m3ap_write answered 0, with this message
  pub record Wrote (s values d message : List ℕ) : Type 0 where
    pub room : length message ≤ length d
    pub given : write_for k s values d ≡ handed_back 0 0 (length message) (message ++ drop (length message) d)

  -- m3ap_read answers 0 for the message, and shows the record s with its values
  pub record GivesBack (s values message d : List ℕ) : Type 0 where
    pub answer : (read_for k message d).answer ≡ (handed_back 0 0 2662 d).answer
    pub fields : shown k (record_at message d) ≡ shown k s
    pub carried : carried_in k (record_at message d) message ≡ carried_in k s values

  pub record Again : Type 0 where
    -- what is put for a message that was read, with 0 or with 5, is all that was read
    pub whole : (s d : List ℕ) (u : Understood) → Octets s → 2662 ≤ length d → read_of k every s ≡ understood u → read_record k (record_at s d) ≡ is_record u.what
    -- m3ap_read, and then m3ap_write with the octets that were read, gives the message again, under 01's conditions
    pub rewritten : (s d e : List ℕ) → Octets s → Rewritable k s → 2662 ≤ length d → length s ≤ length e → write_for k (record_at s d) s e ≡ handed_back 0 0 (length s) (s ++ drop (length s) e)
    -- m3ap_write, and then m3ap_read of the message that it wrote, answers 0 and gives the record again, but for the frame's criticality, which is the
    -- table's, and the places of carried values, which now lie in the message; their octets are the same
    pub back : (s values d message e : List ℕ) → Octets s → Octets values → Octets message → Wrote s values d message → 2662 ≤ length e → GivesBack s values message e
    -- Two things which differ stay different. Two records, each with its values, that differ in any octet but the frame's criticality and the places of
    -- carried values, or in the octets of a carried value, have messages that differ.
    pub different : (s z values others d e message : List ℕ) → Octets s → Octets z → Octets values → Octets others → Wrote s values d message → Wrote z others e message
        → (shown k s ≡ shown k z) × (carried_in k s values ≡ carried_in k z others)
