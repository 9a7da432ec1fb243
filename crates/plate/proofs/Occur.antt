-- Each answer of the setup call occurs: a record is read back as what it says, and the rest is computed.
-- Assumes nothing.
use Prim.Native.Nat.{ℕ, ◌<◌}
use mathlib.Core.Path.{◌≡◌, refl, ap, ◌∙◌}
use mathlib.Core.Bool.{Bool, true, false}
use mathlib.Core.List.Memᴰ
use mathlib.Core.List.{List, [], ◌∷◌}
use native.Mathlib.Omega.{arith}
use borrow.Author.Tests.{le-leb, lt-leb}
use lib.ListN.{length, replicate}
use Rattle.lists.specs.Lists.{pick}
use Rattle.packed.specs.Packed.{packed_in}
use Rattle.octets.specs.Write.{number_octets, length_octets}
use Rattle.editions.specs.declared.Edition.TheVariants.{Release18}
use Rattle.editions.specs.declared.Message.TheVariants as message
use Rattle.editions.specs.Editions.{printed, first_of, numbered_by}
use Rattle.editions.proofs.Tables.{table_lawful}
use Rattle.names.specs.Names.{printable, name_allowed}
use Rattle.names.specs.Written.{name_octets}
use Rattle.meaning.specs.Value.{on_carried, said_by}
use Rattle.meaning.specs.Written.{none, octets_of, has_octets, elements_octets, elements_good, how_many, inside_octets, message_octets, encoded}
use Rattle.layout.specs.Held.{Held}
use Rattle.layout.specs.Record.{LentRecord, is_record, no_record, record_octets, read_record, written_by, written, name_refused_by, name_refused}
use Rattle.layout.proofs.RecordBack.{record_back}
use Rattle.table.specs.Table.{distinct_held}
use Rattle.lent.specs.Lent.{Good}
use Rattle.units.specs.Unit.{fresh, with_open, unit_octets, MaybeUnit, no_unit, read_unit, GoodUnit}
use Rattle.units.proofs.OneForm.{one_unit}
use Rattle.setup.specs.declared.SetupAnswer.TheVariants.{NameNotAllowed, AlreadyOpen, NoUnit}
use Rattle.setup.specs.Setup.{Setup, SetupDone, refusing, is_request, opening, setup_on, setup}
use Rattle.plate.specs.Occur.{request_record, asking, EverySetup}

no_rows : Good []
unfolding distinct_held
no_rows = record { few = omega arith; apart = refl; each = λ a m. absurd (Memᴰ.not-nil m) }

good : (b : Bool) → GoodUnit (with_open b fresh)
good b = record { held = no_rows }

held : (n : ℕ) → n < 65530 → Held Release18 (request_record n)
unfolding printed numbered_by first_of
held n h = record {
  message = refl;
  table = table_lawful Release18 message.SetupRequest;
  values = ((refl, (omega arith, omega arith, omega arith)), ((refl, (omega arith, omega arith, omega arith)), ((refl, (omega arith, omega arith, omega arith)), tt)));
}

-- by what the record says
abbrev done : Bool → List ℕ → Setup → LentRecord → SetupDone
done b t c x =
    pick (name_refused_by c.values x) (refusing NameNotAllowed t c.room)
    (pick b (refusing AlreadyOpen t c.room) (opening Release18 (with_open b fresh) t c.room (pick (is_request Release18 c.said) (written_by Release18 c.values x) none)))

by_record : (b : Bool) (c : Setup) → setup Release18 (unit_octets (with_open b fresh)) c ≡ done b (unit_octets (with_open b fresh)) c (read_record Release18 c.said)
unfolding setup name_refused written
by_record b c = ap (setup_on Release18 (unit_octets (with_open b fresh)) c) (one_unit.back (with_open b fresh) (good b))

by_name : (b : Bool) (os d : List ℕ) → length os < 65530 → setup Release18 (unit_octets (with_open b fresh)) (asking os d) ≡ done b (unit_octets (with_open b fresh)) (asking os d) (is_record (request_record (length os)))
by_name b os d h = by_record b (asking os d) ∙ ap (done b (unit_octets (with_open b fresh)) (asking os d)) (record_back Release18 (request_record (length os)) (held (length os) h))

pub every_setup : EverySetup
unfolding record_octets said_by on_carried name_allowed printable encoded message_octets inside_octets elements_octets elements_good has_octets octets_of name_octets how_many length_octets number_octets packed_in printed read_record numbered_by first_of setup
every_setup = record {
  opened = λ d h. by_name false (0x41 ∷ []) d (omega arith) ∙ rw (le-leb 31 (length d) h);
  longest = λ d h. ap (λ (x : SetupDone). x.answer) (by_name false (replicate 150 0x41) d (omega arith)) ∙ rw (le-leb 182 (length d) (omega arith));
  no_room = λ d h. ap (λ (x : SetupDone). x.answer) (by_name false (0x41 ∷ []) d (omega arith)) ∙ rw (lt-leb 31 (length d) h);
  not_written = λ values d. ap (λ (x : SetupDone). x.answer) (by_record false (record { said = []; values = values; room = d }) ∙ ap (done false (unit_octets fresh) (record { said = []; values = values; room = d })) none_read);
  no_characters = λ d. ap (λ (x : SetupDone). x.answer) (by_name false [] d (omega arith));
  at_sign = λ d. ap (λ (x : SetupDone). x.answer) (by_name false (0x40 ∷ []) d (omega arith));
  too_many = λ d. ap (λ (x : SetupDone). x.answer) (by_name false (replicate 151 0x41) d (omega arith));
  already_open = λ d. ap (λ (x : SetupDone). x.answer) (by_name true (0x41 ∷ []) d (omega arith));
  has_no_unit = has_no_unit;
}
  where
    none_read : read_record Release18 [] ≡ no_record
    none_read = refl

    has_no_unit : (t : List ℕ) (c : Setup) → read_unit t ≡ no_unit → (setup Release18 t c).answer ≡ NoUnit
    has_no_unit t c q = ap (λ (x : MaybeUnit). (setup_on Release18 t c x).answer) q
