-- A setup is answered as 02's table says; only 0 opens, and a refusal leaves everything. By the tests, one after another.
-- Assumes nothing.
use Rattle.std.specs.Prelude.{None}
use Prim.Native.Nat.{ℕ, ◌≤◌}
use mathlib.Core.Path.{◌≡◌, refl}
use mathlib.Core.Bool.{Bool, true, false, not}
use mathlib.Core.List.{List, [], ◌∷◌, ◌++◌}
use native.Mathlib.Omega.{arith}
use lib.Dec.{leb}
use lib.ListN.{length, drop}
use Rattle.lists.specs.Lists.{pick}
use Rattle.lists.proofs.Tests.{on-pick}
use Rattle.meaning.specs.Written.{Encoded, octets, none}
use Rattle.meaning.specs.Value.{said_by}
use Rattle.layout.specs.Record.{written, name_refused}
use Rattle.round_trips.proofs.LentDiffer.{lent_record}
use Rattle.units.specs.Unit.{Unit, MaybeUnit, is_unit, no_unit, read_unit, with_open, unit_octets}
use Rattle.editions.specs.declared.Edition.TheVariants.{Release18}
use Rattle.setup.specs.declared.SetupAnswer.TheVariants.{Opened, NameNotAllowed, AlreadyOpen, NoRoom}
use Rattle.setup.specs.Setup.{setup_number, Setup, SetupDone, refusing, is_request, request_of, opening, setup_on, setup}
use Rattle.demands.specs.Due.{Due, ◌when◌reply◌, first_due}
use Rattle.link.proofs.Sizes.{encoded_small}
use Rattle.link.specs.SetsUpAs.{has_request, fits_room, setup_due, SetsUpAs}

module _ (t : List ℕ) (c : Setup) (u : Unit) where
  -- by what the tests say
  abbrev done : Bool → Bool → Encoded → SetupDone
  done b d x = pick b (refusing NameNotAllowed t c.room) (pick d (refusing AlreadyOpen t c.room) (opening Release18 u t c.room x))

  abbrev due_by : Bool → Bool → Encoded → Due
  due_by b d x =
      first_due (0 when true reply None)
      (21 when false reply None
      ∷ 12 when b reply None
      ∷ 13 when d reply None
      ∷ 11 when not (has_request x) reply None
      ∷ 10 when not (fits_room c.room x) reply None ∷ [])

  record Right (b d : Bool) (x : Encoded) : Type 0 where
    answers : setup_number (done b d x).answer ≡ (due_by b d x).number
    opens : setup_number (done b d x).answer ≡ 0 → (done b d x).unit ≡ unit_octets (with_open true u)
    room : (done b d x).room ≡ (done b d x).request ++ drop (length (done b d x).request) c.room
    refused : (setup_number (done b d x).answer ≡ 0 → ⊥) → ((done b d x).unit ≡ t) × ((done b d x).room ≡ c.room)

  right : (b d : Bool) (x : Encoded) → Right b d x
  right true d x = record { answers = refl; opens = λ h. absurd (omega (arith, h)); room = refl; refused = λ h. (refl, refl) }
  right false true x = record { answers = refl; opens = λ h. absurd (omega (arith, h)); room = refl; refused = λ h. (refl, refl) }
  right false false none = record { answers = refl; opens = λ h. absurd (omega (arith, h)); room = refl; refused = λ h. (refl, refl) }
  right false false (octets os) = let f = fit (leb (length os) (length c.room)) in record { answers = f.0; opens = f.1; room = f.2; refused = f.3 }
    where
      sent : Bool → SetupDone
      sent b = pick b (record { answer = Opened; request = os; unit = unit_octets (with_open true u); room = os ++ drop (length os) c.room }) (refusing NoRoom t c.room)

      fit : (b : Bool) → (setup_number (sent b).answer ≡ (first_due (0 when true reply None) (10 when not b reply None ∷ [])).number)
          × (setup_number (sent b).answer ≡ 0 → (sent b).unit ≡ unit_octets (with_open true u))
          × ((sent b).room ≡ (sent b).request ++ drop (length (sent b).request) c.room)
          × ((setup_number (sent b).answer ≡ 0 → ⊥) → ((sent b).unit ≡ t) × ((sent b).room ≡ c.room))
      fit true = (refl, λ h. refl, refl, λ h. absurd (h refl))
      fit false = (refl, λ h. absurd (omega (arith, h)), refl, λ h. (refl, refl))

answers : (t : List ℕ) (c : Setup) (x : MaybeUnit) → setup_number (setup_on Release18 t c x).answer ≡ (setup_due x c).number
answers t c (is_unit u) = (right t c u (name_refused Release18 c.said c.values) u.is_open (request_of Release18 c)).answers
answers t c no_unit = refl

refused : (t : List ℕ) (c : Setup) (x : MaybeUnit) → (setup_number (setup_on Release18 t c x).answer ≡ 0 → ⊥) → ((setup_on Release18 t c x).unit ≡ t) × ((setup_on Release18 t c x).room ≡ c.room)
refused t c (is_unit u) = (right t c u (name_refused Release18 c.said c.values) u.is_open (request_of Release18 c)).refused
refused t c no_unit = λ h. (refl, refl)

in_room : (t : List ℕ) (c : Setup) (x : MaybeUnit) → (setup_on Release18 t c x).room ≡ (setup_on Release18 t c x).request ++ drop (length (setup_on Release18 t c x).request) c.room
in_room t c (is_unit u) = (right t c u (name_refused Release18 c.said c.values) u.is_open (request_of Release18 c)).room
in_room t c no_unit = refl

-- ---- a request has at most 8,192 octets

written_small : (c : Setup) (os : List ℕ) → request_of Release18 c ≡ octets os → length os ≤ 8192
written_small c os = by (is_request Release18 c.said)
  where
    by : (b : Bool) → pick b (written Release18 c.said c.values) none ≡ octets os → length os ≤ 8192
    by true q = let l = lent_record Release18 c.said c.values os q in encoded_small Release18 (said_by c.values l.what) os l.message
    by false q = absurd (let z : ◌≡◌ {A = ℕ} 0 1 = cc in omega arith)

on_small : (t : List ℕ) (c : Setup) (x : MaybeUnit) → length (setup_on Release18 t c x).request ≤ 8192
on_small t c no_unit = omega arith
on_small t c (is_unit u) = by (name_refused Release18 c.said c.values) u.is_open (request_of Release18 c) refl
  where
    by : (b d : Bool) (x : Encoded) → request_of Release18 c ≡ x → length (done t c u b d x).request ≤ 8192
    by true d x q = omega arith
    by false true x q = omega arith
    by false false none q = omega arith
    by false false (octets os) q = on-pick (λ (y : SetupDone). length y.request ≤ 8192) (leb (length os) (length c.room)) (written_small c os q) (omega arith)

pub request_small : (t : List ℕ) (c : Setup) → length (setup Release18 t c).request ≤ 8192
unfolding setup
request_small t c = on_small t c (read_unit t)

pub sets_up_as : SetsUpAs
unfolding setup
sets_up_as = record {
  answers = λ t c. answers t c (read_unit t);
  opens = λ t c u q h. rw q ((right t c u (name_refused Release18 c.said c.values) u.is_open (request_of Release18 c)).opens (rw q at h));
  room = λ t c. in_room t c (read_unit t);
  refused = λ t c. refused t c (read_unit t);
}
