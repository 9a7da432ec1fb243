-- A setup that was answered 0 wrote what its record says: it is a record of M3 SETUP REQUEST, its name is not refused, and the request is read back as what the record says.
-- Assumes nothing.
use Rattle.std.specs.Prelude.{Some}
use Prim.Native.Nat.{ℕ}
use mathlib.Core.Path.{◌≡◌, refl, sym, ap, ◌∙◌}
use mathlib.Core.Bool.{Bool, true, false}
use mathlib.Core.List.{List, ◌++◌}
use native.Mathlib.Omega.{arith}
use borrow.Author.Tests.{eqb-true}
use lib.Dec.{leb}
use lib.ListN.{length, get_or, take, drop}
use lib.Seq.{take-append_seam}
use Rattle.lists.specs.Lists.{pick}
use Rattle.editions.specs.declared.Edition.{Edition}
use Rattle.editions.specs.declared.Edition.TheVariants.{Release18, Warnings, WarningsLab}
use Rattle.editions.specs.declared.Message.{Message}
use Rattle.editions.specs.declared.Message.TheVariants as message
use Rattle.editions.specs.Editions.{printed, number_of, first_of, numbered_by}
use Rattle.meaning.specs.Value.{said_by}
use Rattle.meaning.specs.Written.{Encoded, octets, none}
use Rattle.layout.specs.Record.{written, name_refused}
use Rattle.units.specs.Unit.{Unit, with_open, unit_octets, MaybeUnit, is_unit, no_unit, read_unit}
use Rattle.round_trips.specs.Ties.{ReadAs}
use Rattle.round_trips.proofs.Back.{read_back}
use Rattle.round_trips.proofs.LentDiffer.{Lent, lent_record, in_types}
use Rattle.setup.specs.declared.SetupAnswer.{SetupAnswer}
use Rattle.setup.specs.declared.SetupAnswer.TheVariants.{Opened, NameNotAllowed, AlreadyOpen, NoRoom}
use Rattle.setup.specs.Setup.{setup_number, Setup, SetupDone, refusing, is_request, request_of, opening, setup_on, setup}
use Rattle.plate.specs.Plate.{Sent}

-- two answers by their numbers
apart : {x y : SetupAnswer} {A : Type 0} → x ≡ y → (setup_number x ≡ setup_number y → ⊥) → A
apart q n = absurd (n (ap setup_number q))

record Wrote (e : Edition) (c : Setup) (q : List ℕ) : Type 0 where
  named : name_refused e c.said c.values ≡ false
  request : request_of e c ≡ octets q

module _ (e : Edition) (t : List ℕ) (c : Setup) (q : List ℕ) where
  abbrev Opens : SetupDone → Type 0
  Opens b = b.answer ≡ Opened → take (length b.request) b.room ≡ q → Wrote e c q

  opened_by_lem : (u : Unit) → name_refused e c.said c.values ≡ false → (x : Encoded) → request_of e c ≡ x → Opens (opening e u t c.room x)
  opened_by_lem u n none k = λ a r. apart a (λ z. omega (arith, z))
  opened_by_lem u n (octets os) k = by (leb (length os) (length c.room))
    where
      sent : SetupDone
      sent = record { answer = Opened; request = os; unit = unit_octets (with_open true u); room = os ++ drop (length os) c.room }

      by : (b : Bool) → Opens (pick b sent (refusing NoRoom t c.room))
      by true a r = record { named = n; request = k ∙ ap octets (sym (take-append_seam os (drop (length os) c.room)) ∙ r) }
      by false a r = apart a (λ z. omega (arith, z))

  on_unit_lem : (u : Unit) → Opens (setup_on e t c (is_unit u))
  on_unit_lem u = by (name_refused e c.said c.values) refl u.is_open
    where
      by : (b : Bool) → name_refused e c.said c.values ≡ b → (d : Bool)
          → Opens (pick b (refusing NameNotAllowed t c.room) (pick d (refusing AlreadyOpen t c.room) (opening e u t c.room (request_of e c))))
      by true n d a r = apart a (λ z. omega (arith, z))
      by false n true a r = apart a (λ z. omega (arith, z))
      by false n false a r = opened_by_lem u n (request_of e c) refl a r

  by_unit : (x : MaybeUnit) → Opens (setup_on e t c x)
  by_unit (is_unit u) = on_unit_lem u
  by_unit no_unit = λ a r. apart a (λ z. omega (arith, z))

  wrote : Sent e t c q → Wrote e c q
  unfolding setup
  wrote s = by_unit (read_unit t) s.answer s.request

-- ---- what was written

-- a record of M3 SETUP REQUEST
request_record_lem : (e : Edition) (c : Setup) (q : List ℕ) → request_of e c ≡ octets q → (is_request e c.said ≡ true) × (written e c.said c.values ≡ octets q)
request_record_lem e c q h = by (is_request e c.said) refl h
  where
    by : (b : Bool) → is_request e c.said ≡ b → pick b (written e c.said c.values) none ≡ octets q → (is_request e c.said ≡ true) × (written e c.said c.values ≡ octets q)
    by true i h = (i, h)
    by false i h = absurd (let z : ◌≡◌ {A = ℕ} 0 1 = cc in omega arith)

same_name : {m n : Message} → Some m ≡ Some n → m ≡ n
same_name q = cc

-- what has its number is an M3 SETUP REQUEST; other editions have none
numbered_nine : (e : Edition) {m : Message} → numbered_by e (number_of e message.SetupRequest) ≡ Some m → m ≡ message.SetupRequest
unfolding numbered_by first_of printed
numbered_nine Release18 q = same_name (sym q)
numbered_nine Warnings q = absurd (let z : ◌≡◌ {A = ℕ} 0 1 = cc in omega arith)
numbered_nine WarningsLab q = absurd (let z : ◌≡◌ {A = ℕ} 0 1 = cc in omega arith)

pub record Written (e : Edition) (c : Setup) (q : List ℕ) : Type 0 where
  pub named : name_refused e c.said c.values ≡ false
  pub lent : Lent e c.said c.values q
  pub message : lent.what.message ≡ message.SetupRequest
  pub back : ReadAs e q (said_by c.values lent.what)

pub sent_written : (e : Edition) (t : List ℕ) (c : Setup) (q : List ℕ) → Sent e t c q → Written e c q
sent_written e t c q s =
    let w = wrote e t c q s in
    let r = request_record_lem e c q w.request in
    let l = lent_record e c.said c.values q r.1 in
    let n : get_or c.said 0 0 ≡ number_of e message.SetupRequest = eqb-true (get_or c.said 0 0) (number_of e message.SetupRequest) r.0 in
    record {
      named = w.named;
      lent = l;
      message = numbered_nine e (sym (ap (numbered_by e) n) ∙ l.named);
      back = read_back e (said_by c.values l.what) q (in_types e c.said c.values q s.handed.said s.handed.values l) l.message;
    }
