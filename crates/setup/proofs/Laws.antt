-- The setup call, by the steps in which the code comes to it: each refusal in its turn, and then what the writer answered.
-- Assumes nothing.
use Rattle.std.specs.Prelude.{Err, None, Ok, Some}
use Rattle.plan.specs.declared.Unwritten.TheVariants as unwritten
use Prim.Native.Nat.{ℕ}
use mathlib.Core.Path.{◌≡◌, refl, sym, ap, subst, ◌∙◌}
use mathlib.Core.Bool.{Bool, true, false}
use mathlib.Core.List.{List, ◌++◌}
use native.Mathlib.Omega.{arith}
use lib.Dec.{leb}
use lib.ListN.{length, drop}
use Rattle.lists.specs.Lists.{pick}
use Rattle.identity.specs.declared.Item.{Item}
use Rattle.lent.specs.declared.Looked.{Looked}
use Rattle.editions.specs.declared.Edition.{Edition}
use Rattle.meaning.specs.Written.{Encoded, octets, none}
use Rattle.layout.specs.Record.{written, name_refused}
use Rattle.plan.specs.Written.{Writing, kept, in_front, written_in, Writes, Written}
use Rattle.units.specs.Unit.{Unit, with_open, unit_octets, open_in, open_out, MaybeUnit, is_unit, no_unit, read_unit, looked_in}
use Rattle.units.proofs.Parts.{read_unit_lem}
use Rattle.units.proofs.OneForm.{mark_put}
use Rattle.setup.specs.declared.SetupAnswer.{SetupAnswer}
use Rattle.setup.specs.declared.SetupAnswer.TheVariants.{Opened, NameNotAllowed, AlreadyOpen, NotWritten, NoRoom, NoUnit}
use Rattle.setup.specs.declared.SetupBack as own
use Rattle.setup.specs.Setup.{Setup, SetupDone, refusing, is_request, request_of, opening, setup_on, setup, SetupCalled}

-- ---- what was looked up

pub has_no_unit : (s : List ℕ) (i : Item) → None ≡ looked_in i (read_unit s) → read_unit s ≡ no_unit
has_no_unit s i e = by (read_unit s) refl
  where
    by : (r : MaybeUnit) → read_unit s ≡ r → read_unit s ≡ no_unit
    by no_unit q = q
    by (is_unit u) q = let k = e ∙ ap (looked_in i) q in let z : ◌≡◌ {A = ℕ} 0 1 = cc in absurd (omega arith)

pub a_unit : (s : List ℕ) (i : Item) {k : Looked} → Some k ≡ looked_in i (read_unit s) → (u : Unit) × (read_unit s ≡ is_unit u)
a_unit s i {k} e = by (read_unit s) refl
  where
    by : (r : MaybeUnit) → read_unit s ≡ r → (u : Unit) × (read_unit s ≡ is_unit u)
    by (is_unit u) q = (u, q)
    by no_unit q = let k = e ∙ ap (looked_in i) q in let z : ◌≡◌ {A = ℕ} 0 1 = cc in absurd (omega arith)

-- ---- the steps

abbrev handed : SetupAnswer → ℕ → own.SetupBack
handed a n = record { answer = a; octets = n }

module _ (e : Edition) (t : List ℕ) (c : Setup) where
  abbrev Refuses : SetupAnswer → Type 0
  Refuses a = (r : own.SetupBack) → r ≡ handed a 0 → SetupCalled (setup e t c) r t c.room

  refuses : {a : SetupAnswer} → setup e t c ≡ refusing a t c.room → Refuses a
  refuses q r h = rw (q, h) (record { answer = refl; octets = refl; unit = refl; room = refl })

  pub not_a_unit : read_unit t ≡ no_unit → Refuses NoUnit
  unfolding setup
  not_a_unit q = refuses (ap (setup_on e t c) q)

  module _ (x : (u : Unit) × (read_unit t ≡ is_unit u)) where
    abbrev u : Unit
    u = x.0

    is_open_lem : open_in t ≡ u.is_open
    is_open_lem = ap (λ (y : Unit). y.is_open) (read_unit_lem t x.1).1

    on : Bool → Bool → SetupDone
    on b d = pick b (refusing NameNotAllowed t c.room) (pick d (refusing AlreadyOpen t c.room) (opening e u t c.room (request_of e c)))

    on_unit_lem : (b d : Bool) → name_refused e c.said c.values ≡ b → open_in t ≡ d → setup e t c ≡ on b d
    unfolding setup on
    on_unit_lem b d n o = ap (setup_on e t c) x.1 ∙ (λ i. pick (n i) (refusing NameNotAllowed t c.room) (pick ((sym is_open_lem ∙ o) i) (refusing AlreadyOpen t c.room) (opening e u t c.room (request_of e c))))

    pub name_not_allowed : name_refused e c.said c.values ≡ true → Refuses NameNotAllowed
    unfolding on
    name_not_allowed n = refuses (on_unit_lem true (open_in t) n refl)

    module _ (n : name_refused e c.said c.values ≡ false) where
      pub already_open : open_in t ≡ true → Refuses AlreadyOpen
      unfolding on
      already_open o = refuses (on_unit_lem false true n o)

      module _ (o : open_in t ≡ false) where
        opens_by : setup e t c ≡ opening e u t c.room (request_of e c)
        unfolding on
        opens_by = on_unit_lem false false n o

        pub no_request : is_request e c.said ≡ false → Refuses NotWritten
        no_request i = refuses (opens_by ∙ ap (λ (b : Bool). opening e u t c.room (pick b (written e c.said c.values) none)) i)

        -- what the writer answered, and the room that it left
        module _ (i : is_request e c.said ≡ true) {w : Written} {m : List ℕ} (h : Writes (written_in c.room (written e c.said c.values)) w m) where
          request_by : setup e t c ≡ opening e u t c.room (written e c.said c.values)
          request_by = opens_by ∙ ap (λ (b : Bool). opening e u t c.room (pick b (written e c.said c.values) none)) i

          -- by what is written
          abbrev Left : Written → List ℕ → SetupDone → Type 0
          Left (Ok n) d b = (b.answer ≡ Opened) × (length b.request ≡ n) × (b.unit ≡ unit_octets (with_open true u)) × (b.room ≡ d)
          Left (Err unwritten.NoRoom) d b = (b ≡ refusing NoRoom t c.room) × (d ≡ c.room)
          Left (Err unwritten.NotWritten) d b = (b ≡ refusing NotWritten t c.room) × (d ≡ c.room)

          abbrev LeftBy : Writing → SetupDone → Type 0
          LeftBy y b = Left y.answer y.room b

          left : (y : Encoded) → LeftBy (written_in c.room y) (opening e u t c.room y)
          unfolding written_in
          left none = (refl, refl)
          left (octets os) = by (leb (length os) (length c.room))
            where
              sent : SetupDone
              sent = record { answer = Opened; request = os; unit = unit_octets (with_open true u); room = os ++ drop (length os) c.room }

              by : (b : Bool) → LeftBy (pick b (in_front c.room os) (kept (Err unwritten.NoRoom) c.room)) (pick b sent (refusing NoRoom t c.room))
              by true = (refl, refl, refl, refl)
              by false = (refl, refl)

          left_so : Left w m (setup e t c)
          left_so =
              let q : written_in c.room (written e c.said c.values) ≡ record { answer = w; room = m } = λ j. record { answer = sym h.answer j; room = sym h.room j } in
              subst (λ (b : SetupDone). Left w m b) (sym request_by) (subst (λ (y : Writing). LeftBy y (opening e u t c.room (written e c.said c.values))) q (left (written e c.said c.values)))

          pub sent_so : {k : ℕ} → w ≡ Ok k → {r : own.SetupBack} {t' : List ℕ} → r ≡ handed Opened k → t' ≡ open_out true t → SetupCalled (setup e t c) r t' m
          sent_so {k} q {r} {t'} p z =
              let l = subst (λ (y : Written). Left y m (setup e t c)) q left_so in
              record { answer = ap (λ (y : own.SetupBack). y.answer) p ∙ sym l.0; octets = ap (λ (y : own.SetupBack). y.octets) p ∙ sym l.1; unit = z ∙ (mark_put t u x.1 true ∙ sym l.2); room = sym l.3 }

          pub no_room_so : w ≡ (Err unwritten.NoRoom) → {r : own.SetupBack} → r ≡ handed NoRoom 0 → SetupCalled (setup e t c) r t m
          no_room_so q p =
              let l = subst (λ (y : Written). Left y m (setup e t c)) q left_so in
              rw (l.0, p) (record { answer = refl; octets = refl; unit = refl; room = l.1 })

          pub not_written_so : w ≡ (Err unwritten.NotWritten) → {r : own.SetupBack} → r ≡ handed NotWritten 0 → SetupCalled (setup e t c) r t m
          not_written_so q p =
              let l = subst (λ (y : Written). Left y m (setup e t c)) q left_so in
              rw (l.0, p) (record { answer = refl; octets = refl; unit = refl; room = l.1 })
