-- Reading what was written gives what was said; so what differs has octets that differ.
-- Assumes nothing.
use Prim.Native.Nat.{ℕ, ◌+◌, ◌≤◌}
use mathlib.Core.Path.{◌≡◌, ◌∙◌, refl, sym, ap, subst}
use mathlib.Core.Bool.{Bool, true, false}
use mathlib.Core.List.{List, []}
use native.Mathlib.Omega.{arith}
use borrow.Author.Tests.{le-ltb, leb-true}
use lib.ListN.{length}
use Rattle.lists.specs.Lists.{pick}
use Rattle.lists.proofs.Tests.{and_left, and_right}
use Rattle.std.specs.Prelude.{Ok}
use Rattle.octets.specs.Stands.{Fills}
use Rattle.octets.proofs.Chain.{past}
use Rattle.rows.specs.declared.Row.{Row}
use Rattle.elements.specs.Judge.{Found}
use Rattle.frames.specs.declared.Frame.{Frame}
use Rattle.frames.specs.Frame.{frame_at}
use Rattle.editions.specs.declared.Edition.{Edition}
use Rattle.editions.specs.Editions.{table_of, container_of, code_of}
use Rattle.meaning.specs.Value.{Given, Said, said_by}
use Rattle.meaning.specs.Written.{how_many, inside_octets, message_octets, elements_good, is_written, octets, none, encoded}
use Rattle.verdicts.specs.Verdict.{opening_by, opened_at, Understood, Verdict, understood, understood_by, every, read_of}
use Rattle.round_trips.specs.Ties.{InTypes, ReadAs, ReadBack, SaidDiffer}
use Rattle.editions.proofs.Names.{code_names}
use Rattle.round_trips.proofs.Tables.{table_lawful, code_fits}
use Rattle.round_trips.proofs.Laid.{Laid, laid}
use Rattle.round_trips.proofs.ElementsBack.{count_rows, spans_of, values_laid, elements_back}
use Rattle.round_trips.proofs.FrameBack.{inside_at, frame_fills, frame_back, count_back, elements_fill}

module _ (e : Edition) (w : Said) where
  abbrev table : List Row
  table = table_of e w.message

  -- where what the frame holds begins
  abbrev begins : ℕ
  begins = inside_at (inside_octets table w.values)

  abbrev frame_of : Frame
  frame_of = record { kind = (code_of e w.message).kind; code = (code_of e w.message).code; crit = (code_of e w.message).crit; from = begins }

  -- all of it is read
  abbrev found_all : Found
  found_all = record { place = how_many w.values; spans = spans_of w.values (begins + 3); listed = [] }

  abbrev wholly : Understood
  wholly = understood_by table w.message frame_of (message_octets e w) (opening_by (how_many w.values) found_all)

module _ (e : Edition) (w : Said) (g : InTypes e w) (q : is_written e w ≡ true) where
  size : length (message_octets e w) ≤ 8192
  size = leb-true (length (message_octets e w)) 8192 (and_right (elements_good (table e w) w.values) _ q)

  filled : Fills (message_octets e w) (begins e w) (inside_octets (table e w) w.values)
  unfolding message_octets
  filled = frame_fills (code_of e w.message) (inside_octets (table e w) w.values)

  elements : Laid (message_octets e w) (begins e w + 3) (table e w) w.values
  elements =
      let b = size in
      laid (message_octets e w) (omega arith) (table e w) w.values _ (table_lawful e w.message).rows g.values (and_left (elements_good (table e w) w.values) _ q)
      (elements_fill (message_octets e w) (begins e w) (table e w) w.values filled)

  inside_read : Ok (opening_by (how_many w.values) (found_all e w)) ≡ opened_at (table e w) (container_of e w.message) (message_octets e w) (begins e w)
  unfolding opened_at
  inside_read =
      let l = elements in
      let r = table_lawful e w.message in
      let n = count_rows l in
      let c = r.count in
      past _ _ (count_back (message_octets e w) (begins e w) (table e w) w.values filled (container_of e w.message) (omega arith))
      (past _ (found_all e w) (elements_back (table e w) r.distinct l) refl)

  frame_read : Ok (frame_of e w) ≡ frame_at (message_octets e w)
  unfolding message_octets inside_octets
  frame_read =
      let f = code_fits e w.message in
      let b = size in
      let z = filled.ends in
      frame_back (code_of e w.message) (inside_octets (table e w) w.values) f.kind f.code f.crit (omega arith) (omega arith)

  message_read : read_of e every (message_octets e w) ≡ understood (wholly e w)
  unfolding read_of
  message_read = rw (le-ltb 8192 (length (message_octets e w)) size, ← frame_read, code_names e w.message g.message, ← inside_read)

  pub message_back : ReadAs e (message_octets e w) w
  unfolding said_by
  message_back = record {
    what = wholly e w;
    read = message_read;
    accepted = rw (le-ltb (how_many w.values) (how_many w.values) (omega arith));
    noted = refl;
    said = ap (λ (x : List (Given (List ℕ))). record { message = w.message; values = x }) (values_laid elements);
    crit = refl;
  }

-- ---- what has octets

-- elements that are not good have none
pub no_octets : {B : Type 0} {os : List ℕ} → none ≡ octets os → B
no_octets q = cc

pub has_octets_lem : (e : Edition) (w : Said) (os : List ℕ) → encoded e w ≡ octets os → (is_written e w ≡ true) × (message_octets e w ≡ os)
unfolding encoded
has_octets_lem e w os q = by (is_written e w) q
  where
    by : (b : Bool) → pick b (octets (message_octets e w)) none ≡ octets os → (b ≡ true) × (message_octets e w ≡ os)
    by true q = (refl, cc)
    by false q = no_octets q

pub read_back : (e : Edition) → ReadBack e
read_back e w os g q = let h = has_octets_lem e w os q in subst (λ (x : List ℕ). ReadAs e x w) h.1 (message_back e w g h.0)

-- octets are read as one thing
same_read : {x y : Understood} {v : Verdict} → v ≡ understood x → v ≡ understood y → x ≡ y
same_read p q = cc

pub said_differ : (e : Edition) → SaidDiffer e
said_differ e w z os g h p q =
    let a = read_back e w os g p in
    let b = read_back e z os h q in
    sym a.said ∙ (ap (λ (x : Understood). said_by os x.what) (same_read a.read b.read) ∙ b.said)
