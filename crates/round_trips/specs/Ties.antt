-- The ties between reading and writing, in any edition, for all that can be said and all octets.
-- Statements alone. Nothing here names a message.
use Rattle.std.specs.Prelude.{ℕ, ◌+◌, ◌≡◌, Bool, true, false, ◌||◌, take, get_or, Ok}
use mathlib.Core.List.{List, [], ◌∷◌, Memᴰ}
use Rattle.octets.specs.Stands.{Octets}
use Rattle.octets.specs.Many.{Each}
use Rattle.items.specs.Items.{ResetType, reset_at}
use Rattle.items.specs.Written.{acknowledgement_crit, Marked, Rejecting}
use Rattle.rows.specs.declared.Kind.{Kind}
use Rattle.rows.specs.declared.Kind.TheVariants as kind
use Rattle.rows.specs.declared.Row.{Row}
use Rattle.rows.specs.Table.{find, known, no_row}
use Rattle.envelopes.specs.declared.Head.{Head}
use Rattle.envelopes.specs.Envelope.{heads_at}
use Rattle.frames.specs.Frame.{count_at}
use Rattle.editions.specs.declared.Edition.{Edition}
use Rattle.editions.specs.Editions.{messages_of, table_of, code_of, container_of}
use Rattle.meaning.specs.Value.{Given, given, absent, Said, said_by}
use Rattle.meaning.specs.Written.{octets, encoded}
use Rattle.meaning.specs.Ranges.{Ranged}
use Rattle.verdicts.specs.declared.Outcome.TheVariants as outcome
use Rattle.verdicts.specs.Verdict.{Understood, understood, every, read_of}

-- the criticalities in the envelopes of items are the tables'
abbrev pub items_marked : Kind → List ℕ → ℕ → Type 0
items_marked kind.ResetType s at = (r : ResetType) → Ok r ≡ reset_at s at → Rejecting r s at
items_marked kind.Acknowledged s at = Marked acknowledgement_crit s at
items_marked kind.Carried s at = Unit
items_marked kind.Mme s at = Unit
items_marked kind.Mce s at = Unit
items_marked kind.Tmgi s at = Unit
items_marked kind.OneOctet s at = Unit
items_marked kind.TwoOctets s at = Unit
items_marked kind.Cause s at = Unit
items_marked kind.Wait s at = Unit
items_marked kind.Name s at = Unit
items_marked (kind.Diagnostics t) s at = Unit

abbrev pub row_by_id : List Row → ℕ → Row
row_by_id t id = get_or t (find id t) no_row

-- an element of the table, with the criticality that the table gives, and so its items
pub record Regular (t : List Row) (s : List ℕ) (h : Head) : Type 0 where
  pub known : known t h.id ≡ true
  pub crit : h.crit ≡ (row_by_id t h.id).crit
  pub items : items_marked (row_by_id t h.id).kind (take h.value.to s) h.value.from

-- a mandatory element is absent
unfoldable pub lacking : {C : Type 0} → List Row → List (Given C) → Bool
lacking [] vs = false
lacking (r ∷ t) [] = false
lacking (r ∷ t) (given v ∷ vs) = lacking t vs
lacking (r ∷ t) (absent ∷ vs) = r.mandatory || lacking t vs

module _ (e : Edition) where
  -- a message of the edition, and for each row of its table none or a value of its kind, in range
  pub record InTypes (w : Said) : Type 0 where
    pub message : Memᴰ w.message (messages_of e)
    pub values : Ranged (table_of e w.message) w.values

  -- octets that are read with answer 0, nothing noted, say this, and have the frame's criticality of the tables
  pub record ReadAs (os : List ℕ) (w : Said) : Type 0 where
    pub what : Understood
    pub read : read_of e every os ≡ understood what
    pub accepted : what.outcome ≡ outcome.Accepted
    pub noted : what.noted ≡ []
    pub said : said_by os what.what ≡ w
    pub crit : what.frame.crit ≡ (code_of e w.message).crit

  -- Reading what was written gives what was said.
  abbrev pub ReadBack : Type 0
  ReadBack = (w : Said) (os : List ℕ) → InTypes w → encoded e w ≡ octets os → ReadAs os w

  -- Two things which differ stay different: what is said otherwise is written otherwise.
  abbrev pub SaidDiffer : Type 0
  SaidDiffer = (w z : Said) (os : List ℕ) → InTypes w → InTypes z → encoded e w ≡ octets os → encoded e z ≡ octets os → w ≡ z

  -- 01's conditions: only elements of the message's table and no container beside them, the tables' criticalities, the frame's included, no mandatory element lacking, answer 0
  pub record Rewritable (s : List ℕ) : Type 0 where
    pub octets : Octets s
    pub what : Understood
    pub read : read_of e every s ≡ understood what
    pub accepted : what.outcome ≡ outcome.Accepted  -- answer 0
    pub crit : what.frame.crit ≡ (code_of e what.what.message).crit
    pub count : ℕ
    pub counted : Ok (record { elements = count; container = false }) ≡ count_at (container_of e what.what.message) s what.frame.from
    pub elements : Each (Regular (table_of e what.what.message) s) (heads_at s count (what.frame.from + 3))
    pub complete : lacking (table_of e what.what.message) what.what.values ≡ false

  -- Rewriting what was read gives the same octets.
  abbrev pub Rewritten : Type 0
  Rewritten = (s : List ℕ) (g : Rewritable s) → encoded e (said_by s g.what.what) ≡ octets s

  -- Octets that differ, and meet the conditions, say what differs.
  abbrev pub OctetsDiffer : Type 0
  OctetsDiffer = (s z : List ℕ) (g : Rewritable s) (h : Rewritable z) → said_by s g.what.what ≡ said_by z h.what.what → s ≡ z
