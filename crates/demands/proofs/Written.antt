-- Every reply is written, whatever identities, items, entries and frame it is made of, if they are in range; and so its octets read back as what it says.
-- Its elements suit the rows of its message's table: one line for each edition and reply.
-- Assumes nothing.
use Rattle.std.specs.Prelude.{None, Option, Some}
use Prim.Native.Nat.{ℕ, ◌+◌, ◌*◌, ◌-◌, ◌<◌, ◌≤◌}
use mathlib.Core.Path.{◌≡◌, ◌∙◌, refl, sym, subst}
use mathlib.Core.Bool.{Bool, true, false}
use mathlib.Core.List.{List, [], ◌∷◌, ◌++◌, Memᴰ}
use native.Mathlib.Omega.{arith}
use borrow.Author.Tests.{lt-ltb, ltb-true, ltb-false}
use lib.Dec.{eqb}
use lib.ListN.{length, length-append, drop_of_length-le}
use Rattle.lists.specs.Lists.{pick, keep}
use Rattle.lists.proofs.Tests.{on-pick}
use Rattle.lists.proofs.Keep.{length_keep}
use Rattle.octets.proofs.Back.{length_number}
use Rattle.octets.proofs.Writing.{length_short}
use Rattle.octets.specs.Write.{number_octets, length_octets}
use Rattle.octets.specs.Many.{Each, each_octets}
use Rattle.identity.specs.declared.MmeId.{MmeId}
use Rattle.identity.specs.declared.MceId.{MceId}
use Rattle.identity.specs.declared.Item.{Item}
use Rattle.values.specs.declared.Cause.{Cause}
use Rattle.values.specs.Written.{GoodCause, cause_octets}
use Rattle.items.proofs.Back.{item_size}
use Rattle.packed.specs.Packed.{◌bits◌, packed}
use Rattle.items.specs.Written.{acknowledgement_crit, item_octets, item_element_octets, items_octets, mme_in, mce_in, GoodMaybe, GoodItem}
use Rattle.entries.specs.declared.Entry.{Entry}
use Rattle.diagnostics.specs.declared.Head.{Head}
use Rattle.diagnostics.specs.Diagnostics.{Diagnostics}
use Rattle.diagnostics.specs.Written.{head_octets, entry_list_octets, diagnostics_octets, GoodEntry, GoodDiagnostics}
use Rattle.put_diagnostics.proofs.Sizes.{head_small, list_size}
use Rattle.rows.specs.declared.Kind.TheVariants as kind
use Rattle.rows.specs.declared.Row.{Row}
use Rattle.rows.specs.declared.Triggers.{Triggers}
use Rattle.rows.specs.declared.Triggers.TheVariants.{Three}
use Rattle.rows.specs.Table.{meanings}
use Rattle.editions.specs.declared.Message.{Message}
use Rattle.editions.specs.declared.Message.TheVariants as message
use Rattle.editions.specs.declared.Edition.{Edition}
use Rattle.editions.specs.declared.Edition.TheVariants.{Release18}
use Rattle.editions.specs.Ids.{id_mme_mbms_m3ap_id, id_mce_mbms_m3ap_id, id_cause, id_criticality_diagnostics, id_mbms_service_associated_logical_m3_connection_list_res_ack}
use Rattle.editions.specs.Editions.{printed, messages_of, table_of, number_of, of_m3ap, first_of, numbered_by}
use Rattle.editions.proofs.Names.{only_m3ap, numbered_listed}
use Rattle.frames.specs.declared.Frame.{Frame}
use Rattle.meaning.specs.Value as value
use Rattle.meaning.specs.Value.{Given, given, absent}
use Rattle.meaning.specs.Written.{octets_of, has_octets}
use Rattle.round_trips.proofs.ValueAgain.{counted_good, diagnostics_has}
use Rattle.replies.specs.declared.Reply.{Reply}
use Rattle.replies.specs.declared.Reply.TheVariants as reply
use Rattle.replies.specs.Replies.{Element, ◌is◌, value_of, saying, unknown_pair, mme_if, mce_if, some_of, list_only, of_frame, has_identity, listing, Replied, silent, says, replied}
use Rattle.demands.proofs.Taken.{Takes, Taken, taken_none, taken_more, takes_value, takes_absent, Written, written}

-- ---- what is in range

-- a list of diagnostics
pub record GoodEntries (es : List Entry) : Type 0 where
  pub few : length es ≤ 256
  pub each : Each GoodEntry es

pub record GoodFrame (f : Frame) : Type 0 where
  pub kind : f.kind < 3
  pub code : f.code < 256
  pub crit : f.crit < 3

-- an identity, if it is there
abbrev pub GoodMme : Option MmeId → Type 0
GoodMme x = GoodMaybe (mme_in x)

abbrev pub GoodMce : Option MceId → Type 0
GoodMce y = GoodMaybe (mce_in y)

pub record GoodList (items : List Item) : Type 0 where
  pub few : length items ≤ 256
  pub each : Each GoodItem items

-- what a reply says of its own
abbrev pub GoodReply : Reply → Type 0
GoodReply reply.None = Unit
GoodReply (reply.StartResponse m c) = (m.0 < 65536) × (c.0 < 65536)
GoodReply (reply.StartFailure m why) = (m.0 < 65536) × GoodCause why
GoodReply (reply.StopResponse m c) = (m.0 < 65536) × (c.0 < 65536)
GoodReply reply.Acknowledge = Unit
GoodReply reply.AcknowledgeItems = Unit
GoodReply (reply.Rejection x y why) = GoodMme x × GoodMce y × GoodCause why
GoodReply (reply.PairNotHeld m c) = (m.0 < 65536) × (c.0 < 65536)

-- ---- values

-- what stands before the list, where there is nothing else, and of a frame
abbrev list_head : Head
list_head = record { code = None; trigger = None; crit = None; listed = true }

abbrev frame_head : Frame → List Entry → Head
frame_head f es = record { code = Some f.code; trigger = Some f.kind; crit = Some f.crit; listed = some_of es }

each_small : (crit : ℕ) (items : List Item) → length (each_octets (item_element_octets crit) items) ≤ 9 * length items
unfolding item_element_octets
each_small crit [] = omega arith
each_small crit (i ∷ items) =
    let n : ℕ = length (item_octets i) in
    let s = (item_size i).1 in
    let l : length_octets n ≡ n ∷ [] = length_short n (omega arith) in
    let a : length (item_element_octets crit i) ≡ 4 + n =
    rw (length-append (number_octets 2 14) (packed (2 bits crit ∷ []) ∷ (length_octets n ++ item_octets i)), length_number 2 14, l) (omega arith) in
    let b = each_small crit items in
    rw (length-append (item_element_octets crit i) (each_octets (item_element_octets crit) items)) (omega arith)

pub items_size : (crit : ℕ) (items : List Item) → length items ≤ 256 → length (items_octets crit items) ≤ 2305
unfolding items_octets
items_size crit items h =
    let a = length_number 1 (length items - 1) in
    let b = each_small crit items in
    rw (length-append (number_octets 1 (length items - 1)) (each_octets (item_element_octets crit) items)) (omega arith)

diagnostics_size : (n : ℕ) (d : Diagnostics) → GoodDiagnostics n d → length (diagnostics_octets d) ≤ 773
unfolding diagnostics_octets
diagnostics_size n d g = rw length-append (by d.head.listed)
  where
    by : (t : Bool) → length (head_octets d.head) + length (entry_list_octets t d.entries) ≤ 773
    by true = let a = head_small d.head in let b = list_size d.entries in let c = g.count in omega arith
    by false = let a = head_small d.head in omega arith

module _ {r : Row} where
  pub takes_mme : (m : MmeId) → kind.Mme ≡ r.kind → m.0 < 65536 → Takes r (given (value.mme m)) 7
  unfolding has_octets octets_of
  takes_mme m k g = takes_value (value.mme m) 2 k g refl (let n = length_number 2 m.0 in omega arith)

  pub takes_mce : (c : MceId) → kind.Mce ≡ r.kind → c.0 < 65536 → Takes r (given (value.mce c)) 7
  unfolding has_octets octets_of
  takes_mce c k g = takes_value (value.mce c) 2 k g refl (let n = length_number 2 c.0 in omega arith)

  pub takes_cause : (c : Cause) → kind.Cause ≡ r.kind → GoodCause c → Takes r (given (value.cause c)) 6
  unfolding has_octets octets_of cause_octets
  takes_cause c k g = let e = lt-ltb _ _ g in takes_value (value.cause c) 1 k tt e (rw e (omega arith))

  takes_list : (items : List Item) → kind.Acknowledged ≡ r.kind → 0 < length items → length items ≤ 256 → Each GoodItem items → Takes r (given (value.list items)) 2310
  unfolding has_octets octets_of
  takes_list items k p b g = takes_value (value.list items) 2305 k g (counted_good (length items) p b) (items_size acknowledgement_crit items b)

  takes_diagnostics : (t : Triggers) (d : Diagnostics) → kind.Diagnostics t ≡ r.kind → GoodDiagnostics (meanings t) d → Takes r (given (value.diagnostics t d)) 778
  unfolding has_octets octets_of
  takes_diagnostics t d k g =
      takes_value (value.diagnostics t d) 773 k
      (record { code = g.head.code; ids = ids d.entries g.entries; none = none })
      (diagnostics_has (meanings t) d g) (diagnostics_size (meanings t) d g)
    where
      ids : (es : List Entry) → Each GoodEntry es → Each (λ (e : Entry). e.id < 65536) es
      ids [] h = tt
      ids (e ∷ es) h = (h.0.id, ids es h.1)

      none : d.head.listed ≡ false → d.entries ≡ []
      none e = drop_of_length-le d.entries {i = 0} (ltb-false 0 (length d.entries) (sym g.listed ∙ e))

  -- what comes to nothing
  takes_none : {v : Given (List ℕ)} (n : ℕ) → v ≡ absent → r.mandatory ≡ false → Takes r v n
  takes_none n q e = rw q (takes_absent n e)

  takes_only : (es : List Entry) → kind.Diagnostics Three ≡ r.kind → r.mandatory ≡ false → GoodEntries es → Takes r (value_of (list_only es) id_criticality_diagnostics) 778
  unfolding list_only value_of
  takes_only es k e n = by (some_of es) refl
    where
      by : (t : Bool) → some_of es ≡ t
          → Takes r (value_of (pick t (id_criticality_diagnostics is value.diagnostics Three (record { head = list_head; entries = es }) ∷ []) []) id_criticality_diagnostics) 778
      by true q = takes_diagnostics Three (record { head = list_head; entries = es }) k (record { head = record { code = tt; trigger = tt; crit = tt }; entries = n.each; listed = sym q; count = n.few })
      by false q = takes_absent 778 e

-- ---- the elements of each reply

each_keep : {A : Type 0} (P : A → Type 0) (p : A → Bool) (l : List A) → Each P l → Each P (keep p l)
each_keep P p [] g = tt
each_keep P p (a ∷ l) g = by (p a) (each_keep P p l g.1)
  where
    by : (b : Bool) → Each P (keep p l) → Each P (pick b (a ∷ []) [] ++ keep p l)
    by true h = (g.0, h)
    by false h = h

-- elements suit the table of their message
abbrev Suit : Edition → Message → List Element → ℕ → Type 0
Suit e m xs n = Taken (table_of e m) (saying e m xs).values n

module _ (es : List Entry) (n : GoodEntries es) where
  response_suits : (m : MmeId) (c : MceId) → m.0 < 65536 → c.0 < 65536
      → Suit Release18 message.StartResponse (id_mme_mbms_m3ap_id is value.mme m ∷ id_mce_mbms_m3ap_id is value.mce c ∷ list_only es) 792
  unfolding printed value_of
  response_suits m c g h = taken_more (takes_mme m refl g) (taken_more (takes_mce c refl h) (taken_more (takes_only es refl refl n) taken_none))

  stopped_suits : (m : MmeId) (c : MceId) → m.0 < 65536 → c.0 < 65536
      → Suit Release18 message.StopResponse (id_mme_mbms_m3ap_id is value.mme m ∷ id_mce_mbms_m3ap_id is value.mce c ∷ list_only es) 792
  unfolding printed value_of
  stopped_suits m c g h = taken_more (takes_mme m refl g) (taken_more (takes_mce c refl h) (taken_more (takes_only es refl refl n) taken_none))

  failure_suits : (m : MmeId) (why : Cause) → m.0 < 65536 → GoodCause why
      → Suit Release18 message.StartFailure (id_mme_mbms_m3ap_id is value.mme m ∷ id_cause is value.cause why ∷ list_only es) 791
  unfolding printed value_of
  failure_suits m why g h = taken_more (takes_mme m refl g) (taken_more (takes_cause why refl h) (taken_more (takes_only es refl refl n) taken_none))

  -- an id that the list of diagnostics does not have
  other_absent : (id : ℕ) → eqb id_criticality_diagnostics id ≡ false → value_of (list_only es) id ≡ absent
  unfolding list_only value_of
  other_absent id q = on-pick (λ (xs : List Element). value_of xs id ≡ absent) (some_of es) (rw q) refl

  -- a list of items, if there are any
  listed_suits : (kept : List Item) → GoodList kept → Suit Release18 message.ResetAcknowledge (listing kept ++ list_only es) 3088
  unfolding printed value_of
  listed_suits kept g = by (some_of kept) refl
    where
      by : (t : Bool) → some_of kept ≡ t
          → Suit Release18 message.ResetAcknowledge (pick t (id_mbms_service_associated_logical_m3_connection_list_res_ack is value.list kept ∷ []) [] ++ list_only es) 3088
      by true q = taken_more (takes_list kept refl (ltb-true 0 (length kept) q) g.few g.each) (taken_more (takes_only es refl refl n) taken_none)
      by false q = taken_more (takes_none 2310 (other_absent id_mbms_service_associated_logical_m3_connection_list_res_ack refl) refl) (taken_more (takes_only es refl refl n) taken_none)

-- diagnostics behind the cause of an ERROR INDICATION, which has no other element there
record Diagnosing (d : List Element) : Type 0 where
  mme : value_of d id_mme_mbms_m3ap_id ≡ absent
  mce : value_of d id_mce_mbms_m3ap_id ≡ absent
  list : (r : Row) → kind.Diagnostics Three ≡ r.kind → r.mandatory ≡ false → Takes r (value_of d id_criticality_diagnostics) 778

error_suits : (x : Option MmeId) (y : Option MceId) (why : Cause) (d : List Element) → GoodMme x → GoodMce y → GoodCause why → Diagnosing d
    → Suit Release18 message.ErrorIndication (mme_if x ++ (mce_if y ++ (id_cause is value.cause why ∷ d))) 798
unfolding printed value_of
error_suits (Some m) (Some c) why d g h k t =
    taken_more (takes_mme m refl g) (taken_more (takes_mce c refl h) (taken_more (takes_cause why refl k) (taken_more (t.list _ refl refl) taken_none)))
error_suits (Some m) None why d g h k t =
    taken_more (takes_mme m refl g) (taken_more (takes_none 7 t.mce refl) (taken_more (takes_cause why refl k) (taken_more (t.list _ refl refl) taken_none)))
error_suits None (Some c) why d g h k t =
    taken_more (takes_none 7 t.mme refl) (taken_more (takes_mce c refl h) (taken_more (takes_cause why refl k) (taken_more (t.list _ refl refl) taken_none)))
error_suits None None why d g h k t =
    taken_more (takes_none 7 t.mme refl) (taken_more (takes_none 7 t.mce refl) (taken_more (takes_cause why refl k) (taken_more (t.list _ refl refl) taken_none)))

frame_diagnosing : (f : Frame) (es : List Entry) → GoodFrame f → GoodEntries es → Diagnosing (of_frame f es)
unfolding of_frame value_of
frame_diagnosing f es u n = record {
  mme = refl;
  mce = refl;
  list = λ r k m. takes_diagnostics Three (record { head = frame_head f es; entries = es }) k
      (record { head = record { code = u.code; trigger = u.kind; crit = u.crit }; entries = n.each; listed = refl; count = n.few });
}

none_diagnosing : Diagnosing []
unfolding value_of
none_diagnosing = record { mme = refl; mce = refl; list = λ r k m. takes_absent 778 m }

-- ---- the replies, to a message with this frame, these items and the list of diagnostics es

-- none, or what is written
abbrev pub Spoken : Edition → Replied → Type 0
Spoken e silent = Unit
Spoken e (says w) = Written e w

kept_good : (items : List Item) → GoodList items → GoodList (keep has_identity items)
kept_good items g = let k = length_keep has_identity items in let b = g.few in record { few = omega arith; each = each_keep GoodItem has_identity items g.each }

-- a message of Release 18, by its number
mine : (m : Message) → numbered_by Release18 (number_of Release18 m) ≡ Some m → Memᴰ m (messages_of Release18)
mine m q = numbered_listed Release18 (number_of Release18 m) m q

module _ (f : Frame) (u : GoodFrame f) (items : List Item) (i : GoodList items) (es : List Entry) (n : GoodEntries es) where
  abbrev Replies : Edition → Reply → Type 0
  Replies e r = Spoken e (replied e f (keep has_identity items) es r)

  spoken_18 : (r : Reply) → GoodReply r → Replies Release18 r
  unfolding replied numbered_by first_of printed
  spoken_18 reply.None g = tt
  spoken_18 (reply.StartResponse m c) g = written Release18 _ (mine message.StartResponse refl) 792 (response_suits es n m c g.0 g.1) (omega arith)
  spoken_18 (reply.StartFailure m why) g = written Release18 _ (mine message.StartFailure refl) 791 (failure_suits es n m why g.0 g.1) (omega arith)
  spoken_18 (reply.StopResponse m c) g = written Release18 _ (mine message.StopResponse refl) 792 (stopped_suits es n m c g.0 g.1) (omega arith)
  spoken_18 reply.Acknowledge g = written Release18 _ (mine message.ResetAcknowledge refl) 3088 (listed_suits es n [] (record { few = omega arith; each = tt })) (omega arith)
  spoken_18 reply.AcknowledgeItems g = written Release18 _ (mine message.ResetAcknowledge refl) 3088 (listed_suits es n (keep has_identity items) (kept_good items i)) (omega arith)
  spoken_18 (reply.Rejection x y why) g = written Release18 _ (mine message.ErrorIndication refl) 798 (error_suits x y why (of_frame f es) g.0 g.1 g.2 (frame_diagnosing f es u n)) (omega arith)
  spoken_18 (reply.PairNotHeld m c) g =
      written Release18 _ (mine message.ErrorIndication refl) 798
      (error_suits (Some m) (Some c) unknown_pair (pick (some_of es) (of_frame f es) []) g.0 g.1 (omega arith)
      (on-pick Diagnosing (some_of es) (frame_diagnosing f es u n) none_diagnosing)) (omega arith)

  -- in whichever edition of M3AP
  pub spoken : (e : Edition) → of_m3ap e ≡ true → (r : Reply) → GoodReply r → Replies e r
  spoken e j r g = subst (λ (x : Edition). Replies x r) (only_m3ap e j) (spoken_18 r g)
