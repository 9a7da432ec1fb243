-- A reply's elements are looked up by id, its parts by the row's kind: in each table they are the same.
-- Assumes nothing.
use Rattle.plan.specs.declared.Unwritten.TheVariants.{NoRoom}
use Rattle.std.specs.Prelude.{None, Option, Some, Err}
use mathlib.Core.Path.{◌≡◌, ◌∙◌, refl, sym, ap}
use mathlib.Core.Bool.{Bool, true, false}
use mathlib.Core.List.{List, [], ◌∷◌, ◌++◌, map}
use Prim.Native.Nat.{ℕ}
use native.Mathlib.Omega.{arith}
use borrow.Author.Tests.{le-leb, ltb-false}
use lib.Dec.{leb}
use lib.ListN.{length, drop, length-map}
use Rattle.lists.specs.Lists.{pick}
use Rattle.identity.specs.declared.MmeId.{MmeId}
use Rattle.identity.specs.declared.MceId.{MceId}
use Rattle.identity.specs.declared.Item.{Item}
use Rattle.values.specs.declared.Cause.{Cause}
use Rattle.entries.specs.declared.Entry.{Entry}
use Rattle.frames.specs.declared.Frame.{Frame}
use Rattle.editions.specs.declared.Edition.{Edition}
use Rattle.editions.specs.declared.Edition.TheVariants.{Release18, Warnings, WarningsLab}
use Rattle.editions.specs.declared.Message.{Message}
use Rattle.editions.specs.declared.Message.TheVariants as message
use Rattle.editions.specs.Editions.{printed, table_of}
use Rattle.meaning.specs.Value.{Said}
use Rattle.meaning.specs.Written.{Encoded, octets, none, encoded}
use Rattle.plan.specs.Written.{kept, in_front, written_in, Writes, Written}
use Rattle.replies.specs.declared.Reply.{Reply}
use Rattle.replies.specs.declared.Reply.TheVariants as reply
use Rattle.replies.specs.Replies.{Replied, silent, says, some_of, value_of, list_only, of_frame, replied, reply_octets}
use Rattle.item_words.specs.Words.{item_of}
use Rattle.entry_words.specs.EntryWords.{entry_by}
use Rattle.put_reply.specs.declared.Parts.{Parts}
use Rattle.put_reply.specs.Parts.{parts_of, replied_by, value_by, given_rows, sending, sent_in, sent_as, Sends}

none_of : {A : Type 0} (l : List A) → some_of l ≡ false → l ≡ []
none_of [] e = refl
none_of (a ∷ l) e = let h = ltb-false 0 (length (a ∷ l)) e in absurd (omega arith)

module _ (f : Frame) (is : List Item) (es : List Entry) where
  abbrev As : Reply → Message → Type 0
  As r m = replied Release18 f is es r ≡ says (record { message = m; values = given_rows is es (parts_of f (length is) (length es) r) (table_of Release18 m) })

  start_response : (m : MmeId) (c : MceId) (b : Bool) → some_of es ≡ b → As (reply.StartResponse m c) message.StartResponse
  unfolding replied parts_of value_by value_of list_only printed
  start_response m c true e = rw e
  start_response m c false e = rw e

  start_failure : (m : MmeId) (why : Cause) (b : Bool) → some_of es ≡ b → As (reply.StartFailure m why) message.StartFailure
  unfolding replied parts_of value_by value_of list_only printed
  start_failure m why true e = rw e
  start_failure m why false e = rw e

  stop_response : (m : MmeId) (c : MceId) (b : Bool) → some_of es ≡ b → As (reply.StopResponse m c) message.StopResponse
  unfolding replied parts_of value_by value_of list_only printed
  stop_response m c true e = rw e
  stop_response m c false e = rw e

  acknowledge : (b : Bool) → some_of es ≡ b → As reply.Acknowledge message.ResetAcknowledge
  unfolding replied parts_of value_by value_of list_only printed
  acknowledge true e = rw e
  acknowledge false e = rw e

  acknowledge_items : (a : Bool) → some_of is ≡ a → (b : Bool) → some_of es ≡ b → As reply.AcknowledgeItems message.ResetAcknowledge
  unfolding replied parts_of value_by value_of list_only printed
  acknowledge_items true d true e = rw (d, e)
  acknowledge_items true d false e = rw (d, e)
  acknowledge_items false d true e = rw (d, e)
  acknowledge_items false d false e = rw (d, e)

  rejection : (x : Option MmeId) (y : Option MceId) (why : Cause) (b : Bool) → some_of es ≡ b → As (reply.Rejection x y why) message.ErrorIndication
  unfolding replied parts_of value_by value_of of_frame printed
  rejection (Some m) (Some c) why true e = rw e
  rejection (Some m) None why true e = rw e
  rejection None (Some c) why true e = rw e
  rejection None None why true e = rw e
  rejection (Some m) (Some c) why false e = rw (e, none_of es e)
  rejection (Some m) None why false e = rw (e, none_of es e)
  rejection None (Some c) why false e = rw (e, none_of es e)
  rejection None None why false e = rw (e, none_of es e)

  pair_not_held : (m : MmeId) (c : MceId) (b : Bool) → some_of es ≡ b → As (reply.PairNotHeld m c) message.ErrorIndication
  unfolding replied parts_of value_by value_of of_frame printed
  pair_not_held m c true e = rw e
  pair_not_held m c false e = rw e

  said_18 : (r : Reply) {n : Message} → replied_by r ≡ Some n
      → replied Release18 f is es r ≡ says (record { message = n; values = given_rows is es (parts_of f (length is) (length es) r) (table_of Release18 n) })
  said_18 reply.None g = let z : ◌≡◌ {A = ℕ} 0 1 = cc in absurd (omega arith)
  said_18 (reply.StartResponse m c) {n} g = let z : message.StartResponse ≡ n = cc in rw (← z) (start_response m c (some_of es) refl)
  said_18 (reply.StartFailure m why) {n} g = let z : message.StartFailure ≡ n = cc in rw (← z) (start_failure m why (some_of es) refl)
  said_18 (reply.StopResponse m c) {n} g = let z : message.StopResponse ≡ n = cc in rw (← z) (stop_response m c (some_of es) refl)
  said_18 reply.Acknowledge {n} g = let z : message.ResetAcknowledge ≡ n = cc in rw (← z) (acknowledge (some_of es) refl)
  said_18 reply.AcknowledgeItems {n} g = let z : message.ResetAcknowledge ≡ n = cc in rw (← z) (acknowledge_items (some_of is) refl (some_of es) refl)
  said_18 (reply.Rejection x y why) {n} g = let z : message.ErrorIndication ≡ n = cc in rw (← z) (rejection x y why (some_of es) refl)
  said_18 (reply.PairNotHeld m c) {n} g = let z : message.ErrorIndication ≡ n = cc in rw (← z) (pair_not_held m c (some_of es) refl)

  -- the tables of the replies are the same in all editions
  said_lab : (r : Reply) {n : Message} → replied_by r ≡ Some n
      → replied WarningsLab f is es r ≡ says (record { message = n; values = given_rows is es (parts_of f (length is) (length es) r) (table_of WarningsLab n) })
  unfolding replied printed
  said_lab reply.None g = let z : ◌≡◌ {A = ℕ} 0 1 = cc in absurd (omega arith)
  said_lab (reply.StartResponse m c) {n} g = let z : message.StartResponse ≡ n = cc in rw (← z) (start_response m c (some_of es) refl)
  said_lab (reply.StartFailure m why) {n} g = let z : message.StartFailure ≡ n = cc in rw (← z) (start_failure m why (some_of es) refl)
  said_lab (reply.StopResponse m c) {n} g = let z : message.StopResponse ≡ n = cc in rw (← z) (stop_response m c (some_of es) refl)
  said_lab reply.Acknowledge {n} g = let z : message.ResetAcknowledge ≡ n = cc in rw (← z) (acknowledge (some_of es) refl)
  said_lab reply.AcknowledgeItems {n} g = let z : message.ResetAcknowledge ≡ n = cc in rw (← z) (acknowledge_items (some_of is) refl (some_of es) refl)
  said_lab (reply.Rejection x y why) {n} g = let z : message.ErrorIndication ≡ n = cc in rw (← z) (rejection x y why (some_of es) refl)
  said_lab (reply.PairNotHeld m c) {n} g = let z : message.ErrorIndication ≡ n = cc in rw (← z) (pair_not_held m c (some_of es) refl)

  said_as : (e : Edition) (r : Reply) {n : Message} → replied_by r ≡ Some n
      → replied e f is es r ≡ says (record { message = n; values = given_rows is es (parts_of f (length is) (length es) r) (table_of e n) })
  unfolding replied
  said_as Release18 r g = said_18 r g
  said_as Warnings r g = said_18 r g
  said_as WarningsLab r g = said_lab r g

  pub said_none : (e : Edition) (r : Reply) → replied_by r ≡ None → replied e f is es r ≡ silent
  unfolding replied
  said_none e reply.None g = refl
  said_none e (reply.StartResponse m c) g = let z : ◌≡◌ {A = ℕ} 0 1 = cc in absurd (omega arith)
  said_none e (reply.StartFailure m why) g = let z : ◌≡◌ {A = ℕ} 0 1 = cc in absurd (omega arith)
  said_none e (reply.StopResponse m c) g = let z : ◌≡◌ {A = ℕ} 0 1 = cc in absurd (omega arith)
  said_none e reply.Acknowledge g = let z : ◌≡◌ {A = ℕ} 0 1 = cc in absurd (omega arith)
  said_none e reply.AcknowledgeItems g = let z : ◌≡◌ {A = ℕ} 0 1 = cc in absurd (omega arith)
  said_none e (reply.Rejection x y why) g = let z : ◌≡◌ {A = ℕ} 0 1 = cc in absurd (omega arith)
  said_none e (reply.PairNotHeld m c) g = let z : ◌≡◌ {A = ℕ} 0 1 = cc in absurd (omega arith)

pub said_by_lem : (f : Frame) (ks ns : List ℕ) (e : Edition) (r : Reply) {m : Message} {p : Parts} → replied_by r ≡ Some m → p ≡ parts_of f (length ks) (length ns) r
    → replied e f (map item_of ks) (map entry_by ns) r ≡ says (record { message = m; values = given_rows (map item_of ks) (map entry_by ns) p (table_of e m) })
said_by_lem f ks ns e r {m} {p} g h =
    let i = ap (λ (k : ℕ). parts_of f k (length (map entry_by ns)) r) (length-map ks item_of) ∙ ap (λ (n : ℕ). parts_of f (length ks) n r) (length-map ns entry_by) ∙ sym h in
    said_as f (map item_of ks) (map entry_by ns) e r g
    ∙ ap (λ (p : Parts). says (record { message = m; values = given_rows (map item_of ks) (map entry_by ns) p (table_of e m) })) i

-- ---- what sending leaves, by what writing leaves

module _ (l : List ℕ) where
  nothing : Sends (sent_in l []) (Some 0) l
  unfolding sent_in
  nothing = rw (le-leb 0 (length l) (omega arith)) (record { answer = refl; room = refl })

  pub sends_none : (e : Edition) {x : Replied} → x ≡ silent → Sends (sent_in l (reply_octets e x)) (Some 0) l
  unfolding reply_octets
  sends_none e g = rw g nothing

  pub sends_as : (e : Edition) (w : Said) {x : Replied} → x ≡ says w → {r : Written} {k : List ℕ} → Writes (written_in l (encoded e w)) r k → Sends (sent_in l (reply_octets e x)) (sent_as r) k
  unfolding reply_octets written_in sent_in
  sends_as e w g {r} {k} y = rw g (by (encoded e w) refl y)
    where
      at : (os : List ℕ) (b : Bool) → Writes (pick b (in_front l os) (kept (Err NoRoom) l)) r k
          → Sends (pick b (sending (Some (length os)) (os ++ drop (length os) l)) (sending None l)) (sent_as r) k
      at os true y = record { answer = ap sent_as y.answer; room = y.room }
      at os false y = record { answer = ap sent_as y.answer; room = y.room }

      by : (x : Encoded) → encoded e w ≡ x → Writes (written_in l x) r k → Sends (sent_in l (reply_octets e (says w))) (sent_as r) k
      by none f y = rw (f, ap sent_as y.answer, y.room) nothing
      by (octets os) f y = rw f (at os (leb (length os) (length l)) y)
