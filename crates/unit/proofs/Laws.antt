-- What is sent of a reply and settled then, whatever the items where none are needed; the unit that is written; and what was looked up.
-- Assumes nothing.
use Rattle.std.specs.Prelude.{None, Option, Some, Ok, Err}
use Prim.Native.Nat.{ℕ, ◌≤◌}
use mathlib.Core.Path.{◌≡◌, refl, sym, ap, subst, ◌∙◌}
use mathlib.Core.Bool.{Bool, true, false, not, ◌&&◌, true≢false}
use mathlib.Core.List.Memᴰ
use mathlib.Core.List.{List, [], ◌∷◌, ◌++◌, map}
use native.Mathlib.Omega.{arith}
use borrow.Author.Tests.{le-leb, leb-true, leb-false}
use lib.Dec.{leb}
use lib.ListN.{length, length-append, take, drop}
use lib.Seq.{take_all, take-length, take-append_seam}
use Rattle.lists.specs.Lists.{pick, keep}
use Rattle.lists.proofs.Tests.{on-pick, and_left, and_right}
use Rattle.identity.specs.declared.MmeId.{MmeId}
use Rattle.identity.specs.declared.MceId.{MceId}
use Rattle.identity.specs.declared.Tmgi.{Tmgi}
use Rattle.identity.specs.declared.Item.{Item}
use Rattle.values.specs.declared.Cause.{Cause}
use Rattle.entries.specs.declared.Entry.{Entry}
use Rattle.editions.specs.declared.Edition.{Edition}
use Rattle.frames.specs.declared.Frame.{Frame}
use Rattle.table.specs.declared.Association.{Association}
use Rattle.table.specs.declared.Table.{Table}
use Rattle.table.specs.declared.Standing.{Standing}
use Rattle.table.specs.Table.{State, held, table_holding, holding, starting, distinct_held}
use Rattle.table.specs.Table as table
use Rattle.table.proofs.Rows.{held_of}
use Rattle.table.proofs.Rules.{appended, not_appended}
use Rattle.table.proofs.Holding.{holding_of}
use Rattle.lent.specs.declared.Looked.{Looked}
use Rattle.lent.specs.Lent.{Held, Good, read_table, first_rows, table_octets}
use Rattle.lent.proofs.OneForm.{one_form}
use Rattle.units.specs.Unit as units
use Rattle.units.specs.Unit.{with_held, with_open, unit_octets, open_in, open_out, said_unit, MaybeUnit, is_unit, no_unit, read_unit, looked_in}
use Rattle.units.proofs.Parts.{read_unit_lem}
use Rattle.units.proofs.OneForm.{one_unit, table_of, marks_of_lem, mark_put}
use Rattle.put_table.specs.Out.{table_out}
use Rattle.put_table.proofs.Back.{written_back}
use Rattle.item_words.specs.Words.{item_of}
use Rattle.reset.specs.Slots.{names_none}
use Rattle.reset.proofs.Untouched.{without_none}
use Rattle.requests.specs.declared.Ask.{Ask}
use Rattle.requests.specs.declared.Ask.TheVariants as ask
use Rattle.requests.specs.declared.Seen.{Seen}
use Rattle.requests.specs.declared.Request.{Request}
use Rattle.requests.specs.declared.Request.TheVariants as request
use Rattle.requests.specs.Requests.{asks, request_of, items_in}
use Rattle.replies.specs.declared.Reply.{Reply}
use Rattle.replies.specs.declared.Reply.TheVariants as reply
use Rattle.replies.specs.Replies.{Replied, replied, reply_octets, has_identity, abstract_syntax, falsely_constructed}
use Rattle.verdicts.specs.declared.Outcome.{Outcome}
use Rattle.verdicts.specs.declared.Outcome.TheVariants as outcome
use Rattle.verdicts.specs.declared.Refusal.{Refusal}
use Rattle.verdicts.specs.Verdict.{Verdict, refused, Understood, read_of}
use Rattle.carry.specs.declared.Answer.{Answer}
use Rattle.carry.specs.declared.Answer.TheVariants as answer
use Rattle.carry.specs.declared.Change.{Change}
use Rattle.carry.specs.declared.Change.TheVariants as change
use Rattle.carry.specs.declared.Decision.{Decision}
use Rattle.carry.specs.Carry.{Ruling, start_rejected, rejection, ruled_by, ruling, started, stopped, carried_out, asked_by, decision, refusal}
use Rattle.put_reply.specs.Parts.{Sending, sent_in, Sends}
use Rattle.calls.specs.Judged.{ruled, judged_by, setup_answer}
use Rattle.calls.specs.Decided.{Decided, keeps, changed, applied, decided}
use Rattle.calls.specs.Call.{Call, Back, decided_on, on_unit, reply_of, answer_of, unit_after, settled, call}
use Rattle.unit.specs.declared.Back as back
use Rattle.unit.specs.Unit.{bare_on, unit_in, HasRows, lists_items, NoneListed, resets, carried_on, settled_on, Called}
use Rattle.unit.proofs.Items.{without_kept}

-- ---- the reply

-- its octets do not fit; or they stand in front
pub data Put (d os : List ℕ) : Option ℕ → List ℕ → Type 0 where
  not_put : leb (length os) (length d) ≡ false → Put d os None d
  put : leb (length os) (length d) ≡ true → Put d os (Some (length os)) (os ++ drop (length os) d)

put_in : (d os : List ℕ) → Put d os (sent_in d os).answer (sent_in d os).room
unfolding sent_in
put_in d os = by (leb (length os) (length d)) refl
  where
    by : (b : Bool) → leb (length os) (length d) ≡ b
        → let w : Sending = pick b (record { answer = Some (length os); room = os ++ drop (length os) d }) (record { answer = None; room = d }) in Put d os w.answer w.room
    by true e = put e
    by false e = not_put e

module _ (e : Edition) where
  -- the reply of a decision, whatever becomes of the unit
  pub reply_of_lem : (l : units.Unit) (is : List Item) (r : Replied) (x : Change) → reply_octets e r ≡ reply_of e (changed l is r x)
  reply_of_lem l is r (change.Stays a) = refl
  reply_of_lem l is r (change.Starts a) = refl
  reply_of_lem l is r (change.Stops m c) = refl
  reply_of_lem l is r change.Empties = refl
  reply_of_lem l is r change.Resets = refl
  reply_of_lem l is r change.SetsUp = refl
  reply_of_lem l is r (change.SetupFails w) = refl

  -- by the arm of what was sent
  pub sent_put : (d : List ℕ) (l : units.Unit) (is : List Item) (r : Replied) (y : Change) {x w : Option ℕ} {m : List ℕ} → x ≡ w → Sends (sent_in d (reply_octets e r)) x m → Put d (reply_of e (changed l is r y)) w m
  sent_put d l is r y {x} {w} {m} q h = subst (λ (os : List ℕ). Put d os w m) (reply_of_lem l is r y) (subst (λ (z : Option ℕ). Put d (reply_octets e r) z m) q (rw (h.answer, h.room) (put_in d (reply_octets e r))))

  module _ (t d : List ℕ) (x : Decided) where
    pub no_room_lem : {m : List ℕ} → Put d (reply_of e x) None m → Called (settled e t d x) (record { answer = answer.NoRoom; octets = 0 }) t m
    unfolding settled
    no_room_lem (not_put q) = rw q (record { answer = refl; octets = refl; unit = refl; room = refl })

    pub done : {n : ℕ} {m s : List ℕ} {a : Answer} → Put d (reply_of e x) (Some n) m → a ≡ answer_of x → s ≡ unit_after t x → Called (settled e t d x) (record { answer = a; octets = n }) s m
    unfolding settled
    done (put q) p r = rw q (record { answer = p; octets = refl; unit = r; room = refl })

    -- another that is the same
    pub settled_as : {y : Decided} → y ≡ x → {r : back.Back} {t' d' : List ℕ} → Called (settled e t d y) r t' d' → Called (settled e t d x) r t' d'
    settled_as q {r} {t'} {d'} h = subst (λ (z : Decided). Called (settled e t d z) r t' d') q h

-- ---- the items are needed in a partial reset alone

-- what is rejected lists none
none_rejected : (a : Ask) (x : Seen) (why : Cause) → lists_items (rejection a x why) ≡ false
unfolding rejection
none_rejected ask.Start x why = by x.mme
  where
    by : (m : Option MmeId) → lists_items (start_rejected m why) ≡ false
    by (Some m) = refl
    by None = refl
none_rejected ask.Stop x why = refl
none_rejected ask.Reset x why = refl
none_rejected ask.Indication x why = refl
none_rejected ask.SetupResponse x why = refl
none_rejected ask.SetupFailure x why = refl
none_rejected ask.Nothing x why = refl

none_refused : (a : Ask) (x : Seen) (o : Outcome) → NoneListed (ruling a x o)
none_refused a x outcome.Accepted = by (request_of a x)
  where
    by : (w : Option Request) → NoneListed (ruled_by (rejection a x abstract_syntax) w)
    by (Some q) = tt
    by None = none_rejected a x abstract_syntax
none_refused a x (outcome.Misplaced p) = none_rejected a x falsely_constructed
none_refused a x outcome.Rejected = none_rejected a x abstract_syntax

pub none_listed : (a : Ask) (x : Seen) (o : Outcome) {r : Ruling} → r ≡ ruling a x o → NoneListed r
none_listed a x o q = subst NoneListed (sym q) (none_refused a x o)

module _ (k : Standing) (c : MceId) where
  abbrev Agrees : Decision → Type 0
  Agrees d = lists_items d.reply ≡ resets d.change

  started_agrees : (m : MmeId) (t : Tmgi) (s : Option ℕ) → Agrees (started k c m t s)
  unfolding started
  started_agrees m t s = on-pick Agrees k.mme refl (on-pick Agrees k.mce refl (on-pick Agrees k.full refl refl))

  stopped_agrees : (m : MmeId) (x : MceId) → Agrees (stopped k m x)
  unfolding stopped
  stopped_agrees m x = on-pick Agrees k.pair refl refl

  carried_agrees : (q : Request) → Agrees (carried_out k c q)
  carried_agrees (request.Start m t s) = started_agrees m t s
  carried_agrees (request.Stop m x) = stopped_agrees m x
  carried_agrees request.Whole = refl
  carried_agrees request.Part = refl
  carried_agrees request.Indication = refl
  carried_agrees request.SetupResponse = refl
  carried_agrees (request.SetupFailure w) = refl

  agrees : (r : Ruling) → NoneListed r → Agrees (decision k c r)
  agrees (Ok q) n = carried_agrees q
  agrees (Err r) n = n

  pub items_agree : (r : Ruling) → NoneListed r → {d : Decision} → d ≡ decision k c r → Agrees d
  items_agree r n h = subst Agrees (sym h) (agrees r n)

replied_any : (e : Edition) (f : Frame) (is js : List Item) (es : List Entry) (r : Reply) → lists_items r ≡ false → replied e f is es r ≡ replied e f js es r
unfolding replied
replied_any e f is js es reply.None q = refl
replied_any e f is js es (reply.StartResponse m c) q = refl
replied_any e f is js es (reply.StartFailure m why) q = refl
replied_any e f is js es (reply.StopResponse m c) q = refl
replied_any e f is js es reply.Acknowledge q = refl
replied_any e f is js es reply.AcknowledgeItems q = absurd (true≢false q)
replied_any e f is js es (reply.Rejection x y why) q = refl
replied_any e f is js es (reply.PairNotHeld m c) q = refl

changed_any : (l : units.Unit) (is js : List Item) (r : Replied) (x : Change) → resets x ≡ false → changed l is r x ≡ changed l js r x
changed_any l is js r (change.Stays a) q = refl
changed_any l is js r (change.Starts a) q = refl
changed_any l is js r (change.Stops m c) q = refl
changed_any l is js r change.Empties q = refl
changed_any l is js r change.Resets q = absurd (true≢false q)
changed_any l is js r change.SetsUp q = refl
changed_any l is js r (change.SetupFails w) q = refl

changed_kept : (l : units.Unit) (is : List Item) (r : Replied) (x : Change) → changed l (keep has_identity is) r x ≡ changed l is r x
changed_kept l is r (change.Stays a) = refl
changed_kept l is r (change.Starts a) = refl
changed_kept l is r (change.Stops m c) = refl
changed_kept l is r change.Empties = refl
changed_kept l is r change.Resets = rw (without_kept is l.held)
changed_kept l is r change.SetsUp = refl
changed_kept l is r (change.SetupFails w) = refl

module _ (e : Edition) (l : units.Unit) (f : Frame) (is : List Item) (es : List Entry) (d : Decision) where
  -- by the items that have an identity
  pub applied_kept : {js ks : List Item} → js ≡ keep has_identity is → ks ≡ keep has_identity is → changed l js (replied e f ks es d.reply) d.change ≡ applied e l f is es d
  applied_kept p q = rw (p, q) (changed_kept l is (replied e f (keep has_identity is) es d.reply) d.change)

  -- by any others, where none are needed
  pub applied_any : (js ks : List Item) → lists_items d.reply ≡ resets d.change → resets d.change ≡ false
      → changed l js (replied e f ks es d.reply) d.change ≡ applied e l f is es d
  applied_any js ks p q =
      ap (λ (r : Replied). changed l js r d.change) (replied_any e f ks (keep has_identity is) es d.reply (p ∙ q))
      ∙ changed_any l js is (replied e f (keep has_identity is) es d.reply) d.change q

-- what is ruled is decided: a refusal lists no items
pub ruled_applied : (e : Edition) (u : units.Unit) (c : MceId) (w : Understood) (r : Ruling) → NoneListed r
    → applied e u w.frame (items_in w.what) w.noted (decision (table.standing (asked_by c r) u.held) c r) ≡ decided e u c (ruled e w r)
unfolding decided
ruled_applied e u c w (Ok q) n = refl
ruled_applied e u c w (Err r) n = ap (keeps answer.Rejected) (replied_any e w.frame (keep has_identity (items_in w.what)) [] w.noted r n)

-- ---- the unit

-- a start keeps the rows in front
start_front : (a : Association) (l : State) {n : ℕ} → n ≡ length l → (n ≤ length (starting a l)) × (take n l ≡ take n (starting a l))
start_front a l e = rw e (by (leb 256 (length l)) refl)
  where
    by : (b : Bool) → leb 256 (length l) ≡ b → (length l ≤ length (starting a l)) × (take (length l) l ≡ take (length l) (starting a l))
    by true q = rw (not_appended a l (leb-true 256 (length l) q)) (omega arith, refl)
    by false q = rw (appended a l (leb-false 256 (length l) q)) (rw length-append (omega arith), take-length l ∙ sym (take-append_seam l (a ∷ [])))

-- the table in front is written from row k on, where it has the rows before as they stood: what stood behind it stays
module _ (n : ℕ) (t : List ℕ) (h : HasRows n t) where
  abbrev l : State
  l = (unit_in n t).held

  table_in_lem : read_table (take 3074 t) ≡ Held l
  table_in_lem = table_of t (unit_in n t) h.0

  few : length l ≤ 256
  few = (one_form.table (take 3074 t) l table_in_lem).few

  put_from : (k : ℕ) (m : State) {x : Table} {t' : List ℕ} → k ≤ length l → k ≤ length m → take k l ≡ take k m → x ≡ table_holding m →
      t' ≡ table_out k (held x) (take 3074 t) ++ drop 3074 t → t' ≡ unit_octets (with_held (λ y. m) (unit_in n t))
  unfolding unit_octets
  put_from k m {x} {t'} a b e p q =
      let w : table_out k (held x) (take 3074 t) ≡ table_octets m =
      ap (λ (y : State). table_out k y (take 3074 t)) (ap held p ∙ held_of m) ∙ ap (table_out k m) (sym (one_form.again (take 3074 t) l table_in_lem)) ∙ written_back m l k few b a e in
      q ∙ (λ i. w i ++ marks_of_lem t (unit_in n t) h.0 i)

  -- all of it
  pub put_out : (m : State) {x : Table} {t' : List ℕ} → x ≡ table_holding m → t' ≡ table_out 0 (held x) (take 3074 t) ++ drop 3074 t → t' ≡ unit_octets (with_held (λ y. m) (unit_in n t))
  put_out m p q = put_from 0 m (omega arith) (omega arith) refl p q

  -- the rows by value, and what holds others then
  held_then : (f : State → State) {x y : Table} → x ≡ table_holding l → y ≡ holding (f (held x)) x → y ≡ table_holding (f l)
  held_then f {x} {y} p q = q ∙ ap (λ (z : State). holding (f z) x) (ap held p ∙ held_of l) ∙ ap (holding (f l)) p ∙ holding_of (f l) l few

  pub put_stop : (m : MmeId) (c : MceId) {x y : Table} {t' : List ℕ} → x ≡ table_holding l → y ≡ holding (table.stopping m c (held x)) x →
      t' ≡ table_out 0 (held y) (take 3074 t) ++ drop 3074 t → t' ≡ unit_octets (with_held (table.stopping m c) (unit_in n t))
  put_stop m c p q r = put_out (table.stopping m c l) (held_then (table.stopping m c) p q) r

  pub put_start : (a : Association) {x y : Table} {t' : List ℕ} → x ≡ table_holding l → y ≡ holding (starting a (held x)) x →
      t' ≡ table_out n (held y) (take 3074 t) ++ drop 3074 t → t' ≡ unit_octets (with_held (starting a) (unit_in n t))
  put_start a p q r =
      let s = start_front a l h.1 in
      put_from n (starting a l) (omega (arith, h.1)) s.0 s.1 (held_then (starting a) p q) r

  -- and then the mark of a setup request
  pub put_set_up : {s t' : List ℕ} → s ≡ unit_octets (with_held (λ y. []) (unit_in n t)) → t' ≡ open_out false s → t' ≡ unit_octets (with_open false (with_held (λ y. []) (unit_in n t)))
  unfolding distinct_held
  put_set_up e q =
      let u : units.Unit = with_held (λ y. []) (unit_in n t) in
      let g : Good [] = record { few = omega arith; apart = refl; each = λ a m. absurd (Memᴰ.not-nil m) } in
      q ∙ (ap (open_out false) e ∙ mark_put (unit_octets u) u (one_unit.back u (record { held = g })) false)

  pub put_closed : {t' : List ℕ} → t' ≡ open_out false t → t' ≡ unit_octets (with_open false (unit_in n t))
  put_closed q = q ∙ mark_put t (unit_in n t) h.0 false

-- the rows by value, and what a reset leaves of them
pub reset_rows : (l : State) (is : List Item) {t u : Table} → t ≡ table_holding l → u ≡ table_holding (table.without is (held t)) → u ≡ table_holding (table.without is l)
reset_rows l is e q = q ∙ rw (e, held_of l)

-- where no item names a row, the unit that a reset leaves is the one that is there
pub not_touched : (n : ℕ) (t : List ℕ) (h : HasRows n t) (ws : List ℕ) {b : Bool} → b ≡ (leb (length ws) 4 && names_none (map item_of ws) (first_rows n (take 3074 t))) → b ≡ true →
    t ≡ unit_octets (with_held (table.without (map item_of (take 256 ws))) (unit_in n t))
not_touched n t h ws e q =
    let l : State = (unit_in n t).held in
    let f = leb-true (length ws) 4 (and_left (leb (length ws) 4) (names_none (map item_of ws) l) (sym e ∙ q)) in
    let k = and_right (leb (length ws) 4) (names_none (map item_of ws) l) (sym e ∙ q) in
    let z : table.without (map item_of (take 256 ws)) l ≡ l = rw (take_all 256 ws (omega arith)) (without_none (map item_of ws) l k) in
    sym (ap (λ (x : State). unit_octets (with_held (λ y. x) (unit_in n t))) z ∙ one_unit.again t (unit_in n t) h.0)

-- what was looked up: the rows are those of a unit, and what is held of the identities stands in them
pub record Found (s : List ℕ) (i : Item) (l : Looked) : Type 0 where
  pub rows : HasRows l.count s
  pub standing : l.standing ≡ table.standing i (unit_in l.count s).held

-- what is read is what is said
unit_is : (s : List ℕ) (u : units.Unit) → read_unit s ≡ is_unit u → with_held (λ y. u.held) (said_unit s) ≡ u
unit_is s u q = ap (with_held (λ y. u.held)) (read_unit_lem s q).1

module _ (s : List ℕ) (i : Item) where
  pub found : {l : Looked} → Some l ≡ looked_in i (read_unit s) → Found s i l
  found {l} e = by (read_unit s) refl
    where
      by : (r : MaybeUnit) → read_unit s ≡ r → Found s i l
      by (is_unit u) q =
          let z : ◌≡◌ {A = Option Looked} (Some l) (Some (record { standing = table.standing i u.held; count = length u.held })) = e ∙ ap (looked_in i) q in
          let k : l ≡ record { standing = table.standing i u.held; count = length u.held } = cc in
          let m : l.count ≡ length u.held = ap (λ (x : Looked). x.count) k in
          let f : first_rows l.count (take 3074 s) ≡ u.held = ap (λ (x : ℕ). first_rows x (take 3074 s)) m ∙ one_form.rows (take 3074 s) u.held (table_of s u q) in
          record {
            rows = (q ∙ ap is_unit (sym (unit_is s u q) ∙ ap (λ (x : State). with_held (λ y. x) (said_unit s)) (sym f)), m ∙ ap length (sym f));
            standing = ap (λ (x : Looked). x.standing) k ∙ ap (table.standing i) (sym f);
          }
      by no_unit q = let z : ◌≡◌ {A = Option Looked} (Some l) None = e ∙ ap (looked_in i) q in cc

  pub has_no_unit : None ≡ looked_in i (read_unit s) → read_unit s ≡ no_unit
  has_no_unit e = by (read_unit s) refl
    where
      by : (r : MaybeUnit) → read_unit s ≡ r → read_unit s ≡ no_unit
      by no_unit q = q
      by (is_unit u) q = let z : ◌≡◌ {A = Option Looked} None (Some (record { standing = table.standing i u.held; count = length u.held })) = e ∙ ap (looked_in i) q in cc

-- ---- the call

module _ (e : Edition) (t d : List ℕ) where
  module _ (decide : units.Unit → Decided) where
    pub on_unit_lem : {u : units.Unit} {x : Decided} → read_unit t ≡ is_unit u → x ≡ decide u → {r : back.Back} {t' d' : List ℕ}
        → Called (settled e t d x) r t' d' → Called (carried_on e t d decide (read_unit t)) r t' d'
    on_unit_lem q p {r} {t'} {d'} h = rw (q, ← p) h

    pub off_unit : read_unit t ≡ no_unit → Called (carried_on e t d decide (read_unit t)) (record { answer = answer.NoUnit; octets = 0 }) t d
    off_unit q = rw q (record { answer = refl; octets = refl; unit = refl; room = refl })

  pub on_decision : (f : Frame) (is : List Item) (es : List Entry) (c : MceId) (q : Ruling) {u : units.Unit} {i : Item} {k : Standing} {x : Decision}
      → read_unit t ≡ is_unit u → i ≡ asked_by c q → k ≡ table.standing i u.held → x ≡ decision k c q → {r : back.Back} {t' d' : List ℕ}
      → Called (settled e t d (applied e u f is es x)) r t' d' → Called (carried_on e t d (λ m. applied e m f is es (decision (table.standing (asked_by c q) m.held) c q)) (read_unit t)) r t' d'
  on_decision f is es c q {u} {i} {k} {x} h a b g v =
      let z : x ≡ decision (table.standing (asked_by c q) u.held) c q = g ∙ ap (λ (y : Standing). decision y c q) (b ∙ ap (λ (j : Item). table.standing j u.held) a) in
      on_unit_lem (λ m. applied e m f is es (decision (table.standing (asked_by c q) m.held) c q)) h (ap (λ (y : Decision). applied e u f is es y) z) v

  -- decided in another way, with the same outcome
  pub on_same : (y : MaybeUnit) (decide choose : units.Unit → Decided) → ((u : units.Unit) → decide u ≡ choose u) → {r : back.Back} {t' d' : List ℕ}
      → Called (carried_on e t d decide y) r t' d' → Called (carried_on e t d choose y) r t' d'
  on_same y decide choose q {r} {t'} {d'} h = subst (λ (g : units.Unit → Decided). Called (carried_on e t d g y) r t' d') (λ i u. q u i) h

module _ (e : Edition) (t : List ℕ) (c : Call) where
  -- of octets that are not read nothing is done
  pub bare_called : (x : Refusal) {v : Verdict} {r : back.Back} → v ≡ refused x → r ≡ bare_on (read_unit t) (refusal x) → Called (settled_on e t c v (read_unit t)) r t c.room
  unfolding settled decided judged_by reply_octets
  bare_called x {v} {r} p q = rw (p, q) (by (read_unit t))
    where
      by : (y : MaybeUnit) → Called (settled_on e t c (refused x) y) (bare_on y (refusal x)) t c.room
      by (is_unit u) = rw (le-leb 0 (length c.room) (omega arith)) (record { answer = refl; octets = refl; unit = refl; room = refl })
      by no_unit = record { answer = refl; octets = refl; unit = refl; room = refl }

  -- the mark is the unit's
  is_open_lem : (u : units.Unit) → read_unit t ≡ is_unit u → open_in t ≡ u.is_open
  is_open_lem u q = ap (λ (x : units.Unit). x.is_open) (read_unit_lem t q).1

  -- where 14 is not due
  pub called : {v : Verdict} {b : Bool} → read_of e asks c.message ≡ v → setup_answer e c.message ≡ b → (b && not (open_in t)) ≡ false → {r : back.Back} {t' d' : List ℕ}
      → Called (settled_on e t c v (read_unit t)) r t' d' → Called (call e t c) r t' d'
  unfolding call decided_on
  called {v} {b} p k z {r} {t'} {d'} h =
      subst (λ (b : Back). Called b r t' d') (same (read_unit t) refl) (subst (λ (x : Verdict). Called (settled_on e t c x (read_unit t)) r t' d') (sym p) h)
    where
      n : (setup_answer e c.message && not (open_in t)) ≡ false
      n = ap (λ (x : Bool). x && not (open_in t)) k ∙ z

      same : (y : MaybeUnit) → read_unit t ≡ y → settled_on e t c (read_of e asks c.message) y ≡ on_unit e t c y
      same (is_unit u) q = rw (ap (λ (b : Bool). setup_answer e c.message && not b) (sym (is_open_lem u q)) ∙ n)
      same no_unit q = refl

  -- where it is
  pub not_asked_for : {b : Bool} → setup_answer e c.message ≡ b → (b && not (open_in t)) ≡ true → {r : back.Back} → r ≡ bare_on (read_unit t) answer.NoneOpen → Called (call e t c) r t c.room
  unfolding call decided_on settled reply_octets
  not_asked_for {b} i z {r} q = rw q (by (read_unit t) refl)
    where
      n : (setup_answer e c.message && not (open_in t)) ≡ true
      n = ap (λ (x : Bool). x && not (open_in t)) i ∙ z

      by : (y : MaybeUnit) → read_unit t ≡ y → Called (on_unit e t c y) (bare_on y answer.NoneOpen) t c.room
      by (is_unit u) k =
          rw (ap (λ (b : Bool). setup_answer e c.message && not b) (sym (is_open_lem u k)) ∙ n, le-leb 0 (length c.room) (omega arith))
          (record { answer = refl; octets = refl; unit = refl; room = refl })
      by no_unit k = record { answer = refl; octets = refl; unit = refl; room = refl }
