-- Each answer of the table call occurs: messages and units that get it. And a room of 3,200 octets is always enough.
-- Assumes nothing.
use Prim.Native.Nat.{ℕ, zero, suc, ◌<◌, ◌≤◌}
use mathlib.Core.Path.{◌≡◌, ◌∙◌, refl, ap}
use mathlib.Core.Bool.{true, false, not}
use mathlib.Core.List.Memᴰ
use mathlib.Core.List.{List, [], ◌∷◌, Memᴰ}
use native.Mathlib.Omega.{arith}
use borrow.Author.Tests.{ltb-true, lt-ltb, le-leb, lt-leb, not-false}
use lib.Dec.{ltb}
use lib.ListN.{length}
use Rattle.packed.specs.Packed.{bits_of, packed_in}
use Rattle.lists.specs.Lists.{some}
use Rattle.lists.proofs.Tests.{or_left, or_right}
use Rattle.octets.specs.Stands.{Octets}
use Rattle.octets.specs.Read.{cut_short, no_meaning, left_over, extended}
use Rattle.octets.specs.Field.{flag_at, plain_at, choice_at, pad_at, number_at, string_at, open_at, length_at, long_length_at, ends_at}
use Rattle.octets.specs.Write.{number_octets, length_octets}
use Rattle.identity.specs.declared.MceId.{MceId}
use Rattle.values.specs.Values.{two_at, identity_at, tmgi_at}
use Rattle.items.specs.Items.{reset_at}
use Rattle.kinds.specs.Kinds.{legible_at}
use Rattle.rows.specs.Table.{find}
use Rattle.envelopes.specs.Envelope.{criticality_at, envelope_at, scan_at, heads_at}
use Rattle.elements.specs.Judge as elements
use Rattle.elements.specs.Judge.{front, read_into, unknown_of, missing_of, extensions_at, elements_at}
use Rattle.editions.specs.declared.Edition.{Edition}
use Rattle.editions.specs.declared.Edition.TheVariants.{Release18}
use Rattle.editions.specs.Editions.{printed, first_of, named_by}
use Rattle.frames.specs.Frame.{kind_at, frame_at, container_at, count_at}
use Rattle.meaning.specs.Reading.{read_as, value_in, values_in}
use Rattle.meaning.specs.Written.{elements_octets, how_many, inside_octets, message_octets, elements_good, encoded}
use Rattle.verdicts.specs.Verdict.{opened_at, read_of}
use Rattle.layout.specs.Record.{lists_of}
use Rattle.table.specs.declared.Association.{Association}
use Rattle.table.specs.Table.{State, full, holds_mme, holds_mce, distinct_held}
use Rattle.lent.specs.Lent.{rows_octets, rows_of, same, IdentitiesInRange, Good}
use Rattle.units.specs.Unit.{Unit, fresh, unit_octets, MaybeUnit, is_unit, no_unit, read_unit, GoodUnit}
use Rattle.units.proofs.OneForm.{one_unit}
use Rattle.requests.specs.Requests.{seen}
use Rattle.replies.specs.Replies.{value_of, list_only, Replied, silent, says, replied, reply_octets}
use Rattle.carry.specs.declared.Answer.{Answer}
use Rattle.carry.specs.declared.Answer.TheVariants as answer
use Rattle.carry.specs.Carry.{rejection, started, stopped}
use Rattle.answers.specs.Answers.{numbered}
use Rattle.calls.specs.Judged.{judged_by, setup_answer}
use Rattle.calls.specs.Decided.{Decided, keeps, changes, fails, decided}
use Rattle.calls.specs.Call.{Call, decided_on, Back, reply_of, answer_of, fits, settled, on_unit, call}
use Rattle.demands.specs.Occur.{offer, Gives, pair, many_held, start, stop, whole_reset, error, response, cut_response, number_given, EveryAnswer}
use Rattle.demands.proofs.Settle.{none_said}
use Rattle.demands.proofs.Written.{Spoken}
use Rattle.demands.proofs.Decisions.{none_good, Sure}
use Rattle.demands.proofs.UnitOut.{decided_on_sure, call_on}

-- ---- a room of 3,200 octets is enough

abbrev number : Decided → ℕ
number x = (numbered (answer_of x)).number

module _ (e : Edition) where
  reply_small : (r : Replied) → Spoken e r → length (reply_octets e r) ≤ 3200
  reply_small silent s = rw (none_said e) (omega arith)
  reply_small (says w) s = s.size

  decided_small : (x : Decided) → Sure e x → length (reply_of e x) ≤ 3200
  decided_small (keeps a r) s = reply_small r s
  decided_small (changes u r) s = reply_small r s.0
  decided_small (fails u w r) s = reply_small r s.0

  pub with_room : (u : Unit) (s : List ℕ) (o : MceId) (d : List ℕ) → GoodUnit u → Octets s → o.0 < 65536 → 3200 ≤ length d
      → (numbered (call e (unit_octets u) (record { message = s; offered = o; room = d })).answer).number ≡ number (decided_on e u (record { message = s; offered = o; room = d }))
  unfolding settled
  with_room u s o d g m w h =
      let c : Call = record { message = s; offered = o; room = d } in
      let x : Decided = decided_on e u c in
      let k = decided_small x (decided_on_sure e u c g m w) in
      let f : fits e d x ≡ true = le-leb (length (reply_of e x)) (length d) (omega arith) in
      ap (λ (b : Back). (numbered b.answer).number) (call_on e (unit_octets u) c u (one_unit.back u g)) ∙ rw f

-- ---- octets, by a test

octets_by : (s : List ℕ) → some (λ (x : ℕ). not (ltb x 256)) s ≡ false → Octets s
octets_by [] e i = omega arith
octets_by (x ∷ s) e zero = ltb-true x 256 (not-false (ltb x 256) (or_left (not (ltb x 256)) (some (λ (y : ℕ). not (ltb y 256)) s) e))
octets_by (x ∷ s) e (suc i) = octets_by s (or_right (not (ltb x 256)) (some (λ (y : ℕ). not (ltb y 256)) s) e) i

-- on a unit that holds these, with no request open; whatever the room
abbrev pub with : State → Unit
with l = record { held = l; is_open = false }

abbrev pub of : List ℕ → Call
of s = record { message = s; offered = offer; room = [] }

gives : (l : State) (s : List ℕ) {n : ℕ} → Good l → some (λ (x : ℕ). not (ltb x 256)) s ≡ false → number (decided_on Release18 (with l) (of s)) ≡ n → Gives l s n
unfolding decided_on
gives l s g m e d h = with_room Release18 (with l) s offer d (record { held = g }) (octets_by s m) (omega arith) h ∙ e

pub one_good : (m c : ℕ) → m < 65536 → c < 65536 → Good (pair m c ∷ [])
unfolding distinct_held
one_good m c g h = record { few = omega arith; apart = refl; each = λ a k. rw (Memᴰ.eq_of_singleton k) (record { mme = g; mce = h }) }

many_range : (n : ℕ) → n ≤ 256 → (a : Association) → Memᴰ a (many_held n) → IdentitiesInRange a
unfolding many_held
many_range zero h a k = absurd (Memᴰ.not-nil k)
many_range (suc n) h a (Memᴰ.head e) = rw e (record { mme = omega arith; mce = omega arith })
many_range (suc n) h a (Memᴰ.tail k) = many_range n (omega arith) a k

many_good : Good (many_held 256)
unfolding many_held distinct_held
many_good = record { few = omega arith; apart = refl; each = many_range 256 (omega arith) }

-- a decision without a reply is settled in any room
silent_number : (t d : List ℕ) (a : Answer) → (numbered (settled Release18 t d (keeps a silent)).answer).number ≡ (numbered a).number
unfolding settled
silent_number t d a = rw (none_said Release18, le-leb 0 (length d) (omega arith))

long_number : (t s d : List ℕ) (u : Unit) → read_unit t ≡ is_unit u → 8192 < length s → number_given t s d ≡ 1
unfolding decided_on decided judged_by read_of setup_answer
long_number t s d u q h =
    let e : decided_on Release18 u (record { message = s; offered = offer; room = d }) ≡ keeps answer.TooLong silent = rw (lt-ltb 8192 (length s) h) in
    ap (λ (b : Back). (numbered b.answer).number) (call_on Release18 t (record { message = s; offered = offer; room = d }) u q)
    ∙ (ap (λ (x : Decided). (numbered (settled Release18 t d x).answer).number) e ∙ silent_number t d answer.TooLong)

none_number : (t s d : List ℕ) → read_unit t ≡ no_unit → number_given t s d ≡ 21
unfolding call
none_number t s d q = ap (λ (x : MaybeUnit). (numbered (on_unit Release18 t (record { message = s; offered = offer; room = d }) x).answer).number) q

pub room_number : (s : List ℕ) {n : ℕ} → length (reply_of Release18 (decided_on Release18 fresh (of s))) ≡ n → (d : List ℕ) → length d < n → number_given (unit_octets fresh) s d ≡ 10
unfolding settled decided_on
room_number s k d h =
    let f : fits Release18 d (decided_on Release18 fresh (of s)) ≡ false = lt-leb _ (length d) (omega arith) in
    ap (λ (b : Back). (numbered b.answer).number) (call_on Release18 (unit_octets fresh) (record { message = s; offered = offer; room = d }) fresh (one_unit.back fresh (record { held = none_good }))) ∙ rw f

-- the rest is computed
pub every_answer : EveryAnswer
unfolding many_held decided_on setup_answer decided judged_by rejection started stopped full read_of frame_at kind_at container_at count_at opened_at extensions_at elements_at elements.judged_of front find read_into unknown_of missing_of scan_at heads_at envelope_at criticality_at legible_at two_at identity_at tmgi_at reset_at read_as value_in values_in seen lists_of printed first_of named_by flag_at plain_at choice_at pad_at number_at string_at open_at length_at long_length_at ends_at bits_of cut_short no_meaning left_over extended read_unit unit_octets same rows_of rows_octets number_octets distinct_held reply_octets encoded replied list_only value_of elements_good elements_octets message_octets inside_octets how_many length_octets packed_in
every_answer = record {
  is_carried_out = gives [] start none_good refl refl;
  too_long = long_number;
  fault = gives [] [] none_good refl refl;
  extension = gives [] (0x80 ∷ []) none_good refl refl;
  no_request = gives [] (0x00 ∷ 0x03 ∷ 0x00 ∷ 0x01 ∷ 0x00 ∷ []) none_good refl refl;
  none_open = gives [] response none_good refl refl;
  none_open_cut = gives [] cut_response none_good refl refl;
  rejected = gives [] error none_good refl refl;
  mme_held = gives (pair 5 1 ∷ []) start (one_good 5 1 (omega arith) (omega arith)) refl refl;
  offer_held = gives (pair 1 9 ∷ []) start (one_good 1 9 (omega arith) (omega arith)) refl refl;
  pair_not_held = gives (pair 5 1 ∷ []) stop (one_good 5 1 (omega arith) (omega arith)) refl refl;
  all_held = λ l g n h k. gives l start g refl (nine l n h k);
  so_many = gives (many_held 256) start many_good refl (nine (many_held 256) refl refl refl);
  no_room = room_number whole_reset refl;
  has_no_unit = none_number;
  not_a_unit = (refl, refl);
}
  where
    nine : (l : State) → length l ≡ 256 → holds_mme (record { 0 = 5 }) l ≡ false → holds_mce offer l ≡ false → number (decided_on Release18 (with l) (of start)) ≡ 9
    nine l n h k = rw (h, k, n)
