-- 01's bench examples of calls, computed; and so demand 2.
-- Assumes nothing.
use Prim.Native.Nat.{ℕ}
use mathlib.Core.Path.{◌≡◌, ◌∙◌, refl, ap}
use mathlib.Core.Bool.{Bool, true, false}
use mathlib.Core.List.{List, [], ◌∷◌, ◌++◌}
use native.Mathlib.Omega.{arith}
use borrow.Author.Tests.{le-leb}
use lib.Dec.{leb}
use lib.ListN.{length, drop}
use Rattle.packed.specs.Packed.{bits_of, packed_in}
use Rattle.octets.specs.Read.{cut_short, no_meaning, left_over, extended}
use Rattle.octets.specs.Field.{flag_at, plain_at, choice_at, pad_at, number_at, same_at, long_length_at, length_at, open_at, ends_at}
use Rattle.octets.specs.Write.{number_octets, length_octets}
use Rattle.octets.specs.Many as several
use Rattle.values.specs.Values.{cause_at, wait_at}
use Rattle.item.specs.Item.{item_marks_at, item_at, item_element_at}
use Rattle.items.specs.Items.{items_at, reset_at}
use Rattle.items.specs.Written.{item_octets, item_element_octets, items_octets}
use Rattle.kinds.specs.Kinds.{legible_at}
use Rattle.rows.specs.Table.{find}
use Rattle.envelopes.specs.Envelope.{criticality_at, envelope_at, scan_at, heads_at}
use Rattle.elements.specs.Judge as elements
use Rattle.elements.specs.Judge.{front, read_into, unknown_of, missing_of, extensions_at, elements_at}
use Rattle.editions.specs.declared.Edition.TheVariants.{Release18}
use Rattle.editions.specs.Editions.{printed, first_of, named_by}
use Rattle.frames.specs.Frame.{kind_at, frame_at, container_at, count_at}
use Rattle.meaning.specs.Reading.{read_as, value_in, values_in}
use Rattle.meaning.specs.Written.{octets_of, has_octets, elements_octets, how_many, inside_octets, message_octets, elements_good, encoded}
use Rattle.verdicts.specs.Verdict.{opened_at, read_of}
use Rattle.layout.specs.Record.{lists_of}
use Rattle.table.specs.Table.{State, named, without}
use Rattle.lent.specs.Lent.{Good}
use Rattle.units.specs.Unit.{Unit, fresh, unit_octets}
use Rattle.units.proofs.OneForm.{one_unit}
use Rattle.round_trips.specs.Examples.{partial_reset}
use Rattle.requests.specs.Requests.{seen}
use Rattle.replies.specs.Replies.{value_of, list_only, silent, replied, reply_octets}
use Rattle.carry.specs.declared.Answer.{Answer}
use Rattle.carry.specs.declared.Answer.TheVariants as answer
use Rattle.calls.specs.Judged.{judged_by, setup_answer}
use Rattle.calls.specs.Decided.{Decided, decided}
use Rattle.calls.specs.Call.{call, decided_on, reply_of, replied_in, answer_of, unit_after, fits, settled_if, settled}
use Rattle.demands.specs.Occur.{unit_holding, offer, pair, whole_reset, response, failure, empty_reset, opened, Does, BenchCalls, Demand2}
use Rattle.demands.proofs.Settle.{none_said}
use Rattle.demands.proofs.Decisions.{none_good}
use Rattle.demands.proofs.UnitOut.{call_on}
use Rattle.demands.proofs.Answers.{answers_as, replies_as}
use Rattle.demands.proofs.Occur.{with, of, one_good, room_number, every_answer}
use Rattle.demands.proofs.WhatIsDone.{what_is_done}
use Rattle.round_trips.proofs.Back.{read_back}
use Rattle.round_trips.proofs.Again.{rewritten}

abbrev made : State → List ℕ → Decided
made l s = decided_on Release18 (record { held = l; is_open = false }) (record { message = s; offered = offer; room = [] })

does : (l : State) (s : List ℕ) {os : List ℕ} (l' : State) → Good l → answer_of (made l s) ≡ answer.CarriedOut
    → reply_of Release18 (made l s) ≡ os → unit_after (unit_holding l) (made l s) ≡ unit_holding l' → Does l s os l'
unfolding settled decided_on
does l s l' g a r t d h =
    let f : fits Release18 d (made l s) ≡ true = le-leb (length (reply_of Release18 (made l s))) (length d) (rw r h) in
    call_on Release18 (unit_holding l) (record { message = s; offered = offer; room = d }) (record { held = l; is_open = false }) (one_unit.back (record { held = l; is_open = false }) (record { held = g })) ∙ rw (f, a, r, t)

-- without a reply, in any room
settled_silently : (t d : List ℕ) (x : Decided) {a : Answer} {y : List ℕ} → answer_of x ≡ a → replied_in x ≡ silent → unit_after t x ≡ y → settled Release18 t d x ≡ record { answer = a; reply = []; unit = y; room = d }
unfolding settled
settled_silently t d x p q r =
    let o : reply_of Release18 x ≡ [] = ap (reply_octets Release18) q ∙ none_said Release18 in
    let f : fits Release18 d x ≡ true = ap (λ (y : List ℕ). leb (length y) (length d)) o ∙ le-leb 0 (length d) (omega arith) in
    ap (λ (b : Bool). settled_if Release18 b t d x) f ∙ (λ i. record { answer = p i; reply = o i; unit = r i; room = o i ++ drop (length (o i)) d })

silently : (l : State) (s : List ℕ) (v : Unit) {a : Answer} → Good l → answer_of (decided_on Release18 (opened l) (of s)) ≡ a
    → replied_in (decided_on Release18 (opened l) (of s)) ≡ silent → unit_after (unit_octets (opened l)) (decided_on Release18 (opened l) (of s)) ≡ unit_octets v
    → (d : List ℕ) → call Release18 (unit_octets (opened l)) (record { message = s; offered = offer; room = d }) ≡ record { answer = a; reply = []; unit = unit_octets v; room = d }
unfolding decided_on
silently l s v g a r t d =
    call_on Release18 (unit_octets (opened l)) (record { message = s; offered = offer; room = d }) (opened l) (one_unit.back (opened l) (record { held = g }))
    ∙ settled_silently (unit_octets (opened l)) d (decided_on Release18 (opened l) (of s)) a r t

pub bench_calls : BenchCalls
unfolding decided_on setup_answer decided judged_by unit_octets read_of frame_at kind_at container_at count_at opened_at extensions_at elements_at elements.judged_of front find read_into unknown_of missing_of scan_at heads_at envelope_at criticality_at legible_at reset_at cause_at wait_at read_as value_in values_in seen lists_of printed first_of named_by flag_at plain_at choice_at pad_at number_at open_at length_at long_length_at ends_at same_at bits_of cut_short no_meaning left_over extended number_octets reply_octets encoded replied list_only value_of elements_good elements_octets message_octets inside_octets how_many length_octets packed_in items_at several.many item_element_at item_at item_marks_at without named has_octets octets_of items_octets item_element_octets item_octets
bench_calls = record {
  named = does (pair 1 2 ∷ []) partial_reset [] (one_good 1 2 (omega arith) (omega arith)) refl refl refl;
  unknown = does [] partial_reset [] none_good refl refl refl;
  kept = does (pair 1 3 ∷ []) partial_reset (pair 1 3 ∷ []) (one_good 1 3 (omega arith) (omega arith)) refl refl refl;
  whole = does (pair 1 3 ∷ []) whole_reset [] (one_good 1 3 (omega arith) (omega arith)) refl refl refl;
  empty = does (pair 1 3 ∷ []) empty_reset (pair 1 3 ∷ []) (one_good 1 3 (omega arith) (omega arith)) refl refl refl;
  set_up = silently (pair 1 3 ∷ []) response fresh (one_good 1 3 (omega arith) (omega arith)) refl refl refl;
  set_up_failed = silently (pair 1 3 ∷ []) failure (with (pair 1 3 ∷ [])) (one_good 1 3 (omega arith) (omega arith)) refl refl refl;
  in_seconds = refl;
  no_room = λ d h. room_number partial_reset refl d (omega arith);
}

pub demand_2 : Demand2
demand_2 = record { exactly = answers_as; replies = replies_as; each = every_answer; done = what_is_done; back = read_back; again = rewritten; bench = bench_calls }
