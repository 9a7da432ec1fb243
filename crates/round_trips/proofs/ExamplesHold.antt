-- The examples hold, by computing; the RESET among them meets the conditions of rewriting; and two lent records have one message.
-- Assumes nothing.
use Rattle.std.specs.Prelude.{Some}
use Prim.Native.Nat.{ℕ, zero, suc}
use mathlib.Core.Path.{◌≡◌, refl, sym, subst}
use mathlib.Core.Bool.{Bool, true, false}
use mathlib.Core.List.{List, [], ◌∷◌}
use native.Mathlib.Omega.{arith}
use borrow.Author.Tests.{le-ltb, ltb-true, ltb-false}
use lib.Dec.{ltb}
use lib.ListN.{take}
use Rattle.lists.specs.Lists.{some}
use Rattle.lists.proofs.Tests.{or_left, or_right}
use Rattle.octets.specs.Read.{no_meaning}
use Rattle.packed.specs.Packed.{bits_of, packed_in}
use Rattle.octets.specs.Field.{flag_at, plain_at, choice_at, pad_at, number_at, same_at, long_length_at, length_at, open_at, ends_at}
use Rattle.octets.specs.Write.{number_octets, length_octets}
use Rattle.octets.specs.declared.Span.{Span}
use Rattle.octets.specs.Many.{many}
use Rattle.octets.specs.Stands.{Stands, Octets}
use Rattle.octets.proofs.Chain.{same_got}
use Rattle.octets.proofs.Stood.{fills_alone}
use Rattle.octets.proofs.Back.{length_back}
use Rattle.identity.specs.declared.Item.{Item}
use Rattle.values.specs.Values.{cause_at}
use Rattle.values.specs.Written.{cause_octets}
use Rattle.items.specs.Items.{ResetType, part, items_at, reset_at}
use Rattle.item.specs.Item.{item_marks_at, item_at, item_element_at}
use Rattle.items.specs.Written.{item_octets, item_element_octets, items_octets, reset_octets, envelope_crit_at, crits_at, Rejecting}
use Rattle.diagnostics.specs.Diagnostics as diagnostics
use Rattle.kinds.specs.Kinds.{legible_at}
use Rattle.rows.specs.Table.{find}
use Rattle.envelopes.specs.Envelope.{criticality_at, envelope_at, scan_at, heads_at}
use Rattle.elements.specs.Judge.{front, read_into, unknown_of, missing_of, judged_of, extensions_at, elements_at}
use Rattle.editions.specs.declared.Message.{Message}
use Rattle.editions.specs.declared.Message.TheVariants as message
use Rattle.editions.specs.Editions.{printed, first_of, named_by, numbered_by}
use Rattle.frames.specs.Frame.{kind_at, frame_at, container_at, count_at}
use Rattle.meaning.specs.Value.{Given, given, absent, on_carried, said_by}
use Rattle.meaning.specs.Value as value
use Rattle.meaning.specs.Reading.{read_as, value_in, values_in}
use Rattle.meaning.specs.Written.{octets_of, has_octets, elements_octets, how_many, inside_octets, message_octets, elements_good, encoded}
use Rattle.lent.specs.Lent.{same}
use Rattle.layout.specs.Rows.{each_row}
use Rattle.layout.specs.Record.{lists_of, slot_of, record_octets, slot_says, slots_say, said_record, read_record, written}
use Rattle.verdicts.specs.declared.Outcome.TheVariants.{Accepted}
use Rattle.verdicts.specs.Verdict.{opened_at, Understood, read_of}
use Rattle.round_trips.specs.Ties.{lacking}
use Rattle.round_trips.specs.LentDiffer.{shown, slots_shown, slots_carry, carried_in}
use Rattle.round_trips.specs.Examples.{Hold, ResetRewritable, OneMessage, partial_reset}

-- 80 05 is the length of no number
no_length : (n : ℕ) → length_octets n ≡ 0x80 ∷ 0x05 ∷ [] → ⊥
unfolding length_octets length_at long_length_at bits_of no_meaning
no_length n q = by (ltb n 16384) refl
  where
    by : (b : Bool) → ltb n 16384 ≡ b → ⊥
    by true e =
        let r = length_back (0x80 ∷ 0x05 ∷ []) 0 n (ltb-true n 16384 e) (subst (λ (s : List ℕ). Stands s 0 (length_octets n)) q (fills_alone (length_octets n)).stands) in
        cc
    by false e =
        let l = ltb-false n 16384 e in
        let r = rw (le-ltb n 128 (omega arith), e) at q in
        cc

infixr 4 ◌also◌
abbrev ◌also◌ : {A B : Type 0} → A → B → A × B
◌also◌ a b = (a, b)

-- read with answer 0, nothing noted, with a frame of criticality reject
abbrev read : ℕ → ℕ → Message → List (Given Span) → Understood
read kind code m vs = record {
  frame = record { kind = kind; code = code; crit = 0; from = 4 };
  outcome = Accepted;
  what = record { message = m; crit = 0; values = vs };
  noted = [];
}

abbrev items : List Item
items = record { mme = Some (record { 0 = 1 }); mce = Some (record { 0 = 2 }) } ∷ []

abbrev reset_read : Understood
reset_read = read 0 4 message.Reset (given (value.cause (record { group = 4; value = 2 })) ∷ given (value.reset (part items)) ∷ [])

pub hold : Hold
unfolding no_meaning bits_of flag_at plain_at choice_at pad_at number_at same_at long_length_at length_at open_at ends_at packed_in number_octets length_octets many cause_at cause_octets item_marks_at item_at item_element_at items_at reset_at item_octets item_element_octets items_octets reset_octets diagnostics.marks_at diagnostics.head_at diagnostics.diagnostics_at legible_at find criticality_at envelope_at scan_at heads_at front read_into unknown_of missing_of judged_of extensions_at elements_at named_by first_of printed read_as value_in values_in on_carried kind_at frame_at container_at count_at opened_at read_of octets_of has_octets said_by elements_octets how_many inside_octets message_octets elements_good encoded
hold =
    (refl, refl)
    also (refl, refl)
    also (refl, refl)
    also (no_length, refl)
    also (refl, refl)
    also (refl, refl)
    also (refl, refl)
    also (refl, refl)
    also (refl, refl)
    also (refl, refl)
    also (refl, record { what = reset_read; read = refl; accepted = refl; noted = refl; said = refl; crit = refl })
    also (refl, record { what = read 1 4 message.ResetAcknowledge (given (value.list items) ∷ absent ∷ []); read = refl; accepted = refl; noted = refl; said = refl; crit = refl })
    also (refl, record { what = read 1 4 message.ResetAcknowledge (absent ∷ absent ∷ []); read = refl; accepted = refl; noted = refl; said = refl; crit = refl }) also tt

-- by a test of each
all_octets : (s : List ℕ) → some (λ (x : ℕ). ltb 255 x) s ≡ false → Octets s
all_octets [] e i = omega arith
all_octets (x ∷ s) e zero = let h = ltb-false 255 x (or_left (ltb 255 x) (some (λ y. ltb 255 y) s) e) in omega arith
all_octets (x ∷ s) e (suc i) = all_octets s (or_right (ltb 255 x) (some (λ y. ltb 255 y) s) e) i

pub reset_rewritable : ResetRewritable
unfolding bits_of flag_at plain_at choice_at pad_at number_at same_at long_length_at length_at open_at ends_at many cause_at item_marks_at item_at item_element_at items_at reset_at envelope_crit_at crits_at legible_at find criticality_at envelope_at scan_at heads_at front read_into unknown_of missing_of judged_of extensions_at elements_at named_by first_of printed read_as value_in values_in on_carried kind_at frame_at container_at count_at opened_at read_of said_by lacking
reset_rewritable = record {
  octets = all_octets partial_reset refl;
  what = reset_read;
  read = refl;
  accepted = refl;
  crit = refl;
  count = 2;
  counted = refl;
  elements = (
    record { known = refl; crit = refl; items = tt },
    (record { known = refl; crit = refl; items = λ r q. subst (λ (x : ResetType). Rejecting x (take 27 partial_reset) 16) (sym (same_got q)) (0 ∷ [], refl, (refl, tt)) }, tt),
  );
  complete = refl;
}

pub one_message : OneMessage
unfolding written read_record record_octets said_record slots_say slot_says slot_of lists_of each_row same numbered_by first_of printed bits_of packed_in number_octets length_octets octets_of has_octets on_carried said_by elements_octets how_many inside_octets message_octets elements_good encoded shown slots_shown slots_carry carried_in
one_message = (refl, refl, refl, refl)
