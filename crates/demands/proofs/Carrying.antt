-- There are messages: for 1 to 256 items a partial reset that carries them, for an association a start of it, and for a pair of identities a stop.
-- Their elements suit their tables, so they are read back as what they say: one line for each edition and message.
-- Assumes nothing.
use Rattle.std.specs.Prelude.{None, Ok, Option, Some}
use Prim.Native.Nat.{ℕ, ◌<◌}
use mathlib.Core.Path.{◌≡◌, refl, ap, subst, ◌∙◌}
use mathlib.Core.Bool.{true}
use mathlib.Core.List.{List, [], ◌∷◌}
use native.Mathlib.Omega.{arith}
use lib.ListN.{length}
use Rattle.octets.specs.Stands.{Octets}
use Rattle.octets.specs.Many.{Each}
use Rattle.octets.proofs.Back.{length_number}
use Rattle.identity.specs.declared.MmeId.{MmeId}
use Rattle.identity.specs.declared.MceId.{MceId}
use Rattle.identity.specs.declared.Tmgi.{Tmgi}
use Rattle.identity.specs.declared.Item.{Item}
use Rattle.values.specs.declared.Cause.{Cause}
use Rattle.values.specs.Written.{tmgi_octets, GoodCause}
use Rattle.items.specs.Items.{part}
use Rattle.items.specs.Written.{reset_crit, reset_octets, GoodItems}
use Rattle.rows.specs.declared.Kind.TheVariants as kind
use Rattle.rows.specs.declared.Row.{Row}
use Rattle.editions.specs.declared.Message.TheVariants as message
use Rattle.editions.specs.declared.Edition.{Edition}
use Rattle.editions.specs.declared.Edition.TheVariants.{Release18}
use Rattle.editions.specs.Ids.{id_mme_mbms_m3ap_id, id_mce_mbms_m3ap_id, id_tmgi, id_mbms_session_id, id_mbms_e_rab_qo_s_parameters, id_mbms_session_duration, id_mbms_service_area, id_tnl_information, id_cause, id_reset_type, id_minimum_time_to_mbms_data_transfer}
use Rattle.editions.specs.Editions.{printed, table_of, of_m3ap, first_of, numbered_by}
use Rattle.editions.proofs.Names.{only_m3ap, numbered_listed}
use Rattle.meaning.specs.Value as value
use Rattle.meaning.specs.Value.{given, Said}
use Rattle.meaning.specs.Written.{octets_of, has_octets, message_octets}
use Rattle.meaning.specs.Ranges.{InRange}
use Rattle.round_trips.specs.Ties.{ReadAs}
use Rattle.round_trips.proofs.ValueAgain.{counted_good}
use Rattle.layout.specs.Record.{lists_of}
use Rattle.verdicts.specs.Verdict.{Understood, understood}
use Rattle.requests.specs.declared.Ask.TheVariants as ask
use Rattle.requests.specs.declared.Request.{Request}
use Rattle.requests.specs.declared.Request.TheVariants as request
use Rattle.requests.specs.Requests.{ask_of, asks, request_of, seen, items_in}
use Rattle.replies.specs.Replies.{Element, ◌is◌, value_of, saying}
use Rattle.calls.specs.Judged.{Accepted, judged_by, judged}
use Rattle.demands.specs.Words.{Asks, PartialReset, reset_message}
use Rattle.demands.proofs.AllOctets.{all_none, all_more}
use Rattle.demands.proofs.Taken.{Takes, Taken, taken_none, taken_more, takes_value, takes_absent, taken_back}
use Rattle.demands.proofs.Written.{items_size, takes_mme, takes_mce, takes_cause}
use Rattle.demands.proofs.Seen.{asking}
use Rattle.demands.proofs.Verdicts.{judged_as_read}
use Rattle.demands.proofs.MessageOctets.{AllElement, message_octets_lem, value_cause, value_part, value_mme, value_mce, value_tmgi, value_one, value_carried}

-- what is read back and asks is accepted, with the request that it says
asked_so : (e : Edition) (os : List ℕ) (w : Said) (q : Request) → ReadAs e os w → asks w.message ≡ true → request_of (ask_of w.message) (seen w.values) ≡ Some q
    → (a : Asks (judged e os) q) × (a.what.items ≡ (lists_of w.values).items)
unfolding judged_by
asked_so e os w q b a h =
    let u : Understood = b.what in
    let k = asking os u.what w b.said in
    let v = judged_as_read e asks os u (ap asks k.message ∙ a) b.read in
    let r : request_of (ask_of u.what.message) (seen u.what.values) ≡ Some q = (λ i. request_of (ask_of (k.message i)) (k.seen i)) ∙ h in
    let x : Accepted = record { request = q; items = items_in u.what; frame = u.frame; noted = u.noted } in
    let j : judged_by e (understood u) ≡ Ok x = rw (b.accepted, r) in
    (record { what = x; accepted = ap (judged_by e) v ∙ j; request = refl }, k.items)

-- ---- partial resets

abbrev reset_elements : Cause → List Item → List Element
reset_elements k items = id_cause is value.cause k ∷ id_reset_type is value.reset (part items) ∷ []

reset_suits : (k : Cause) (items : List Item) → GoodCause k → GoodItems items → Taken (table_of Release18 message.Reset) (saying Release18 message.Reset (reset_elements k items)).values 2317
unfolding printed value_of has_octets octets_of reset_octets
reset_suits k items g h =
    let n = items_size reset_crit items h.1 in
    taken_more (takes_cause k refl g)
    (taken_more (takes_value (value.reset (part items)) 2306 refl h.2 (counted_good (length items) h.0 h.1) (omega arith)) taken_none)

reset_asks : (k : Cause) (items : List Item)
    → (request_of ask.Reset (seen (saying Release18 message.Reset (reset_elements k items)).values) ≡ Some request.Part) × ((lists_of (saying Release18 message.Reset (reset_elements k items)).values).items ≡ items)
unfolding printed value_of seen lists_of
reset_asks k items = (refl, refl)

module _ (e : Edition) (k : Cause) (items : List Item) (g : GoodCause k) where
  pub reset_octets_lem : Octets (reset_message e k items)
  reset_octets_lem = message_octets_lem (reset_elements k items) (value_cause k g, (value_part items, tt)) e message.Reset

  reset_carries_18 : GoodItems items → PartialReset (judged Release18 (reset_message Release18 k items)) items
  unfolding numbered_by first_of printed
  reset_carries_18 h =
      let w : Said = saying Release18 message.Reset (reset_elements k items) in
      let q = reset_asks k items in
      let d = numbered_listed Release18 6 message.Reset refl in
      let a = asked_so Release18 (reset_message Release18 k items) w request.Part (taken_back Release18 w d 2317 (reset_suits k items g h) (omega arith)) refl q.0 in
      record { asks = a.0; items = a.1 ∙ q.1 }

  pub reset_carries : of_m3ap e ≡ true → GoodItems items → PartialReset (judged e (reset_message e k items)) items
  reset_carries j h = subst (λ (x : Edition). PartialReset (judged x (reset_message x k items)) items) (only_m3ap e j) (reset_carries_18 h)

-- ---- starts

-- a Session Identity, if it is there, is an octet
abbrev pub GoodSession : Option ℕ → Type 0
GoodSession (Some v) = v < 256
GoodSession None = Unit

abbrev session_if : Option ℕ → List Element
session_if (Some v) = id_mbms_session_id is value.one v ∷ []
session_if None = []

takes_one : {r : Row} (v : ℕ) → kind.OneOctet ≡ r.kind → v < 256 → Takes r (given (value.one v)) 6
unfolding has_octets octets_of
takes_one v k g = takes_value (value.one v) 1 k g refl (let l = length_number 1 v in omega arith)

takes_carried : {r : Row} → kind.Carried ≡ r.kind → Takes r (given (value.carried (0 ∷ []))) 6
unfolding has_octets octets_of
takes_carried k = takes_value (value.carried (0 ∷ [])) 1 k (all_more (omega arith) all_none).octets refl (omega arith)

takes_tmgi : {r : Row} (t : Tmgi) → kind.Tmgi ≡ r.kind → InRange (value.tmgi t) → Takes r (given (value.tmgi t)) 12
unfolding has_octets octets_of tmgi_octets
takes_tmgi t k h = takes_value (value.tmgi t) 7 k h refl (omega arith)

module _ (m : MmeId) (t : Tmgi) where
  -- with one octet for each mandatory element that is carried
  abbrev start_elements : Option ℕ → List Element
  start_elements v =
      id_mme_mbms_m3ap_id is value.mme m
      ∷ id_tmgi is value.tmgi t
      ∷ id_mbms_e_rab_qo_s_parameters is value.carried (0 ∷ [])
      ∷ id_mbms_session_duration is value.carried (0 ∷ [])
      ∷ id_mbms_service_area is value.carried (0 ∷ [])
      ∷ id_minimum_time_to_mbms_data_transfer is value.carried (0 ∷ [])
      ∷ id_tnl_information is value.carried (0 ∷ []) ∷ session_if v

  start_suits : (v : Option ℕ) → m.0 < 65536 → InRange (value.tmgi t) → GoodSession v
      → Taken (table_of Release18 message.StartRequest) (saying Release18 message.StartRequest (start_elements v)).values 55
  unfolding printed value_of
  start_suits (Some v) g h f =
      taken_more (takes_mme m refl g) (taken_more (takes_tmgi t refl h) (taken_more (takes_one v refl f)
      (taken_more (takes_carried refl) (taken_more (takes_carried refl) (taken_more (takes_carried refl) (taken_more (takes_carried refl) (taken_more (takes_carried refl)
      (taken_more (takes_absent 0 refl) (taken_more (takes_absent 0 refl) (taken_more (takes_absent 0 refl) (taken_more (takes_absent 0 refl) taken_none)))))))))))
  start_suits None g h f =
      taken_more (takes_mme m refl g) (taken_more (takes_tmgi t refl h) (taken_more (takes_absent 6 refl)
      (taken_more (takes_carried refl) (taken_more (takes_carried refl) (taken_more (takes_carried refl) (taken_more (takes_carried refl) (taken_more (takes_carried refl)
      (taken_more (takes_absent 0 refl) (taken_more (takes_absent 0 refl) (taken_more (takes_absent 0 refl) (taken_more (takes_absent 0 refl) taken_none)))))))))))

  start_asks : (v : Option ℕ)
      → request_of ask.Start (seen (saying Release18 message.StartRequest (start_elements v)).values) ≡ Some (request.Start m t v)
  unfolding printed value_of seen
  start_asks (Some v) = refl
  start_asks None = refl

  all_session : (v : Option ℕ) → Each AllElement (session_if v)
  all_session (Some v) = (value_one v, tt)
  all_session None = tt

module _ (e : Edition) (m : MmeId) (t : Tmgi) (v : Option ℕ) where
  abbrev pub start_message : List ℕ
  start_message = message_octets e (saying e message.StartRequest (start_elements m t v))

  module _ (g : m.0 < 65536) (h : InRange (value.tmgi t)) (f : GoodSession v) where
    pub start_octets : Octets start_message
    start_octets =
        let c = value_carried 0 (omega arith) in
        message_octets_lem (start_elements m t v) (value_mme m, (value_tmgi t h, (c, (c, (c, (c, (c, all_session m t v))))))) e message.StartRequest

-- in Release 18, and so in whichever edition of M3AP
module _ (m : MmeId) (t : Tmgi) (v : Option ℕ) (g : m.0 < 65536) (h : InRange (value.tmgi t)) (f : GoodSession v) where
  start_carries_18 : Asks (judged Release18 (start_message Release18 m t v)) (request.Start m t v)
  unfolding numbered_by first_of printed
  start_carries_18 =
      let w : Said = saying Release18 message.StartRequest (start_elements m t v) in
      let d = numbered_listed Release18 1 message.StartRequest refl in
      (asked_so Release18 (start_message Release18 m t v) w (request.Start m t v) (taken_back Release18 w d 55 (start_suits m t v g h f) (omega arith)) refl (start_asks m t v)).0

  pub start_carries : (e : Edition) → of_m3ap e ≡ true → Asks (judged e (start_message e m t v)) (request.Start m t v)
  start_carries e j = subst (λ (x : Edition). Asks (judged x (start_message x m t v)) (request.Start m t v)) (only_m3ap e j) start_carries_18

-- ---- stops

module _ (m : MmeId) (c : MceId) where
  abbrev stop_elements : List Element
  stop_elements = id_mme_mbms_m3ap_id is value.mme m ∷ id_mce_mbms_m3ap_id is value.mce c ∷ []

  stop_suits : m.0 < 65536 → c.0 < 65536 → Taken (table_of Release18 message.StopRequest) (saying Release18 message.StopRequest stop_elements).values 14
  unfolding printed value_of
  stop_suits g h = taken_more (takes_mme m refl g) (taken_more (takes_mce c refl h) (taken_more (takes_absent 0 refl) taken_none))

  stop_asks : request_of ask.Stop (seen (saying Release18 message.StopRequest stop_elements).values) ≡ Some (request.Stop m c)
  unfolding printed value_of seen
  stop_asks = refl

module _ (e : Edition) (m : MmeId) (c : MceId) where
  abbrev pub stop_message : List ℕ
  stop_message = message_octets e (saying e message.StopRequest (stop_elements m c))

  pub stop_octets : Octets stop_message
  stop_octets = message_octets_lem (stop_elements m c) (value_mme m, (value_mce c, tt)) e message.StopRequest

module _ (m : MmeId) (c : MceId) (g : m.0 < 65536) (h : c.0 < 65536) where
  stop_carries_18 : Asks (judged Release18 (stop_message Release18 m c)) (request.Stop m c)
  unfolding numbered_by first_of printed
  stop_carries_18 =
      let w : Said = saying Release18 message.StopRequest (stop_elements m c) in
      let d = numbered_listed Release18 4 message.StopRequest refl in
      (asked_so Release18 (stop_message Release18 m c) w (request.Stop m c) (taken_back Release18 w d 14 (stop_suits m c g h) (omega arith)) refl (stop_asks m c)).0

  pub stop_carries : (e : Edition) → of_m3ap e ≡ true → Asks (judged e (stop_message e m c)) (request.Stop m c)
  stop_carries e j = subst (λ (x : Edition). Asks (judged x (stop_message x m c)) (request.Stop m c)) (only_m3ap e j) stop_carries_18
