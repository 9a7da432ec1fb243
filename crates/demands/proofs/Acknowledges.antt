-- The reply to a partial reset, read back, lists every item that carries an identity, in received order.
-- Assumes nothing.
use Prim.Native.Nat.{ℕ}
use mathlib.Core.Path.{◌≡◌, refl, sym, subst, ◌∙◌}
use mathlib.Core.Bool.{Bool, true, false}
use mathlib.Core.List.{List, [], ◌∷◌, ◌++◌}
use borrow.Author.Tests.{ltb-false}
use lib.ListN.{length, drop_of_length-le}
use Rattle.lists.specs.Lists.{pick, keep}
use Rattle.lists.proofs.Tests.{on-pick}
use Rattle.octets.specs.Stands.{Octets}
use Rattle.identity.specs.declared.Item.{Item}
use Rattle.entries.specs.declared.Entry.{Entry}
use Rattle.editions.specs.declared.Message.TheVariants as message
use Rattle.editions.specs.declared.Edition.{Edition}
use Rattle.editions.specs.declared.Edition.TheVariants.{Release18}
use Rattle.editions.specs.Ids.{id_mbms_service_associated_logical_m3_connection_list_res_ack}
use Rattle.editions.specs.Editions.{printed}
use Rattle.editions.proofs.Names.{only_m3ap}
use Rattle.meaning.specs.Value as value
use Rattle.layout.specs.Record.{lists_of}
use Rattle.replies.specs.declared.Reply.TheVariants as reply
use Rattle.replies.specs.Replies.{Element, ◌is◌, value_of, saying, some_of, list_only, has_identity, listing, replied}
use Rattle.calls.specs.Judged.{Accepted, judged}
use Rattle.demands.specs.Words.{PartialReset, Acknowledges}
use Rattle.demands.proofs.Taken.{Written}
use Rattle.demands.proofs.Written.{spoken}
use Rattle.demands.proofs.Seen.{asking}
use Rattle.demands.proofs.JudgedSound.{judged_sound, asked_m3ap}
use Rattle.demands.proofs.Runs.{acknowledgement}

abbrev acknowledged : List Item → List Entry → List Element
acknowledged kept es = listing kept ++ list_only es

-- what an acknowledgement lists, in each edition
lists_kept : (kept : List Item) (es : List Entry) → (lists_of (saying Release18 message.ResetAcknowledge (acknowledged kept es)).values).items ≡ kept
unfolding printed value_of lists_of list_only
lists_kept kept es = by (some_of kept) refl
  where
    by : (t : Bool) → some_of kept ≡ t
        → (lists_of (saying Release18 message.ResetAcknowledge (pick t (id_mbms_service_associated_logical_m3_connection_list_res_ack is value.list kept ∷ []) [] ++ list_only es)).values).items ≡ kept
    by true q = refl
    by false q =
        on-pick (λ (xs : List Element). (lists_of (saying Release18 message.ResetAcknowledge xs).values).items ≡ kept) (some_of es) none none
      where
        none : [] ≡ kept
        none = sym (drop_of_length-le kept {i = 0} (ltb-false 0 (length kept) q))

acknowledges_18 : (s : List ℕ) (items : List Item) → Octets s → PartialReset (judged Release18 s) items → Acknowledges Release18 (acknowledgement Release18 s) (keep has_identity items)
unfolding replied
acknowledges_18 s items o p =
    let w : Accepted = p.asks.what in
    let z = judged_sound Release18 s o w p.asks.accepted in
    let kept : List Item = keep has_identity w.items in
    let x : Written Release18 (saying Release18 message.ResetAcknowledge (acknowledged kept w.noted)) = spoken w.frame z.frame w.items z.items w.noted z.noted Release18 refl reply.AcknowledgeItems tt in
    let b = x.back in
    let a = asking _ b.what.what (saying Release18 message.ResetAcknowledge (acknowledged kept w.noted)) b.said in
    rw (p.asks.accepted, ← p.items) (record { what = b.what; read = b.read; accepted = b.accepted; named = a.message; items = a.items ∙ lists_kept kept w.noted })

pub reply_acknowledges : (e : Edition) (s : List ℕ) (items : List Item) → Octets s → PartialReset (judged e s) items → Acknowledges e (acknowledgement e s) (keep has_identity items)
reply_acknowledges e s items o p =
    subst (λ (x : Edition). PartialReset (judged x s) items → Acknowledges x (acknowledgement x s) (keep has_identity items)) (only_m3ap e (asked_m3ap e s p.asks.accepted))
    (acknowledges_18 s items o) p
