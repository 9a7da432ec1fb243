-- Partial resets may be dealt out afresh.
-- Assumes nothing.
use Prim.Native.Nat.{ℕ}
use mathlib.Core.Path.{◌≡◌, refl, ap, sym, subst, ◌∙◌}
use mathlib.Core.List.{List, ◌++◌}
use Rattle.lists.specs.Lists.{keep}
use Rattle.lists.proofs.Keep.{keep_append}
use Rattle.identity.specs.declared.Item.{Item}
use Rattle.editions.specs.declared.Edition.{Edition}
use Rattle.verdicts.specs.Verdict.{Understood, Verdict, understood}
use Rattle.table.specs.Table.{State}
use Rattle.table.proofs.Rules.{resets}
use Rattle.units.specs.Unit.{Unit, is_unit, read_unit, unit_octets, with_held, GoodUnit}
use Rattle.requests.specs.Requests.{items_in}
use Rattle.replies.specs.Replies.{has_identity}
use Rattle.calls.specs.Call.{Call, call}
use Rattle.demands.specs.Words.{Lends, reset_by, Acknowledgement, run, replies, AllAccepted, PartialResets, Acknowledged, none, more}
use Rattle.demands.specs.Resets.{ResetRun, Dealing}
use Rattle.demands.proofs.States.{lent_good, reset_good_lem, reset_lent}
use Rattle.demands.proofs.Runs.{reset_reply, reset_read_lem, run_octets}
use Rattle.demands.proofs.Acknowledges.{reply_acknowledges}

-- ---- acknowledgements of a run

same_read : {x y : Understood} {v : Verdict} → v ≡ understood x → v ≡ understood y → x ≡ y
same_read p q = cc

-- a reply acknowledges one list
one_list : {v : Verdict} {js ks : List Item} → Acknowledgement v js → Acknowledgement v ks → js ≡ ks
one_list a b = sym a.items ∙ ap (λ (u : Understood). items_in u.what) (same_read a.read b.read) ∙ b.items

module _ (e : Edition) where
  run_acknowledged : {cs : List Call} {items : List Item} → PartialResets e cs items → (t : List ℕ) (u : Unit) → GoodUnit u → read_unit t ≡ is_unit u → AllAccepted e t cs →
      Acknowledged e (replies e t cs) (keep has_identity items)
  unfolding replies
  run_acknowledged none t u g q a = none
  run_acknowledged (more {c = c} {cs = cs} {ks = ks} {js = js} o p rest) t u g q a =
      rw (keep_append has_identity ks js, reset_reply e t c u ks g q p a.0)
      (more (reply_acknowledges e c.message ks o p)
      (run_acknowledged rest (call e t c).unit (reset_by ks u) (reset_good_lem u g ks) (reset_read_lem e t c u ks g q p a.0) a.1))

  one_joined : {rs : List (List ℕ)} {js ks : List Item} → Acknowledged e rs js → Acknowledged e rs ks → js ≡ ks
  one_joined none none = refl
  one_joined (more a x) (more b y) = λ i. one_list a b i ++ one_joined x y i

  -- ---- the demand

  module _ {t : List ℕ} {u : Unit} {cs : List Call} {items : List Item} (r : ResetRun e t u cs items) where
    ends : run e t cs ≡ unit_octets (reset_by items u)
    ends = run_octets e r.messages t u (lent_good r.unit) r.unit.read r.accepted

    lists : Acknowledged e (replies e t cs) (keep has_identity items)
    lists = run_acknowledged r.messages t u (lent_good r.unit) r.unit.read r.accepted

  pub dealing : Dealing e
  dealing = record {
    exact = λ {t} {u} {cs} {is} r. subst (λ (x : List ℕ). Lends x (reset_by is u)) (sym (ends r)) (reset_lent r.unit is);
    left = resets.left;
    order = resets.order;
    octets = λ {t} {u} {cs} {is} r. ends r;
    afresh = λ {t} {u} {cs} {ds} {is} {js} r s d. ends r ∙ ap (λ (l : State). unit_octets (with_held (λ y. l) u)) (resets.any_order d u.held) ∙ sym (ends s);
    acknowledged = λ {t} {u} {cs} {is} r. lists r;
    alike = λ {t} {s} {u} {v} {cs} {ds} {is} {js} {ks} r q a b. one_joined a (lists r) ∙ one_joined (lists q) b;
  }
