-- By the test that the closure computes.
use Prim.Native.Nat.compare
use Rattle.std.proofs.Common.{◌≡◌, ◌∙◌, ℕ, suc, Bool, true, false, ◌||◌, List, [], ◌∷◌, length, eqb, ltb, lt-ltb, refl, sym, arith, rules, tests}
use Rattle.std.specs.List.{list_any}
use Rattle.std.proofs.lemmas.Iterator.{YieldsList-from_slice}
use Rattle.std.proofs.lemmas.Iterator.Search.{any_from_yields_List}
use Rattle.lists.specs.Lists.{pick}
use Rattle.rows.specs.declared.Row.{Row}
use Rattle.rows.specs.Table.{rows_in, find, known}
use Rattle.judging.proofs.is_known.Goals as goal

any_known : (id : ℕ) (t : List Row) → list_any (λ (r : Row). eqb r.id id) t ≡ known t id
unfolding find
any_known id [] = refl
any_known id (r ∷ t) = by (eqb r.id id) (any_known id t)
  where
    by : (b : Bool) → list_any (λ (x : Row). eqb x.id id) t ≡ known t id → (b || list_any (λ (x : Row). eqb x.id id) t) ≡ ltb (pick b 0 (suc (find id t))) (suc (length t))
    by true q = sym (lt-ltb 0 (suc (length t)) (omega arith))
    by false q = rw (compare.suc-suc (suc (find id t)) (length t)) q

pub returns : goal.returns
returns c =
    any_from_yields_List (λ r. eqb r.id c.args.id) _ _ _ c.any.ensures.ran (YieldsList-from_slice (rows_in c.args.t) cc) (λ x b q k. search (rules, tests))
    ∙ any_known c.args.id (rows_in c.args.t)
