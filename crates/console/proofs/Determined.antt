-- For each public function: any two results that its statement allows are equal.
use mathlib.Core.Path.{◌≡◌, refl}
use seplogic.Ra.Ura.{Ura}
use base.Logic.{SProp}
use contract.Lifetimes.{Lfts}
use contract.Monad.{Fun, fact}
use denote.Triple.Clauses.{Ended, Clauses, Lasts, AtExit, at_exit}
use denote.Triple.Entry.{Args, Res}
use types.Logic.{Logic}
use prog.Memory.{Memory}
use prog.Routine.{Routine}
use Rattle.lists.proofs.Unique.{Determined, ◌&◌, ◌same◌}
use Rattle.console.specs.Console.{tmgi_of, counted_run}
use Rattle.console.proofs.count.Kinds as count'
use Rattle.console.proofs.count.Reads as count
use Rattle.console.proofs.count_numbers.Kinds as count_numbers'
use Rattle.console.proofs.count_numbers.Reads as count_numbers
use Rattle.console.specs.contracts.m3ap_count as m3ap_count

pub count_is : Determined count'.ps count'.r count.Asked count.Learnt
count_is κs a p x y e f = (e same f) & refl

pub count_numbers_is : Determined count_numbers'.ps count_numbers'.r count_numbers.Asked count_numbers.Learnt
count_numbers_is κs a p x y e f = (e same f) & refl

-- A function's own clauses are read: in every model they are a plain fact, and that fact allows one result.
pub record DeterminedBy (T : Ended) (c : (M : Type 1) (𝓤 : Ura M) → (𝓛 : Logic 𝓤) → (Memory → SProp 𝓤) → (Routine → Fun 𝓤) → Clauses 𝓤 T) : Type 2 where
  pub Learnt : (κs : Lfts T.signature.lifetimes) → Args T.signature κs → Res T.signature κs → AtExit T κs → Type 0
  pub says : (M : Type 1) (𝓤 : Ura M) (𝓛 : Logic 𝓤) (mem : Memory → SProp 𝓤) (run : Routine → Fun 𝓤) (κs : Lfts T.signature.lifetimes) (a : Args T.signature κs)
      (g : (c M 𝓤 𝓛 mem run κs a).ghost) (r : Res T.signature κs) (s : AtExit T κs) → (c M 𝓤 𝓛 mem run κs a).ensures g r s ≡ fact 𝓤 (Learnt κs a r s)
  pub one : (κs : Lfts T.signature.lifetimes) (a : Args T.signature κs) (x y : Res T.signature κs × Lasts T κs a) →
      Learnt κs a x.0 (at_exit T κs a x.1) → Learnt κs a y.0 (at_exit T κs a y.1) → x ≡ y

pub m3ap_count_is : DeterminedBy m3ap_count.ended (λ M 𝓤 𝓛. m3ap_count.clauses 𝓛)
m3ap_count_is = record {
  Learnt = λ κs a r s. r ≡ counted_run (tmgi_of a.1.0) a.0.now;
  says = λ M 𝓤 𝓛 mem run κs a g r s. refl;
  one = λ κs a x y e f. (e same f) & refl;
}
