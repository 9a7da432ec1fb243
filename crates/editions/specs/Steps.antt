-- Scaffolding: no demand speaks of it. What the steps of the code give of a form: number and frame in a row.
use Rattle.std.specs.Prelude.{◌≡◌}
use Rattle.editions.specs.declared.Head.{Head}
use Rattle.editions.specs.Editions.{Form}

pub record Heads (f : Form) (h : Head) : Type 0 where
  pub number : h.0 ≡ f.number
  pub kind : h.1 ≡ f.code.kind
  pub code : h.2 ≡ f.code.code
  pub crit : h.3 ≡ f.code.crit
  pub container : h.4 ≡ f.container
