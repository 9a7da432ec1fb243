-- A list stands behind the fields exactly if they say so.
use mathlib.Core.Path.{◌≡◌, ap, sym, ◌∙◌}
use Prim.Native.Nat.{ℕ}
use Rattle.std.specs.Prelude.{Ok}
use Rattle.rows.specs.Table.{meanings}
use Rattle.diagnostics.specs.Diagnostics.{head_at}
use Rattle.reader.proofs.Slots.{ok_some, ok_none, head_is, head_none}
use Rattle.reader.proofs.Begin.{fields_entries}
use Rattle.reader.proofs.list_from.Goals as goal

pub returns-in_err-read : goal.returns-in_err-read
returns-in_err-read c =
    let x = ok_none _ (sym c.in_err-read.was ∙ c.ok.ensures.value) in
    head_none _ _ _ (x.1 ∙ (c.head_at.ensures ∙ ap (λ (n : ℕ). head_at n c.args.s.now c.args.from) c.meanings.ensures)) c.requires

pub returns : goal.returns
returns c =
    let q : Ok c.in_ok-read.read ≡ head_at (meanings c.args.t) c.args.s.now c.args.from = ok_some _ c.in_ok-read.ensures.value ∙ (c.head_at.ensures ∙ ap (λ (n : ℕ). head_at n c.args.s.now c.args.from) c.meanings.ensures) in
    let x = head_is _ _ _ _ _ q c.requires in
    rw c.then_some.ensures (fields_entries _ _ _ _ x.2 x.1)
