-- `put_diagnostics::put_head` meets its contract: the marks, the code and the other numbers are written one after another.
-- Assumes nothing.
use Rattle.std.specs.Prelude.{ℕ, Option}
use mathlib.Core.Path.{◌∙◌, sym, ap}
use mathlib.Core.List.{◌++◌, map}
use borrow.Author.Rules.{rules}
use Rattle.packed.specs.Packed.{bit}
use Rattle.octets.proofs.Writing.{wrote_then}
use Rattle.diagnostics.specs.Written.{marks_of, marks, present_number, with_code, head_octets}
use Rattle.put_diagnostics.proofs.Putting.{wrote_as, with_code_lem, without_code}
use Rattle.put_diagnostics.proofs.put_head.Goals as goal

pub returns-in_default : goal.returns-in_default
unfolding head_octets
returns-in_default c = let h = c.args.head in
    let vs = present_number h.trigger ++ present_number h.crit in
    wrote_as
    (without_code (marks_of h) c.marks_octet-octet.result vs c.marks_octet-octet.ensures ∙ ap (λ (n : Option ℕ). with_code n (map bit (marks (marks_of h))) vs) (sym c.in_default.is))
    c.put_numbers.ensures

pub returns : goal.returns
unfolding head_octets
returns c = let h = c.args.head in
    let vs = present_number h.trigger ++ present_number h.crit in
    wrote_as
    (with_code_lem (marks_of h) c.marks_octet-octet.result vs c.marks_octet-octet.ensures c.in-Some.code (search rules) ∙ ap (λ (n : Option ℕ). with_code n (map bit (marks (marks_of h))) vs) (sym c.in-Some.is))
    (wrote_then (wrote_then c.put_octet-next.ensures c.put_octet-behind.ensures) c.put_numbers-2.ensures)
