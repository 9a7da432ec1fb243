-- the faults left are the faults of all
use Rattle.std.proofs.Common.{rules, ◌≡◌, ◌∙◌, ◌-◌, ◌+◌, sym, arith}
use Rattle.std.specs.Prelude.{Err}
use lib.Seq.{length-take-le}
use Rattle.rows.specs.Table.{rows_in}
use Rattle.envelopes.specs.Envelope.{scan_at}
use Rattle.envelopes.proofs.ScanLaws.{envelope_in, scan_none, scan_cut, scan_bad, scan_more}
use Rattle.envelopes.proofs.scan.Goals as goal

pub returns-in_err-h : goal.returns-in_err-h
returns-in_err-h c =
    let a = c.args in
    let l = c.loop in
    let e : Err c.in_err-h.field-0.0 ≡ scan_at (rows_in a.t) a.s.now a.n a.from = scan_cut (rows_in a.t) a.s.now (a.n - l.counter) l.at (λ q. omega arith) c.in_err-h.ensures ∙ l.invariant in
    search (rules, e)

pub slice_bounds-value_at-end : goal.slice_bounds-value_at-end
slice_bounds-value_at-end c = sym (length-take-le _ c.args.s.now (envelope_in c.args.s.now c.loop.at c.in_ok-h.ensures).2)

pub returns-in_err-value_at : goal.returns-in_err-value_at
returns-in_err-value_at c =
    let a = c.args in
    let l = c.loop in
    let e : Err c.in_err-value_at.field-0.0 ≡ scan_at (rows_in a.t) a.s.now a.n a.from
    = scan_bad (rows_in a.t) a.s.now (a.n - l.counter) l.at (λ q. omega arith) c.in_ok-h.h c.in_ok-h.ensures (rw c.kind_of.ensures at c.in_err-value_at.ensures) ∙ l.invariant in
    search (rules, e)

pub loop-preserved : goal.loop-preserved
loop-preserved c =
    let a = c.args in
    let l = c.loop in
    let k : a.n - (l.counter + 1) ≡ a.n - l.counter - 1 = omega arith in
    rw k (scan_more (rows_in a.t) a.s.now (a.n - l.counter) l.at (λ q. omega arith) c.in_ok-h.h c.in_ok-h.ensures (rw c.kind_of.ensures at c.in_ok-value_at.ensures) ∙ l.invariant)

pub returns : goal.returns
returns c = scan_none (rows_in c.args.t) c.args.s.now (c.args.n - c.loop.counter) c.loop.at (omega arith) ∙ c.loop.invariant
