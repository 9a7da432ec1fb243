-- `put_diagnostics::marks_octet` meets its contract: each bit is put behind those before it.
-- Assumes nothing.
use Rattle.diagnostics.specs.Written.{marks_of}
use Rattle.put_diagnostics.proofs.Putting.{marks_put}
use Rattle.put_diagnostics.proofs.marks_octet.Goals as goal

pub returns : goal.returns
returns c = rw (c.with_bits.ensures, c.from-4.ensures, c.with_bits-z.ensures, c.from-3.ensures, c.is_some-3.ensures, c.with_bits-y.ensures, c.from-2.ensures, c.is_some-2.ensures, c.with_bits-x.ensures, c.from.ensures, c.is_some.ensures) (marks_put (marks_of c.args.head))
