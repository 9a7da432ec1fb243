-- the rows of its halves, one after the other
use Rattle.octets.proofs.Writing.{wrote_then}
use Rattle.item_rows.proofs.Out.{row_octets_lem}
use Rattle.item_rows.proofs.row_out.Goals as goal

pub returns : goal.returns
returns c = rw (row_octets_lem c.args.w) (wrote_then c.half_out-next.ensures c.half_out.ensures)
