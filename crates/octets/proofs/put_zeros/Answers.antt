use Rattle.octets.proofs.AtOnce.{zeros_from}
use Rattle.octets.proofs.put_zeros.Goals as goal

pub returns : goal.returns
returns c =
    let a = c.args in
    zeros_from a.room.now a.n a.at c.min-start.result c.place_behind-end.result c.place_behind-end.ensures c.min-start.ensures (c.fill.ensures.after (λ y e. e))
