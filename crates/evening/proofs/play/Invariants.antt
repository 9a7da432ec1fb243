use Rattle.evening.specs.Capture.{played_in}
use Rattle.evening.proofs.Playing.{Going}
use Rattle.evening.proofs.play.Given as goal

-- what is passed, with the play of the rest behind it, is the play whole
abbrev pub invariant-loop-i : goal.invariant-loop-i
invariant-loop-i l = Going (played_in l.most l.s l.initial.unit l.initial.room) l.most l.s l.initial.unit l.initial.room l.unit l.room l.initial.turns l.turns l.at l.i
