-- What an edition takes of a printed form: heads are the same in all editions.
-- Assumes nothing.
use Rattle.editions.specs.declared.Edition.{Edition}
use Rattle.editions.specs.declared.Edition.TheVariants.{Release18, Warnings, WarningsLab}
use Rattle.editions.specs.declared.Message.{Message}
use Rattle.editions.specs.declared.Head.{Head}
use Rattle.editions.specs.Editions.{printed_form, printed, form_of}
use Rattle.editions.specs.Steps.{Heads}

pub heads_of_lem : (e : Edition) (m : Message) {h : Head} → Heads (printed_form m) h → Heads (form_of e m) h
unfolding printed
heads_of_lem Release18 m q = q
heads_of_lem Warnings m q = q
heads_of_lem WarningsLab m q = record { number = q.number; kind = q.kind; code = q.code; crit = q.crit; container = q.container }
