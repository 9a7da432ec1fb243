-- Demand 1 said of the exported call itself: of any arguments, and any result and last values that its statement allows.
-- Assumes nothing.
use contract.Lifetimes.{Lfts}
use denote.Triple.Clauses.{Lasts, at_exit}
use borrow.Fn.Kinds.{Dens, res_t, ended_of}
use Rattle.link.specs.Promised.{Promised}
use Rattle.link.proofs.Exported.{promised}
use Rattle.link_c.proofs.m3ap_call.Kinds as m3ap_call'
use Rattle.link_c.proofs.m3ap_call.Reads as m3ap_call

-- what the statement of the function allows of arguments a
abbrev pub Allowed : (κs : Lfts 3) (a : Dens κs m3ap_call'.ps) → (res_t m3ap_call'.r κs).Denot × Lasts (ended_of 3 m3ap_call'.ps m3ap_call'.r) κs a → Type 0
Allowed κs a x = m3ap_call.Learnt κs a x.0 (at_exit (ended_of 3 m3ap_call'.ps m3ap_call'.r) κs a x.1)

-- whoever calls
pub m3ap_call_promises : (κs : Lfts 3) (a : Dens κs m3ap_call'.ps) (x : (res_t m3ap_call'.r κs).Denot × Lasts (ended_of 3 m3ap_call'.ps m3ap_call'.r) κs a) → Allowed κs a x →
    Promised a.0.now a.1.0.now a.1.1.0 a.1.1.1.0.now x.0 x.1.0 x.1.1.1.1.0
m3ap_call_promises κs a x e = promised a.0.now a.1.0.now a.1.1.0 a.1.1.1.0.now x.0 x.1.0 x.1.1.1.1.0 e
