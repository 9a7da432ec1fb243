-- Values by their kinds. Whether a value can be read is whether its reading gives something, for every kind.
-- Assumes nothing.
use Prim.Native.Nat.{ℕ}
use mathlib.Core.Path.{◌≡◌, ◌∙◌, refl, ap, sym}
use mathlib.Core.List.{List}
use lib.ListN.{take}
use Rattle.std.specs.Prelude.{Ok}
use Rattle.octets.specs.Read.{Read, ◌>>◌}
use Rattle.octets.specs.declared.Span.{Span}
use Rattle.values.specs.Values.{mme_at, mce_at, tmgi_at, one_at, two_at, cause_at, wait_at}
use Rattle.names.specs.Names.{name_at}
use Rattle.items.specs.Items.{items_at, reset_at}
use Rattle.diagnostics.specs.Diagnostics.{diagnostics_at}
use Rattle.entry_words.proofs.Laws.{same_gate}
use Rattle.rows.specs.Table.{meanings}
use Rattle.rows.specs.declared.Kind.{Kind}
use Rattle.rows.specs.declared.Kind.TheVariants.{Carried, Mme, Mce, Tmgi, OneOctet, TwoOctets, Cause, Wait, Name, ResetType, Acknowledged, Diagnostics}
use Rattle.meaning.specs.Value.{mme, mce, tmgi, one, two, cause, wait, name, reset, list, diagnostics}
use Rattle.meaning.specs.Reading.{read_as}
use Rattle.kinds.specs.Kinds.{legible_at}

-- what is carried is not read
pub carried : (s : List ℕ) (at : ℕ) → Ok tt ≡ legible_at Carried s at
unfolding legible_at
carried s at = refl

pub of_kind : {k j : Kind} {z : Read Unit} (s : List ℕ) (at : ℕ) → k ≡ j → z ≡ legible_at j s at → z ≡ legible_at k s at
of_kind s at q r = r ∙ ap (λ (k : Kind). legible_at k s at) (sym q)

-- the gate of a value and the reading of it
pub as_read : (k : Kind) (s : List ℕ) (v : Span) → legible_at k (take v.to s) v.from ≡ (read_as k s v >> Ok tt)
unfolding legible_at read_as
as_read Carried s v = refl
as_read Mme s v = same_gate (mme_at (take v.to s) v.from) mme
as_read Mce s v = same_gate (mce_at (take v.to s) v.from) mce
as_read Tmgi s v = same_gate (tmgi_at (take v.to s) v.from) tmgi
as_read OneOctet s v = same_gate (one_at (take v.to s) v.from) one
as_read TwoOctets s v = same_gate (two_at (take v.to s) v.from) two
as_read Cause s v = same_gate (cause_at (take v.to s) v.from) cause
as_read Wait s v = same_gate (wait_at (take v.to s) v.from) wait
as_read Name s v = same_gate (name_at (take v.to s) v.from) name
as_read ResetType s v = same_gate (reset_at (take v.to s) v.from) reset
as_read Acknowledged s v = same_gate (items_at (take v.to s) v.from) list
as_read (Diagnostics t) s v = same_gate (diagnostics_at (meanings t) (take v.to s) v.from) (diagnostics t)
