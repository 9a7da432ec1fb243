-- A value by its kind: it can be read, or why not. What is carried is not read.
use Rattle.std.specs.Prelude.{ℕ, List, Ok}
use Rattle.octets.specs.Read.{Read, ◌>>◌}
use Rattle.values.specs.Values.{mme_at, mce_at, tmgi_at, one_at, two_at, cause_at, wait_at}
use Rattle.names.specs.Names.{name_at}
use Rattle.items.specs.Items.{items_at, reset_at}
use Rattle.diagnostics.specs.Diagnostics.{diagnostics_at}
use Rattle.rows.specs.Table.{meanings}
use Rattle.rows.specs.declared.Kind.{Kind}
use Rattle.rows.specs.declared.Kind.TheVariants.{Carried, Mme, Mce, Tmgi, OneOctet, TwoOctets, Cause, Wait, Name, ResetType, Acknowledged, Diagnostics}

unfoldable pub legible_at : Kind → List ℕ → ℕ → Read Unit
legible_at Carried s at = Ok tt
legible_at Mme s at = mme_at s at >> Ok tt
legible_at Mce s at = mce_at s at >> Ok tt
legible_at Tmgi s at = tmgi_at s at >> Ok tt
legible_at OneOctet s at = one_at s at >> Ok tt
legible_at TwoOctets s at = two_at s at >> Ok tt
legible_at Cause s at = cause_at s at >> Ok tt
legible_at Wait s at = wait_at s at >> Ok tt
legible_at Name s at = name_at s at >> Ok tt
legible_at ResetType s at = reset_at s at >> Ok tt
legible_at Acknowledged s at = items_at s at >> Ok tt
legible_at (Diagnostics t) s at = diagnostics_at (meanings t) s at >> Ok tt
