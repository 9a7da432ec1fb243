-- For each public function: any two results that its statement allows are equal, with what is left behind each `&mut`.
-- Assumes nothing.
use mathlib.Core.Path.{refl}
use Rattle.lists.proofs.Unique.{Determined, ◌same◌, ◌&◌}
use Rattle.item_rows.proofs.items_out.Kinds as items_out'
use Rattle.item_rows.proofs.items_out.Reads as items_out
use Rattle.item_rows.proofs.are_items.Kinds as are_items'
use Rattle.item_rows.proofs.are_items.Reads as are_items
use Rattle.item_rows.proofs.no_items.Kinds as no_items'
use Rattle.item_rows.proofs.no_items.Reads as no_items
use Rattle.item_rows.proofs.said_items.Kinds as said_items'
use Rattle.item_rows.proofs.said_items.Reads as said_items
use Rattle.item_rows.proofs.said_size.Kinds as said_size'
use Rattle.item_rows.proofs.said_size.Reads as said_size
use Rattle.item_rows.proofs.put_said.Kinds as put_said'
use Rattle.item_rows.proofs.put_said.Reads as put_said

pub items_out_is : Determined items_out'.ps items_out'.r items_out.Asked items_out.Learnt
items_out_is κs a p x y e f = (e.next same f.next) & (e.octets same f.octets) & refl

pub are_items_is : Determined are_items'.ps are_items'.r are_items.Asked are_items.Learnt
are_items_is κs a p x y e f = (e same f) & refl

pub no_items_is : Determined no_items'.ps no_items'.r no_items.Asked no_items.Learnt
no_items_is κs a p x y e f = (e same f) & refl

pub said_items_is : Determined said_items'.ps said_items'.r said_items.Asked said_items.Learnt
said_items_is κs a p x y e f = (e same f) & refl

pub said_size_is : Determined said_size'.ps said_size'.r said_size.Asked said_size.Learnt
said_size_is κs a p x y e f = (e 0 same f 0) & refl

pub put_said_is : Determined put_said'.ps put_said'.r put_said.Asked put_said.Learnt
put_said_is κs a p x y e f = (e.next same f.next) & (e.octets same f.octets) & refl
