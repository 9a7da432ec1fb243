-- Reset items.
use Rattle.std.specs.Prelude.{None}
use Rattle.identity.specs.declared.Item.{Item}

-- the item that has no identity
abbrev pub empty_item : Item
empty_item = record { mme = None; mce = None }
