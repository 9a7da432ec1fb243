-- What the ties use of an edition's tables and frames: laws of editions, gathered.
-- Assumes nothing.
use Prim.Native.Nat.{◌<◌}
use mathlib.Core.Path.{◌≡◌}
use mathlib.Core.Bool.{true}
use mathlib.Core.List.{List}
use native.Mathlib.Omega.{arith}
use lib.ListN.{length}
use Rattle.lists.specs.Lists.{apart}
use Rattle.octets.specs.Many.{Each}
use Rattle.rows.specs.declared.Row.{Row}
use Rattle.editions.specs.declared.Message.{Message}
use Rattle.editions.specs.declared.Code.{Code}
use Rattle.editions.specs.declared.Edition.{Edition}
use Rattle.editions.specs.Editions.{table_of, code_of}
use Rattle.editions.proofs.Names.{bounds}
use Rattle.editions.proofs.Tables as tables
pub use Rattle.editions.proofs.Tables.{Fits, alike}

pub record Lawful (t : List Row) : Type 0 where
  pub distinct : apart alike t ≡ true
  pub rows : Each Fits t
  pub count : length t < 65536

pub record CodeFits (c : Code) : Type 0 where
  pub kind : c.kind < 3
  pub code : c.code < 256
  pub crit : c.crit < 3

module _ (e : Edition) (m : Message) where
  pub table_lawful : Lawful (table_of e m)
  table_lawful =
      let l = tables.table_lawful e m in
      let n = tables.lawful_count (table_of e m) l in
      record { distinct = tables.lawful_ids (table_of e m) l; rows = tables.rows_fit e m; count = omega arith }

  pub code_fits : CodeFits (code_of e m)
  code_fits = let b = bounds e m in record { kind = b.kind; code = b.code; crit = b.crit }
