-- The same over plain numbers: what of each record is copied out, and the answer by it.
use Rattle.std.specs.Prelude.{not, ◌&&◌, ◌||◌, List, map, ℕ, ◌+◌, ◌*◌, ◌<◌, eqb, leb, length, take, set}
use Rattle.lists.specs.Lists.{pick, keep, some, apart, fill}
use Rattle.identity.specs.declared.MmeId.{MmeId}
use Rattle.identity.specs.declared.MceId.{MceId}
use Rattle.distinct.specs.Series.{same_mme, same_mce}
use Rattle.console.specs.declared.Three.{Three}
use Rattle.console.specs.declared.TmgiOctets.{TmgiOctets}
use Rattle.console.specs.declared.Record.{Record}
use Rattle.console.specs.declared.Numbers.{Numbers}
use Rattle.console.specs.declared.Counted.{Counted}
use Rattle.console.specs.Console.{carried_out, no_table, elsewhere}

abbrev pub three_of : Three → ℕ
three_of t = (t.0 * 256 + t.1) * 256 + t.2

-- six octets as one number, the first the highest
unfoldable pub six_of : TmgiOctets → ℕ
six_of t = three_of t.plmn * 16777216 + three_of t.service

abbrev pub Octets3 : Three → Type 0
Octets3 t = (t.0 < 256) × (t.1 < 256) × (t.2 < 256)

pub record Octets6 (t : TmgiOctets) : Type 0 where
  pub plmn : Octets3 t.plmn
  pub service : Octets3 t.service

abbrev pub tmgi_number : Record → ℕ
tmgi_number r = six_of r.tmgi

abbrev pub mme_of : Record → MmeId
mme_of r = r.mme

abbrev pub mce_of : Record → MceId
mce_of r = r.mce

-- what stands where there is no record
abbrev pub no_mme : MmeId
no_mme = record { 0 = 0 }

abbrev pub no_mce : MceId
no_mce = record { 0 = 0 }

-- the numbers of up to 256 records
unfoldable pub gathered : List Record → Numbers
gathered l = record {
  mmes = fill no_mme 256 (map mme_of l);
  mces = fill no_mce 256 (map mce_of l);
  tmgis = fill 0 256 (map tmgi_number l);
  elsewhere = some elsewhere l;
}

-- one record's numbers stored
unfoldable pub put_in : Numbers → ℕ → Record → Numbers
put_in g i r = record {
  mmes = set g.mmes i r.mme;
  mces = set g.mces i r.mce;
  tmgis = set g.tmgis i (six_of r.tmgi);
  elsewhere = g.elsewhere || elsewhere r;
}

-- over 256, one of a link that there is not, or two identities of one series are alike: no table; else how many TMGIs are the given number
unfoldable pub counted_in : Numbers → ℕ → ℕ → Counted
counted_in g n x =
    pick (leb n 256 && (not g.elsewhere && (apart same_mme (take n g.mmes) && apart same_mce (take n g.mces))))
    (carried_out (length (keep (λ (y : ℕ). eqb y x) (take n g.tmgis)))) no_table
