-- nine octets in a row
use mathlib.Core.Path.{◌∙◌, refl, sym}
use native.Mathlib.Omega.{arith}
use Rattle.std.proofs.lemmas.List.Edits.{sets-eq}
use Rattle.std.proofs.lemmas.Slice.{put_mid-paste}
use Rattle.item_words.specs.Words.{full_octets}
use Rattle.item_words.proofs.put_full.Goals as goal

pub returns : goal.returns
returns c =
    let a = c.args in
    record {
      octets = put_mid-paste a.at _ a.room.now _ (full_octets a.crit a.m a.c) 9 c.copy_from_slice.ensures.after (omega arith) refl ∙ sym (sets-eq (full_octets a.crit a.m a.c) a.room.now a.at c.requires);
      next = omega (arith, c.requires);
    }
