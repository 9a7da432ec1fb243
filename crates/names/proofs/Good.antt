-- What was read is a name that is allowed, and where it stands.
-- Assumes nothing.
use mathlib.Core.Path.{◌≡◌, ◌∙◌, sym, ap, subst}
use mathlib.Core.List.{List}
use Prim.Native.Nat.{ℕ, ◌+◌, ◌<◌, ◌≤◌}
use native.Mathlib.Omega.{arith}
use borrow.Author.Tests.{le-leb}
use lib.ListN.{length}
use lib.Seq.{slice, length-slice}
use Rattle.std.specs.Prelude.{Ok}
use Rattle.octets.specs.Field.{plain_at, pad_at, ends_at}
use Rattle.octets.specs.declared.Span.{Span}
use Rattle.octets.proofs.Chain.{then_got, same_got}
use Rattle.octets.proofs.Got.{ends_got}
use Rattle.names.specs.Names.{name_allowed, size_at, chars_at, name_at, part_in}
use Rattle.names.specs.Written.{GoodName}
use Rattle.std.specs.Result.{is_ok}
use Rattle.names.proofs.Chars.{chars_all}
use Rattle.names.proofs.Size.{size_got}
use Rattle.names.proofs.Allowed.{part_in_lem}

-- characters that were read are a name if there are 1 to 150 of them
pub chars_good : (s : List ℕ) (at n : ℕ) → 1 ≤ n → n ≤ 150 → at + n ≤ length s → Ok tt ≡ chars_at n s at → GoodName (slice at (at + n) s)
unfolding name_allowed
chars_good s at n some most h q =
    let l : length (slice at (at + n) s) ≡ n = length-slice at (at + n) s h ∙ omega arith in
    rw (l, le-leb 1 n some, le-leb n 150 most) (sym (chars_all n s at h) ∙ ap is_ok (sym q))

-- the fields of a name that was read, of n characters
pub record Parts (s : List ℕ) (at : ℕ) (v : Span) : Type 0 where
  pub n : ℕ
  pub plain : Ok tt ≡ plain_at s at 0
  pub size : Ok n ≡ size_at s at
  pub pad : Ok tt ≡ pad_at s (at + 1) 1
  pub chars : Ok tt ≡ chars_at n s (at + 2)
  pub ends : Ok tt ≡ ends_at s (at + 2 + n)
  pub span : v ≡ record { from = at + 2; to = at + 2 + n }

pub name_parts : (s : List ℕ) (at : ℕ) {v : Span} → Ok v ≡ name_at s at → Parts s at v
unfolding name_at
name_parts s at q =
    let a = then_got (plain_at s at 0) _ q in
    let b = then_got (size_at s at) _ a.2 in
    let d = then_got (pad_at s (at + 1) 1) _ b.2 in
    let e = then_got (chars_at b.0 s (at + 2)) _ d.2 in
    let f = then_got (ends_at s (at + 2 + b.0)) _ e.2 in
    record { n = b.0; plain = a.1; size = b.1; pad = d.1; chars = e.1; ends = f.1; span = same_got f.2 }

module _ (s : List ℕ) (at : ℕ) {v : Span} (q : Ok v ≡ name_at s at) where
  pub name_in_lem : (v.from ≡ at + 2) × (v.from < v.to) × (v.to ≡ length s)
  name_in_lem =
      let p = name_parts s at q in
      let z = size_got s at p.size in
      let i = z.0 in
      let r = z.2 in
      let k = ends_got s (at + 2 + p.n) p.ends in
      let x : v.from ≡ at + 2 = ap (λ (y : Span). y.from) p.span in
      let y : v.to ≡ at + 2 + p.n = ap (λ (y : Span). y.to) p.span in
      (x, omega arith, omega arith)

  pub name_good : GoodName (part_in s v.from v.to)
  name_good =
      let p = name_parts s at q in
      let z = size_got s at p.size in
      let i = z.0 in
      let j = z.1 in
      subst (λ (x : Span). GoodName (part_in s x.from x.to)) (sym p.span)
      (rw (part_in_lem s (at + 2) (at + 2 + p.n) z.2) (chars_good s (at + 2) p.n (omega arith) (omega arith) z.2 p.chars))
