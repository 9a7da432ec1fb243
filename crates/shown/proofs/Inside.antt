-- What is found, and what is shown, lies within the octets that are lent.
--     name_inside   where a name is found, 1 to 150 characters stand, each printable
--     part_inside   the part that is shown, and part_early   it ends in the first 8,192 octets
--     shown_few     it has at most 150 octets
-- Assumes nothing.
use Prim.Native.Nat.{ℕ, min, ◌+◌, ◌-◌, ◌≤◌}
use mathlib.Core.Path.{◌≡◌, ◌∙◌, refl, sym, ap, subst}
use mathlib.Core.Bool.{Bool, true, false}
use mathlib.Core.List.{List, [], ◌∷◌}
use mathlib.Core.Logic.{◌⊎◌, inl, inr}
use native.Mathlib.Omega.{arith}
use borrow.Author.Tests.{ltb-false}
use lib.Dec.{ltb}
use lib.ListN.{length, take, drop, length-take}
use lib.Seq.{slice, length-slice, take-take}
use Rattle.lists.specs.Lists.{pick}
use Rattle.lists.proofs.Parts.{take_drop}
use Rattle.lists.proofs.Tests.{on-pick}
use Rattle.std.specs.Prelude.{Ok, Err, None, Option, Some}
use Rattle.octets.specs.Read.{Read}
use Rattle.octets.specs.declared.Span.{Span}
use Rattle.octets.specs.Span.{present}
use Rattle.names.specs.Names.{name_at}
use Rattle.names.specs.Written.{GoodName}
use Rattle.names.proofs.Allowed.{name_size, part_in_lem}
use Rattle.names.proofs.Good.{name_in_lem, name_good}
use Rattle.rows.specs.declared.Kind.{Kind}
use Rattle.rows.specs.declared.Kind.TheVariants as kind
use Rattle.rows.specs.declared.Row.{Row}
use Rattle.editions.specs.declared.Edition.{Edition}
use Rattle.editions.specs.declared.Message.{Message}
use Rattle.editions.specs.Editions.{table_of, container_of, named_by}
use Rattle.frames.specs.declared.Frame.{Frame}
use Rattle.frames.specs.Frame.{frame_at}
use Rattle.meaning.specs.Value.{absent}
use Rattle.meaning.specs.Reading.{or_absent, read_as, value_in, values_in}
use Rattle.verdicts.specs.declared.Outcome.{Outcome}
use Rattle.verdicts.specs.declared.Outcome.TheVariants as outcome
use Rattle.verdicts.specs.declared.Refusal.TheVariants.{TooLong}
use Rattle.verdicts.specs.Verdict.{Opening, opened_at, refused, verdict_of, of_those, framed, read_of}
use Rattle.shown.specs.declared.Part.{Part}
use Rattle.shown.specs.Shown.{setup_requests, found_with, found_among, if_accepted, found_in, name_in, part_by, shown_part, part_octets, shown_of, or_else}
use Rattle.shown.proofs.Values.{name_read_lem, Unnamed, name_or_not}

-- a part of s
pub record Within (s : List ℕ) (v : Span) : Type 0 where
  pub order : v.from ≤ v.to
  pub ends : v.to ≤ length s

-- a name stands there
abbrev pub Inside : List ℕ → Option Span → Type 0
Inside s (Some v) = Within s v × GoodName (slice v.from v.to s)
Inside s None = Unit

-- ---- a name that is read

read_good : (n at : ℕ) (s : List ℕ) {v : Span} → Ok v ≡ name_at (take n s) at → Inside s (Some v)
read_good n at s {v} q =
    let i = name_in_lem (take n s) at q in
    let b = i.1 in
    let c = i.2 in
    let l = length-take n s in
    let w : v.to ≤ length (take n s) = omega arith in (
      record { order = omega arith; ends = omega arith },
      subst GoodName (part_in_lem (take n s) v.from v.to w ∙ ap (drop v.from) (take-take v.to n s (omega arith))) (name_good (take n s) at q),
    )

read_inside : (n at : ℕ) (s : List ℕ) (x : Option Span) → Inside s x → Inside s (or_else (name_at (take n s) at) x)
read_inside n at s x i = by (name_at (take n s) at) refl
  where
    by : (r : Read Span) → r ≡ name_at (take n s) at → Inside s (or_else r x)
    by (Ok v) q = read_good n at s q
    by (Err y) q = i

-- ---- among values

row_inside : (k : Kind) (s : List ℕ) (v : Span) (x : Option Span) → Inside s x → Inside s (found_with (value_in k s v) x)
unfolding value_in
row_inside k s v x i = on (present v)
  where
    of : (k ≡ kind.Name) ⊎ Unnamed k → Inside s (found_with (or_absent (read_as k s v)) x)
    of (inl e) = subst (λ (j : Kind). Inside s (found_with (or_absent (read_as j s v)) x)) (sym e) (subst (Inside s) (sym (name_read_lem s v x)) (read_inside v.to v.from s x i))
    of (inr f) = subst (Inside s) (sym (f s v x)) i

    on : (b : Bool) → Inside s (found_with (pick b (or_absent (read_as k s v)) absent) x)
    on true = of (name_or_not k)
    on false = i

among_inside : (t : List Row) (s : List ℕ) (l : List Span) → Inside s (found_among (values_in t s l))
unfolding values_in found_among
among_inside [] s l = tt
among_inside (r ∷ t) s [] = tt
among_inside (r ∷ t) s (v ∷ l) = row_inside r.kind s v (found_among (values_in t s l)) (among_inside t s l)

-- ---- of octets

accepted_inside : (o : Outcome) (s : List ℕ) (x : Option Span) → Inside s x → Inside s (if_accepted o x)
accepted_inside outcome.Accepted s x i = i
accepted_inside (outcome.Misplaced k) s x i = tt
accepted_inside outcome.Rejected s x i = tt

opened_inside : (t : List Row) (m : Message) (f : Frame) (s : List ℕ) (r : Read Opening) → Inside s (found_in (verdict_of t m f s r))
opened_inside t m f s (Ok o) = accepted_inside o.outcome s _ (among_inside t s o.spans)
opened_inside t m f s (Err x) = tt

module _ (e : Edition) (s : List ℕ) where
  named_inside : (f : Frame) (n : Option Message) → Inside s (found_in (of_those e setup_requests s f n))
  named_inside f (Some m) = on-pick (λ v. Inside s (found_in v)) (setup_requests m) (opened_inside (table_of e m) m f s (opened_at (table_of e m) (container_of e m) s f.from)) tt
  named_inside f None = tt

  framed_inside : (r : Read Frame) → Inside s (found_in (framed e setup_requests s r))
  framed_inside (Ok f) = named_inside f (named_by e f.kind f.code)
  framed_inside (Err x) = tt

  pub name_inside : Inside s (name_in e s)
  unfolding name_in read_of
  name_inside = on-pick (λ v. Inside s (found_in v)) (ltb 8192 (length s)) tt (framed_inside (frame_at s))

  pub part_inside : (l : List ℕ) → Within (pick (shown_part e s l).of_label l s) (shown_part e s l).span
  unfolding shown_part
  part_inside l = by (name_in e s) name_inside
    where
      by : (x : Option Span) → Inside s x → Within (pick (part_by l x).of_label l s) (part_by l x).span
      by (Some v) i = i.0
      by None i = record { order = omega arith; ends = omega arith }

  -- only octets that are not too long have a name
  abbrev Short : Option Span → Type 0
  Short (Some v) = length s ≤ 8192
  Short None = Unit

  name_short : Short (name_in e s)
  unfolding name_in read_of
  name_short = by (ltb 8192 (length s)) refl
    where
      any : length s ≤ 8192 → (x : Option Span) → Short x
      any h (Some v) = h
      any h None = tt

      by : (b : Bool) → ltb 8192 (length s) ≡ b → Short (found_in (pick b (refused TooLong) (framed e setup_requests s (frame_at s))))
      by true q = tt
      by false q = any (ltb-false 8192 (length s) q) (found_in (framed e setup_requests s (frame_at s)))

  pub part_early : (l : List ℕ) → (shown_part e s l).span.to ≤ 8192
  unfolding shown_part
  part_early l = by (name_in e s) name_inside name_short
    where
      by : (x : Option Span) → Inside s x → Short x → (part_by l x).span.to ≤ 8192
      by (Some v) i h = omega (arith, i.0.ends, h)
      by None i h = omega arith

  pub shown_few : (l : List ℕ) → length (shown_of e s l) ≤ 150
  unfolding shown_of shown_part
  shown_few l = by (name_in e s) name_inside
    where
      by : (x : Option Span) → Inside s x → length (part_octets s l (part_by l x)) ≤ 150
      by (Some v) i = (name_size (slice v.from v.to s) i.1).1
      by None i = let b : min 150 (length l) ≤ length l = omega arith in omega (arith, length-slice 0 (min 150 (length l)) l b)

-- ---- the part that is cut out, of the label or of the request

module _ (e : Edition) (s l : List ℕ) {p : Part} (q : p ≡ shown_part e s l) where
  pub lies : Within (pick p.of_label l s) p.span
  lies = rw q (part_inside e s l)

  pub shows : take (p.span.to - p.span.from) (drop p.span.from (pick p.of_label l s)) ≡ shown_of e s l
  unfolding shown_of
  shows =
      let h = lies.order in
      let k : p.span.from + (p.span.to - p.span.from) ≡ p.span.to = omega arith in
      take_drop (p.span.to - p.span.from) p.span.from (pick p.of_label l s)
      ∙ (ap (λ (n : ℕ). slice p.span.from n (pick p.of_label l s)) k ∙ ap (part_octets s l) q)
