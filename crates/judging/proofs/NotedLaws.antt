-- What is noted, as words: the first 256 of the entries, one more each time.
--     noted_more                   an entry more, whether it is listed or not
--     Unknowns, unknowns-*         the unknown elements, one after another
--     extensions-*                 the extensions in a container, as unknown elements of no table
--     row_there, row_missing       a row more, that has a value or none
-- Assumes nothing.
use mathlib.Core.Path.{◌≡◌, ◌∙◌, refl, sym, ap, subst}
use mathlib.Core.Bool.{Bool, true, false}
use mathlib.Core.List.{List, [], ◌∷◌, ◌++◌, map, append-nil, append_assoc}
use Prim.Native.Nat.{ℕ, zero, suc, ◌+◌, ◌-◌, ◌<◌}
use native.Mathlib.Nat.{zero-add}
use lib.ListN.{length, length-append, length-map, take, set, get_or}
use lib.Seq.{sets}
use Rattle.lists.specs.Lists.{pick}
use Rattle.lists.proofs.Copy.{map-append}
use Rattle.std.specs.Prelude.{Ok, Err}
use Rattle.octets.specs.Field.{below_at, ends_at}
use Rattle.octets.specs.declared.Stop.{Stop}
use Rattle.octets.specs.declared.Span.{Span}
use Rattle.octets.specs.Span.{no_span}
use Rattle.octets.proofs.Chain.{past, halt, then_got, same_got, got_stop}
use Rattle.octets.proofs.Writing.{sets_append}
use Rattle.entries.specs.declared.Entry.{Entry}
use Rattle.entry_words.specs.EntryWords.{entry_word}
use Rattle.rows.specs.declared.Row.{Row}
use Rattle.rows.specs.Table.{no_row, known}
use Rattle.envelopes.specs.declared.Head.{Head}
use Rattle.envelopes.specs.Envelope.{envelope_at, scan_at, heads_at}
use Rattle.envelopes.proofs.ScanLaws.{heads_none, heads_one}
use Rattle.elements.specs.Judge.{unknown_of, missing_of, counted_extensions_at, extensions_at, extensions_behind}
use Rattle.judging.specs.Judging.{is_noted, lacks, NotedIn, OneNoted, NotedBehind, ExtensionsNoted}
use Rattle.judging.proofs.TallyLaws.{listable, missing, lacking_one, first_more, first_same}

-- ---- an entry more

module _ (es : List Entry) (e : Entry) where
  pub noted_more : {k l m : List ℕ} {count r : ℕ} → NotedIn k (take 256 es) l count → OneNoted l count e m r → NotedIn k (take 256 (es ++ listable e)) m r
  noted_more {k} {l} {m} {count} {r} p q = by (is_noted e.crit count) refl q.words q.next
    where
      by : (b : Bool) → is_noted e.crit count ≡ b → m ≡ pick b (set l count (entry_word e)) l → r ≡ pick b (count + 1) count → NotedIn k (take 256 (es ++ listable e)) m r
      by true g w n =
          subst (λ (xs : List Entry). NotedIn k xs m r) (first_more es e (ap (is_noted e.crit) (sym p.count) ∙ g))
          (record {
            words = w ∙ (rw (p.words, p.count) (sym (rw (map-append entry_word (take 256 es) (e ∷ [])) (sets_append k 0 (map entry_word (take 256 es)) (entry_word e ∷ []) ∙ ap (λ (j : ℕ). set (sets k 0 (map entry_word (take 256 es))) j (entry_word e)) (simp (length-map, zero-add))))));
            count = n ∙ (ap (λ (j : ℕ). j + 1) p.count ∙ sym (length-append (take 256 es) (e ∷ [])));
          })
      by false g w n =
          subst (λ (xs : List Entry). NotedIn k xs m r) (first_same es e (ap (is_noted e.crit) (sym p.count) ∙ g))
          (record { words = w ∙ p.words; count = n ∙ p.count })

-- ---- the unknown elements

heads_cut : (s : List ℕ) (n at : ℕ) {x : Stop} → Err x ≡ envelope_at s at → heads_at s n at ≡ []
unfolding heads_at
heads_cut s zero at q = refl
heads_cut s (suc n) at q = rw (← q)

-- the entries done stand behind what stood there, and with those of the elements left they are all
pub record Unknowns (t : List Row) (s : List ℕ) (n from : ℕ) (before : List ℕ) (seen left at : ℕ) (m : List ℕ) (count : ℕ) : Type 0 where
  pub done : List Entry
  pub list : NotedBehind done before seen m count
  pub rest : done ++ unknown_of t (heads_at s left at) ≡ unknown_of t (heads_at s n from)

pub unknowns_none : (t : List Row) (s : List ℕ) (n from : ℕ) (l : List ℕ) (seen : ℕ) → Unknowns t s n from l seen n from l seen
unknowns_none t s n from l seen = record { done = []; list = λ k es p. rw (append-nil es) p; rest = refl }

module _ {t : List Row} {s : List ℕ} {n from : ℕ} {before : List ℕ} {seen left at : ℕ} {m : List ℕ} {count : ℕ} (p : Unknowns t s n from before seen left at m count) where
  all : heads_at s left at ≡ [] → NotedBehind (unknown_of t (heads_at s n from)) before seen m count
  unfolding unknown_of
  all e = subst (λ (es : List Entry). NotedBehind es before seen m count) (sym (append-nil p.done) ∙ (ap (λ (hs : List Head). p.done ++ unknown_of t hs) (sym e) ∙ p.rest)) p.list

  pub unknowns_all : left ≡ 0 → NotedBehind (unknown_of t (heads_at s n from)) before seen m count
  unknowns_all e = all (heads_none t s left at e)

  pub unknowns_cut : {x : Stop} → Err x ≡ envelope_at s at → NotedBehind (unknown_of t (heads_at s n from)) before seen m count
  unknowns_cut q = all (heads_cut s left at q)

  module _ (a : left ≡ 0 → ⊥) (h : Head) (q : Ok h ≡ envelope_at s at) where
    pub unknowns_known : known t h.id ≡ true → Unknowns t s n from before seen (left - 1) h.value.to m count
    unfolding unknown_of
    unknowns_known k = record { done = p.done; list = p.list; rest = rw (heads_one t s left at a h q, k) at p.rest }

    pub unknowns_more : known t h.id ≡ false → {m' : List ℕ} {r : ℕ} → OneNoted m count (record { crit = h.crit; id = h.id; error = 0 }) m' r
        → Unknowns t s n from before seen (left - 1) h.value.to m' r
    unfolding unknown_of
    unknowns_more k {m'} {r} o =
        let e : Entry = record { crit = h.crit; id = h.id; error = 0 } in
        record {
          done = p.done ++ listable e;
          list = λ l es w. subst (λ (xs : List Entry). NotedIn l (take 256 xs) m' r) (append_assoc es p.done (listable e)) (noted_more (es ++ p.done) e (p.list l es w) o);
          rest = append_assoc p.done (listable e) _ ∙ rw (heads_one t s left at a h q, k) at p.rest;
        }

-- ---- the extensions

module _ (t : List Row) (s : List ℕ) (n from : ℕ) {l : List ℕ} {count : ℕ} where
  pub extensions_none : ExtensionsNoted (extensions_behind t false s n from) l count l count
  unfolding extensions_at unknown_of
  extensions_none xs q k es p =
      let a = then_got (scan_at t s n from) _ q in
      rw (same_got (then_got (ends_at s a.0) _ a.2).2, append-nil es) p

  pub extensions_stop : (container : Bool) {x : Stop} → Err x ≡ extensions_behind t container s n from → ExtensionsNoted (extensions_behind t container s n from) l count l count
  extensions_stop container q xs e = got_stop (e ∙ sym q)

  module _ {to : ℕ} (a : Ok to ≡ scan_at t s n from) where
    pub extensions_cut : {x : Stop} → Err x ≡ below_at 65535 s to → ExtensionsNoted (extensions_behind t true s n from) l count l count
    unfolding extensions_at
    extensions_cut b = extensions_stop true (past _ to a (halt _ b))

    pub extensions_some : {v : ℕ} → Ok v ≡ below_at 65535 s to → {m : List ℕ} {r : ℕ} → NotedBehind (unknown_of [] (heads_at s (v + 1) (to + 2))) l count m r
        → ExtensionsNoted (extensions_behind t true s n from) l count m r
    unfolding extensions_at
    extensions_some {v} b {m} {r} p xs q =
        let e : Ok xs ≡ counted_extensions_at s (v + 1) (to + 2) = q ∙ sym (past _ to a (past _ v b refl)) in
        let d = then_got (scan_at [] s (v + 1) (to + 2)) _ e in
        subst (λ (hs : List Head). NotedBehind (unknown_of [] hs) l count m r) (sym (same_got (then_got (ends_at s d.0) _ d.2).2)) p

-- ---- the rows that have no value

module _ (t : List Row) (l : List Span) (k : ℕ) (h : k < length t) (g : k < length l) {r : Row} {v : Span} (rs : r ≡ get_or t k no_row) (vs : v ≡ get_or l k no_span) where
  module _ {before : List ℕ} {seen : ℕ} {m : List ℕ} {count : ℕ} (p : NotedBehind (missing_of (take k t) (take k l)) before seen m count) where
    -- with what the row at k adds
    row_more : {m' : List ℕ} {n : ℕ} {b : Bool} → lacks r v ≡ b
        → ((o : List ℕ) (es : List Entry) → NotedIn o (take 256 es) m count → NotedIn o (take 256 (es ++ pick b (listable (missing r)) [])) m' n)
        → NotedBehind (missing_of (take (k + 1) t) (take (k + 1) l)) before seen m' n
    row_more {m'} {n} {b} e f o es q =
        let x = missing_of (take k t) (take k l) in
        subst (λ (xs : List Entry). NotedIn o (take 256 xs) m' n)
        (append_assoc es x _ ∙ ap (λ (xs : List Entry). es ++ xs) (ap (λ (c : Bool). x ++ pick c (listable (missing r)) []) (sym e) ∙ sym (lacking_one t l k h g rs vs)))
        (f o (es ++ x) (p o es q))

    pub row_there : lacks r v ≡ false → NotedBehind (missing_of (take (k + 1) t) (take (k + 1) l)) before seen m count
    row_there e = row_more e (λ o es q. rw (append-nil es) q)

    pub row_missing : lacks r v ≡ true → {m' : List ℕ} {n : ℕ} → OneNoted m count (missing r) m' n → NotedBehind (missing_of (take (k + 1) t) (take (k + 1) l)) before seen m' n
    row_missing e n = row_more e (λ o es q. noted_more es (missing r) q n)
