-- Scaffolding: no demand speaks of it. What is inside a message, with what is noted counted; and what the steps of the judging promise each other.
use Rattle.std.specs.Prelude.{ℕ, ◌+◌, ◌-◌, ◌≤◌, ◌≡◌, Bool, true, false, not, ◌&&◌, ◌||◌, List, [], ◌++◌, map, ltb, eqb, length, set, take, Ok, Err}
use Rattle.std.proofs.lemmas.List.Edits.{sets}
use Rattle.lists.specs.Lists.{pick, some, fill}
use Rattle.octets.specs.Read.{Read, ◌>>=◌}
use Rattle.octets.specs.declared.Stop.{Stop}
use Rattle.octets.specs.declared.Span.{Span}
use Rattle.octets.specs.Span.{no_span, present}
use Rattle.entries.specs.declared.Entry.{Entry}
use Rattle.entry_words.specs.EntryWords.{entry_word}
use Rattle.rows.specs.declared.Row.{Row}
use Rattle.envelopes.specs.declared.Head.{Head}
use Rattle.envelopes.specs.Envelope.{scan_at, heads_at}
use Rattle.elements.specs.Judge.{front, read_of, ignored, unknown_of, elements_at}
use Rattle.verdicts.specs.declared.Outcome.{Outcome}
use Rattle.verdicts.specs.declared.Outcome.TheVariants.{Accepted, Misplaced, Rejected}
use Rattle.verdicts.specs.Verdict.{Opening, opening_by}
use Rattle.judging.specs.declared.Opened.{Opened}
use Rattle.judging.specs.declared.Tally.{Tally}
use Rattle.judging.specs.declared.Reached.{Reached}

-- as the code answers: what is noted counted
abbrev pub opened_by : Read Opening → Read Opened
opened_by o = o >>= λ x. Ok (record { outcome = x.outcome; noted = length x.noted })

-- where the value of each of 12 rows stands; nowhere in octets at fault
abbrev pub spans_by : Read Opening → List Span
spans_by (Ok o) = fill no_span 12 o.spans
spans_by (Err x) = fill no_span 12 []

-- the answer is r, and m is what is left in the places
pub record Opens (o : Read Opening) (r : Read Opened) (m : List Span) : Type 0 where
  pub result : r ≡ opened_by o
  pub places : m ≡ spans_by o

-- the same, and of octets at fault nothing is said of the places
pub record Judges (o : Read Opening) (r : Read Opened) (m : List Span) : Type 0 where
  pub result : r ≡ opened_by o
  pub places : (x : Opening) → Ok x ≡ o → m ≡ fill no_span 12 x.spans

-- what n elements come to
abbrev pub opening_at : List Row → Bool → List ℕ → ℕ → ℕ → Read Opening
opening_at t container s n at = elements_at t container s n at >>= λ x. Ok (opening_by n x)

-- where all elements count
abbrev pub rejected_by : Bool → Outcome
rejected_by reject = pick reject Rejected Accepted

-- ---- the steps: what is listed is counted

-- whether one more is listed behind so many
abbrev pub is_noted : ℕ → ℕ → Bool
is_noted crit count = not (ignored crit) && ltb count 256

-- the first 256 are counted; criticality reject anywhere rejects
unfoldable pub tally_of : List Entry → Tally
tally_of es = record { count = length (take 256 es); reject = some (λ (e : Entry). eqb e.crit 0) es }

abbrev pub tallied : Tally → ℕ → Tally
tallied n crit = record { count = pick (is_noted crit n.count) (n.count + 1) n.count; reject = n.reject || eqb crit 0 }

-- a mandatory row that has no value
abbrev pub lacks : Row → Span → Bool
lacks r v = r.mandatory && not (present v)

-- a tally, and behind it more entries
abbrev pub CountedBehind : List Entry → Tally → Tally → Type 0
CountedBehind more before after = (es : List Entry) → before ≡ tally_of es → after ≡ tally_of (es ++ more)

-- what stands behind the elements can be read, or why not; its extensions are counted
abbrev pub Follows : Read (List Head) → Tally → Read Tally → Type 0
Follows (Ok xs) before r = (after : Tally) × (r ≡ Ok after) × CountedBehind (unknown_of [] xs) before after
Follows (Err y) before r = r ≡ Err y

-- whether something was read
abbrev pub ReadIf : Bool → Read Unit → Type 0
ReadIf true x = Ok tt ≡ x
ReadIf false x = (y : Stop) × (Err y ≡ x)

-- what was found of the elements f
pub record Seen (t : List Row) (f : List Head) (places : List Span) (r : Reached) : Type 0 where
  pub place : r.place ≡ length f
  pub spans : places ≡ fill no_span 12 (read_of t f)
  pub tally : r.tally ≡ tally_of (unknown_of t f)

-- the faults are those from where the walk stopped; where there are none, it found what counts of all n elements
pub record WalkedTo (t : List Row) (s : List ℕ) (n from : ℕ) (places : List Span) (r : Reached) : Type 0 where
  pub within : r.place ≤ n
  pub faults : scan_at t s (n - r.place) r.at ≡ scan_at t s n from
  pub seen : (to : ℕ) → Ok to ≡ scan_at t s (n - r.place) r.at → Seen t (front t 0 (heads_at s n from)) places r

-- ---- what is noted, as words

abbrev pub noted_of : Read Opening → List Entry
noted_of (Ok o) = o.noted
noted_of (Err x) = []

-- m is l with the entries as words in front, as far as it goes, and r is their number
pub record NotedIn (l : List ℕ) (es : List Entry) (m : List ℕ) (r : ℕ) : Type 0 where
  pub words : m ≡ sets l 0 (map entry_word es)
  pub count : r ≡ length es

-- how many of n elements count
abbrev pub place_of : ℕ → Outcome → ℕ
place_of n (Misplaced place) = place
place_of n Accepted = n
place_of n Rejected = n

-- one more behind so many others, if it is listed
pub record OneNoted (l : List ℕ) (count : ℕ) (e : Entry) (m : List ℕ) (r : ℕ) : Type 0 where
  pub words : m ≡ pick (is_noted e.crit count) (set l count (entry_word e)) l
  pub next : r ≡ pick (is_noted e.crit count) (count + 1) count

-- behind those that stand there, more entries
abbrev pub NotedBehind : List Entry → List ℕ → ℕ → List ℕ → ℕ → Type 0
NotedBehind more l count m r = (k : List ℕ) (es : List Entry) → NotedIn k (take 256 es) l count → NotedIn k (take 256 (es ++ more)) m r

-- the extensions behind n elements come behind those that stand there, where all can be read
abbrev pub ExtensionsNoted : Read (List Head) → List ℕ → ℕ → List ℕ → ℕ → Type 0
ExtensionsNoted x l count m r = (xs : List Head) → Ok xs ≡ x → NotedBehind (unknown_of [] xs) l count m r
