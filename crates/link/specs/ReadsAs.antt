-- 01's table of answers for reading: each number, and when it is given, in 01's order. The first that is due is given; 0 where none is.
-- 10 takes the place of 0 and of 5, which alone put a record. Each row's test says what 01's row says, and nothing of the other rows.
use Rattle.std.specs.Prelude.{None, ℕ, ◌≡◌, true, not, List, [], ◌∷◌, ltb, leb, length}
use Rattle.octets.specs.Read.{Read}
use Rattle.frames.specs.declared.Frame.{Frame}
use Rattle.frames.specs.Frame.{frame_at}
use Rattle.editions.specs.declared.Edition.{Edition}
use Rattle.demands.specs.Due.{Due, ◌when◌reply◌, first_due, faulty, extension_met, of, not_accepted, MaybeInside, inside_by}
use Rattle.link.specs.Link.{read_for}

-- of a message's frame, what is inside it, and the lent room
abbrev pub read_refusals : Read Frame → MaybeInside → List ℕ → List Due
read_refusals f i d =
    2 when faulty f reply None
    ∷ 3 when extension_met f reply None
    ∷ 4 when not (of (λ x. true) i) reply None
    ∷ 2 when of (λ x. faulty x.opened) i reply None
    ∷ 3 when of (λ x. extension_met x.opened) i reply None
    ∷ 10 when not (leb 2662 (length d)) reply None
    ∷ 5 when of (λ x. not_accepted x.outcome) i reply None ∷ []

abbrev pub read_due_for : List ℕ → Read Frame → MaybeInside → List ℕ → Due
read_due_for s f i d = first_due (0 when true reply None) (1 when ltb 8192 (length s) reply None ∷ read_refusals f i d)

abbrev pub ReadsAs : Edition → Type 0
ReadsAs e = (s d : List ℕ) → (read_for e s d).answer.answer ≡ (read_due_for s (frame_at s) (inside_by e s (frame_at s)) d).number
