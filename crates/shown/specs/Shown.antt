-- What is shown of a request: the characters of its name, a part of the request's octets where the reader accepts them as an M3 SETUP REQUEST that has one;
-- otherwise a part of the label, its first 150 octets at most.
use Rattle.std.specs.Prelude.{ℕ, min, Bool, true, false, List, [], ◌∷◌, length, Ok, Err, None, Option, Some}
use Rattle.std.proofs.Math.Seq.{slice}
use Rattle.lists.specs.Lists.{pick}
use Rattle.octets.specs.Read.{Read}
use Rattle.octets.specs.declared.Span.{Span}
use Rattle.editions.specs.declared.Edition.{Edition}
use Rattle.editions.specs.declared.Message.{Message}
use Rattle.editions.specs.declared.Message.TheVariants as message
use Rattle.meaning.specs.Value as value
use Rattle.meaning.specs.Value.{Value, Given, given, absent}
use Rattle.verdicts.specs.declared.Outcome.{Outcome}
use Rattle.verdicts.specs.declared.Outcome.TheVariants as outcome
use Rattle.verdicts.specs.Verdict.{Verdict, refused, understood, read_of}
use Rattle.shown.specs.declared.Part.{Part}

abbrev pub setup_requests : Message → Bool
setup_requests message.SetupRequest = true
setup_requests message.StartRequest = false
setup_requests message.StartResponse = false
setup_requests message.StartFailure = false
setup_requests message.StopRequest = false
setup_requests message.StopResponse = false
setup_requests message.Reset = false
setup_requests message.ResetAcknowledge = false
setup_requests message.ErrorIndication = false
setup_requests message.SetupResponse = false
setup_requests message.SetupFailure = false
setup_requests message.StopWarningRequest = false
setup_requests message.StopWarningResponse = false
setup_requests message.WarningErrorIndication = false

-- where a name's characters stand, of a value or else of the others
abbrev pub found_by : Value Span → Option Span → Option Span
found_by (value.name v) x = Some v
found_by (value.carried v) x = x
found_by (value.mme v) x = x
found_by (value.mce v) x = x
found_by (value.tmgi v) x = x
found_by (value.one v) x = x
found_by (value.two v) x = x
found_by (value.cause v) x = x
found_by (value.wait v) x = x
found_by (value.reset v) x = x
found_by (value.list v) x = x
found_by (value.diagnostics t v) x = x

-- with what a row gives
abbrev pub found_with : Given Span → Option Span → Option Span
found_with (given v) x = found_by v x
found_with absent x = x

unfoldable pub found_among : List (Given Span) → Option Span
found_among [] = None
found_among (g ∷ gs) = found_with g (found_among gs)

abbrev pub if_accepted : Outcome → Option Span → Option Span
if_accepted outcome.Accepted x = x
if_accepted (outcome.Misplaced k) x = None
if_accepted outcome.Rejected x = None

abbrev pub found_in : Verdict → Option Span
found_in (understood u) = if_accepted u.outcome (found_among u.what.values)
found_in (refused x) = None

-- of octets that are accepted as an M3 SETUP REQUEST
unfoldable pub name_in : Edition → List ℕ → Option Span
name_in e s = found_in (read_of e setup_requests s)

-- a part of the request, or of the label
abbrev pub part_by : List ℕ → Option Span → Part
part_by l (Some v) = record { of_label = false; span = v }
part_by l None = record { of_label = true; span = record { from = 0; to = min 150 (length l) } }

unfoldable pub shown_part : Edition → List ℕ → List ℕ → Part
shown_part e s l = part_by l (name_in e s)

-- the octets of that part
abbrev pub part_octets : List ℕ → List ℕ → Part → List ℕ
part_octets s l p = slice p.span.from p.span.to (pick p.of_label l s)

unfoldable pub shown_of : Edition → List ℕ → List ℕ → List ℕ
shown_of e s l = part_octets s l (shown_part e s l)

-- a name that is read, or else what was found before
abbrev pub or_else : Read Span → Option Span → Option Span
or_else (Ok v) x = Some v
or_else (Err y) x = x
