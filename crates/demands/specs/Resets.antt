-- Demand 3: partial resets may be dealt out afresh, and change places with a session's start or stop.
use Rattle.std.specs.Prelude.{ℕ, ◌≤◌, ◌<◌, ◌≡◌, false, ◌↔◌, length, Ok, Option, Some}
use mathlib.Core.List.{List, [], ◌∷◌, Memᴰ, Permᴰ, Sublistᴰ}
use Rattle.lists.specs.Lists.{keep}
use Rattle.octets.specs.Stands.{Octets}
use Rattle.octets.specs.Many.{Each}
use Rattle.identity.specs.declared.Item.{Item}
use Rattle.identity.specs.declared.MmeId.{MmeId}
use Rattle.identity.specs.declared.MceId.{MceId}
use Rattle.identity.specs.declared.Tmgi.{Tmgi}
use Rattle.values.specs.declared.Cause.{Cause}
use Rattle.values.specs.Written.{GoodCause}
use Rattle.items.specs.Written.{GoodItems}
use Rattle.editions.specs.declared.Edition.{Edition}
use Rattle.editions.specs.declared.Message.TheVariants as message
use Rattle.verdicts.specs.Verdict.{Understood, understood}
use Rattle.requests.specs.declared.Request.{Request}
use Rattle.requests.specs.declared.Request.TheVariants as request
use Rattle.requests.specs.declared.Extent.TheVariants as extent
use Rattle.requests.specs.Requests.{seen}
use Rattle.table.specs.Table.{State, named, without, holds_mme, holds_mce}
use Rattle.table.specs.declared.Association.{Association}
use Rattle.lent.specs.Lent.{row_octets, IdentitiesInRange}
use Rattle.units.specs.Unit.{Unit, unit_octets, GoodUnit}
use Rattle.replies.specs.Replies.{has_identity}
use Rattle.calls.specs.Judged.{Accepted, judged, verdict}
use Rattle.calls.specs.Decided.{about}
use Rattle.calls.specs.Call.{Call, call}
use Rattle.demands.specs.Answered.{Handed, number_of}
use Rattle.demands.specs.Words.{Lends, reset_by, some_named, Asks, PartialReset, OfSession, Resets, reset_message, joined, given_mce, Again, run, replies, AllAccepted, PartialResets, Acknowledged}

module _ (e : Edition) where
  -- ==== dealing

  -- messages, each read as a partial reset, called one after the other from a unit, nothing between, all answered 0, with whatever rooms
  pub record ResetRun (t : List ℕ) (u : Unit) (cs : List Call) (is : List Item) : Type 0 where
    pub unit : Lends t u
    pub messages : PartialResets e cs is
    pub accepted : AllAccepted e t cs

  -- Dealing. Two such runs from the same unit, the joined items of one a rearrangement of the other's, end in the same octets: those of the first
  -- unit without exactly the associations that some item names, order kept. (That a partial reset has 1 to 256 items follows: DealingIsReal.sizes.)
  pub record Dealing : Type 0 where
    -- such a run ends in the first unit without what the items name, and with nothing else changed:
    pub exact : {t : List ℕ} {u : Unit} {cs : List Call} {is : List Item} → ResetRun t u cs is → Lends (run e t cs) (reset_by is u)
    -- exactly the associations held first that no item names,
    pub left : (is : List Item) (l : State) (a : Association) → Memᴰ a (without is l) ↔ (Memᴰ a l × (named is a ≡ false))
    -- in the order in which they stood;
    pub order : (is : List Item) (l : State) → Sublistᴰ (without is l) l
    -- and the octets are those of that unit
    pub octets : {t : List ℕ} {u : Unit} {cs : List Call} {is : List Item} → ResetRun t u cs is → run e t cs ≡ unit_octets (reset_by is u)
    -- another such run from the same unit, whose joined items are a rearrangement of the first run's, ends in the same octets
    pub afresh : {t : List ℕ} {u : Unit} {cs ds : List Call} {is js : List Item} → ResetRun t u cs is → ResetRun t u ds js → Permᴰ is js → run e t cs ≡ run e t ds
    -- Acknowledgements. The replies, read back, list every item that carries an identity, in the order of the joined items, unknown ones and repeats too
    pub acknowledged : {t : List ℕ} {u : Unit} {cs : List Call} {is : List Item} → ResetRun t u cs is → Acknowledged e (replies e t cs) (keep has_identity is)
    -- so the lists in the replies of two runs, whose joined items are equal in order, are joined the same, whatever the units
    pub alike : {t s : List ℕ} {u v : Unit} {cs ds : List Call} {is js ks : List Item} → ResetRun t u cs is → ResetRun s v ds is →
        Acknowledged e (replies e t cs) js → Acknowledged e (replies e s ds) ks → js ≡ ks

  -- none of this is empty
  pub record DealingIsReal : Type 0 where
    -- what a unit can remember, in octets, is some unit's
    pub units : (u : Unit) → GoodUnit u → ((a : Association) → Memᴰ a u.held → Octets (row_octets a)) → Lends (unit_octets u) u
    -- a partial reset has 1 to 256 items, each with identities of two octets
    pub sizes : (c : Call) (is : List Item) → Octets c.message → Resets e c is → GoodItems is
    -- and for any such list there is a message that carries it, whatever the cause
    pub written : (k : Cause) (is : List Item) → GoodCause k → GoodItems is → Octets (reset_message e k is) × PartialReset (judged e (reset_message e k is)) is
    -- any unit accepts it, where the room has 8,192 octets
    pub granted : (t : List ℕ) (u : Unit) (c : Call) (is : List Item) → Lends t u → Resets e c is → 8192 ≤ length c.room → number_of e t c ≡ 0
    -- so there is a run from any unit for any items, however dealt out
    pub dealt : (t : List ℕ) (u : Unit) (iss : List (List Item)) → Lends t u → Each GoodItems iss → (cs : List Call) × ResetRun t u cs (joined iss)

  -- ==== changing places

  -- A session's start or stop s with a partial reset p behind it; and p' with s' behind it, the same messages, with rooms of their own.
  pub record Neighbours (t : List ℕ) (u : Unit) (s p p' s' : Call) (a : Accepted) (is : List Item) : Type 0 where
    pub unit : Lends t u
    pub handed : Handed t s
    pub session : (judged e s.message ≡ Ok a) × OfSession a.request × Again s' s
    pub reset : (Resets e p is) × Again p' p
    -- the same MCE identity is offered
    pub offered : given_mce (reset_by is u) s' ≡ given_mce u s
    -- both are accepted in either order
    pub accepted : AllAccepted e t (s ∷ p ∷ []) × AllAccepted e t (p' ∷ s' ∷ [])
    -- no item names what the session's message is about, in either order (the second follows: what is left behind the reset is not named)
    pub spared : (some_named is (about u (given_mce u s) a) ≡ false) × (some_named is (about (reset_by is u) (given_mce (reset_by is u) s') a) ≡ false)

  -- Changing places. Both orders end in the same octets, and get the same two replies.
  pub record SameEnds (t : List ℕ) (s p p' s' : Call) : Type 0 where
    pub unit : run e t (s ∷ p ∷ []) ≡ run e t (p' ∷ s' ∷ [])
    pub session : (call e t s).reply ≡ (call e (call e t p').unit s').reply
    pub reset : (call e (call e t s).unit p).reply ≡ (call e t p').reply

  abbrev pub ChangingPlaces : Type 0
  ChangingPlaces = (t : List ℕ) (u : Unit) (s p p' s' : Call) (a : Accepted) (is : List Item) → Neighbours t u s p p' s' a is → SameEnds t s p p' s'

  -- there are such neighbours
  pub record SomeNeighbours (t : List ℕ) (u : Unit) (q : Request) (is : List Item) : Type 0 where
    pub s : Call
    pub p : Call
    pub p' : Call
    pub s' : Call
    pub a : Accepted
    pub request : a.request ≡ q
    pub neighbours : Neighbours t u s p p' s' a is

  pub record ChangingPlacesIsReal : Type 0 where
    -- a start of any association for which the unit has room, and whose identities it does not hold
    pub starts : (t : List ℕ) (u : Unit) (a : Association) (is : List Item) → Lends t u → IdentitiesInRange a → Octets (row_octets a) →
        length u.held < 256 → holds_mme a.mme u.held ≡ false → holds_mce a.mce u.held ≡ false → GoodItems is → named is a ≡ false →
        SomeNeighbours t u (request.Start a.mme a.tmgi a.session) is
    -- a stop of any association that the unit holds
    pub stops : (t : List ℕ) (u : Unit) (a : Association) (is : List Item) → Lends t u → Memᴰ a u.held → GoodItems is → named is a ≡ false →
        SomeNeighbours t u (request.Stop a.mme a.mce) is

  -- the words leave no message out: a start, a stop and a partial reset that are answered 0 ask so
  pub record NoneLeftOut : Type 0 where
    pub starts : (t : List ℕ) (c : Call) (v : Understood) → number_of e t c ≡ 0 → verdict e c.message ≡ understood v → v.what.message ≡ message.StartRequest →
        (m : MmeId) × (g : Tmgi) × (x : Option ℕ) × Asks (judged e c.message) (request.Start m g x)
    pub stops : (t : List ℕ) (c : Call) (v : Understood) → number_of e t c ≡ 0 → verdict e c.message ≡ understood v → v.what.message ≡ message.StopRequest →
        (m : MmeId) × (x : MceId) × Asks (judged e c.message) (request.Stop m x)
    pub partial : (t : List ℕ) (c : Call) (v : Understood) → number_of e t c ≡ 0 → verdict e c.message ≡ understood v → v.what.message ≡ message.Reset → (seen v.what.values).reset ≡ Some extent.Part →
        (is : List Item) × (Resets e c is)

  -- ==== the demand
  pub record Demand3 : Type 0 where
    pub dealing : Dealing
    pub places : ChangingPlaces
    pub dealing_real : DealingIsReal
    pub places_real : ChangingPlacesIsReal
    pub none_left_out : NoneLeftOut
