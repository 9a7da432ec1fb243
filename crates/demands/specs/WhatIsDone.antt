-- 01's "What is done", line by line, and what 02 adds to it: what a call that is answered 0 leaves in the unit. Nothing else of it changes.
use Rattle.std.specs.Prelude.{ℕ, ◌≡◌, true, false, not, List, [], ◌∷◌, ◌++◌, Option}
use Rattle.lists.specs.Lists.{keep}
use Rattle.identity.specs.declared.MmeId.{MmeId}
use Rattle.identity.specs.declared.MceId.{MceId}
use Rattle.identity.specs.declared.Tmgi.{Tmgi}
use Rattle.identity.specs.declared.Item.{Item}
use Rattle.editions.specs.declared.Edition.{Edition}
use Rattle.table.specs.declared.Association.{Association}
use Rattle.table.specs.Table.{State, has_pair, named}
use Rattle.units.specs.Unit.{Unit, is_unit, read_unit, unit_octets, with_held, with_open}
use Rattle.requests.specs.declared.Request.{Request}
use Rattle.requests.specs.declared.Request.TheVariants as request
use Rattle.answers.specs.Answers.{numbered, wait_of}
use Rattle.calls.specs.Judged.{judged}
use Rattle.calls.specs.Call.{Call, call}
use Rattle.demands.specs.Answered.{number_of}
use Rattle.demands.specs.Words.{Asks, PartialReset}

module _ (e : Edition) where
  -- a message that asks for this, answered 0, leaves what is held so
  abbrev pub Leaves : Request → (MceId → State → State) → Type 0
  Leaves q f =
      (t : List ℕ) (c : Call) (u : Unit) → read_unit t ≡ is_unit u → Asks (judged e c.message) q → number_of e t c ≡ 0
      → (call e t c).unit ≡ unit_octets (with_held (f c.offered) u)

  pub record WhatIsDone : Type 0 where
    -- "Start appends one with the offered MCE identity"
    pub start : (m : MmeId) (g : Tmgi) (s : Option ℕ) → Leaves (request.Start m g s) (λ c l. l ++ (record { mme = m; mce = c; tmgi = g; session = s } ∷ []))
    -- "Stop removes the association that has both identities"
    pub stop : (m : MmeId) (x : MceId) → Leaves (request.Stop m x) (λ c l. keep (λ (a : Association). not (has_pair m x a)) l)
    -- "Whole reset empties the table"
    pub whole : Leaves request.Whole (λ c l. [])
    -- "All named are removed, the others keep their order."
    pub part : (t : List ℕ) (c : Call) (u : Unit) (items : List Item) → read_unit t ≡ is_unit u → PartialReset (judged e c.message) items → number_of e t c ≡ 0
        → (call e t c).unit ≡ unit_octets (with_held (keep (λ (a : Association). not (named items a))) u)
    -- "An accepted response empties the table", "Only answer 0 opens or closes a request."
    pub setup : (t : List ℕ) (c : Call) (u : Unit) → read_unit t ≡ is_unit u → Asks (judged e c.message) request.SetupResponse → number_of e t c ≡ 0
        → (u.is_open ≡ true) × ((call e t c).unit ≡ unit_octets (with_open false (with_held (λ l. []) u)))
    -- "a failure keeps it and hands back Time to Wait"
    pub failed : (t : List ℕ) (c : Call) (u : Unit) (w : Option ℕ) → read_unit t ≡ is_unit u → Asks (judged e c.message) (request.SetupFailure w) → number_of e t c ≡ 0
        → (u.is_open ≡ true) × ((call e t c).unit ≡ unit_octets (with_open false u)) × ((numbered (call e t c).answer).wait ≡ wait_of w)
    -- and nothing else hands back a time to wait
    pub waits : (t : List ℕ) (c : Call) → ((numbered (call e t c).answer).wait ≡ 0 → ⊥) → (w : Option ℕ) × Asks (judged e c.message) (request.SetupFailure w)
    -- "ERROR INDICATION changes nothing and gets no reply."
    pub indication : (t : List ℕ) (c : Call) (u : Unit) → read_unit t ≡ is_unit u → Asks (judged e c.message) request.Indication → ((call e t c).unit ≡ t) × ((call e t c).reply ≡ [])
