-- What reading gives: a value, or why and where it stopped. Readings one after another: the first stop is the stop of all.
use Rattle.std.specs.Prelude.{ℕ, List, [], Result, Ok, Err}
use Rattle.octets.specs.declared.Stop.{Stop}
use Rattle.octets.specs.declared.Stop.TheVariants.{Fault, Extension}

abbrev pub Read : Type 0 → Type 0
Read A = Result A Stop

infixl 20 ◌>>=◌
infixl 20 ◌>>◌
abbrev pub ◌>>=◌ : {A B : Type 0} → Read A → (A → Read B) → Read B
◌>>=◌ (Ok a) go = go a
◌>>=◌ (Err x) go = Err x

abbrev pub ◌>>◌ : {A B : Type 0} → Read A → Read B → Read B
◌>>◌ x y = x >>= λ _. y

-- whether something can be read
abbrev pub checked : {A : Type 0} → Read A → Read Unit
checked r = r >> Ok tt

-- the list that was read; none where reading stopped
abbrev pub or_none : {A : Type 0} → Read (List A) → List A
or_none (Ok l) = l
or_none (Err x) = []

-- Where a stop lies: in the octet in which the field begins. These four decide it, and nothing else does.

-- the octets end inside the field
unfoldable pub cut_short : ℕ → Stop
cut_short at = Fault (record { octet = at })

-- what the field holds has no meaning
unfoldable pub no_meaning : ℕ → Stop
no_meaning at = Fault (record { octet = at })

-- octets are left over, from here on
unfoldable pub left_over : ℕ → Stop
left_over at = Fault (record { octet = at })

-- an extension bit, or an extensions-present bit, is set
unfoldable pub extended : ℕ → Stop
extended at = Extension (record { octet = at })
