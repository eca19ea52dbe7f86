-- An answer about a policy that the store holds (document 01, "What is asked and what comes back").
-- Assumes nothing.
use Rattle.std.specs.Prelude.{◌≡◌, List, ℕ, ◌*◌, ◌≤◌, length, drop}
use Rattle.lines.specs.Line.{zeros}
use Rattle.gran.specs.Policy.{Policy}
use Rattle.gran.specs.Reach.{Question}
use Rattle.store.specs.Held.{Loaded}
use Rattle.fields.specs.Fields.{policy_in}
use Rattle.tables.specs.Tables.{Tabled}
use Rattle.numbered.specs.Number.{all_states, sizes_of}
use Rattle.numbered.specs.declared.Sizes.{Sizes}
use Rattle.ask.specs.Ask.{Answer, Asked, Lines, room_with, answer_with}

-- The store holds a policy: the one that its bytes state.
abbrev pub Held : List ℕ → Type 0
Held s = Loaded (policy_in s) (drop 16384 s) s

-- The tables t and the sizes z are those of a question about it.
pub record Ready (q : Question) (s t : List ℕ) (z : Sizes) : Type 0 where
  pub held : Held s
  pub tabled : Tabled (policy_in s) q t
  pub sizes : z ≡ sizes_of (policy_in s)

-- An answer with these lines, from a room that held `was` to one that holds `is`; 17 where they do not fit.
pub record Told (lines was : List ℕ) (r : Answer) (is : List ℕ) : Type 0 where
  pub answer : r ≡ answer_with lines was
  pub room : is ≡ room_with lines was

-- An answer with lines that are right for the ask.
pub record Answers (P : Policy) (a : Asked) (was : List ℕ) (r : Answer) (is : List ℕ) : Type 0 where
  pub lines : List ℕ
  pub right : Lines P a lines
  pub told : Told lines was r is

-- A work area of zeros, with room for the policy's states.
pub record Blank (P : Policy) (area : List ℕ) : Type 0 where
  pub zero : area ≡ zeros (length area)
  pub long : 3 * all_states (sizes_of P) ≤ length area

-- The same answer, with a work area of so many numbers left zero.
pub record Responded (P : Policy) (a : Asked) (was : List ℕ) (r : Answer) (is : List ℕ) (size : ℕ) (area : List ℕ) : Type 0 where
  pub answers : Answers P a was r is
  pub cleared : area ≡ zeros size
