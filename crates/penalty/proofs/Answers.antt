-- The answer of the penalty call and its table, from the answers of the register and of the scheme by themselves.
use Prim.Native.Nat.{ℕ, ◌≤◌, ◌<◌}
use mathlib.Core.Path.{◌≡◌, refl}
use mathlib.Core.List.{List}
use lib.IntN.{ℤ}
use lib.ListN.{length}
use borrow.Author.Tests.{lt-ltb, le-ltb}
use Rattle.wire.specs.Outcome.{refuses}
use Rattle.forms.specs.Table.{table_numbers}
use Rattle.register.specs.declared.Register.{Register}
use Rattle.scheme.specs.declared.Scheme.{Scheme}
use Rattle.scheme.specs.Answer.{open_parts}
use Rattle.scheme.proofs.Opened.{Opened, opens}
use Rattle.penalty.specs.declared.PenaltyAnswer.{PenaltyAnswer}
use Rattle.penalty.specs.Answer.{answer, penalty_answer, with_penalty, penalty_table}

-- what the call answers and what the table then holds
pub record Answered (t s : List ℕ) (lent : List ℤ) (a : PenaltyAnswer) (table : List ℤ) : Type 0 where
  pub answers : a ≡ penalty_answer t s lent
  pub holds : table ≡ penalty_table t s lent

-- a table below 4,225 numbers
pub short : (t s : List ℕ) (lent : List ℤ) → length lent < table_numbers → Answered t s lent (answer 11 0 0) lent
unfolding penalty_answer penalty_table
short t s lent l = let e = lt-ltb (length lent) table_numbers l in record { answers = rw e; holds = rw e }

-- ---- by what the two parts lead to, where the table is long enough

module _ (t s : List ℕ) (lent : List ℤ) (l : table_numbers ≤ length lent) where
  pub part_refused : (n part at : ℕ) → open_parts t s ≡ refuses n part at → Answered t s lent (answer n part at) lent
  unfolding penalty_answer penalty_table
  part_refused n part at e = let f = le-ltb (length lent) table_numbers l in record { answers = rw (f, e); holds = rw (f, e) }

  pub parts_accepted : (reg : Register) (sch : Scheme) → Opened t s reg sch → Answered t s lent (answer 0 0 0) (with_penalty reg sch lent)
  unfolding penalty_answer penalty_table
  parts_accepted reg sch o = let f = le-ltb (length lent) table_numbers l in record { answers = rw (f, opens o) refl; holds = rw (f, opens o) refl }
