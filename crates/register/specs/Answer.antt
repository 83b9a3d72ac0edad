-- What the register's calls answer, by what reading leads to.
use Rattle.std.specs.Prelude.{ℕ, ◌+◌, ◌-◌, ◌<◌, ◌≤◌, List, [], ◌∷◌, get_or, ℤ, Result, Ok, Err}
use Rattle.std.specs.Int.{w8}
use Rattle.integers.specs.Lists.{join_below}
use Rattle.wire.specs.Number.{int_at}
use Rattle.wire.specs.Part.{Reading, refused, accepted}
use Rattle.wire.specs.Rows.{Progress}
use Rattle.wire.specs.declared.refusals.Refused.{Refused}
use Rattle.wire.specs.Results.{number_of}
use Rattle.register.specs.declared.Register.{Register}
use Rattle.register.specs.declared.RegisterAnswer.{RegisterAnswer}
use Rattle.register.specs.Limits.{max_choices, max_terms, max_windows, row_entries}
use Rattle.register.specs.Register.{tank, window_tank, fresh}

-- the entries of a row at a position, one byte each
abbrev pub entries_at : List ℕ → ℕ → List ℤ
entries_at s at = join_below row_entries (λ j. int_at w8 s (at + j) ∷ [])

-- the first n of these numbers do not fall
abbrev pub NoFall : ℕ → List ℕ → Type 0
NoFall n xs = (i j : ℕ) → i ≤ j → j < n → get_or xs i 0 ≤ get_or xs j 0

-- what the checks of a command look at: counts within the limits, and windows whose tanks do not fall. The first `passed` of them are of
-- tanks below the last choice's: a choice that rises need not look at these
pub record Given (r : Register) (passed : ℕ) : Type 0 where
  pub few_choices : r.choices ≤ max_choices
  pub few_terms : r.terms ≤ max_terms
  pub few_windows : r.windows ≤ max_windows
  pub within : passed ≤ r.windows
  pub no_fall : NoFall r.windows r.window_tanks
  pub earlier : (j : ℕ) → j < passed → (1 ≤ r.choices) × (window_tank r j < tank r (r.choices - 1))

-- a register at the front of a run of bytes, read into a record: where it ends, or the refusal
abbrev pub filled_of : Result ℕ Refused → Register → Reading Register
filled_of (Ok end) r = accepted r end
filled_of (Err fault) r = refused (number_of fault.refusal) fault.position

-- of the call: number, part and position of a refusal, other fields 0; or zeros and the register

abbrev pub refused_answer : ℕ → ℕ → RegisterAnswer
refused_answer number at = record { number = number; part = 1; position = at; register = fresh }

abbrev pub register_answer : Reading (Progress Register) → RegisterAnswer
register_answer (refused number at) = refused_answer number at
register_answer (accepted p end) = record { number = 0; part = 0; position = 0; register = p.parsed }
