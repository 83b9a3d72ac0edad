-- What is the same of two accepted jobs that agree but in hidden bytes: all of their parts but the tanks and minutes of choices and the
-- tanks, "from" and "to" of windows; and the table after them.
use Rattle.std.specs.Prelude.{ℕ, ◌≡◌, ◌↔◌, true, List, ℤ, replicate}
use Rattle.wire.specs.Number.{Bytes}
use Rattle.wire.specs.Outcome.{accepts}
use Rattle.register.specs.declared.Register.{Register}
use Rattle.register.specs.Limits.{max_choices, max_windows}
use Rattle.register.specs.Register.{set_choices, set_windows}
use Rattle.job.specs.Outcome.{Parts, outcome, table_after}
use Rattle.job.specs.Valid.{Encodes}
use Rattle.hidden.specs.Hidden.{is_hidden, InOperand, Agree}

-- a register with 0 in place of each hidden operand; the counts of choices and of windows stay
abbrev pub blank : Register → Register
blank r = set_windows
    (set_choices r r.choices (replicate max_choices 0) (replicate max_choices 0))
    r.windows (replicate max_windows 0) (replicate max_windows 0) (replicate max_windows 0)

-- the parts of two jobs, but for what is hidden
pub record SameButHidden (p p' : Parts) : Type 0 where
  pub register : blank p.register ≡ blank p'.register
  pub scheme : p.scheme ≡ p'.scheme
  pub certificate : p.certificate ≡ p'.certificate
  pub plan : p.plan ≡ p'.plan

pub record HiddenLaws : Type 0 where
  -- of an accepted job the hidden bytes are those of all operands of `11` and `13` in part 1, and no others
  pub places : (job : List ℕ) (p : Parts) → outcome job ≡ accepts p → (k : Encodes p job) (at : ℕ) →
      (is_hidden job at ≡ true) ↔ InOperand k.register.commands at
  -- they stand at the same positions in two accepted jobs that agree in all others
  pub same_places : (job job' : List ℕ) (p p' : Parts) → Bytes job → Bytes job' → outcome job ≡ accepts p → outcome job' ≡ accepts p' → Agree job job' →
      (at : ℕ) → is_hidden job at ≡ is_hidden job' at
  -- and what the jobs say is the same but there
  pub same_parts : (job job' : List ℕ) (p p' : Parts) → Bytes job → Bytes job' → outcome job ≡ accepts p → outcome job' ≡ accepts p' → Agree job job' → SameButHidden p p'
  -- so is the table after them, if the same table is lent
  pub same_table : (job job' : List ℕ) (p p' : Parts) → Bytes job → Bytes job' → outcome job ≡ accepts p → outcome job' ≡ accepts p' → Agree job job' →
      (lent : List ℤ) → table_after job lent ≡ table_after job' lent
