-- What `feedcheck` does with the tally: its job is one of supplier 0, the tally is fresh.
use Rattle.std.specs.Prelude.{ℕ, List, pos, replicate}
use Rattle.forms.specs.Table.{table_numbers}
use Rattle.job.specs.declared.Tally.{Tally}
use Rattle.job.specs.Tally.{fresh}
use Rattle.job.specs.Answer.{job_answer}

abbrev pub supplier : ℕ
supplier = 0

-- by a job's bytes, with a table of zeros
abbrev pub tally_after : List ℕ → Tally
tally_after job = (job_answer job (replicate table_numbers (pos 0)) supplier fresh).tally
