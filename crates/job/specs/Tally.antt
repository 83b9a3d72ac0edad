-- The tally (the paper's own term): for each supplier a pair of counters, its accepted jobs and its refused ones.
use Rattle.std.specs.Prelude.{ℕ, suc, cond, ltb, get_or, set, replicate}
use Rattle.job.specs.declared.Counters.{Counters}
use Rattle.job.specs.declared.Tally.{Tally}

abbrev pub max_count : ℕ
max_count = 4_294_967_295

-- suppliers have the numbers 0 to 15
abbrev pub suppliers : ℕ
suppliers = 16

-- a count rises by 1 and stays at 4,294,967,295
unfoldable pub raised : ℕ → ℕ
raised count = cond (ltb count max_count) (suc count) count

-- one of a pair rises

abbrev pub with_accepted : Counters → Counters
with_accepted pair = record pair { accepted = raised pair.accepted }

abbrev pub with_refused : Counters → Counters
with_refused pair = record pair { refused = raised pair.refused }

-- no job so far

abbrev pub fresh_pair : Counters
fresh_pair = record { accepted = 0; refused = 0 }

abbrev pub fresh : Tally
fresh = record { pairs = replicate suppliers fresh_pair }

-- the pair of a supplier
abbrev pub pair_of : Tally → ℕ → Counters
pair_of tally supplier = get_or tally.pairs supplier fresh_pair

-- the same tally with another pair for a supplier
abbrev pub with_pair : ℕ → Counters → Tally → Tally
with_pair supplier pair tally = record { pairs = set tally.pairs supplier pair }

-- what becomes of a supplier's pair; the others stay
abbrev pub moved : (Counters → Counters) → ℕ → Tally → Tally
moved change supplier tally = with_pair supplier (change (pair_of tally supplier)) tally
