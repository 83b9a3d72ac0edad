-- What the code keeps of a certificate, and what its checks look at. The code's records have the paper's names too: here they are Counts, Named, Filled and RuleTests.
use Rattle.std.specs.Prelude.{ℕ, ◌+◌, ◌≤◌, ◌⊎◌, ◌≡◌, true, List, pos, length, get_or, replicate}
use Rattle.wire.specs.Part.{operands_at}
use Rattle.wire.specs.Rows.{Progress}
use Rattle.register.specs.declared.Register.{Register}
use Rattle.scheme.specs.declared.Scheme.{Scheme}
use Rattle.scheme.specs.Scheme.{variables}
use Rattle.scheme.specs.Sets.{SetsBelow}
use Rattle.certificate.specs.declared.Certificate.{Certificate as Counts}
use Rattle.certificate.specs.declared.Multiplier.{Multiplier as Named}
use Rattle.certificate.specs.declared.Square.{Square as Filled}
use Rattle.certificate.specs.declared.Rule.{Rule as RuleTests}
use Rattle.certificate.specs.declared.Seen.{Seen}
use Rattle.certificate.specs.Limits.{square_entries}
use Rattle.certificate.specs.Certificate.{Multiplier, Square, Certificate}
use Rattle.certificate.specs.Rules.{Rule, by_key, no_rule, rules}
use Rattle.certificate.specs.Format.{multiplier_widths, square_widths, multiplier_of, square_of}

-- ---- what the code keeps

-- a certificate by its counts
abbrev pub counts_of : Certificate → Counts
counts_of k = record {
  scale = k.scale;
  target = k.target;
  multipliers = length k.multipliers;
  squares = length k.squares;
}

-- the byte of a multiplier command: `31` to `39` or `3B`
abbrev pub IsMultiplier : ℕ → Type 0
IsMultiplier kind = ((0x31 ≤ kind) × (kind ≤ 0x39)) ⊎ (kind ≡ 0x3B)

-- a multiplier command by the numbers that it names, 0 where it names fewer
abbrev pub named_of : Multiplier → Named
named_of t = record {
  kind = t.kind;
  i = get_or t.names 0 0;
  j = get_or t.names 1 0;
  k = get_or t.names 2 0;
  l = get_or t.names 3 0;
  m = t.m;
}

abbrev pub filled_of : Square → Filled
filled_of q = record { weight = q.w; entries = q.v }

abbrev pub square_in : Filled → Square
square_in q = record { w = q.weight; v = q.entries }

-- nothing read yet

abbrev pub fresh_counts : Counts
fresh_counts = record { scale = 0; target = pos 0; multipliers = 0; squares = 0 }

unfoldable pub fresh_square : Filled
fresh_square = record { weight = 0; entries = replicate square_entries (pos 0) }

-- ---- the command at a position

unfoldable pub multiplier_at : List ℕ → ℕ → Multiplier
multiplier_at s at = let kind = get_or s at 0 in multiplier_of kind (operands_at (multiplier_widths kind) s (at + 1))

unfoldable pub square_read : List ℕ → ℕ → Square
square_read s at = square_of (operands_at square_widths s (at + 1))

-- ---- what the checks look at

-- n choices, N variables, so many rows, and the sets of the variables
pub record Known (reg : Register) (sch : Scheme) (n N rows : ℕ) (sets : List ℕ) : Type 0 where
  pub choices_is : reg.choices ≡ n
  pub variables_is : variables reg.choices sch ≡ N
  pub rows_is : reg.rows ≡ rows
  pub sets_are : SetsBelow reg.choices sch N sets

-- of what has been read so far, with a register and a scheme
abbrev pub seen_of : Register → Scheme → Progress Certificate → Seen
seen_of reg sch p = record {
  previous = p.previous;
  multipliers = length p.parsed.multipliers;
  squares = length p.parsed.squares;
  choices = reg.choices;
  variables = variables reg.choices sch;
  rows = reg.rows;
}

-- the rule of a multiplier command
unfoldable pub rule_asked : Register → Scheme → Named → Rule
rule_asked reg sch t = by_key no_rule t.kind (rules reg sch t.i t.j t.k t.l)

-- the tests of a rule: whether the sets fit is said where the variables are there
pub record TestsOf (rule : Rule) (r : RuleTests) : Type 0 where
  pub least_is : rule.least ≡ r.least
  pub most_is : rule.most ≡ r.most
  pub there_is : rule.there ≡ r.there
  pub ordered_is : rule.ordered ≡ r.ordered
  pub fits_is : rule.there ≡ true → rule.fits ≡ r.fits
