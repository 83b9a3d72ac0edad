-- What the code stores on the way to R: multiplier commands' forms, and numbers subtracted at some places of a table.
use Rattle.std.specs.Prelude.{ℕ, ◌+◌, ◌*◌, ◌≤◌, ◌<◌, ◌≡◌, Bool, cond, List, [], ℤ, pos, neg_ℤ, nat_abs, ◌-ℤ◌, ◌*ℤ◌, T, get_or}
use Rattle.forms.specs.Form.{Form, times}
use Rattle.forms.specs.Table.{with_table}
use Rattle.std.specs.Int.{w64}
use Rattle.wire.specs.Number.{nat_at, int_at}
use Rattle.wire.specs.Part.{accepted}
use Rattle.wire.specs.Rows.{Progress}
use Rattle.register.specs.declared.Register.{Register}
use Rattle.scheme.specs.declared.Scheme.{Scheme}
use Rattle.certificate.specs.declared.Multiplier.{Multiplier as Named}
use Rattle.certificate.specs.Format.{commands_in_job}
use Rattle.certificate.specs.Answer.{rule_asked}
use Rattle.certificate.specs.Limits.{max_multiplier, max_weight, square_entries, max_entry}
use Rattle.certificate.specs.Certificate.{Square, Certificate}
use Rattle.certificate.specs.Rules.{Rule}

-- the commands at the front of a run of bytes are accepted
pub record Reads (reg : Register) (sch : Scheme) (s : List ℕ) : Type 0 where
  pub progress : Progress Certificate
  pub end : ℕ
  pub reads : commands_in_job reg sch s ≡ accepted progress end

-- a certificate of scale and target, with no other command
abbrev pub with_scale : ℕ → ℤ → Certificate
with_scale scale target = record { scale = scale; target = target; multipliers = []; squares = [] }

-- as the first command says
abbrev pub with_scale_in : List ℕ → Certificate
with_scale_in s = with_scale (nat_at 4 s 1) (int_at w64 s 5)

-- a rule's form m times, or −m times where it is subtracted
unfoldable pub signed_of : Rule → ℤ → Form
signed_of rule m = times (cond rule.null m (neg_ℤ m)) rule.form

-- a multiplier command, `31` to `39`, of a register with n choices, whose variables are there, and whose multiplier is within its limit
pub record Addable (n : ℕ) (s : Scheme) (t : Named) : Type 0 where
  pub reg : Register
  pub choices_is : reg.choices ≡ n
  pub kind_above : 0x31 ≤ t.kind
  pub kind_within : t.kind ≤ 0x39
  pub m_within : nat_abs t.m ≤ max_multiplier
  pub there : T (rule_asked reg s t).there

-- what it adds
abbrev pub added : Register → Scheme → Named → Form
added reg s t = signed_of (rule_asked reg s t) t.m

-- the entries of a square are within their range
abbrev pub EntriesWithin : List ℤ → Type 0
EntriesWithin v = (i : ℕ) → i < square_entries → nat_abs (get_or v i (pos 0)) ≤ max_entry

-- a square's weight and entries are within their ranges
pub record SquareRange (q : Square) : Type 0 where
  pub w_within : q.w ≤ max_weight
  pub entries_within : EntriesWithin q.v

-- w·v_i, the factor of row i
abbrev pub row_factor : Square → ℕ → ℤ
row_factor q i = pos q.w *ℤ get_or q.v i (pos 0)

-- a factor times the entry of column j, whatever the row
abbrev pub times_entries : ℤ → List ℤ → ℕ → ℕ → ℤ
times_entries f v i j = f *ℤ get_or v j (pos 0)

-- the number at row i and column j of a table of side n, at the front of a run
abbrev pub cells : ℕ → List ℤ → ℕ → ℕ → ℤ
cells n t i j = get_or t (i * n + j) (pos 0)

-- y i j subtracted at each (i, j) of a table of side n where a test passes
unfoldable pub less_where : ℕ → (ℕ → ℕ → ℤ) → (ℕ → ℕ → Bool) → List ℤ → List ℤ
less_where n y P t = with_table n (λ i j. cond (P i j) (cells n t i j -ℤ y i j) (cells n t i j)) t
