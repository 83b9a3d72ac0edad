-- What is demanded of the penalty call, over bytes and over the table handed back.
use Rattle.std.specs.Prelude.{ℕ, ◌*◌, ◌≤◌, ◌<◌, ◌≡◌, ◌↔◌, List, ℤ, pos, nat_abs, ◌*ℤ◌, length, get_or}
use Rattle.wire.specs.Number.{Bytes}
use Rattle.forms.specs.Form.{value}
use Rattle.forms.specs.Table.{table_sum, table_value}
use Rattle.register.specs.declared.Register.{Register}
use Rattle.register.specs.Register.{coefficient}
use Rattle.register.specs.Encoding as RE
use Rattle.register.specs.Valid as R
use Rattle.scheme.specs.declared.Scheme.{Scheme}
use Rattle.scheme.specs.Scheme.{side}
use Rattle.scheme.specs.Filling.{Filling, factor}
use Rattle.scheme.specs.Encoding as SE
use Rattle.scheme.specs.Valid.{Valid}
use Rattle.penalty.specs.Penalty.{h}
use Rattle.plan.specs.Plan.{Plan}
use Rattle.plan.specs.Fits.{Fits}
use Rattle.penalty.specs.Carried.{carried}
use Rattle.penalty.specs.Least.{LeastFilling, LeastPlan, SameLeastWhere}
use Rattle.penalty.specs.TrueProducts.{TrueProducts}
use Rattle.penalty.specs.Limits.{max_h_entry, max_h_sum}
use Rattle.penalty.specs.Answer.{penalty_table}

-- what is demanded of a table that holds the penalty form of a register and a scheme, where `lent` was lent
pub record Holds (reg : Register) (sch : Scheme) (lent table : List ℤ) : Type 0 where
  -- the value read from it at every filling is that of h, and the sum is exactly twice the value
  pub reads : (z : Filling) → table_value (side reg.choices sch) table (factor z) ≡ value (factor z) (h (coefficient reg) reg sch)
  pub twice : (z : Filling) → table_sum (side reg.choices sch) table (factor z) ≡ pos 2 *ℤ table_value (side reg.choices sch) table (factor z)
  -- where some plan fits, the least value over the fillings whose choices fit is the least cost over the plans that fit, and every
  -- such filling that reaches it carries a plan of exactly that cost
  pub least : (plan : Plan reg.choices) → Fits reg plan.fed → SameLeastWhere (Fits reg) (coefficient reg) reg (λ z. table_value (side reg.choices sch) table (factor z))
  -- and whether one does or not, a number is the one just where it is the other
  pub least_iff : (m : ℤ) → LeastFilling (Fits reg) reg (λ z. table_value (side reg.choices sch) table (factor z)) m ↔ LeastPlan (Fits reg) (coefficient reg) reg m
  -- with factor 2 or more, every filling whose choices fit and that reaches the least value over those has each product of
  -- weight above 0 equal to the product of its operands
  pub true_products : 2 ≤ sch.factor → (m : ℤ) → LeastFilling (Fits reg) reg (λ z. table_value (side reg.choices sch) table (factor z)) m →
      (z : Filling) → Fits reg (carried reg.choices z) → table_value (side reg.choices sch) table (factor z) ≡ m → TrueProducts (coefficient reg) reg sch z
  -- the numbers of the table and its sum at a filling are not large
  pub small : (k : ℕ) → k < side reg.choices sch * side reg.choices sch → nat_abs (get_or table k (pos 0)) ≤ max_h_entry
  pub sum_small : (z : Filling) → nat_abs (table_sum (side reg.choices sch) table (factor z)) ≤ max_h_sum
  -- nothing else has changed
  pub long : length table ≡ length lent
  pub past : (k : ℕ) → side reg.choices sch * side reg.choices sch ≤ k → get_or table k (pos 0) ≡ get_or lent k (pos 0)

-- what an answer of zeros says: the bytes are those of a register and a scheme that meet the paper's conditions, and the table
-- handed back is what is demanded of these two
pub record Made (register scheme : List ℕ) (lent : List ℤ) : Type 0 where
  pub reg : Register
  pub sch : Scheme
  pub register_is : Bytes register → RE.Encodes reg register
  pub scheme_is : Bytes scheme → SE.Encodes reg sch scheme
  pub register_valid : R.Valid reg
  pub scheme_valid : Valid reg sch
  pub holds : Holds reg sch lent (penalty_table register scheme lent)
