-- Demand 3, clause by clause, of any penalty call, any check and any call that writes our own certificate, over plans that fit the
-- register's rows and fillings whose choices fit. Least values are stated as values that are reached and that nothing is below. The
-- register and the scheme are those that our readers answer; `part_1`, `part_2` and `all_accepted` tie these to the paper. The penalty
-- form's least value and the least cost are of the low coefficients, (c) to (e) of those that a plan chooses; of a register without a
-- range of the low ones (`Demand3Known`).
use Rattle.std.specs.Prelude.{ℕ, ◌≤◌, ◌≡◌, false, List, ℤ, pos, length, ◌≤ℤ◌}
use Rattle.wire.specs.Number.{Bytes}
use Rattle.forms.specs.Table.{table_numbers, table_value}
use Rattle.register.specs.declared.Register.{Register}
use Rattle.register.specs.Register.{coefficient, has_range}
use Rattle.plan.specs.Chosen.{chosen}
use Rattle.register.specs.Format.{register_by_itself}
use Rattle.register.specs.Answer.{register_answer}
use Rattle.plan.specs.Plan as P
use Rattle.plan.specs.Fits.{Fits}
use Rattle.scheme.specs.declared.Scheme.{Scheme}
use Rattle.scheme.specs.Scheme.{side}
use Rattle.scheme.specs.Filling.{Filling, factor}
use Rattle.scheme.specs.Answer.{scheme_answer}
use Rattle.penalty.specs.Carried.{carried}
use Rattle.penalty.specs.Least.{LeastWhere, Every, Least}
use Rattle.penalty.specs.Answer.{with_penalty}
use Rattle.bound.specs.declared.CheckAnswer.{CheckAnswer}
use Rattle.certificate.specs.Certificate.{Certificate}
use Rattle.certificate.specs.Encoding.{Encodes}
use Rattle.residual.specs.Residual.{second_order}
use Rattle.bound.specs.Bound.{bound}
use Rattle.plain.specs.Plain.{plain}
use Rattle.plain.specs.Answer.{own_room}
use Rattle.soundness.specs.Calls.{PenaltyCall, CheckCall, PlainCall, front}
use Rattle.soundness.specs.Parts.{Part1, Part2, Part3, Choosing}

-- ---- parts 1 and 2

-- the register that its reader answers

abbrev pub register_of : List ℕ → Register
register_of register = (register_answer (register_by_itself register)).register

-- its low coefficients, and those that a plan chooses

abbrev pub low : List ℕ → ℕ → ℤ
low register = coefficient (register_of register)

abbrev pub chosen_by : List ℕ → (fed : ℕ) → ℕ → ℤ
chosen_by register fed = chosen (register_of register) fed

-- a plan of the register's choices, and what it costs with the low coefficients, and with any

abbrev pub Plan : List ℕ → Type 0
Plan register = P.Plan (register_of register).choices

abbrev pub cost : (register : List ℕ) → Plan register → ℤ
cost register plan = P.cost (low register) (register_of register) plan.fed

abbrev pub cost_with : (ℕ → ℤ) → (register : List ℕ) → Plan register → ℤ
cost_with c register plan = P.cost c (register_of register) plan.fed

-- a plan that fits the register's rows, and a filling whose choices fit: the plan that it carries does

abbrev pub FitsPlan : (register : List ℕ) → Plan register → Type 0
FitsPlan register plan = Fits (register_of register) plan.fed

abbrev pub FitsFilling : List ℕ → Filling → Type 0
FitsFilling register z = Fits (register_of register) (carried (register_of register).choices z)

-- a plan of cost m that fits and that a filling carries
pub record CarriesAt (register : List ℕ) (z : Filling) (m : ℤ) : Type 0 where
  pub plan : Plan register
  pub carries : plan.fed ≡ carried (register_of register).choices z
  pub fits : FitsPlan register plan
  pub costs : cost register plan ≡ m

-- the scheme that its reader answers; both are accepted where it answers no refusal

abbrev pub scheme_of : List ℕ → List ℕ → Scheme
scheme_of register scheme = (scheme_answer register scheme).scheme

abbrev pub Accepted : List ℕ → List ℕ → Type 0
Accepted register scheme = (scheme_answer register scheme).number ≡ 0

-- the value read from a table at a filling
abbrev pub value_read : List ℕ → List ℕ → List ℤ → Filling → ℤ
value_read register scheme table z = table_value (side (register_of register).choices (scheme_of register scheme)) table (factor z)

-- our own certificate for the two, with coefficients c
abbrev pub own : (ℕ → ℤ) → List ℕ → List ℕ → Certificate
own c register scheme = plain c (register_of register) (scheme_of register scheme)

-- one value is the least of both, of the first where P holds and of the second where Q holds
pub record EqualLeastWhere {A B : Type 0} (P : A → Type 0) (f : A → ℤ) (Q : B → Type 0) (g : B → ℤ) : Type 0 where
  pub least : ℤ
  pub of_first : LeastWhere P f least
  pub of_second : LeastWhere Q g least

-- everywhere
abbrev pub EqualLeast : {A B : Type 0} → (A → ℤ) → (B → ℤ) → Type 0
EqualLeast f g = EqualLeastWhere Every f Every g

-- ---- part 3

-- a certificate whose bytes these are and that meets the paper's conditions with the two and coefficients c
pub record Certified (c : ℕ → ℤ) (register scheme certificate : List ℕ) : Type 0 where
  pub cert : Certificate
  pub part_3 : Part3 c (register_of register) (scheme_of register scheme) certificate cert

-- the value of the second-order part of a certificate's reformulated function at a list
abbrev pub second_order_of : (ℕ → ℤ) → List ℕ → List ℕ → Certificate → (ℕ → ℤ) → ℤ
second_order_of c register scheme cert = second_order c (register_of register) (scheme_of register scheme) cert

-- ---- the demand, of three calls, with the bytes of parts 1 and 2 and a table lent

module _ (penalty_call : PenaltyCall) (check_call : CheckCall) (plain_call : PlainCall) where
  -- the table that the penalty call hands back
  abbrev pub table_back : List ℕ → List ℕ → List ℤ → List ℤ
  table_back register scheme table = (penalty_call register scheme table).1

  -- what the check answers
  abbrev pub checked : (register scheme certificate plan : List ℕ) → List ℤ → CheckAnswer
  checked register scheme certificate plan table = (check_call register scheme certificate plan table).0

  -- the bytes of our own certificate
  abbrev pub own_back : (register scheme plan buffer : List ℕ) → List ℕ
  own_back register scheme plan buffer = front (plain_call register scheme plan buffer)

  -- ---- with coefficients c, and the bytes that stand for the plan

  -- no plan that P holds of is cheaper than the bound of any certificate that the check accepts beside these bytes
  abbrev pub Bounds : (ℕ → ℤ) → (register scheme plan : List ℕ) → List ℤ → (Plan register → Type 0) → Type 0
  Bounds c register scheme plan table P = (certificate : List ℕ) → (checked register scheme certificate plan table).number ≡ 0 →
      (other : Plan register) → P other → (checked register scheme certificate plan table).bound ≤ℤ cost_with c register other

  -- each object of (c) to (e) is the one that the paper defines: part 3, the bound and our own bytes
  pub record AsWrittenWith (c : ℕ → ℤ) (register scheme plan : List ℕ) (table : List ℤ) : Type 0 where
    pub certificates : (certificate : List ℕ) → Bytes certificate → (checked register scheme certificate plan table).number ≡ 0 → Certified c register scheme certificate
    pub certified : (certificate : List ℕ) (k : Certified c register scheme certificate) →
        ((checked register scheme certificate plan table).number ≡ 0) × ((checked register scheme certificate plan table).bound ≡ bound k.cert)
    pub own_certificate : (buffer : List ℕ) → (plain_call register scheme plan buffer).0.number ≡ 0 → Encodes (own c register scheme) (own_back register scheme plan buffer)
    pub own_enough : (buffer : List ℕ) → own_room ≤ length buffer → (plain_call register scheme plan buffer).0.number ≡ 0

  pub record Demand3With (c : ℕ → ℤ) (register scheme plan : List ℕ) (table : List ℤ) : Type 0 where
    -- (c) no plan that fits is cheaper than such a bound, a case of `Relaxation`
    pub bounds : Bounds c register scheme plan table (FitsPlan register)
    -- (d) the second-order part of such a certificate is nowhere below 0, whatever signs x has. The check accepts just the
    -- certified ones: `certificates` and `certified` above
    pub second_order : (certificate : List ℕ) (k : Certified c register scheme certificate) (x : ℕ → ℤ) → pos 0 ≤ℤ second_order_of c register scheme k.cert x
    -- (e) the check accepts the bytes that our own call has written, beside the plan that they were written for
    pub own_accepted : (buffer : List ℕ) → (plain_call register scheme plan buffer).0.number ≡ 0 → (checked register scheme (own_back register scheme plan buffer) plan table).number ≡ 0
    -- and (c) to (e) speak of what the paper defines
    pub as_written : AsWrittenWith c register scheme plan table

  -- ---- the whole

  -- each object of (a) and (b) is the one that the paper defines: parts 1 and 2, and the whole table
  pub record AsWritten (register scheme : List ℕ) (table : List ℤ) : Type 0 where
    pub part_1 : Part1 register (register_of register)
    pub part_2 : Bytes scheme → Part2 (register_of register) scheme (scheme_of register scheme)
    pub penalty_accepted : (penalty_call register scheme table).0 ≡ record { number = 0; part = 0; position = 0 }
    pub penalty_form : table_back register scheme table ≡ with_penalty (register_of register) (scheme_of register scheme) table

  pub record Demand3For (register scheme : List ℕ) (table : List ℤ) : Type 0 where
    -- (a) where some plan fits, one least value: of the penalty form, read from the table handed back, over the fillings whose choices
    -- fit, and of the cost, over the plans that fit, both with the low coefficients
    pub least : (some : Plan register) → FitsPlan register some →
        EqualLeastWhere (FitsFilling register) (value_read register scheme (table_back register scheme table)) (FitsPlan register) (cost register)
    -- (b) such a filling at this least value carries a plan that fits and whose cost it is
    pub minimisers : (m : ℤ) → LeastWhere (FitsFilling register) (value_read register scheme (table_back register scheme table)) m →
        (z : Filling) → FitsFilling register z → value_read register scheme (table_back register scheme table) z ≡ m → CarriesAt register z m
    -- and (a) and (b) speak of what the paper defines
    pub as_written : AsWritten register scheme table
    -- (c) to (e), for every plan that chooses, with the coefficients that it does
    pub with_plan : (plan : List ℕ) (fed : ℕ) → Choosing (register_of register) plan fed → Demand3With (chosen_by register fed) register scheme plan table

  -- for all bytes of parts 1 and 2 that are accepted, whoever wrote them, and all tables that are long enough
  pub record Demand3 : Type 0 where
    pub of_accepted : (register scheme : List ℕ) → Bytes register → Accepted register scheme →
        (table : List ℤ) → table_numbers ≤ length table → Demand3For register scheme table
    -- and every register and scheme that meet the paper's conditions are accepted
    pub all_accepted : (register scheme : List ℕ) (reg : Register) (sch : Scheme) → Part1 register reg → Part2 reg scheme sch → Accepted register scheme

  -- ---- of a register without a range: (c) to (e) with the low coefficients, as they stood before there were ranges, whatever bytes stand
  -- for the plan. (a) and (b) are of these in any case

  pub record Demand3Known : Type 0 where
    pub of_accepted : (register scheme : List ℕ) → Bytes register → Accepted register scheme → has_range (register_of register) ≡ false →
        (table : List ℤ) → table_numbers ≤ length table → (plan : List ℕ) → Demand3With (low register) register scheme plan table

  -- ---- of a register without rows: the same over every plan and every filling, as it stood before there were rows

  pub record Demand3EveryFor (register scheme : List ℕ) (table : List ℤ) : Type 0 where
    -- (d), (e) and what (a) to (e) speak of
    pub demand : Demand3For register scheme table
    pub least : EqualLeast (value_read register scheme (table_back register scheme table)) (cost register)
    pub minimisers : (m : ℤ) → Least (value_read register scheme (table_back register scheme table)) m →
        (z : Filling) → value_read register scheme (table_back register scheme table) z ≡ m → CarriesAt register z m
    pub bounds : (plan : List ℕ) (fed : ℕ) → Choosing (register_of register) plan fed → Bounds (chosen_by register fed) register scheme plan table Every
    -- and where it has no range either
    pub bounds_known : has_range (register_of register) ≡ false → (plan : List ℕ) → Bounds (low register) register scheme plan table Every

  pub record Demand3Every : Type 0 where
    pub of_accepted : (register scheme : List ℕ) → Bytes register → Accepted register scheme → (register_of register).rows ≡ 0 →
        (table : List ℤ) → table_numbers ≤ length table → Demand3EveryFor register scheme table
    pub all_accepted : (register scheme : List ℕ) (reg : Register) (sch : Scheme) → Part1 register reg → Part2 reg scheme sch → Accepted register scheme
