-- What holds of the programs' input: what stands past the bytes that they read makes no difference to what they print, and parts that
-- stand after each other are read as they are by themselves.
use Rattle.std.specs.Prelude.{ℕ, ◌+◌, ◌≡◌, true, false, List, ◌++◌, length, take}
use Rattle.wire.specs.Part.{refused}
use Rattle.wire.specs.Outcome.{refuses}
use Rattle.register.specs.declared.Register.{Register}
use Rattle.register.specs.Register.{has_range}
use Rattle.register.specs.Valid.{Valid}
use Rattle.register.specs.Encoding.{Encodes}
use Rattle.scheme.specs.declared.Scheme.{Scheme}
use Rattle.scheme.specs.Valid as S
use Rattle.scheme.specs.Encoding as SE
use Rattle.scheme.specs.Format.{scheme_in_job}
use Rattle.plan.specs.Format.{plan_by_itself}
use Rattle.job.specs.Outcome.{outcome}
use Rattle.console.specs.Cheapest.{cheapest_lines}
use Rattle.console.specs.Parts.{built_scheme, own_certificate, counted_from, certificate_after}

-- the first K bytes decide what each program prints: of a job, whose outcome has the lines of `feedcheck` and of `supplier_view`, of a
-- register with any visit limit, and of parts 1 and 2, with the plan where the register has a range
pub record Decided (K : ℕ) : Type 0 where
  pub job : (s : List ℕ) → outcome (take K s) ≡ outcome s
  pub cheapest : (s : List ℕ) (limit : ℕ) → cheapest_lines (take K s) limit ≡ cheapest_lines s limit
  pub scheme : (s : List ℕ) → built_scheme (take K s) ≡ built_scheme s
  pub certificate : (s : List ℕ) → certificate_after (take K s) ≡ certificate_after s

-- `cat REGISTER SCHEME | own_certificate`, and with the plan behind the scheme where the register has a range
pub record Follows : Type 0 where
  -- for a register that is right and has no range, what the plain call writes for the two files, whatever plan it is given, or, where part 2
  -- is refused, its refusal, with its position from the start of the first file
  pub known : (reg : Register) (register scheme plan : List ℕ) → Valid reg → Encodes reg register → has_range reg ≡ false →
      certificate_after (register ++ scheme) ≡ counted_from (length register) (length register + length scheme) (own_certificate register scheme plan)
  -- for one that has a range and a scheme that is right, what it writes for the three files or, where the plan is refused, its refusal
  pub ranged : (reg : Register) (sch : Scheme) (register scheme plan : List ℕ) → Valid reg → Encodes reg register → has_range reg ≡ true → S.Valid reg sch → SE.Encodes reg sch scheme →
      certificate_after (register ++ (scheme ++ plan)) ≡ counted_from (length register) (length register + length scheme) (own_certificate register scheme plan)
  -- where its part 2 is refused, whatever stands behind that: this refusal, in part 2, with its position from the start of part 1
  pub scheme_refused : (reg : Register) (register rest : List ℕ) (number at : ℕ) → Valid reg → Encodes reg register → has_range reg ≡ true → scheme_in_job reg rest ≡ refused number at →
      certificate_after (register ++ rest) ≡ refuses number 2 (length register + at)
  -- where its scheme is right and the plan behind it is refused: this refusal, in part 4, with its position from the start of part 1
  pub plan_refused : (reg : Register) (sch : Scheme) (register scheme plan : List ℕ) (number at : ℕ) → Valid reg → Encodes reg register → has_range reg ≡ true → S.Valid reg sch → SE.Encodes reg sch scheme →
      plan_by_itself reg plan ≡ refused number at → certificate_after (register ++ (scheme ++ plan)) ≡ refuses number 4 (length register + length scheme + at)
