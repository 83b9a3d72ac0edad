-- The paper's rows W1 to W9, with the bytes that they are about, and four rows more: weights where two ways lead to a product, a
-- certificate with as many commands as it may have, a register with a range, and registers with 48 choices. −6 is written neg_ℤ (pos 6).
use Prim.Native.Nat.{ℕ, suc, ◌+◌, ◌^◌, ◌≤◌, ◌<◌}
use mathlib.Core.Path.{◌≡◌, refl}
use mathlib.Core.Bool.{cond}
use mathlib.Core.List.{List, [], ◌∷◌, ◌++◌, map}
use lib.IntN.{ℤ, pos, neg_ℤ}
use lib.ListN.{length, get_or, drop}
use Rattle.integers.specs.Integer.{abs}
use Rattle.integers.specs.Lists.{join_below}
use Rattle.forms.specs.Form.{value}
use Rattle.forms.specs.Table.{table_numbers}
use Rattle.wire.specs.Outcome.{accepts, and_then}
use Rattle.wire.specs.Writer as WriterCall
use Rattle.register.specs.declared.Register.{Register}
use Rattle.register.specs.Register.{coefficient}
use Rattle.register.specs.Format.{register_by_itself}
use Rattle.register.specs.Limits.{max_choices}
use Rattle.register.specs.Answer.{register_answer}
use Rattle.register.specs.Answer as RegisterCall
use Rattle.register.proofs.Example.{example_register}
use Rattle.scheme.specs.declared.Scheme.{Scheme}
use Rattle.scheme.specs.Scheme.{left, right, split_left, split_right}
use Rattle.scheme.specs.Variables.{E}
use Rattle.scheme.specs.Filling.{Filling, factor}
use Rattle.scheme.specs.Answer.{scheme_answer}
use Rattle.scheme.specs.Answer as SchemeCall
use Rattle.scheme.proofs.Example.{example_scheme, built_scheme}
use Rattle.scheme.proofs.Worked as Scheme
use Rattle.plan.specs.Encoding.{encode_plan}
use Rattle.plan.specs.Answer.{refused_cost, accepted_cost, cost_answer}
use Rattle.plan.proofs.Worked as Plan
use Rattle.search.specs.Answer.{search_answer}
use Rattle.builder.specs.Builder.{build, built}
use Rattle.builder.specs.Answer.{build_answer, build_buffer}
use Rattle.builder.proofs.Worked as Builder
use Rattle.penalty.specs.Penalty.{bracket}
use Rattle.penalty.specs.Weights.{weight}
use Rattle.penalty.proofs.Worked as Penalty
use Rattle.certificate.specs.Certificate.{Certificate}
use Rattle.certificate.specs.Within.{Within}
use Rattle.bound.specs.Bound.{bound}
use Rattle.bound.specs.Valid.{Valid}
use Rattle.bound.specs.Opening.{open_chosen}
use Rattle.bound.specs.Check.{check_answer}
use Rattle.certificate.proofs.Commands.{command}
use Rattle.bound.proofs.Worked as Certificate
use Rattle.plain.specs.Plain.{plain}
use Rattle.plain.specs.Answer.{own_bytes}
use Rattle.plain.proofs.Worked as Plain
use Rattle.job.specs.Outcome.{outcome}
use Rattle.job.specs.declared.Tally.{Tally}
use Rattle.job.specs.Tally.{suppliers, pair_of, with_pair}
use Rattle.job.specs.Answer.{refused_answer, job_answer}
use Rattle.listing.specs.Listing.{listing, supplier_listing}
use Rattle.worked.proofs.Alone as Alone
use Rattle.worked.proofs.Own.{w7_checked}
use Rattle.worked.proofs.Full.{many, with_many, full, full_valid}
use Rattle.worked.proofs.Large.{front, narrow_term, wide_term, back, large_register, large, large_scheme_bytes, large_scheme, pairs, splits_of_pairs, paired_scheme, whole_register, large_read, large_costed, large_fitted, large_scheme_read, large_product, paired_read, whole_built}
use Rattle.worked.proofs.Prices.{price_register, price_scheme, price_plan, price_own, price_searched, price_costed, price_written, price_checked}
use Rattle.worked.proofs.Jobs.{lines, counted, counted_last, unknown, jobs, supplier_jobs}

-- the example's four parts; the third with T below 256

abbrev pub part1 : List ℕ
part1 =
    0x10 ∷ 0x0A ∷ 0 ∷ 0 ∷ 0
    ∷ 0x11 ∷ 4 ∷ 0 ∷ 0xE0 ∷ 1 ∷ 0x11 ∷ 4 ∷ 0 ∷ 0xD0 ∷ 2 ∷ 0x11 ∷ 7 ∷ 0 ∷ 0xE0 ∷ 1
    ∷ 0x12 ∷ 1 ∷ 0 ∷ 0 ∷ 0 ∷ 0xFA ∷ 0xFF ∷ 0xFF ∷ 0xFF ∷ 0x12 ∷ 2 ∷ 0 ∷ 0 ∷ 0 ∷ 0xFC ∷ 0xFF ∷ 0xFF ∷ 0xFF ∷ 0x12 ∷ 7 ∷ 0 ∷ 0 ∷ 0 ∷ 5 ∷ 0 ∷ 0 ∷ 0
    ∷ 0x1F ∷ []

abbrev pub part2 : List ℕ
part2 = 0x21 ∷ 0 ∷ 1 ∷ 0x21 ∷ 2 ∷ 3 ∷ 0x22 ∷ 0 ∷ 0 ∷ 0x22 ∷ 1 ∷ 1 ∷ 0x22 ∷ 4 ∷ 4 ∷ 0x2F ∷ []

abbrev pub part3 : ℕ → List ℕ
part3 T =
    0x30 ∷ 1 ∷ 0 ∷ 0 ∷ 0 ∷ T ∷ 0 ∷ 0 ∷ 0 ∷ 0 ∷ 0 ∷ 0 ∷ 0
    ∷ 0x39 ∷ 0 ∷ 6 ∷ 0 ∷ 0 ∷ 0 ∷ 0 ∷ 0 ∷ 0 ∷ 0 ∷ 0x39 ∷ 1 ∷ 4 ∷ 0 ∷ 0 ∷ 0 ∷ 0 ∷ 0 ∷ 0 ∷ 0 ∷ 0x38 ∷ 4 ∷ 5 ∷ 0 ∷ 0 ∷ 0 ∷ 0 ∷ 0 ∷ 0 ∷ 0
    ∷ 0x3F ∷ []

abbrev pub part4 : List ℕ
part4 = 0x40 ∷ 3 ∷ 0 ∷ 0 ∷ 0 ∷ []

-- as jobs: with T = 0, the example's 113 bytes; with T = 1; and with a byte more
abbrev pub examples : List (List ℕ)
examples = (part1 ++ part2 ++ part3 0 ++ part4) ∷ (part1 ++ part2 ++ part3 1 ++ part4) ∷ (part1 ++ part2 ++ part3 0 ++ part4 ++ (0 ∷ [])) ∷ []

-- part 2 of W3; parts 1 and 2 of W4

abbrev pub built3 : List ℕ
built3 = 0x21 ∷ 0 ∷ 1 ∷ 0x22 ∷ 0 ∷ 0 ∷ 0x22 ∷ 1 ∷ 1 ∷ 0x22 ∷ 2 ∷ 3 ∷ 0x2F ∷ []

abbrev pub register4 : List ℕ
register4 =
    0x10 ∷ 0 ∷ 0 ∷ 0 ∷ 0
    ∷ 0x11 ∷ 1 ∷ 0 ∷ 0 ∷ 0 ∷ 0x11 ∷ 1 ∷ 0 ∷ 1 ∷ 0 ∷ 0x11 ∷ 1 ∷ 0 ∷ 2 ∷ 0 ∷ 0x11 ∷ 1 ∷ 0 ∷ 3 ∷ 0 ∷ 0x11 ∷ 1 ∷ 0 ∷ 4 ∷ 0
    ∷ 0x12 ∷ 31 ∷ 0 ∷ 0 ∷ 0 ∷ 1 ∷ 0 ∷ 0 ∷ 0
    ∷ 0x1F ∷ []

abbrev pub built4 : List ℕ
built4 = 0x21 ∷ 0 ∷ 1 ∷ 0x21 ∷ 2 ∷ 3 ∷ 0x21 ∷ 5 ∷ 6 ∷ 0x22 ∷ 4 ∷ 7 ∷ 0x2F ∷ []

-- parts 1 and 2 in which two ways lead to a product

abbrev pub register_of_4 : List ℕ
register_of_4 =
    0x10 ∷ 0 ∷ 0 ∷ 0 ∷ 0
    ∷ 0x11 ∷ 1 ∷ 0 ∷ 0 ∷ 0 ∷ 0x11 ∷ 1 ∷ 0 ∷ 1 ∷ 0 ∷ 0x11 ∷ 1 ∷ 0 ∷ 2 ∷ 0 ∷ 0x11 ∷ 1 ∷ 0 ∷ 3 ∷ 0
    ∷ 0x12 ∷ 15 ∷ 0 ∷ 0 ∷ 0 ∷ 0xF9 ∷ 0xFF ∷ 0xFF ∷ 0xFF
    ∷ 0x1F ∷ []

abbrev pub two_ways : List ℕ
two_ways = 0x21 ∷ 0 ∷ 1 ∷ 0x21 ∷ 2 ∷ 4 ∷ 0x21 ∷ 3 ∷ 4 ∷ 0x21 ∷ 5 ∷ 6 ∷ 0x22 ∷ 7 ∷ 7 ∷ 0x2F ∷ []

-- what the calls that read parts 1 and 2 answer to bytes that they accept

abbrev pub ReadsRegister : List ℕ → Register → Type 0
ReadsRegister s reg = register_answer (register_by_itself s) ≡ record { number = 0; part = 0; position = 0; register = reg }

abbrev pub ReadsScheme : List ℕ → List ℕ → Scheme → Type 0
ReadsScheme register s sch = scheme_answer register s ≡ record { number = 0; part = 0; position = 0; scheme = sch }

-- the products of a scheme where there are n choices, each number with its two operands; and the splits, term after term

abbrev pub products_of : ℕ → Scheme → List (ℕ × (ℕ × ℕ))
products_of n s = join_below s.products (λ i. (n + i, (left n s (n + i), right n s (n + i))) ∷ [])

abbrev pub splits_of : Scheme → List (ℕ × ℕ)
splits_of s = join_below s.splits (λ t. (split_left s t, split_right s t) ∷ [])

pub record Worked : Type 0 where
  -- what the example's parts 1 and 2 are read as
  pub example_register_read : ReadsRegister part1 example_register
  pub example_scheme_read : ReadsScheme part1 part2 example_scheme
  -- W1, on the example's scheme
  pub w1_products : products_of 3 example_scheme ≡ (3, (0, 1)) ∷ (4, (2, 3)) ∷ []
  pub w1 : map (E 3 example_scheme) (3 ∷ 4 ∷ []) ≡ 3 ∷ 7 ∷ []
  -- W2, by the cost call
  pub w2 : map (λ p. cost_answer part1 (encode_plan p)) (0 ∷ 3 ∷ 7 ∷ []) ≡ map accepted_cost (pos 10 ∷ pos 0 ∷ pos 5 ∷ [])
  -- W3, the builder's scheme for the example's register
  pub w3 : build example_register ≡ built built_scheme
  pub w3_products : products_of 3 built_scheme ≡ (3, (0, 1)) ∷ []
  pub w3_splits : splits_of built_scheme ≡ (0, 0) ∷ (1, 1) ∷ (2, 3) ∷ []
  pub w3_scheme : ReadsScheme part1 built3 built_scheme
  -- by the builder's call
  pub w3_call : (buffer : List ℕ) → 13 ≤ length buffer →
      (build_answer part1 buffer ≡ record { number = 0; part = 0; position = 0; count = 13 }) × (build_buffer part1 buffer ≡ built3 ++ drop 13 buffer)
  -- W4, where the one term's mask is 31
  pub w4_register : ReadsRegister register4 Builder.five
  pub w4 : build Builder.five ≡ built Builder.five_scheme
  pub w4_products : products_of 5 Builder.five_scheme ≡ (5, (0, 1)) ∷ (6, (2, 3)) ∷ (7, (5, 6)) ∷ []
  pub w4_splits : splits_of Builder.five_scheme ≡ (4, 7) ∷ []
  pub w4_scheme : ReadsScheme register4 built4 Builder.five_scheme
  pub w4_call : (buffer : List ℕ) → 13 ≤ length buffer →
      (build_answer register4 buffer ≡ record { number = 0; part = 0; position = 0; count = 13 }) × (build_buffer register4 buffer ≡ built4 ++ drop 13 buffer)
  -- W5, at any three variables: their values, read as a binary number, say which entry of the list it is
  pub w5 : (k l r : ℕ) (z : Filling) → value (factor z) (bracket k l r)
      ≡ get_or (pos 0 ∷ pos 0 ∷ pos 0 ∷ pos 1 ∷ pos 3 ∷ pos 1 ∷ pos 1 ∷ pos 0 ∷ []) (cond (z k) 4 0 + cond (z l) 2 0 + cond (z r) 1 0) (pos 0)
  -- W6, product 3's weight
  pub w6 : weight (coefficient example_register) example_register built_scheme 3 ≡ pos 5
  -- not of the paper's rows: product 4 is an operand of 5 and of 6, and those are the operands of 7, which is the one term. Whatever its
  -- coefficient c, here −7, it counts once for each of the four
  pub two_ways_register : ReadsRegister register_of_4 (Penalty.four (neg_ℤ (pos 7)))
  pub two_ways_scheme : ReadsScheme register_of_4 two_ways Penalty.two_ways_scheme
  pub two_ways_products : products_of 4 Penalty.two_ways_scheme ≡ (4, (0, 1)) ∷ (5, (2, 4)) ∷ (6, (3, 4)) ∷ (7, (5, 6)) ∷ []
  pub two_ways_splits : splits_of Penalty.two_ways_scheme ≡ (7, 7) ∷ []
  pub two_ways_weights : (c : ℤ) → map (weight (coefficient (Penalty.four c)) (Penalty.four c) Penalty.two_ways_scheme) (4 ∷ 5 ∷ 6 ∷ 7 ∷ []) ≡ abs c ∷ abs c ∷ abs c ∷ abs c ∷ []
  -- W7, our certificate for the scheme of W3
  pub w7 : plain (coefficient example_register) example_register built_scheme
      ≡ record {
        scale = 1;
        target = neg_ℤ (pos 6);
        multipliers = command 0x31 2 3 ∷ command 0x31 3 3 ∷ command 0x39 0 6 ∷ command 0x39 1 4 ∷ command 0x39 2 3 ∷ command 0x39 3 3 ∷ [];
        squares = [];
      }
  -- by the check's call: its bytes, and those with the multiplier 2 in both `31`, with any plan, since no term has a range
  pub w7_checked : (fed : ℕ) (plan : List ℕ) (lent : List ℤ) → table_numbers ≤ length lent →
      let bytes : ℕ → List ℕ = λ m.
      0x30 ∷ 1 ∷ 0 ∷ 0 ∷ 0 ∷ 0xFA ∷ 0xFF ∷ 0xFF ∷ 0xFF ∷ 0xFF ∷ 0xFF ∷ 0xFF ∷ 0xFF
      ∷ 0x31 ∷ 2 ∷ m ∷ 0 ∷ 0 ∷ 0 ∷ 0 ∷ 0 ∷ 0 ∷ 0
      ∷ 0x31 ∷ 3 ∷ m ∷ 0 ∷ 0 ∷ 0 ∷ 0 ∷ 0 ∷ 0 ∷ 0
      ∷ 0x39 ∷ 0 ∷ 6 ∷ 0 ∷ 0 ∷ 0 ∷ 0 ∷ 0 ∷ 0 ∷ 0
      ∷ 0x39 ∷ 1 ∷ 4 ∷ 0 ∷ 0 ∷ 0 ∷ 0 ∷ 0 ∷ 0 ∷ 0
      ∷ 0x39 ∷ 2 ∷ 3 ∷ 0 ∷ 0 ∷ 0 ∷ 0 ∷ 0 ∷ 0 ∷ 0
      ∷ 0x39 ∷ 3 ∷ 3 ∷ 0 ∷ 0 ∷ 0 ∷ 0 ∷ 0 ∷ 0 ∷ 0
      ∷ 0x3F ∷ [] in
      (own_bytes example_register built_scheme fed ≡ bytes 3)
      × (map (λ m. check_answer part1 built3 (bytes m) plan lent) (3 ∷ 2 ∷ [])
      ≡ record { number = 0; part = 0; position = 0; bound = neg_ℤ (pos 6) } ∷ record { number = 9; part = 3; position = 73; bound = pos 0 } ∷ [])
  -- not of the paper's rows: of any register with a choice and a row, and any scheme, 1,023 `31`, a `3B` and 64 squares are within the
  -- limits; a multiplier more is not, nor a square more
  pub full : (reg : Register) (sch : Scheme) → 1 ≤ reg.choices → 1 ≤ reg.rows →
      Within reg sch (many 1_023 64) × ((Within reg sch (many 1_024 64) → ⊥) × (Within reg sch (many 1_023 65) → ⊥))
  -- and a certificate that meets every condition without a multiplier and a square does so with them
  pub full_valid : (c : ℕ → ℤ) (reg : Register) (sch : Scheme) (k : Certificate) → 1 ≤ reg.choices → 1 ≤ reg.rows → k.multipliers ≡ [] → k.squares ≡ [] →
      Valid c reg sch k → Valid c reg sch (with_many k 1_023 64)
  -- not of the paper's rows: one choice, one term with a coefficient from −5 to 0, and the plan that feeds the choice. The search takes the
  -- low coefficient, the cost call and our own certificate the high one: the cost found is below the bound
  pub price_searched : search_answer price_register 3 ≡ record { number = 0; part = 0; position = 0; plan = 1; cost = neg_ℤ (pos 5); visits = 3 }
  pub price_costed : cost_answer price_register price_plan ≡ accepted_cost (pos 0)
  pub price_written : and_then (open_chosen price_register price_scheme price_plan) (λ (reg, sch, p). accepts (own_bytes reg sch p)) ≡ accepts price_own
  pub price_checked : (lent : List ℤ) → table_numbers ≤ length lent →
      check_answer price_register price_scheme price_own price_plan lent ≡ record { number = 0; part = 0; position = 0; bound = pos 0 }
  -- W8, T and s of certificates with no further command
  pub w8 : let ratio : ℤ → ℕ → Certificate = λ T s. record { scale = s; target = T; multipliers = []; squares = [] } in
      map bound (ratio (neg_ℤ (pos 7)) 2 ∷ ratio (pos 7) 2 ∷ ratio (neg_ℤ (pos 1)) 3 ∷ []) ≡ neg_ℤ (pos 3) ∷ pos 4 ∷ pos 0 ∷ []
  -- W9, by the job's call, for each supplier, after 4 accepted and 7 refused jobs of it
  pub w9 : (lent : List ℤ) (supplier : ℕ) (tally : Tally) → supplier < suppliers → table_numbers ≤ length lent → pair_of tally supplier ≡ record { accepted = 4; refused = 7 } →
      map (λ s. job_answer s lent supplier tally) examples
      ≡ record { number = 0; part = 0; position = 0; bound = pos 0; cost = pos 0; gap = pos 0; tally = with_pair supplier (record { accepted = 5; refused = 7 }) tally }
      ∷ record { number = 9; part = 3; position = 107; bound = pos 0; cost = pos 0; gap = pos 0; tally = with_pair supplier (record { accepted = 4; refused = 8 }) tally }
      ∷ record { number = 12; part = 4; position = 113; bound = pos 0; cost = pos 0; gap = pos 0; tally = with_pair supplier (record { accepted = 4; refused = 8 }) tally }
      ∷ []
  -- a count goes up to 4,294,967,295 and stays there
  pub w9_limit : (lent : List ℤ) (supplier : ℕ) (tally : Tally) → supplier < suppliers → table_numbers ≤ length lent →
      pair_of tally supplier ≡ record { accepted = 4_294_967_295; refused = 4_294_967_294 } →
      map (λ s. (job_answer s lent supplier tally).tally) examples
      ≡ with_pair supplier (record { accepted = 4_294_967_295; refused = 4_294_967_294 }) tally
      ∷ with_pair supplier (record { accepted = 4_294_967_295; refused = 4_294_967_295 }) tally
      ∷ with_pair supplier (record { accepted = 4_294_967_295; refused = 4_294_967_295 }) tally
      ∷ []
  -- with a supplier's number above 15 each is refused 17, and nothing moves
  pub w9_unknown : (lent : List ℤ) (supplier : ℕ) (tally : Tally) → suppliers ≤ supplier →
      map (λ s. job_answer s lent supplier tally) examples
      ≡ refused_answer 17 0 0 tally ∷ refused_answer 17 0 0 tally ∷ refused_answer 17 0 0 tally ∷ []
  -- and the lines of the three
  pub w9_lines : map (λ s. listing (outcome s)) examples
      ≡ lines
      ∷ (0x52 ∷ 0x20 ∷ 0x39 ∷ 0x20 ∷ 0x31 ∷ 0x30 ∷ 0x37 ∷ 0x0A ∷ [])
      ∷ (0x52 ∷ 0x20 ∷ 0x31 ∷ 0x32 ∷ 0x20 ∷ 0x31 ∷ 0x31 ∷ 0x33 ∷ 0x0A ∷ [])
      ∷ []
  -- a supplier's: `C 0 1`, `C 1 1`, `C 2 0`, `B 0 0 0`, and the same of a refusal
  pub w9_supplier_lines : map (λ s. supplier_listing (outcome s)) examples
      ≡ (0x43 ∷ 0x20 ∷ 0x30 ∷ 0x20 ∷ 0x31 ∷ 0x0A ∷ 0x43 ∷ 0x20 ∷ 0x31 ∷ 0x20 ∷ 0x31 ∷ 0x0A ∷ 0x43 ∷ 0x20 ∷ 0x32 ∷ 0x20 ∷ 0x30 ∷ 0x0A
      ∷ 0x42 ∷ 0x20 ∷ 0x30 ∷ 0x20 ∷ 0x30 ∷ 0x20 ∷ 0x30 ∷ 0x0A ∷ [])
      ∷ (0x52 ∷ 0x20 ∷ 0x39 ∷ 0x20 ∷ 0x31 ∷ 0x30 ∷ 0x37 ∷ 0x0A ∷ [])
      ∷ (0x52 ∷ 0x20 ∷ 0x31 ∷ 0x32 ∷ 0x20 ∷ 0x31 ∷ 0x31 ∷ 0x33 ∷ 0x0A ∷ [])
      ∷ []
  -- 48 choices, a row over the first 32, and a term that names choice 47; its first term in either form; one choice more; and the term once
  -- more in the other form
  pub large_read : map (λ s. register_answer (register_by_itself s))
      (large_register
      ∷ (front max_choices ++ (wide_term ++ back))
      ∷ front (suc max_choices)
      ∷ (front max_choices ++ (narrow_term ++ (wide_term ++ back)))
      ∷ [])
      ≡ record { number = 0; part = 0; position = 0; register = large }
      ∷ record { number = 0; part = 0; position = 0; register = large }
      ∷ RegisterCall.refused_answer 3 245
      ∷ RegisterCall.refused_answer 7 289
      ∷ []
  -- plans by `41` and by `40`
  pub large_costed : map (λ p. cost_answer large_register p)
      ((0x41 ∷ 1 ∷ 0 ∷ 0 ∷ 0 ∷ 0 ∷ 0xC1 ∷ 0 ∷ 0 ∷ [])
      ∷ (0x41 ∷ 1 ∷ 0 ∷ 0 ∷ 0 ∷ 0 ∷ 0xC0 ∷ 0 ∷ 0 ∷ [])
      ∷ (0x41 ∷ 1 ∷ 0 ∷ 0 ∷ 0 ∷ 0 ∷ 0xE1 ∷ 0 ∷ 0 ∷ [])
      ∷ (0x40 ∷ 1 ∷ 0 ∷ 0 ∷ 0 ∷ [])
      ∷ [])
      ≡ map accepted_cost (pos 15 ∷ pos 20 ∷ pos 17 ∷ pos 13 ∷ [])
  -- choice 33 is in no row, and choice 48 is not there
  pub large_fitted : map (λ p. cost_answer large_register p)
      ((0x41 ∷ 1 ∷ 0 ∷ 0 ∷ 0 ∷ 2 ∷ 0 ∷ 0 ∷ 0 ∷ [])
      ∷ (0x40 ∷ 3 ∷ 0 ∷ 0 ∷ 0 ∷ [])
      ∷ (0x41 ∷ 1 ∷ 0 ∷ 0 ∷ 0 ∷ 0 ∷ 0 ∷ 1 ∷ 0 ∷ [])
      ∷ [])
      ≡ accepted_cost (pos 13) ∷ refused_cost 15 4 0 ∷ refused_cost 5 4 0 ∷ []
  -- the product of choices 46 and 47
  pub large_scheme_read : scheme_answer large_register large_scheme_bytes ≡ record { number = 0; part = 0; position = 0; scheme = large_scheme }
  pub large_product : E max_choices large_scheme 48 ≡ 2 ^ 46 + 2 ^ 47
  -- 64 variables, and one more
  pub paired_read : map (scheme_answer large_register) ((pairs ++ splits_of_pairs) ∷ (pairs ++ (0x21 ∷ 0 ∷ 1 ∷ splits_of_pairs)) ∷ [])
      ≡ record { number = 0; part = 0; position = 0; scheme = paired_scheme } ∷ SchemeCall.refused_answer 3 2 48 ∷ []
  -- the builder stops at a 65th variable
  pub whole_built : (buffer : List ℕ) → (build_answer whole_register buffer ≡ WriterCall.refused_answer 10 1 280) × (build_buffer whole_register buffer ≡ buffer)

pub worked : Worked
unfolding join_below
worked = record {
  example_register_read = Alone.example_register_read;
  example_scheme_read = Scheme.example_answer;
  w1_products = refl;
  w1 = Scheme.w1;
  w2 = Plan.w2;
  w3 = Builder.w3;
  w3_products = refl;
  w3_splits = refl;
  w3_scheme = Alone.w3_scheme;
  w3_call = Builder.w3_call;
  w4_register = Alone.w4_register;
  w4 = Builder.w4;
  w4_products = refl;
  w4_splits = refl;
  w4_scheme = Alone.w4_scheme;
  w4_call = Builder.w4_call;
  w5 = Penalty.w5;
  w6 = Penalty.w6;
  two_ways_register = Alone.two_ways_register;
  two_ways_scheme = Alone.two_ways_read;
  two_ways_products = refl;
  two_ways_splits = refl;
  two_ways_weights = Penalty.two_ways;
  w7 = Plain.w7;
  w7_checked = λ fed plan lent l. (Plain.w7_bytes_lem fed, w7_checked plan lent l);
  full = full;
  full_valid = full_valid;
  price_searched = price_searched;
  price_costed = price_costed;
  price_written = price_written;
  price_checked = price_checked;
  large_read = large_read;
  large_costed = large_costed;
  large_fitted = large_fitted;
  large_scheme_read = large_scheme_read;
  large_product = large_product;
  paired_read = paired_read;
  whole_built = whole_built;
  w8 = Certificate.w8;
  w9 = λ lent supplier tally k l e. counted lent supplier tally k l e;
  w9_limit = λ lent supplier tally k l e. counted_last lent supplier tally k l e;
  w9_unknown = unknown;
  w9_lines = jobs;
  w9_supplier_lines = supplier_jobs;
}
