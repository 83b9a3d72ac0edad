-- What each kind of multiplier command asks, as the code has it: by the sets that it keeps.
use mathlib.Core.Path.{◌≡◌, refl, ap, ap₂}
use mathlib.Core.Bool.{Bool, true, false, ◌&&◌}
use mathlib.Core.Logic.{inl, inr}
use mathlib.Core.List.{List, [], ◌∷◌}
use Prim.Native.Nat.{ℕ, ◌≤◌}
use native.Mathlib.Omega.{arith}
use lib.Bits.{bit_or}
use lib.Dec.{eqb, ltb, leb}
use lib.IntN.{pos, neg_ℤ}
use lib.ListN.{get_or}
use borrow.Author.Tests.{ltb-true, ne_eqb}
use Rattle.integers.specs.Lists.{all_below}
use Rattle.integers.proofs.Lists.{and_both, ◌▹◌}
use Rattle.wire.specs.Checks.{refusal}
use Rattle.sets.specs.Sets.{is_proper_subset}
use Rattle.register.specs.declared.Register.{Register}
use Rattle.scheme.specs.declared.Scheme.{Scheme}
use Rattle.scheme.specs.Scheme.{variables}
use Rattle.scheme.specs.Variables.{E}
use Rattle.scheme.specs.Sets.{SetsBelow}
use Rattle.certificate.specs.declared.Rule.{Rule as RuleTests}
use Rattle.certificate.specs.declared.Multiplier.{Multiplier as Named}
use Rattle.certificate.specs.Certificate.{Multiplier}
use Rattle.certificate.specs.Rules.{Rule, by_key, no_rule, rules, rule_of}
use Rattle.certificate.specs.Limits.{max_multiplier, max_row_multiplier}
use Rattle.certificate.specs.Format.{multiplier_checks}
use Rattle.certificate.specs.Answer.{IsMultiplier, named_of, rule_asked, TestsOf}
use Rattle.certificate.proofs.Ranges.{among_all, in_range}

abbrev pub null_tests : Bool → Bool → Bool → RuleTests
null_tests there ordered fits = record { least = neg_ℤ (pos max_multiplier); most = pos max_multiplier; there = there; ordered = ordered; fits = fits }

abbrev pub row_tests : Bool → RuleTests
row_tests there = record { least = neg_ℤ (pos max_row_multiplier); most = pos max_row_multiplier; there = there; ordered = true; fits = true }

abbrev pub subtracted_tests : Bool → RuleTests
subtracted_tests there = record { least = pos 0; most = pos max_multiplier; there = there; ordered = true; fits = true }

-- the checks of a multiplier command as the code reads it
pub own_named : (multipliers : ℕ) (reg : Register) (sch : Scheme) (t : Named) (u : Multiplier) → t ≡ named_of u → refusal (multiplier_checks multipliers (rule_asked reg sch t) t.m) ≡ refusal (multiplier_checks multipliers (rule_of reg sch u) u.m)
unfolding rule_asked rule_of
own_named multipliers reg sch t u e = ap (λ x. refusal (multiplier_checks multipliers (rule_asked reg sch x) x.m)) e

-- a rule has its own tests, and where whether the sets fit is found in another way, these
as_found : (rule : Rule) (fits : Bool) → (rule.there ≡ true → rule.fits ≡ fits) →
    TestsOf rule (record { least = rule.least; most = rule.most; there = rule.there; ordered = rule.ordered; fits = fits })
as_found rule fits h = record { least_is = refl; most_is = refl; there_is = refl; ordered_is = refl; fits_is = h }

as_is : (rule : Rule) → TestsOf rule (record { least = rule.least; most = rule.most; there = rule.there; ordered = rule.ordered; fits = rule.fits })
as_is rule = as_found rule rule.fits (λ t. refl)

module _ (reg : Register) (sch : Scheme) (sets : List ℕ) (i j k l : ℕ) where
  abbrev n : ℕ
  n = reg.choices

  -- the rule of a kind
  abbrev pub asked : ℕ → Rule
  asked kind = by_key no_rule kind (rules reg sch i j k l)

  pub no_rule_lem : (kind : ℕ) → (IsMultiplier kind → ⊥) → TestsOf (asked kind) (null_tests false false false)
  unfolding by_key
  no_rule_lem kind h =
      let other : (b : ℕ) → 0x31 ≤ b → b ≤ 0x39 → eqb kind b ≡ false = λ b p q. ne_eqb kind b (λ e. h (inl (omega arith, omega arith))) in
      rw (other 0x31 (omega arith) (omega arith), other 0x32 (omega arith) (omega arith), other 0x33 (omega arith) (omega arith), other 0x34 (omega arith) (omega arith), other 0x35 (omega arith) (omega arith), other 0x36 (omega arith) (omega arith), other 0x37 (omega arith) (omega arith), other 0x38 (omega arith) (omega arith), other 0x39 (omega arith) (omega arith), ne_eqb kind 0x3B (λ e. h (inr e)))
      (as_is no_rule)

  module _ (h : SetsBelow n sch (variables n sch) sets) where
    abbrev there : ℕ → Bool
    there v = ltb v (variables n sch)

    -- the set of a variable that is there
    set_is : (v : ℕ) → there v ≡ true → E n sch v ≡ get_or sets v 0
    set_is v t = rw (h.below v (ltb-true v _ t))

    pub tests_31 : TestsOf (asked 0x31) (null_tests (there i) true true)
    unfolding by_key
    tests_31 = as_is _

    pub tests_32 : TestsOf (asked 0x32) (null_tests (there i && there j) true (is_proper_subset (get_or sets j 0) (get_or sets i 0)))
    unfolding by_key
    tests_32 = as_found _ _ (λ t. let (p, q) = and_both (there i) (there j) t in ap₂ is_proper_subset (set_is j q) (set_is i p))

    pub tests_33 : TestsOf (asked 0x33) (null_tests (there i && there j && there k) (ltb j k) (eqb (get_or sets i 0) (bit_or (get_or sets j 0) (get_or sets k 0))))
    unfolding by_key
    tests_33 = as_found _ _ (λ t.
        let (pq, r) = and_both (there i && there j) (there k) t in
        let (p, q) = and_both (there i) (there j) pq in
        ap₂ eqb (set_is i p) (ap₂ bit_or (set_is j q) (set_is k r)))

    pub tests_34 : TestsOf (asked 0x34) (null_tests (there i && there j && there k && there l) (ltb i j && ltb k l) (eqb (bit_or (get_or sets i 0) (get_or sets j 0)) (bit_or (get_or sets k 0) (get_or sets l 0))))
    unfolding by_key
    tests_34 = as_found _ _ (λ t.
        let (pqr, s) = and_both (there i && there j && there k) (there l) t in
        let (pq, r) = and_both (there i && there j) (there k) pqr in
        let (p, q) = and_both (there i) (there j) pq in
        ap₂ eqb (ap₂ bit_or (set_is i p) (set_is j q)) (ap₂ bit_or (set_is k r) (set_is l s)))

  -- `35` to `37` name a product, `38` and `39` a variable

  pub tests_product : (kind : ℕ) → 0x35 ≤ kind → kind ≤ 0x37 → TestsOf (asked kind) (subtracted_tests (leb n i && ltb i (variables n sch)))
  unfolding by_key all_below
  tests_product kind p q =
      among_all (λ kind. TestsOf (asked kind) (subtracted_tests (leb n i && ltb i (variables n sch)))) (0x35 ∷ 0x36 ∷ 0x37 ∷ [])
      (as_is _ ▹ as_is _ ▹ as_is _ ▹ tt)
      kind (in_range 0x35 3 (0x35 ∷ 0x36 ∷ 0x37 ∷ []) tt kind p (omega arith))

  pub tests_variable : (kind : ℕ) → 0x38 ≤ kind → kind ≤ 0x39 → TestsOf (asked kind) (subtracted_tests (ltb i (variables n sch)))
  unfolding by_key all_below
  tests_variable kind p q =
      among_all (λ kind. TestsOf (asked kind) (subtracted_tests (ltb i (variables n sch)))) (0x38 ∷ 0x39 ∷ [])
      (as_is _ ▹ as_is _ ▹ tt)
      kind (in_range 0x38 2 (0x38 ∷ 0x39 ∷ []) tt kind p (omega arith))

  -- `3B` names a row and a variable
  pub tests_row : TestsOf (asked 0x3B) (row_tests (ltb i reg.rows && ltb j (variables reg.choices sch)))
  unfolding by_key
  tests_row = as_is _
