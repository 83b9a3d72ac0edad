-- Multiplier commands that meet the paper's conditions pass every check.
use Prim.Native.Nat.{ℕ, suc, ◌≤◌, ◌<◌}
use native.Mathlib.Omega.{arith}
use native.Mathlib.Decide.{ℕ_discrete}
use mathlib.Core.Path.{◌≡◌}
use mathlib.Core.Logic.{◌↔◌}
use mathlib.Core.Bool.{Bool, false, not, ◌&&◌}
use lib.Dec.{T, ltb, leb, ltb→lt}
use lib.IntN.{ℤ}
use lib.ListN.{length, get_or}
use lib.Signed.{◌≤ℤ◌, lt_z}
use borrow.Author.Tests.{lt-leb}
use Rattle.integers.proofs.Lists.{T_and, T_true, flag, ◌▹◌}
use Rattle.integers.proofs.Parts.{orders}
use Rattle.integers.proofs.Machine.{lt_z-true}
use Rattle.wire.specs.Checks.{refusal}
use Rattle.wire.proofs.Checks.{none_refusal}
use Rattle.register.specs.declared.Register.{Register}
use Rattle.scheme.specs.declared.Scheme.{Scheme}
use Rattle.scheme.specs.Scheme.{variables}
use Rattle.certificate.specs.Limits.{max_multipliers}
use Rattle.certificate.specs.Certificate.{Multiplier}
use Rattle.certificate.specs.Rules.{arity, by_key, rules, no_rule, rule_of}
use Rattle.certificate.specs.Format.{multiplier_checks, multiplier_kinds}
use Rattle.certificate.specs.Answer.{IsMultiplier}
use Rattle.certificate.specs.Within.{Allowed}
use Rattle.certificate.proofs.Passes.{multiplier_passes}
use Rattle.certificate.proofs.Conditions.{allowed_iff, tested}
use Rattle.certificate.proofs.Ranges.{among_all, is_multiplier}

-- ---- the numbers that a command names are those of variables that are there, of `3B` that of a row first: all below a limit of
-- both counts

module _ (f : ℕ → ℕ) (K : ℕ) where
  below_more : (k : ℕ) → ((i : ℕ) → i < k → f i < K) → f k < K → (i : ℕ) → i < suc k → f i < K
  below_more k h l i b = by (ℕ_discrete i k)
    where
      by : Dec (i ≡ k) → f i < K
      by (yes e) = rw e l
      by (no d) = h i (omega arith)

  below_one : f 0 < K → (i : ℕ) → i < 1 → f i < K
  below_one = below_more 0 (λ i b. absurd (omega arith))

pub names_there : (reg : Register) (sch : Scheme) (K : ℕ) → variables reg.choices sch ≤ K → reg.rows ≤ K → (t : Multiplier) → Allowed reg sch t → (i : ℕ) → i < arity t.kind → get_or t.names i 0 < K
unfolding rule_of by_key arity
names_there reg sch K few rows t a = let h = tested reg sch t a in among_all There multiplier_kinds
    (one ▹ (λ h. let (x, y) = (T_and (v 0) (v 1)).0 h in two (low 0 x) (low 1 y))
    ▹ (λ h. let (u, z) = (T_and (v 0 && v 1) (v 2)).0 h in let (x, y) = (T_and (v 0) (v 1)).0 u in three x y z)
    ▹ (λ h. let (w, k) = (T_and (v 0 && v 1 && v 2) (v 3)).0 h in let (u, z) = (T_and (v 0 && v 1) (v 2)).0 w in let (x, y) = (T_and (v 0) (v 1)).0 u in below_more f K 3 (three x y z) (low 3 k))
    ▹ product ▹ product ▹ product ▹ one ▹ one
    ▹ (λ h. let (x, y) = (T_and (ltb (f 0) reg.rows) (v 1)).0 h in let l = ltb→lt (f 0) reg.rows x in two (omega arith) (low 1 y))
    ▹ tt)
    t.kind (is_multiplier t.kind h.kind) h.rule.there
  where
    f : ℕ → ℕ
    f i = get_or t.names i 0

    N : ℕ
    N = variables reg.choices sch

    v : ℕ → Bool
    v i = ltb (f i) N

    There : ℕ → Type 0
    There kind = T (by_key no_rule kind (rules reg sch (f 0) (f 1) (f 2) (f 3))).there → (i : ℕ) → i < arity kind → f i < K

    low : (i : ℕ) → T (v i) → f i < K
    low i h = let l = ltb→lt (f i) N h in omega arith

    one : T (v 0) → (i : ℕ) → i < 1 → f i < K
    one h = below_one f K (low 0 h)

    two : f 0 < K → f 1 < K → (i : ℕ) → i < 2 → f i < K
    two x y = below_more f K 1 (below_one f K x) y

    three : T (v 0) → T (v 1) → T (v 2) → (i : ℕ) → i < 3 → f i < K
    three x y z = below_more f K 2 (two (low 0 x) (low 1 y)) (low 2 z)

    product : T (leb reg.choices (f 0) && v 0) → (i : ℕ) → i < 1 → f i < K
    product h = one ((T_and (leb reg.choices (f 0)) (v 0)).0 h).1

-- ---- no check fails

-- a comparison that does not hold
not_less : (a b : ℤ) → b ≤ℤ a → lt_z a b ≡ false
not_less a b h = flag (lt_z a b) (λ t. let x = lt_z-true a b t in absurd (omega (arith, orders))) (λ t. t)

pub multiplier_checked : (multipliers : ℕ) (reg : Register) (sch : Scheme) (t : Multiplier) → multipliers < max_multipliers → Allowed reg sch t → refusal (multiplier_checks multipliers (rule_of reg sch t) t.m) ≡ 0
unfolding multiplier_checks
multiplier_checked multipliers reg sch t few a =
    let rule = rule_of reg sch t in
    let p = (tested reg sch t a).rule in
    none_refusal (multiplier_checks multipliers rule t.m) (
      lt-leb max_multipliers multipliers few,
      (
        rw (not_less t.m rule.least p.m_above, not_less rule.most t.m p.m_below),
        (passes rule.there p.there, (passes rule.ordered p.ordered, (passes rule.fits p.fits, tt))),
      ),
    )
  where
    passes : (b : Bool) → T b → not b ≡ false
    passes b h = rw ((T_true b).0 h)

-- so a multiplier command with the names of its kind passes just where it is allowed, while there is room for it
pub multiplier_iff : (multipliers : ℕ) (reg : Register) (sch : Scheme) (t : Multiplier) → multipliers < max_multipliers → IsMultiplier t.kind → length t.names ≡ arity t.kind →
    (refusal (multiplier_checks multipliers (rule_of reg sch t) t.m) ≡ 0) ↔ Allowed reg sch t
multiplier_iff multipliers reg sch t few x l = (
  (λ e. (allowed_iff reg sch t).1 (record { kind = x; names = l; rule = (multiplier_passes _ _ _ e).1 })),
  multiplier_checked multipliers reg sch t few,
)
