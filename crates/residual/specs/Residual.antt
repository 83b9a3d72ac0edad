-- The reformulated function, B, R, and the second-order part. c t is the coefficient of term t.
use Rattle.std.specs.Prelude.{ℕ, cond, ℤ, pos, neg_ℤ, ◌-ℤ◌, ◌*ℤ◌, get_or}
use mathlib.Core.List.{List, [], ◌∷◌, ◌++◌, flat_map}
use Rattle.integers.specs.Sum.{sum_over}
use Rattle.integers.specs.Quadratic.{quadratic}
use Rattle.forms.specs.Form.{Form, mono, place, times, entry}
use Rattle.register.specs.declared.Register.{Register}
use Rattle.scheme.specs.declared.Scheme.{Scheme}
use Rattle.scheme.specs.Scheme.{variables}
use Rattle.scheme.specs.Function.{g}
use Rattle.certificate.specs.Certificate.{Multiplier, Square, Certificate}
use Rattle.certificate.specs.Rules.{minus1, rule_of}

-- a multiplier command's null form, a row's form among them, m times, or its subtracted form m times

unfoldable pub null_part : Register → Scheme → Multiplier → Form
null_part reg sch t = let rule = rule_of reg sch t in cond rule.null (times t.m rule.form) []

unfoldable pub subtracted_part : Register → Scheme → Multiplier → Form
subtracted_part reg sch t = let rule = rule_of reg sch t in cond rule.null [] (times t.m rule.form)

-- those of all commands; repeats add up

unfoldable pub null_forms : Register → Scheme → List Multiplier → Form
null_forms reg sch ts = flat_map (null_part reg sch) ts

unfoldable pub subtracted_forms : Register → Scheme → List Multiplier → Form
subtracted_forms reg sch ts = flat_map (subtracted_part reg sch) ts

-- the reformulated function (the paper's own term): s·g with its null forms, the rows' among them
unfoldable pub reformulated : (ℕ → ℤ) → Register → Scheme → Certificate → Form
reformulated c reg sch cert = times (pos cert.scale) (g c reg sch) ++ null_forms reg sch cert.multipliers

-- s·g + null forms − subtracted forms − T
unfoldable pub shifted : (ℕ → ℤ) → Register → Scheme → Certificate → Form
shifted c reg sch cert =
    reformulated c reg sch cert
    ++ (times minus1 (subtracted_forms reg sch cert.multipliers) ++ (mono 0 0 (neg_ℤ cert.target) ∷ []))

-- B is the table of that
abbrev pub B : (ℕ → ℤ) → Register → Scheme → Certificate → ℕ → ℕ → ℤ
B c reg sch cert i j = entry (shifted c reg sch cert) i j

-- w·v_i·v_j
abbrev pub square_at : Square → ℕ → ℕ → ℤ
square_at q i j = pos q.w *ℤ get_or q.v i (pos 0) *ℤ get_or q.v j (pos 0)

-- R: B less every square's w·v_i·v_j
unfoldable pub R : (ℕ → ℤ) → Register → Scheme → Certificate → ℕ → ℕ → ℤ
R c reg sch cert i j = B c reg sch cert i j -ℤ sum_over cert.squares (λ q. square_at q i j)

-- the second-order part (the paper's own term) of the reformulated function at x: the quadratic form of B without row and column 0
unfoldable pub second_order : (ℕ → ℤ) → Register → Scheme → Certificate → (ℕ → ℤ) → ℤ
second_order c reg sch cert x = quadratic (variables reg.choices sch) (λ i j. B c reg sch cert (place i) (place j)) x
