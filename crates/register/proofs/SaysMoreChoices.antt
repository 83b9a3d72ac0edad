-- An accepted register has more than 32 choices just where its bytes say one, whether they say a `15` or not.
use Prim.Native.Nat.{ℕ, ◌<◌, ◌≤◌}
use native.Mathlib.Omega.{arith}
use native.Mathlib.Decide.{ℕ_discrete}
use mathlib.Core.Path.{◌≡◌, sym, ◌∙◌, ap}
use mathlib.Core.Logic.{inl, inr, ◌↔◌}
use mathlib.Core.Bool.{false, true≢false, false≢true}
use mathlib.Core.List.{List}
use lib.ListN.{get_or}
use borrow.Author.Tests.{leb-true}
use Rattle.integers.proofs.Lists.{◌▹◌, and_both}
use Rattle.wire.specs.Part.{accepted, read_from}
use Rattle.wire.specs.Rows.{Progress, is_among, row_of}
use Rattle.wire.proofs.Part.{Passes}
use Rattle.wire.proofs.Alike.{Alike}
use Rattle.register.specs.declared.Register.{Register}
use Rattle.register.specs.Format.{register_part, register_in_job, register_by_itself}
use Rattle.register.specs.BeforeWide.{part_without_wide, max_choices_before, rows_before_wide, part_before_wide}
use Rattle.register.specs.Encoding.{wide_may_stand, more_may_stand, SaysMoreChoices}
use Rattle.register.proofs.Said.{New, alike_through}
use Rattle.register.proofs.Said as S
use Rattle.register.proofs.SaysRow.{counts_from}
use Rattle.register.proofs.BeforeWide.{Unwide, starts_unwide, agree_unwide, FewChoices, starts_few, agree_few}

abbrev More : Register → Type 0
More r = max_choices_before < r.choices

-- neither a `15` nor a 33rd choice was read
abbrev Reach : Progress Register → ℕ → Type 0
Reach read at = Unwide read at × FewChoices read at

agree : (read : Progress Register) (at c : ℕ) → Reach read at → (c ≡ 0x15 → wide_may_stand read ≡ false) → (c ≡ 0x11 → more_may_stand read ≡ false) → Alike register_part part_before_wide Reach read at c
agree read at c (r, r') d d' = alike_through register_part part_without_wide part_before_wide Unwide FewChoices (agree_unwide read at c r d) (agree_few read at c r' d')

-- a `15` is no choice, and none follows it
other : (s : List ℕ) (read : Progress Register) (at : ℕ) → Reach read at → Passes register_part s read at → is_among read.previous (row_of rows_before_wide (get_or s at 0)).follows ≡ false
    → (get_or s at 0 ≡ 0x11 → more_may_stand read ≡ false) → (p : Progress Register) (end : ℕ) → read_from register_part s read at ≡ accepted p end → More p.parsed → ⊥
other s read at r g f d p end a more = go (ℕ_discrete (get_or s at 0) 0x15)
  where
    go : Dec (get_or s at 0 ≡ 0x15) → ⊥
    go (yes e) = omega (arith, more, ap (λ c. c.0) (counts_from s p end read at g (inr (inl e)) a), r.1)
    go (no d') = true≢false (sym g.here ∙ (agree read at (get_or s at 0) r (λ e. absurd (d' e)) d).here ∙ f)

new_more : New rows_before_wide 0x11 more_may_stand More Reach
unfolding row_of
new_more = record {
  starts = (starts_unwide, starts_few);
  none = λ read at r more. omega (arith, more, r.1);
  agree = λ read at c r h. agree read at c r (λ e. absurd (false≢true (rw e at h)));
  other = other;
  some = λ read at c xs r e m q. let l : max_choices_before ≤ read.parsed.choices = leb-true _ _ (and_both _ _ m).1 in rw e (omega (arith, l));
  kept = (λ r xs t. t) ▹ (λ r xs t. omega (arith, t)) ▹ (λ r xs t. t) ▹ (λ r xs t. t) ▹ (λ r xs t. t) ▹ (λ r xs t. t) ▹ (λ r xs t. t) ▹ (λ r xs t. t) ▹ (λ r xs t. t) ▹ tt;
}

module _ (s : List ℕ) (p : Progress Register) (end : ℕ) where
  pub said_in_job : register_in_job s ≡ accepted p end → SaysMoreChoices s ↔ (max_choices_before < p.parsed.choices)
  said_in_job = S.said_in_job rows_before_wide 0x11 more_may_stand More Reach new_more s p end

  pub said_by_itself : register_by_itself s ≡ accepted p end → SaysMoreChoices s ↔ (max_choices_before < p.parsed.choices)
  said_by_itself = S.said_by_itself rows_before_wide 0x11 more_may_stand More Reach new_more s p end
