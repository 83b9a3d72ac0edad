-- The encodings of parts 1, 2 and 4, byte by byte. Part 2 has one with `23`, and where the factor is 1 one without it too, as the builder
-- writes it. Part 1 has one for each choice of forms: the day's length, where it is the usual one, is said or not, and each term without a
-- range is said by `15` or, where its mask is narrow, by `12`. Part 4 has two where the plan is narrow, else one. In part 3 commands may
-- stand in any order, and its encodings are defined byte by byte.
use Rattle.std.specs.Prelude.{ℕ, ◌≤◌, ◌≡◌, ◌⊎◌, ◌↔◌, Bool, false, List, ◌++◌}
use Rattle.register.specs.declared.Register.{Register}
use Rattle.register.specs.Limits.{usual_day, narrow_choices}
use Rattle.register.specs.Valid as R
use Rattle.register.specs.Encoding.{Narrow, MasksNarrow, RangesNarrow, Sayable, EncodedBy, not_narrow, SaysLength, SaysWide}
use Rattle.register.specs.Encoding as RE
use Rattle.scheme.specs.declared.Scheme.{Scheme}
use Rattle.scheme.specs.Encoding as SE
use Rattle.plan.specs.Encoding.{BeginsWide}
use Rattle.plan.specs.Encoding as PE

pub record Written : Type 0 where
  -- by which of the terms are said by `15`
  pub of_register : (reg : Register) (register : List ℕ) → RE.Encodes reg register ↔ ((wide : ℕ → Bool) × Sayable wide reg × EncodedBy wide reg register)
  -- the writer's is one of them, where the ranges name choices 0 to 31 only; a register has no encoding where one names another choice
  pub by_writer : (reg : Register) → RangesNarrow reg → RE.Encodes reg (RE.encode_register reg)
  pub ranges_narrow : (reg : Register) (register : List ℕ) → RE.Encodes reg register → RangesNarrow reg
  -- in a valid register with at most 32 choices every mask is narrow, so the writer's bytes are an encoding
  pub masks_narrow : (reg : Register) → R.Valid reg → reg.choices ≤ narrow_choices → MasksNarrow reg
  pub ranges_of_masks : (reg : Register) → MasksNarrow reg → RangesNarrow reg
  -- where every mask is narrow, the bytes with each term by `12` or `16` are an encoding
  pub by_12 : (reg : Register) (register : List ℕ) → MasksNarrow reg → EncodedBy (λ t. false) reg register → RE.Encodes reg register
  -- and the writer's, with `18` or without it, say no `15`
  pub writer_says_none : (reg : Register) (register : List ℕ) → R.Valid reg → MasksNarrow reg → EncodedBy (not_narrow reg) reg register → SaysWide register → ⊥
  -- where the bytes say no `15`, it is with `18`, or, where the length is the usual one, without it, as it was before there was `15`
  pub without_wide : (reg : Register) (register : List ℕ) → R.Valid reg → (SaysWide register → ⊥) →
      RE.Encodes reg register ↔ (MasksNarrow reg × ((register ≡ RE.encode_with_length reg) ⊎ ((reg.day_length ≡ usual_day) × (register ≡ RE.encode_without_length reg))))
  -- and where they say no length either, it is the writer's, as it was before there were day lengths
  pub without_length : (reg : Register) (register : List ℕ) → R.Valid reg → (SaysWide register → ⊥) → (SaysLength register → ⊥) →
      RE.Encodes reg register ↔ (MasksNarrow reg × (reg.day_length ≡ usual_day) × (register ≡ RE.encode_register reg))
  pub of_scheme : (reg : Register) (sch : Scheme) (scheme : List ℕ) → SE.Encodes reg sch scheme ↔ SE.EncodedBy reg.choices sch scheme
  -- bytes that do not begin with `23`, as before there was one
  pub without_factor : (reg : Register) (sch : Scheme) (scheme : List ℕ) → (SE.SaysFactor scheme → ⊥) → SE.Encodes reg sch scheme ↔ ((sch.factor ≡ 1) × (scheme ≡ SE.encode_scheme reg.choices sch))
  -- and those that do
  pub with_factor : (reg : Register) (sch : Scheme) (scheme : List ℕ) → SE.SaysFactor scheme → SE.Encodes reg sch scheme ↔ (scheme ≡ SE.encode_factor sch.factor ++ SE.encode_scheme reg.choices sch)
  pub of_plan : (reg : Register) (fed : ℕ) (plan : List ℕ) → PE.Encodes reg fed plan ↔ ((Narrow fed × (plan ≡ PE.encode_narrow_plan fed)) ⊎ (plan ≡ PE.encode_wide_plan fed))
  pub plan_by_writer : (reg : Register) (fed : ℕ) → PE.Encodes reg fed (PE.encode_plan fed)
  -- bytes that do not begin with `41`, as before there was one
  pub narrow_plan : (reg : Register) (fed : ℕ) (plan : List ℕ) → (BeginsWide plan → ⊥) → PE.Encodes reg fed plan ↔ (Narrow fed × (plan ≡ PE.encode_narrow_plan fed))
