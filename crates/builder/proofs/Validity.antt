-- What is built of a valid register is a valid scheme; and where building stops.
use mathlib.Core.Path.{◌≡◌, refl, sym, ◌∙◌, ap}
use mathlib.Core.List.{List, [], ◌∷◌}
use Prim.Native.Nat.{ℕ, zero, suc, ◌+◌, min, max, ◌≤◌, ◌<◌}
use native.Mathlib.Nat.{zero-add, add-zero}
use native.Mathlib.Omega.{arith}
use lib.Bits.{or_comm}
use lib.ListN.{length}
use Rattle.wire.specs.Walk.{Stands}
use Rattle.register.specs.declared.Register.{Register}
use Rattle.register.specs.Register.{mask}
use Rattle.register.specs.Format.{register_part}
use Rattle.register.specs.Encoding.{term_kind, Encodes}
use Rattle.register.specs.Position.{term_position}
use Rattle.register.specs.Valid as R
use Rattle.register.proofs.Position.{term_stands}
use Rattle.scheme.specs.declared.Scheme.{Scheme}
use Rattle.scheme.specs.Scheme.{fresh, initial}
use Rattle.scheme.specs.Variables.{E}
use Rattle.scheme.specs.Format.{union_of}
use Rattle.scheme.specs.Encoding.{encode_scheme}
use Rattle.scheme.specs.Valid.{Within, Valid}
use Rattle.scheme.proofs.Entries.{initial_within, split_more}
use Rattle.wire.specs.Part.{total}
use Rattle.scheme.proofs.Prefix.{scheme_longest}
use Rattle.scheme.proofs.Encoding.{encode_within}
use Rattle.builder.specs.Builder.{Step, full, next, stopped, built, follow, choices_of, reduce, split_of, build_term, build_from, build}
use Rattle.builder.specs.Answer.{built_room}
use Rattle.builder.proofs.Steps.{and_then_next, same_next, reduce_kept, reduce_ends}
use Rattle.builder.proofs.Joining.{sorted}
use Rattle.builder.proofs.Covers.{choices_some}
use Rattle.builder.proofs.Unions.{choices_hold, union_one, union_two}
use Rattle.builder.proofs.Holds.{Holding, holding_joins}

-- ---- the split of a term

-- the terms below t have their splits
pub record SplitTo (reg : Register) (t : ℕ) (sch : Scheme) : Type 0 where
  pub within : Within reg sch
  pub splits_are : sch.splits ≡ t

module _ (reg : Register) (valid : R.Valid reg) where
  abbrev n : ℕ
  n = reg.choices

  split_holds : (t : ℕ) (sch : Scheme) (l : List ℕ) → t < reg.terms → 1 ≤ length l → length l ≤ 2 → Holding reg (mask reg t) t sch l → SplitTo reg (suc t) (split_of sch l)
  unfolding split_of
  split_holds t sch [] lt some few h = absurd (omega arith)
  split_holds t sch (a ∷ []) lt some few h = record {
    within =
        split_more sch a a reg h.within valid.within.terms.few
        (record { few = omega (arith, h.splits_kept); fits = record { ordered = omega arith; there = h.holds.inside.0; fits = union_one a h.holds ∙ ap (mask reg) (sym h.splits_kept) } });
    splits_are = ap suc h.splits_kept;
  }
  split_holds t sch (a ∷ b ∷ []) lt some few h = record {
    within =
        split_more sch (min a b) (max a b) reg h.within valid.within.terms.few
        (record {
          few = omega (arith, h.splits_kept);
          fits = record {
            ordered = omega arith;
            there = omega (arith, h.holds.inside.0, h.holds.inside.1.0);
            fits = sorted (union_of n sch) (λ x y. or_comm (E n sch x) (E n sch y)) a b ∙ union_two a b h.holds ∙ ap (mask reg) (sym h.splits_kept);
          };
        });
    splits_are = ap suc h.splits_kept;
  }
  split_holds t sch (a ∷ b ∷ c ∷ l) lt some few h = absurd (omega arith)

  pub term_split : (t : ℕ) (sch sch' : Scheme) → t < reg.terms → SplitTo reg t sch → build_term n sch (mask reg t) ≡ next sch' → SplitTo reg (suc t) sch'
  unfolding build_term
  term_split t sch sch' lt s e =
      let term = valid.within.terms.each t lt in
      let l = choices_of n (mask reg t) in
      and_then_next (reduce (length l) n sch l) _ sch'
      (λ q d f.
      let h = reduce_kept n (Holding reg (mask reg t) t) (holding_joins reg (mask reg t) t) (length l) sch l q
      (record { within = s.within; holds = choices_hold n (mask reg t) sch term.mask_names; splits_kept = s.splits_are }) d in
      let k = reduce_ends n (length l) sch l q (choices_some n (mask reg t) term.mask_not_0 term.mask_names) (omega arith) d in
      let g : split_of q.scheme q.members ≡ sch' = same_next f in
      rw (← g) (split_holds t q.scheme q.members lt k.0 k.1 h))
      e

  -- ---- all terms

  built_from : (k t : ℕ) (sch sch' : Scheme) → t + k ≤ reg.terms → SplitTo reg t sch → build_from reg k t sch ≡ built sch' → SplitTo reg (t + k) sch'
  unfolding build_from follow
  built_from zero t sch sch' d s e = let q : sch ≡ sch' = cc in rw (← q, add-zero) s
  built_from (suc k) t sch sch' d s e = go (build_term n sch (mask reg t)) refl (built_from k (suc t))
    where
      go : (x : Step Scheme) → build_term n sch (mask reg t) ≡ x → ((sch sch' : Scheme) → suc t + k ≤ reg.terms → SplitTo reg (suc t) sch → build_from reg k (suc t) sch ≡ built sch' → SplitTo reg (suc t + k) sch') → SplitTo reg (t + suc k) sch'
      go full q ih = let d = rw q at e in let z : ◌≡◌ {A = ℕ} 0 1 = cc in absurd (omega arith)
      go (next s₁) q ih = let u : t + suc k ≡ suc t + k = omega arith in rw u (ih s₁ sch' (omega arith) (term_split t sch s₁ (omega arith) s q) (rw q at e))

  -- a scheme that is built is valid
  pub build_valid : (sch : Scheme) → build reg ≡ built sch → Valid reg sch
  unfolding build fresh
  build_valid sch e =
      let s = built_from reg.terms 0 initial sch (omega arith) (record { within = initial_within reg valid.within.choices.few; splits_are = refl }) e in
      record { within = s.within; all_split = s.splits_are ∙ zero-add reg.terms }

  -- and short
  pub build_size : (sch : Scheme) → build reg ≡ built sch → length (encode_scheme n sch) ≤ built_room
  unfolding scheme_longest total
  build_size sch e = omega (arith, encode_within reg valid sch (build_valid sch e))

-- ---- building stops at a term of the register

stopped_from : (reg : Register) (k t u : ℕ) (sch : Scheme) → build_from reg k t sch ≡ stopped u → u < t + k
unfolding build_from follow
stopped_from reg zero t u sch e = let z : ◌≡◌ {A = ℕ} 0 1 = cc in absurd (omega arith)
stopped_from reg (suc k) t u sch e = go (build_term reg.choices sch (mask reg t)) refl (stopped_from reg k (suc t) u)
  where
    go : (x : Step Scheme) → build_term reg.choices sch (mask reg t) ≡ x → ((sch : Scheme) → build_from reg k (suc t) sch ≡ stopped u → u < suc t + k) → u < t + suc k
    go full q ih = let d = rw q at e in let z : t ≡ u = cc in omega arith
    go (next s) q ih = omega (arith, ih s (rw q at e))

pub build_stopped : (reg : Register) (t : ℕ) → build reg ≡ stopped t → t < reg.terms
unfolding build
build_stopped reg t e = omega (arith, stopped_from reg reg.terms 0 t initial e)

-- and a form of it stands where 10 has its position, whichever encoding of the register the bytes are
pub stopped_stands : (reg : Register) → R.Valid reg → (s : List ℕ) (e : Encodes reg s) (t : ℕ) → build reg ≡ stopped t → Stands register_part term_kind reg t e.commands (term_position s t)
stopped_stands reg valid s e t q = term_stands reg valid s e t (build_stopped reg t q)
