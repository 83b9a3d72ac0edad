-- An accepted register has a range just where its bytes say one.
use Prim.Native.Nat.{ℕ, suc, ◌-◌, ◌<◌}
use native.Mathlib.Omega.{arith}
use mathlib.Core.Path.{◌≡◌, sym, ◌∙◌, ap}
use mathlib.Core.Logic.{◌↔◌}
use mathlib.Core.Bool.{Bool, true, false, true≢false, false≢true}
use mathlib.Core.List.{List}
use lib.ListN.{length, get_or, set, length-replicate}
use lib.Seq.{get_or-set_same}
use Rattle.integers.specs.Lists.{any_below}
use Rattle.integers.proofs.Lists.{◌▹◌}
use Rattle.integers.proofs.Any.{any_found, any_at}
use Rattle.integers.proofs.Entries.{kept_set, replicate_rest}
use Rattle.wire.specs.Part.{accepted}
use Rattle.wire.specs.Rows.{Progress, is_among, row_of}
use Rattle.wire.proofs.Part.{Passes}
use Rattle.register.specs.declared.Register.{Register}
use Rattle.register.specs.Limits.{max_terms}
use Rattle.register.specs.Register.{is_range, has_range}
use Rattle.register.specs.Format.{register_part, register_in_job, register_by_itself}
use Rattle.register.specs.BeforeRanges.{rows_before_ranges}
use Rattle.register.specs.Encoding.{range_may_stand, SaysRange}
use Rattle.register.proofs.Passes.{range_iff}
use Rattle.register.proofs.Entries.{term_at}
use Rattle.register.proofs.Said.{New}
use Rattle.register.proofs.Said as S
use Rattle.register.proofs.BeforeRanges.{Unranged, Reach, starts, agree}

abbrev Ranged : Register → Type 0
Ranged r = has_range r ≡ true

none_ranged : (r : Register) → Unranged r → Ranged r → ⊥
none_ranged r (_, none) t =
    let w = any_found r.terms (is_range r) t in
    false≢true (sym (replicate_rest max_terms w.index false) ∙ ap (λ l. get_or l w.index false) (sym none) ∙ w.passes)

-- with one term more, with a range or without
abbrev with_more : Register → Bool → Bool
with_more r ranged = any_below (suc r.terms) (λ t. get_or (set r.ranged r.terms ranged) t false)

now_ranged : (r : Register) → Unranged r → r.terms < max_terms → with_more r true ≡ true
now_ranged r (_, none) few =
    any_at (suc r.terms) (λ t. get_or (set r.ranged r.terms true) t false) r.terms (omega arith) (get_or-set_same r.ranged r.terms true false (omega (arith, ap length none, length-replicate max_terms false)))

-- it takes no range away
still_ranged : (r : Register) (ranged : Bool) → Ranged r → with_more r ranged ≡ true
still_ranged r ranged t =
    let w = any_found r.terms (is_range r) t in
    any_at (suc r.terms) (λ t. get_or (set r.ranged r.terms ranged) t false) w.index (omega (arith, w.below)) (kept_set r.ranged r.terms ranged false w.index w.below ∙ w.passes)

other : (s : List ℕ) (read : Progress Register) (at : ℕ) → Reach read at → Passes register_part s read at → is_among read.previous (row_of rows_before_ranges (get_or s at 0)).follows ≡ false
    → (get_or s at 0 ≡ 0x16 → range_may_stand read ≡ false) → ⊥
other s read at r g f d = true≢false (sym g.here ∙ (agree read at (get_or s at 0) r d).here ∙ f)

new_range : New rows_before_ranges 0x16 range_may_stand Ranged Reach
unfolding row_of
new_range = record {
  starts = starts;
  none = λ read at r t. none_ranged read.parsed r.none t;
  agree = λ read at c r h d. agree read at c r d;
  other = λ s read at r g f d. absurd (other s read at r g f d);
  some = λ read at c xs r e m q. rw e (now_ranged read.parsed r.none ((range_iff _ _ (term_at read.parsed (read.parsed.terms - 1)) _ _ _).0 (rw e at q)).few);
  kept = (λ r xs t. t) ▹ (λ r xs t. t) ▹ (λ r xs. still_ranged r false) ▹ (λ r xs t. t) ▹ (λ r xs t. t) ▹ (λ r xs. still_ranged r false) ▹ (λ r xs. still_ranged r true) ▹ (λ r xs t. t) ▹ (λ r xs t. t) ▹ tt;
}

module _ (s : List ℕ) (p : Progress Register) (end : ℕ) where
  pub said_in_job : register_in_job s ≡ accepted p end → SaysRange s ↔ (has_range p.parsed ≡ true)
  said_in_job = S.said_in_job rows_before_ranges 0x16 range_may_stand Ranged Reach new_range s p end

  pub said_by_itself : register_by_itself s ≡ accepted p end → SaysRange s ↔ (has_range p.parsed ≡ true)
  said_by_itself = S.said_by_itself rows_before_ranges 0x16 range_may_stand Ranged Reach new_range s p end
