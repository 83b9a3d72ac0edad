-- What the call answers for a register that is read, and what an answer of no refusal says.
use mathlib.Core.Path.{◌≡◌, refl, sym, ◌∙◌, ap}
use mathlib.Core.List.{List}
use mathlib.Core.Bool.{true, false}
use mathlib.Core.Logic.{◌↔◌}
use Prim.Native.Nat.{ℕ, ◌^◌, ◌≤◌, ◌<◌}
use native.Mathlib.Omega.{arith}
use native.Mathlib.Decide.{dec_lt}
use lib.ListN.{length}
use borrow.Author.Tests.{lt-ltb, le-ltb}
use Rattle.integers.proofs.Lists.{flag}
use Rattle.wire.specs.Part.{Reading, refused, accepted}
use Rattle.wire.specs.Rows.{Progress}
use Rattle.wire.proofs.Part.{NumberedReading, read_part_numbered, by_itself_numbered}
use Rattle.wire.proofs.Accepting.{reached}
use Rattle.register.specs.declared.Register.{Register}
use Rattle.register.specs.Register.{coefficient}
use Rattle.register.specs.Format.{register_part, register_in_job, register_by_itself}
use Rattle.register.specs.Answer.{register_answer}
use Rattle.register.proofs.Opened.{Opened, opened_by}
use Rattle.plan.specs.Fits.{fits}
use Rattle.search.specs.Walk.{Best}
use Rattle.search.specs.Answer.{search, refused_search, accepted_search, search_answer}
use Rattle.search.proofs.Least.{NoneFits}
use Rattle.search.proofs.Cheapest.{found_none}

module _ (s : List ℕ) (reg : Register) (e : register_by_itself s ≡ accepted (reached 0x1F reg) (length s)) (limit : ℕ) where
  abbrev w : Best
  w = search (coefficient reg) reg

  pub within_limit : w.visits ≤ limit → w.met ≡ true → search_answer s limit ≡ accepted_search w
  unfolding search_answer
  within_limit l m = rw (e, le-ltb limit w.visits l, m)

  pub none_fits : w.visits ≤ limit → w.met ≡ false → search_answer s limit ≡ refused_search 16 0 0
  unfolding search_answer
  none_fits l m = rw (e, le-ltb limit w.visits l, m)

  pub past_limit : limit < w.visits → search_answer s limit ≡ refused_search 14 0 0
  unfolding search_answer
  past_limit l = rw (e, lt-ltb limit w.visits l)

  -- 14 just where the visits pass the limit
  pub limit_iff : (search_answer s limit ≡ refused_search 14 0 0) ↔ (limit < w.visits)
  limit_iff = (by (dec_lt limit w.visits), past_limit)
    where
      by : Dec (limit < w.visits) → search_answer s limit ≡ refused_search 14 0 0 → limit < w.visits
      by (yes l) a = l
      by (no l) a = flag w.met
          (λ m. let n : ◌≡◌ {A = ℕ} 0 14 = sym (ap (λ a. a.number) (within_limit (omega arith) m)) ∙ ap (λ a. a.number) a in absurd (omega arith))
          (λ m. let n : ◌≡◌ {A = ℕ} 16 14 = sym (ap (λ a. a.number) (none_fits (omega arith) m)) ∙ ap (λ a. a.number) a in absurd (omega arith))

  -- 16 just where no plan fits and the visits are within the limit
  pub none_iff : (search_answer s limit ≡ refused_search 16 0 0) ↔ (NoneFits (fits reg) (2 ^ reg.choices) × (w.visits ≤ limit))
  none_iff = (by (dec_lt limit w.visits), λ h. none_fits h.1 ((found_none (coefficient reg) reg).1 h.0))
    where
      by : Dec (limit < w.visits) → search_answer s limit ≡ refused_search 16 0 0 → NoneFits (fits reg) (2 ^ reg.choices) × (w.visits ≤ limit)
      by (yes l) a = let n : ◌≡◌ {A = ℕ} 14 16 = sym (ap (λ a. a.number) (past_limit l)) ∙ ap (λ a. a.number) a in absurd (omega arith)
      by (no l) a = flag w.met
          (λ m. let n : ◌≡◌ {A = ℕ} 0 16 = sym (ap (λ a. a.number) (within_limit (omega arith) m)) ∙ ap (λ a. a.number) a in absurd (omega arith))
          (λ m. ((found_none (coefficient reg) reg).0 m, omega arith))

-- an answer of no refusal: the register is read, the visits are within the limit, and a plan that fits is met
pub record Searched (s : List ℕ) (limit : ℕ) (reg : Register) : Type 0 where
  pub first : Opened s reg
  pub within : (search (coefficient reg) reg).visits ≤ limit
  pub met : (search (coefficient reg) reg).met ≡ true
  pub answers : search_answer s limit ≡ accepted_search (search (coefficient reg) reg)

register_refused : (s : List ℕ) (limit : ℕ) {n at : ℕ} → register_by_itself s ≡ refused n at → search_answer s limit ≡ refused_search n 1 at
unfolding search_answer
register_refused s limit e = rw e

register_numbered : (s : List ℕ) → NumberedReading (register_by_itself s)
unfolding register_by_itself register_in_job
register_numbered s = by_itself_numbered s (register_in_job s) (read_part_numbered register_part s)

-- it is the register that the register's call answers
pub searched : (s : List ℕ) (limit : ℕ) → (search_answer s limit).number ≡ 0 → Searched s limit (register_answer (register_by_itself s)).register
searched s limit z = by (register_by_itself s) refl (register_numbered s)
  where
    go : (reg : Register) → Opened s reg → Dec (limit < (search (coefficient reg) reg).visits) → Searched s limit reg
    go reg o (yes l) = let n : ◌≡◌ {A = ℕ} 14 0 = sym (ap (λ a. a.number) (past_limit s reg o.reads limit l)) ∙ z in absurd (omega arith)
    go reg o (no l) = flag (search (coefficient reg) reg).met
        (λ m. record { first = o; within = omega arith; met = m; answers = within_limit s reg o.reads limit (omega arith) m })
        (λ m. let n : ◌≡◌ {A = ℕ} 16 0 = sym (ap (λ a. a.number) (none_fits s reg o.reads limit (omega arith) m)) ∙ z in absurd (omega arith))

    by : (x : Reading (Progress Register)) → register_by_itself s ≡ x → NumberedReading x → Searched s limit (register_answer x).register
    by (refused n at) e d = absurd (d (sym (ap (λ a. a.number) (register_refused s limit e)) ∙ z))
    by (accepted p end) e d = go p.parsed (opened_by s p.parsed (rw e)) (dec_lt limit _)
