-- Bytes to be written into a lent buffer, by whether they fit it, and what a call that answers 0 hands back.
use Prim.Native.Nat.{ℕ, ◌≤◌, ◌<◌}
use native.Mathlib.Omega.{arith}
use mathlib.Core.Path.{◌≡◌, refl, sym, ◌∙◌, ap}
use mathlib.Core.Bool.{true, false}
use mathlib.Core.List.{List, ◌++◌}
use lib.Dec.{ltb}
use lib.ListN.{length, take, drop}
use lib.Seq.{take_at, drop_at}
use borrow.Author.Tests.{lt-ltb, le-ltb}
use Rattle.integers.proofs.Lists.{flag}
use Rattle.wire.specs.Number.{written}
use Rattle.wire.specs.declared.WriterAnswer.{WriterAnswer}
use Rattle.wire.specs.Writer.{refused_answer, written_answer, bytes_answer, with_front}
use Rattle.wire.proofs.Written.{written_front}

module _ (bytes lent : List ℕ) where
  pub bytes_short : length lent < length bytes → (refused_answer 11 0 0 ≡ bytes_answer bytes lent) × (lent ≡ with_front bytes lent)
  unfolding bytes_answer
  bytes_short l = let e = lt-ltb (length lent) (length bytes) l in (rw e, rw e)

  pub bytes_fit : length bytes ≤ length lent → (written_answer (length bytes) ≡ bytes_answer bytes lent) × (written lent 0 bytes ≡ with_front bytes lent)
  unfolding bytes_answer
  bytes_fit l = let e = le-ltb (length lent) (length bytes) l in (rw e, rw e (written_front lent bytes l))

  -- bytes past the count are as they were: all of them where the buffer is refused
  pub bytes_keep : drop (bytes_answer bytes lent).count (with_front bytes lent) ≡ drop (bytes_answer bytes lent).count lent
  unfolding bytes_answer
  bytes_keep = flag (ltb (length lent) (length bytes)) (λ e. rw e) (λ e. rw e (drop_at bytes (drop (length bytes) lent) (length bytes) refl))

-- the count is that of the bytes, the first of the buffer handed back are the bytes, and those past them are as they were
pub record HandedBack (bytes lent : List ℕ) (answer : WriterAnswer) (back : List ℕ) : Type 0 where
  pub answers : answer ≡ written_answer (length bytes)
  pub front : take answer.count back ≡ bytes
  pub rest : drop answer.count back ≡ drop answer.count lent

-- of a call that answers and hands back just this
module _ (bytes lent : List ℕ) (answer : WriterAnswer) (back : List ℕ) (a : answer ≡ bytes_answer bytes lent) (b : back ≡ with_front bytes lent) where
  -- where it answers 0
  pub bytes_back : answer.number ≡ 0 → HandedBack bytes lent answer back
  unfolding bytes_answer
  bytes_back z = flag (ltb (length lent) (length bytes)) short fits
    where
      short : ltb (length lent) (length bytes) ≡ true → HandedBack bytes lent answer back
      short e =
          let w : answer ≡ refused_answer 11 0 0 = a ∙ rw e in
          let n : ◌≡◌ {A = ℕ} 11 0 = ap (λ x. x.number) (sym w) ∙ z in
          absurd (omega arith)

      fits : ltb (length lent) (length bytes) ≡ false → HandedBack bytes lent answer back
      fits e =
          let w : answer ≡ written_answer (length bytes) = a ∙ rw e in
          let h : back ≡ bytes ++ drop (length bytes) lent = b ∙ rw e in
          record {
            answers = w;
            front = ap (λ x. take x.count back) w ∙ ap (take (length bytes)) h ∙ take_at bytes (drop (length bytes) lent) (length bytes) refl;
            rest = rw (a, b) (bytes_keep bytes lent);
          }

  -- it does where they fit
  pub bytes_enough : length bytes ≤ length lent → answer.number ≡ 0
  bytes_enough l = ap (λ x. x.number) (a ∙ sym (bytes_fit bytes lent l).0)
