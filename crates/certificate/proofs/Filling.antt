-- A square as it is read: the entries below a place are filled.
use Prim.Native.Nat.{ℕ, ◌+◌, ◌*◌, ◌≤◌, ◌<◌}
use native.Mathlib.Omega.{arith}
use native.Mathlib.Decide.{ℕ_discrete}
use mathlib.Core.Path.{◌≡◌, ◌∙◌, ap}
use mathlib.Core.List.{List}
use lib.IntN.{ℤ, pos}
use lib.ListN.{length, get_or, set, length-set}
use lib.Seq.{get_or-set_same, get_or-set_other}
use mir.Syntax.{w16}
use Rattle.wire.specs.Number.{nat_at, int_at}
use Rattle.certificate.specs.Limits.{square_entries}
use Rattle.certificate.specs.declared.Square.{Square}
use Rattle.certificate.specs.Answer.{filled_of, square_read}
use Rattle.certificate.proofs.Operands.{entries_are, square_is}

pub record Filling (s : List ℕ) (at : ℕ) (q : Square) (i : ℕ) : Type 0 where
  pub within : i ≤ square_entries
  pub long : length q.entries ≡ square_entries
  pub weight_is : q.weight ≡ nat_at 4 s (at + 1)
  pub filled : (k : ℕ) → k < i → get_or q.entries k (pos 0) ≡ int_at w16 s (at + 5 + 2 * k)

module _ {s : List ℕ} {at : ℕ} {q : Square} {i : ℕ} (f : Filling s at q i) where
  pub filled_more : {x : ℤ} → i < square_entries → x ≡ int_at w16 s (at + 5 + 2 * i) → Filling s at (record { weight = q.weight; entries = set q.entries i x }) (i + 1)
  filled_more {x} l e = record {
    within = omega arith;
    long = length-set q.entries i x ∙ f.long;
    weight_is = f.weight_is;
    filled = λ k b. by k b (ℕ_discrete k i);
  }
    where
      by : (k : ℕ) → k < i + 1 → Dec (k ≡ i) → get_or (set q.entries i x) k (pos 0) ≡ int_at w16 s (at + 5 + 2 * k)
      by k b (yes d) = rw d (get_or-set_same q.entries i x (pos 0) (omega (arith, f.long)) ∙ e)
      by k b (no d) = get_or-set_other q.entries i k x (pos 0) d ∙ f.filled k (omega arith)

  pub filled_all : square_entries ≤ i → q ≡ filled_of (square_read s at)
  filled_all l =
      square_is s at q f.weight_is
      (entries_are square_entries s (at + 1 + 4) q.entries f.long (λ k b. f.filled k (omega arith) ∙ ap (λ x. int_at w16 s (x + 2 * k)) (omega arith)))
