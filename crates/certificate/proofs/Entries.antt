-- A certificate by its commands: one more, and the last taken back. What is within the limits stays so.
use Prim.Native.Nat.{ℕ, ◌≤◌, ◌<◌}
use native.Mathlib.Omega.{arith}
use mathlib.Core.Path.{◌≡◌, refl, ◌∙◌}
use mathlib.Core.List.{List, [], ◌∷◌, ◌++◌, map, append_assoc, append-nil, flat_map}
use lib.IntN.{ℤ}
use lib.ListN.{length, length-append}
use mir.Syntax.{w16, w64}
use mir.Val.{of_z}
use Rattle.integers.specs.Lists.{All}
use Rattle.integers.proofs.Lists.{All-append}
use Rattle.wire.specs.Encoding.{Command}
use Rattle.register.specs.declared.Register.{Register}
use Rattle.scheme.specs.declared.Scheme.{Scheme}
use Rattle.certificate.specs.Limits.{max_multipliers, max_squares}
use Rattle.certificate.specs.Certificate.{Multiplier, Square, Certificate, set_multipliers, set_squares, with_multiplier, with_square}
use Rattle.certificate.specs.Within.{Allowed, SquareAllowed, Within}
use Rattle.certificate.specs.Encoding.{Entry, multiplier, square, multipliers_in, squares_in, multipliers_of, squares_of}
use Rattle.certificate.proofs.Counts.{counts_apart}
use Rattle.certificate.proofs.Passes.{ScalePasses}

-- ---- commands

abbrev pub scale_command : ℕ → ℤ → Command
scale_command s target = record { byte = 0x30; operands = s ∷ of_z w64 target ∷ [] }

abbrev pub command_of : Entry → Command
command_of (multiplier t) = record { byte = t.kind; operands = t.names ++ (of_z w64 t.m ∷ []) }
command_of (square q) = record { byte = 0x3A; operands = q.w ∷ map (of_z w16) q.v }

abbrev pub end_command : Command
end_command = record { byte = 0x3F; operands = [] }

-- ---- lists

-- the last of a list
pub data Snoc {A : Type 0} (l : List A) : Type 0 where
  none : l ≡ [] → Snoc l
  some : (front : List A) (x : A) → l ≡ front ++ (x ∷ []) → Snoc l

pub snoc : {A : Type 0} (l : List A) → Snoc l
snoc [] = none refl
snoc {A} (y ∷ l) = by (snoc l)
  where
    by : Snoc l → Snoc (y ∷ l)
    by (none e) = some [] y (rw e)
    by (some front x e) = some (y ∷ front) x (rw e)

pub all_less : {A : Type 0} (P : A → Type 0) (l : List A) (x : A) → All P (l ++ (x ∷ [])) → All P l × P x
all_less P [] x h = (tt, h.0)
all_less P (y ∷ l) x h = let (a, b) = all_less P l x h.1 in ((h.0, a), b)

flat_map_more : {A : Type 0} {B : Type 0} (f : A → List B) (l : List A) (x : A) → flat_map f (l ++ (x ∷ [])) ≡ flat_map f l ++ f x
unfolding flat_map
flat_map_more f [] x = append-nil (f x)
flat_map_more f (y ∷ l) x = rw (flat_map_more f l x, append_assoc)

-- ---- the certificate of commands

abbrev pub certificate_of : ℕ → ℤ → List Entry → Certificate
certificate_of s target es = record { scale = s; target = target; multipliers = multipliers_of es; squares = squares_of es }

abbrev pub with_entry : Certificate → Entry → Certificate
with_entry k (multiplier t) = with_multiplier k t
with_entry k (square q) = with_square k q

pub certificate_of_more : (s : ℕ) (target : ℤ) (es : List Entry) (x : Entry) → certificate_of s target (es ++ (x ∷ [])) ≡ with_entry (certificate_of s target es) x
unfolding flat_map
certificate_of_more s target es (multiplier t) = λ i. record {
  scale = s;
  target = target;
  multipliers = flat_map_more multipliers_in es (multiplier t) i;
  squares = (flat_map_more squares_in es (multiplier t) ∙ append-nil (squares_of es)) i;
}
certificate_of_more s target es (square q) = λ i. record {
  scale = s;
  target = target;
  multipliers = (flat_map_more multipliers_in es (square q) ∙ append-nil (multipliers_of es)) i;
  squares = flat_map_more squares_in es (square q) i;
}

-- ---- within the limits

module _ (reg : Register) (sch : Scheme) where
  abbrev n : ℕ
  n = reg.choices

  pub scale_within : (s : ℕ) (target : ℤ) → ScalePasses s target → Within reg sch (record { scale = s; target = target; multipliers = []; squares = [] })
  scale_within s target p = (counts_apart reg sch _ p.scale_above p.scale_within p.target_within tt tt).1 (omega arith, omega arith)

  in_multipliers : (k : Certificate) → Within reg sch k → (ts : List Multiplier) → length ts ≤ max_multipliers → All (Allowed reg sch) ts → Within reg sch (set_multipliers k ts)
  in_multipliers k w ts l a = (counts_apart reg sch (set_multipliers k ts) w.scale_above w.scale_within w.target_within a w.squares).1 (l, w.squares_within)

  in_squares : (k : Certificate) → Within reg sch k → (qs : List Square) → length qs ≤ max_squares → All (SquareAllowed n sch) qs → Within reg sch (set_squares k qs)
  in_squares k w qs l a = (counts_apart reg sch (set_squares k qs) w.scale_above w.scale_within w.target_within w.multipliers a).1 (w.multipliers_within, l)

  -- there is room for a command, and it is allowed
  abbrev pub Next : Certificate → Entry → Type 0
  Next k (multiplier t) = (length k.multipliers < max_multipliers) × Allowed reg sch t
  Next k (square q) = (length k.squares < max_squares) × SquareAllowed n sch q

  pub within_more : (k : Certificate) (x : Entry) → Within reg sch k → Next k x → Within reg sch (with_entry k x)
  within_more k (multiplier t) w (few, a) =
      in_multipliers k w (k.multipliers ++ (t ∷ [])) (omega (arith, length-append k.multipliers (t ∷ []))) (All-append (Allowed reg sch) k.multipliers (t ∷ []) w.multipliers (a, tt))
  within_more k (square q) w (few, a) =
      in_squares k w (k.squares ++ (q ∷ [])) (omega (arith, length-append k.squares (q ∷ []))) (All-append (SquareAllowed n sch) k.squares (q ∷ []) w.squares (a, tt))

  pub within_less : (k : Certificate) (x : Entry) → Within reg sch (with_entry k x) → Within reg sch k × Next k x
  within_less k (multiplier t) w =
      let (a, b) = all_less (Allowed reg sch) k.multipliers t w.multipliers in
      let l : length k.multipliers < max_multipliers = omega (arith, length-append k.multipliers (t ∷ []), w.multipliers_within) in
      (in_multipliers (with_multiplier k t) w k.multipliers (omega arith) a, (l, b))
  within_less k (square q) w =
      let (a, b) = all_less (SquareAllowed n sch) k.squares q w.squares in
      let l : length k.squares < max_squares = omega (arith, length-append k.squares (q ∷ []), w.squares_within) in
      (in_squares (with_square k q) w k.squares (omega arith) a, (l, b))
