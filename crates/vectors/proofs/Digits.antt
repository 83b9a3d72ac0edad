-- Digits taken one by one.
use Rattle.std.proofs.Common.{◌≡◌, ℕ, ◌+◌, ◌<◌, ◌≤◌, List, length, drop, get_or, ap, sym, ◌∙◌, cond, true, false}
use Rattle.std.specs.Prelude.{Some, None, option_and_then, ◌==◌}
use Rattle.std.proofs.lemmas.List.{at_drop_more, at_drop_all}
use Rattle.vectors.specs.Said.{and_digit, and_digits, decimal}

pub decimal_some : (xs : List ℕ) → false ≡ (length xs == 0) → decimal xs ≡ and_digits 0 xs
unfolding decimal
decimal_some xs e = ap (λ t. cond t None (and_digits 0 xs)) (sym e)

pub decimal_none : (xs : List ℕ) → true ≡ (length xs == 0) → decimal xs ≡ None
unfolding decimal
decimal_none xs e = ap (λ t. cond t None (and_digits 0 xs)) (sym e)

module _ (v i : ℕ) (xs : List ℕ) where
  next_digit : i < length xs → and_digits v (drop i xs) ≡ option_and_then (λ more. and_digits more (drop (i + 1) xs)) (and_digit v (get_or xs i 0))
  unfolding and_digits
  next_digit l = at_drop_more (and_digits v) xs i 0 l

  pub more_digits : i < length xs → (w : ℕ) → Some w ≡ and_digit v (get_or xs i 0) → and_digits w (drop (i + 1) xs) ≡ and_digits v (drop i xs)
  more_digits l w e = sym (next_digit l ∙ ap (option_and_then (λ more. and_digits more (drop (i + 1) xs))) (sym e))

  pub no_digit : i < length xs → None ≡ and_digit v (get_or xs i 0) → and_digits v (drop i xs) ≡ None
  no_digit l e = next_digit l ∙ ap (option_and_then (λ more. and_digits more (drop (i + 1) xs))) (sym e)

  pub no_digits_left : length xs ≤ i → and_digits v (drop i xs) ≡ Some v
  unfolding and_digits
  no_digits_left l = at_drop_all (and_digits v) xs i l
