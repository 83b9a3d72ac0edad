-- How long the lines of a register's cheapest plan are: at most the longest, for which a text has room.
use Prim.Native.Nat.{◌-◌, ◌^◌, ◌≤◌, ◌<◌}
use native.Mathlib.Omega.{arith}
use mathlib.Core.Path.{◌≡◌, refl}
use mathlib.Core.List.{[], ◌∷◌, ◌++◌, flat_map}
use lib.Dec.{eqb}
use lib.IntN.{pos}
use lib.ListN.{length, length-append}
use mir.Syntax.{w64}
use mir.Val.{SFits}
use borrow.Author.Tests.{eq-eqb, ne_eqb}
use Rattle.integers.proofs.Lists.{flag}
use Rattle.integers.proofs.Machine.{signed_small}
use Rattle.text.specs.Text.{digits_to, digits, decimal, line}
use Rattle.text.proofs.Lines.{line_no_longer, natural_no_longer}
use Rattle.register.specs.declared.Register.{Register}
use Rattle.register.specs.Valid.{Within}
use Rattle.search.specs.declared.SearchAnswer.{SearchAnswer}
use Rattle.listing.specs.Listing.{fed_lines, refusal_line}
use Rattle.listing.specs.Answer.{longest_number}
use Rattle.listing.proofs.Lengths.{fed_short, small_no_longer}
use Rattle.console.specs.Cheapest.{search_line, search_lines, longest_search, cheapest_room}

module _ (r : Register) (answer : SearchAnswer) where
  -- by the answer's number

  pub found_is : answer.number ≡ 0 → fed_lines r answer.plan ++ search_line answer.cost answer.visits ≡ search_lines r answer
  unfolding search_lines
  found_is h = rw (eq-eqb answer.number 0 h)

  pub refused_is : (answer.number ≡ 0 → ⊥) → refusal_line answer.number answer.position ≡ search_lines r answer
  unfolding search_lines
  refused_is h = rw (ne_eqb answer.number 0 h)

  pub lines_short : Within r → answer.number < 2 ^ 8 → answer.position < 2 ^ 32 → SFits w64 answer.cost → answer.visits < 2 ^ 32 → length (search_lines r answer) ≤ longest_search
  unfolding search_lines longest_search
  lines_short w n p c v =
      flag (eqb answer.number 0)
      (λ t. rw t (omega (
        arith,
        length-append (fed_lines r answer.plan) (search_line answer.cost answer.visits),
        fed_short r w answer.plan,
        line_no_longer 0x53 0x53 (answer.cost ∷ pos answer.visits ∷ []) (longest_number ∷ pos (2 ^ 32 - 1) ∷ [])
            (small_no_longer _ (signed_small w64 answer.cost c), (natural_no_longer _ _ (omega arith), tt)),
      )))
      (λ f. rw f (omega (
        arith,
        line_no_longer 0x52 0x53 (pos answer.number ∷ pos answer.position ∷ []) (longest_number ∷ pos (2 ^ 32 - 1) ∷ [])
            (small_no_longer (pos answer.number) (omega arith), (natural_no_longer _ _ (omega arith), tt)),
      )))

pub longest_is : longest_search ≡ 610
unfolding longest_search line flat_map decimal digits digits_to
longest_is = refl

pub longest_fits : longest_search ≤ cheapest_room
longest_fits = omega (arith, longest_is)
