-- The bytes of the costliest register: at most how many there are, and that the register's call accepts them.
use Prim.Native.Nat.{ℕ, ◌*◌, ◌≤◌}
use native.Mathlib.Nat.{mul-le-mul}
use native.Mathlib.Omega.{arith}
use native.Mathlib.Decide.{dec_le}
use mathlib.Core.Path.{◌≡◌, ◌∙◌, ap, ap₂}
use mathlib.Core.Logic.{inr}
use mathlib.Core.Bool.{false}
use mathlib.Core.List.{[], ◌++◌, append-nil}
use lib.IntN.{pos}
use Rattle.integers.specs.Lists.{join_below}
use Rattle.integers.proofs.Join.{join_cong}
use Rattle.register.specs.declared.Register.{Register}
use Rattle.register.specs.Register.{tank, minute, mask, coefficient, high, is_range}
use Rattle.register.specs.Encoding.{Encodes, encode_base, encode_choice, encode_term, encode_entry, encode_windows, encode_choices, encode_rows, encode_terms_by, encode_after}
use Rattle.register.specs.Format.{register_by_itself}
use Rattle.register.specs.Answer.{register_answer}
use Rattle.register.proofs.Accept.{encoding_accepted}
use Rattle.register.proofs.Canonical.{encodes_by}
use Rattle.costliest.specs.Costliest.{Admitted, term_mask, costliest_bytes, Described}
use Rattle.costliest.specs.Answer.{costliest_size, costliest_room}
use Rattle.costliest.proofs.Record.{costliest, costliest_described, mask_is, costliest_narrow, costliest_valid}

-- ---- at most how many

-- of three choices in each term there are at most 10 terms, of more at most 8
pub size_within : (m d : ℕ) → Admitted m d → costliest_size m d ≤ costliest_room
size_within m d ok = go (dec_le 4 d)
  where
    go : Dec (4 ≤ d) → costliest_size m d ≤ costliest_room
    go (yes l) = let h : m * 4 ≤ m * d = mul-le-mul {n₁ = m} {m₁ = 4} (omega arith) l in omega (arith, ok.small)
    go (no l) = let e : d ≡ 3 = omega (arith, ok.deep) in rw e (omega (arith, rw e at ok.small))

-- ---- they are those of the record, with no `18` and each term by `12`

module _ (m d : ℕ) (ok : Admitted m d) where
  abbrev reg : Register
  reg = costliest m d

  described : Described m d reg
  described = costliest_described m d ok

  -- its parts

  no_windows : encode_windows reg ≡ []
  unfolding join_below
  no_windows = rw described.no_window

  no_rows : encode_rows reg ≡ []
  unfolding join_below
  no_rows = rw described.no_row

  choices_are : encode_choices reg ≡ join_below (m * d) (encode_choice 1)
  choices_are =
      ap (λ n. join_below n (λ i. encode_choice (tank reg i) (minute reg i))) described.choices_are
      ∙ join_cong (m * d) _ _ (λ i l. ap₂ encode_choice (described.tanks_are i l) (described.minutes_are i l))

  terms_are : encode_terms_by (λ t. false) reg ≡ join_below m (λ t. encode_term (term_mask m d t) (pos 1))
  terms_are =
      ap (λ n. join_below n (λ t. encode_entry false (is_range reg t) (mask reg t) (coefficient reg t) (high reg t))) described.terms_are
      ∙ join_cong m _ _ (λ t l. rw (described.no_range t l, mask_is m d ok t l, described.coefficients_are t l))

  pub bytes_are : costliest_bytes m d ≡ encode_after (λ t. false) (encode_base reg.base) reg
  unfolding costliest_bytes
  bytes_are = rw (described.base_0, no_windows, append-nil (encode_base (pos 0)), no_rows, choices_are, append-nil (encode_base (pos 0) ++ join_below (m * d) (encode_choice 1)), terms_are)

  pub costliest_encodes : Encodes reg (costliest_bytes m d)
  costliest_encodes = encodes_by reg (λ t. false) (costliest_bytes m d) (λ t l e. costliest_narrow m d ok t l) (inr (described.usual, bytes_are))

  -- the register's call accepts them, as that register
  pub costliest_accepted : register_answer (register_by_itself (costliest_bytes m d)) ≡ record { number = 0; part = 0; position = 0; register = costliest m d }
  costliest_accepted = rw (encoding_accepted (costliest_bytes m d) reg (costliest_valid m d ok) costliest_encodes)
