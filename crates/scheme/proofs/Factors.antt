-- The factor of a scheme: which one its bytes say, and how those are read that say one of no scheme.
use Prim.Native.Nat.{ℕ, ◌+◌, ◌-◌, ◌^◌, ◌<◌}
use native.Mathlib.Omega.{arith}
use mathlib.Core.Path.{◌≡◌, refl, sym, ◌∙◌, ap}
use mathlib.Core.Logic.{◌↔◌, inl, inr, ⊎_elim}
use mathlib.Core.Bool.{true, false≢true, ◌||◌}
use mathlib.Core.List.{List, [], ◌∷◌, ◌++◌, append_assoc, append-nil, flat_map}
use lib.Dec.{eqb, ltb}
use lib.ListN.{length, get_or}
use borrow.Author.Tests.{eqb-true, eq-eqb, ne_eqb, lt-ltb, le-ltb}
use Rattle.integers.proofs.Lists.{◌▹◌, flag}
use Rattle.wire.specs.Number.{bytes_of}
use Rattle.wire.specs.Checks.{refusal, command_checks}
use Rattle.wire.specs.Part.{Reading, refused, accepted, operands_at, total, size, checks_at, after_at, read_from, read_part}
use Rattle.wire.specs.Rows.{Progress, is_among, row_of}
use Rattle.wire.specs.Encoding.{Allowed, encode}
use Rattle.wire.proofs.Number.{nat_at_front}
use Rattle.wire.proofs.Begins.{join_other}
use Rattle.wire.proofs.Part.{read_from_refused, Ways, by_ways}
use Rattle.wire.proofs.Encoding.{by_itself_accepted, reads_through}
use Rattle.wire.proofs.Accepting.{reached}
use Rattle.wire.proofs.Rest.{no_row_lem, by_bytes}
use Rattle.register.specs.declared.Register.{Register}
use Rattle.scheme.specs.declared.Scheme.{Scheme}
use Rattle.scheme.specs.Scheme.{left, right, split_left, split_right, max_factor, initial, with_factor}
use Rattle.scheme.specs.Format.{factor_checks, scheme_rows, scheme_part, scheme_in_job, scheme_by_itself}
use Rattle.scheme.specs.Valid.{Factor}
use Rattle.scheme.specs.Encoding.{factor_command, Encodes, encode_factor, encode_product, encode_split, encode_scheme, SaysFactor, factor_in}
use Rattle.scheme.proofs.Passes.{factor_iff}
use Rattle.scheme.proofs.Canonical.{factor_bytes, encodes_forms}

-- ---- in bytes

says_factor : (f : ℕ) (rest : List ℕ) → SaysFactor (encode_factor f ++ rest)
unfolding encode_factor
says_factor f rest = refl

pub factor_in_unsaid : (s : List ℕ) → (SaysFactor s → ⊥) → factor_in s ≡ 1
factor_in_unsaid s none = rw (ne_eqb (get_or s 0 0) 0x23 none)

-- the builder writes no `23`
pub scheme_unsaid : (n : ℕ) (c : Scheme) → SaysFactor (encode_scheme n c) → ⊥
unfolding encode_scheme encode_product encode_split
scheme_unsaid n c e =
    join_other 0x23 (λ i. encode_product (left n c (n + i)) (right n c (n + i))) (λ i rest z. omega arith) c.products _
    (join_other 0x23 (λ t. encode_split (split_left c t) (split_right c t)) (λ t rest z. omega arith) c.splits (0x2F ∷ []) (λ z. omega arith)) (rw append_assoc at e)

module _ (reg : Register) where
  -- ---- an encoding that does not begin with a `23` is the builder's, and the factor is 1

  pub unsaid_iff : (c : Scheme) (s : List ℕ) → (SaysFactor s → ⊥) → Encodes reg c s ↔ ((c.factor ≡ 1) × (s ≡ encode_scheme reg.choices c))
  unsaid_iff c s none = (
    (λ e. ⊎_elim (λ (q : s ≡ encode_factor c.factor ++ encode_scheme reg.choices c). absurd (none (rw q (says_factor c.factor _)))) (λ h. h) ((encodes_forms reg c s).0 e)),
    λ h. (encodes_forms reg c s).1 (inr h),
  )

  -- and one that does has the factor before that

  pub said_iff : (c : Scheme) (s : List ℕ) → SaysFactor s → Encodes reg c s ↔ (s ≡ encode_factor c.factor ++ encode_scheme reg.choices c)
  said_iff c s says = (
    (λ e. ⊎_elim (λ h. h) (λ (one, q). absurd (scheme_unsaid reg.choices c (rw q at says))) ((encodes_forms reg c s).0 e)),
    λ h. (encodes_forms reg c s).1 (inl h),
  )

  -- ---- the factor of an accepted scheme is that which its bytes say

  module _ (s : List ℕ) where
    -- before the first command, which stands at 0, it is 1; from then on it is that of the bytes
    record Reach (p : Progress Scheme) (at : ℕ) : Type 0 where
      start : p.previous ≡ 0 → (at ≡ 0) × (p.parsed.factor ≡ 1)
      said : (p.previous ≡ 0 → ⊥) → p.parsed.factor ≡ factor_in s

    later : (b : ℕ) {r : Scheme} {at : ℕ} → 0 < b → r.factor ≡ factor_in s → Reach (record { previous = b; parsed = r }) at
    later b l e = record { start = λ z. absurd (omega arith); said = λ _. e }

    module _ (p : Progress Scheme) (at : ℕ) (r : Reach p at) where
      -- at every command but `23`
      factor_here : (get_or s at 0 ≡ 0x23 → ⊥) → p.parsed.factor ≡ factor_in s
      factor_here other =
          flag (eqb p.previous 0)
          (λ t. let (k, one) = r.start (eqb-true p.previous 0 t) in one ∙ sym (factor_in_unsaid s (λ f. other (rw k f))))
          (λ t. r.said (λ z. false≢true (sym t ∙ eq-eqb p.previous 0 z)))

      abbrev Moves : ℕ → Type 0
      Moves b = is_among p.previous (row_of (scheme_rows reg) b).follows ≡ true → Reach ((scheme_part reg).after p b (operands_at ((scheme_part reg).widths b) s (at + 1))) (at + size (scheme_part reg) b)

      factor_moves : get_or s at 0 ≡ 0x23 → Moves 0x23
      unfolding row_of operands_at
      factor_moves e h = let (k, _) = r.start (eqb-true p.previous 0 h) in later 0x23 (omega arith) (rw (k, eq-eqb (get_or s 0 0) 0x23 (rw k at e)))

      -- the others leave the factor as it is
      other_moves : (b : ℕ) → 0 < b → (b ≡ 0x23 → ⊥) → ((xs : List ℕ) → ((row_of (scheme_rows reg) b).after p.parsed xs).factor ≡ p.parsed.factor) → get_or s at 0 ≡ b → Moves b
      other_moves b l d same e h = later b l (same _ ∙ factor_here (λ f. d (sym e ∙ f)))

      moves : (scheme_part reg).here p (get_or s at 0) ≡ true → Reach (after_at (scheme_part reg) s p at) (at + size (scheme_part reg) (get_or s at 0))
      unfolding after_at row_of
      moves =
          by_bytes (λ b. get_or s at 0 ≡ b → Moves b) (scheme_rows reg) (get_or s at 0)
          (λ n e h. absurd (false≢true (ap (λ row. is_among p.previous row.follows) (sym (no_row_lem (scheme_rows reg) (get_or s at 0) n)) ∙ h)))
          (factor_moves
          ▹ other_moves 0x21 (omega arith) (λ z. omega arith) (λ xs. refl)
          ▹ other_moves 0x22 (omega arith) (λ z. omega arith) (λ xs. refl)
          ▹ other_moves 0x2F (omega arith) (λ z. omega arith) (λ xs. refl)
          ▹ tt) refl

    abbrev Said : Reading (Progress Scheme) → Type 0
    Said (refused n at) = Unit {0}
    Said (accepted p end) = p.parsed.factor ≡ factor_in s

    said : Said (scheme_in_job reg s)
    unfolding scheme_in_job read_part after_at row_of
    said = by_ways (scheme_part reg) s (λ p at x. Reach p at → Said x) ways (scheme_part reg).start 0 (record { start = λ e. (refl, refl); said = λ d. absurd (d refl) })
      where
        ways : Ways (scheme_part reg) s (λ p at x. Reach p at → Said x)
        ways = record {
          missing = λ p at l r. tt;
          refuses = λ p at n l e d r. tt;
          goes = λ p at x h l rest r. rest (moves p at r h.here);
          ends = λ p at h l r. (moves p at r h.here).said (λ z. false≢true (rw z at l));
        }

    module _ {p : Progress Scheme} {end : ℕ} where
      factor_read_in_job : scheme_in_job reg s ≡ accepted p end → p.parsed.factor ≡ factor_in s
      factor_read_in_job e = rw e at said

      pub factor_read : scheme_by_itself reg s ≡ accepted p end → p.parsed.factor ≡ factor_in s
      unfolding scheme_by_itself
      factor_read e = factor_read_in_job (by_itself_accepted s (scheme_in_job reg s) p end e).0

  -- ---- a factor that is none

  module _ (f : ℕ) (rest : List ℕ) (small : f < 2 ^ 16) (other : Factor f → ⊥) where
    factor_fails : refusal (factor_checks f) ≡ 4
    unfolding factor_checks refusal
    factor_fails = flag (eqb f 0 || ltb max_factor f) (λ t. rw t) (λ t. absurd (other ((factor_iff f).0 (rw t))))

    command_fails : refusal (checks_at (scheme_part reg) (encode_factor f ++ rest) (scheme_part reg).start 0) ≡ 4
    unfolding checks_at command_checks refusal row_of operands_at total encode_factor bytes_of
    command_fails = rw (le-ltb (length (encode_factor f ++ rest) - 0) 3 (omega arith), nat_at_front 2 (encode_factor f ++ rest) 1 f rest refl small) factor_fails

    pub other_factor_in_job : scheme_in_job reg (encode_factor f ++ rest) ≡ refused 4 0
    unfolding scheme_in_job read_part encode_factor bytes_of
    other_factor_in_job = read_from_refused (scheme_part reg) (encode_factor f ++ rest) (scheme_part reg).start 0 4 (omega arith) command_fails (λ z. omega arith)

  -- ---- a `23` that is cut

  module _ (rest : List ℕ) (short : length rest < 2) where
    pub cut_factor_in_job : scheme_in_job reg (0x23 ∷ rest) ≡ refused 2 0
    unfolding scheme_in_job read_part checks_at command_checks refusal row_of total
    cut_factor_in_job = read_from_refused (scheme_part reg) (0x23 ∷ rest) (scheme_part reg).start 0 2 (omega arith) (rw (lt-ltb (length (0x23 ∷ rest) - 0) 3 (omega arith)) refl) (λ z. omega arith)

  -- ---- a factor, and what stands after it

  module _ (f : ℕ) (fits : Factor f) where
    factor_allowed : Allowed (scheme_part reg) (scheme_part reg).start (factor_command f)
    unfolding row_of
    factor_allowed = record { byte = omega arith; here = refl; operands = (omega (arith, fits.within), tt); passes = (factor_iff f).1 fits }

    front_bytes : encode (scheme_part reg) (factor_command f ∷ []) ≡ encode_factor f
    unfolding encode flat_map
    front_bytes = rw (factor_bytes reg f, append-nil)

    -- what has been read after it
    abbrev pub factor_said : Progress Scheme
    factor_said = reached 0x23 (with_factor initial f)

    pub after_factor : (rest : List ℕ) → scheme_in_job reg (encode_factor f ++ rest) ≡ read_from (scheme_part reg) (encode_factor f ++ rest) factor_said 3
    unfolding scheme_in_job read_part row_of encode_factor bytes_of
    after_factor rest =
        reads_through (scheme_part reg) (factor_command f ∷ []) (encode_factor f ++ rest) (scheme_part reg).start 0 factor_said rest (factor_allowed, (refl, refl)) (ap (λ x. x ++ rest) (sym front_bytes)) ∙ rw front_bytes refl
