-- The bytes that a scheme's reading can look at, and the bytes of an accepted one.
use Prim.Native.Nat.{ℕ, ◌+◌, ◌-◌, ◌*◌, ◌≤◌}
use native.Mathlib.Omega.{arith}
use mathlib.Core.Path.{◌≡◌, refl}
use mathlib.Core.List.{List}
use lib.ListN.{take}
use borrow.Author.Tests.{eqb-true}
use Rattle.integers.proofs.Lists.{◌▹◌}
use Rattle.wire.specs.Part.{accepted, total}
use Rattle.wire.specs.Rows.{Progress, size_of}
use Rattle.wire.proofs.Prefix.{Limited, Keeps, limited, read_prefix, end_within}
use Rattle.register.specs.declared.Register.{Register}
use Rattle.register.specs.Limits.{max_terms}
use Rattle.register.specs.Register as R
use Rattle.scheme.specs.declared.Scheme.{Scheme}
use Rattle.scheme.specs.Scheme.{max_products, fresh, initial}
use Rattle.scheme.specs.Format.{factor_row, product_row, split_row, end_row, scheme_part, scheme_in_job}
use Rattle.scheme.proofs.Passes.{product_iff, split_iff}

-- the longest scheme: `23`, every product and split that there may be, and `2F`
unfoldable pub scheme_longest : ℕ
scheme_longest = size_of factor_row + size_of (product_row R.fresh) * max_products + size_of (split_row R.fresh) * max_terms + size_of (end_row R.fresh)

-- the bytes that can matter: a split too many in place of `2F`
unfoldable pub scheme_reach : ℕ
scheme_reach = size_of factor_row + size_of (product_row R.fresh) * max_products + size_of (split_row R.fresh) * max_terms + size_of (split_row R.fresh)

-- the last position of a command
abbrev far : ℕ
far = 3 + 3 * max_products + 3 * max_terms

module _ (reg : Register) (few : reg.terms ≤ max_terms) where
  -- the position of a command, by what has been read
  record Reach (p : Progress Scheme) (at : ℕ) : Type 0 where
    start : p.previous ≡ 0 → at ≡ 0
    near : at ≤ 3 + 3 * p.parsed.products + 3 * p.parsed.splits
    products : p.parsed.products ≤ max_products
    splits : p.parsed.splits ≤ reg.terms

  -- the end, which is nearer for each product that there is not
  abbrev ends : Progress Scheme → ℕ
  ends p = far + 1 - 3 * (max_products - p.parsed.products)

  limits : Limited (scheme_part reg) Reach far 3 ends
  unfolding fresh total
  limits = limited initial _ (omega arith) (record { start = λ e. refl; near = omega arith; products = omega arith; splits = omega arith }) (λ p at r. omega (arith, r.near, r.products, r.splits)) (factor ▹ product ▹ split ▹ last ▹ tt)
    where
      factor : Keeps Reach 3 ends 0x23 factor_row
      factor = record {
        small = omega arith;
        moves = λ p at xs r e h. record { start = λ z. absurd (omega arith); near = omega (arith, r.start (eqb-true p.previous 0 e)); products = r.products; splits = r.splits };
      }

      product : Keeps Reach 3 ends 0x21 (product_row reg)
      product = record {
        small = omega arith;
        moves = λ p at xs r e h. record { start = λ z. absurd (omega arith); near = omega (arith, r.near); products = ((product_iff reg.choices p.parsed _ _).0 h).few; splits = r.splits };
      }

      split : Keeps Reach 3 ends 0x22 (split_row reg)
      split = record {
        small = omega arith;
        moves = λ p at xs r e h. record { start = λ z. absurd (omega arith); near = omega (arith, r.near); products = r.products; splits = ((split_iff reg p.parsed _ _).0 h).few };
      }

      last : Keeps Reach 3 ends 0x2F (end_row reg)
      last = record { small = omega arith; moves = λ p at xs r e h. omega (arith, r.near, r.products, r.splits) }

  pub scheme_prefix : (K : ℕ) (s : List ℕ) → scheme_reach ≤ K → scheme_in_job reg (take K s) ≡ scheme_in_job reg s
  unfolding scheme_in_job scheme_reach total
  scheme_prefix K s k = read_prefix (scheme_part reg) limits K s (omega arith)

  -- an accepted scheme is shorter by each product that it could have more
  pub scheme_end : (s : List ℕ) {p : Progress Scheme} {end : ℕ} → scheme_in_job reg s ≡ accepted p end → end + size_of (product_row R.fresh) * (max_products - p.parsed.products) ≤ scheme_longest
  unfolding scheme_in_job scheme_longest total
  scheme_end s e = omega (arith, end_within (scheme_part reg) limits s e)
