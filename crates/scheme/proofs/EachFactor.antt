-- Each factor may be put before bytes that say none: what they lead to stays the same but for the factor, 3 bytes later, whether they are
-- accepted or refused, since no check looks at the factor.
use Prim.Native.Nat.{ℕ, ◌+◌, ◌<◌}
use native.Mathlib.Omega.{arith}
use mathlib.Core.Path.{◌≡◌, refl, ◌∙◌, ap, ap₂}
use mathlib.Core.Bool.{not, false≢true}
use mathlib.Core.List.{List, ◌++◌}
use lib.Dec.{eqb, ltb}
use lib.ListN.{length, get_or}
use borrow.Author.Tests.{eqb-true, eqb-false, ltb-true, ltb-false, lt-ltb, le-ltb}
use Rattle.std.specs.Int.Bits.{bit_or}
use Rattle.integers.specs.Lists.{all_below}
use Rattle.integers.proofs.Lists.{◌▹◌, flag}
use Rattle.wire.specs.Number.{bytes_of}
use Rattle.wire.specs.Checks.{refusal}
use Rattle.wire.specs.Part.{Reading, refused, accepted, read_from, read_part, by_itself}
use Rattle.wire.specs.Rows.{Progress, Row, is_among, row_of}
use Rattle.wire.proofs.Part.{read_from_end}
use Rattle.wire.proofs.Accepting.{reached}
use Rattle.wire.proofs.Rest.{NoneOf, no_row_lem, by_bytes}
use Rattle.register.specs.declared.Register.{Register}
use Rattle.register.specs.Register.{mask}
use Rattle.scheme.specs.declared.Scheme.{Scheme}
use Rattle.scheme.specs.Scheme.{variables, with_factor}
use Rattle.scheme.specs.Format.{is_new, product_checks, product_row, split_checks, split_row, scheme_rows, scheme_part, scheme_in_job, scheme_by_itself}
use Rattle.scheme.specs.Valid.{Factor}
use Rattle.scheme.specs.Encoding.{encode_factor, SaysFactor}
use Rattle.scheme.proofs.OtherFactor.{E_with_factor}
use Rattle.scheme.proofs.Factors.{factor_said, after_factor}
use Rattle.wire.proofs.Behind.{Same, Behind, read_behind}

-- the same 3 bytes later, with this factor
abbrev pub with_header : ℕ → Reading (Progress Scheme) → Reading (Progress Scheme)
with_header f (refused n at) = refused n (3 + at)
with_header f (accepted p end) = accepted (reached p.previous (with_factor p.parsed f)) (3 + end)

module _ (reg : Register) (f : ℕ) where
  -- ---- with another factor the checks are the same

  product_same : (sch : Scheme) (xs : List ℕ) → refusal ((product_row reg).checks (with_factor sch f) xs) ≡ refusal ((product_row reg).checks sch xs)
  unfolding is_new
  product_same sch xs =
      let l = get_or xs 0 0 in
      let r = get_or xs 1 0 in
      let N = variables reg.choices sch in
      ap (λ (E : ℕ → ℕ). refusal (product_checks sch.products N l r (all_below N (λ v. not (eqb (E v) (bit_or (E l) (E r))))))) (E_with_factor sch f reg.choices)

  split_same : (sch : Scheme) (xs : List ℕ) → refusal ((split_row reg).checks (with_factor sch f) xs) ≡ refusal ((split_row reg).checks sch xs)
  split_same sch xs =
      let l = get_or xs 0 0 in
      let r = get_or xs 1 0 in
      ap (λ (E : ℕ → ℕ). refusal (split_checks reg.terms sch.splits (variables reg.choices sch) l r (bit_or (E l) (E r)) (mask reg sch.splits))) (E_with_factor sch f reg.choices)

  -- ---- what has been read without the factor, and with it

  record Like (at : ℕ) (p p' : Progress Scheme) : Type 0 where
    parsed : p'.parsed ≡ with_factor p.parsed f
    first : p.previous ≡ 0 → (at ≡ 0) × (p'.previous ≡ 0x23)
    later : (p.previous ≡ 0 → ⊥) → p'.previous ≡ p.previous

  module _ (s : List ℕ) (none : SaysFactor s → ⊥) where
    module _ (at : ℕ) (p p' : Progress Scheme) (r : Like at p p') where
      -- where p' stands after `23` p stands at the start
      place : (row : Row Scheme) → is_among 0x23 row.follows ≡ is_among 0 row.follows → is_among p'.previous row.follows ≡ is_among p.previous row.follows
      place row follows =
          flag (eqb p.previous 0)
          (λ t. let z = eqb-true p.previous 0 t in rw ((r.first z).1, z) follows)
          (λ t. rw (r.later (eqb-false p.previous 0 t)) refl)

      abbrev SameAt : ℕ → Type 0
      SameAt b = Same (scheme_part reg) Like at b p p'

      -- `23` may stand in neither: the bytes do not begin with it
      factor_same : get_or s at 0 ≡ 0x23 → SameAt 0x23
      unfolding row_of
      factor_same e =
          let started = λ (z : p.previous ≡ 0). let (k, _) = r.first z in none (rw k at e) in
          record {
            here = rw (r.later started) refl;
            checks = λ h. absurd (started (eqb-true p.previous 0 h));
            after = λ h. absurd (started (eqb-true p.previous 0 h));
          }

      other_same : (b : ℕ) → 0 < b → let row = row_of (scheme_rows reg) b in is_among 0x23 row.follows ≡ is_among 0 row.follows
          → ((sch : Scheme) (xs : List ℕ) → refusal (row.checks (with_factor sch f) xs) ≡ refusal (row.checks sch xs)) → ((sch : Scheme) (xs : List ℕ) → row.after (with_factor sch f) xs ≡ with_factor (row.after sch xs) f)
          → SameAt b
      other_same b l follows checks after =
          let row = row_of (scheme_rows reg) b in
          record {
            here = place row follows;
            checks = λ h xs. ap (λ sch. refusal (row.checks sch xs)) r.parsed ∙ checks p.parsed xs;
            after = λ h xs. record { parsed = ap (λ sch. row.after sch xs) r.parsed ∙ after p.parsed xs; first = λ z. absurd (omega arith); later = λ d. refl };
          }

      none_same : (b : ℕ) → NoneOf (scheme_rows reg) b → SameAt b
      none_same b n =
          let no = no_row_lem (scheme_rows reg) b n in
          record {
            here = rw no refl;
            checks = λ h. absurd (false≢true (rw no at h));
            after = λ h. absurd (false≢true (rw no at h));
          }

      same : SameAt (get_or s at 0)
      unfolding row_of
      same =
          by_bytes (λ b. get_or s at 0 ≡ b → SameAt b) (scheme_rows reg) (get_or s at 0) (λ n e. none_same (get_or s at 0) n)
          (factor_same
          ▹ (λ e. other_same 0x21 (omega arith) refl product_same (λ sch xs. refl))
          ▹ (λ e. other_same 0x22 (omega arith) refl split_same (λ sch xs. refl))
          ▹ (λ e. other_same 0x2F (omega arith) refl (λ sch xs. refl) (λ sch xs. refl))
          ▹ tt) refl

    -- ---- read with any factor

    -- where it is accepted some command has been read
    by_like : (x y : Reading (Progress Scheme)) → Behind Like 3 x y → ((p : Progress Scheme) (end : ℕ) → x ≡ accepted p end → 0 < end) → y ≡ with_header f x
    by_like (refused n at) y e some = e
    by_like (accepted p end) y (p', (r, e)) some = e ∙ ap (λ x. accepted x (3 + end)) (ap₂ reached (r.later (λ z. omega (arith, some p end refl, (r.first z).0))) r.parsed)

    -- by itself
    itself_same : (x : Reading (Progress Scheme)) → by_itself (encode_factor f ++ s) (with_header f x) ≡ with_header f (by_itself s x)
    unfolding by_itself encode_factor bytes_of
    itself_same (refused n at) = refl
    itself_same (accepted p end) =
        flag (ltb end (length s))
        (λ t. let l = ltb-true end (length s) t in rw (t, lt-ltb (3 + end) (length (encode_factor f ++ s)) (omega (arith, l))) refl)
        (λ t. let l = ltb-false end (length s) t in rw (t, le-ltb (3 + end) (length (encode_factor f ++ s)) (omega (arith, l))) refl)

    module _ (fits : Factor f) where
      each_factor_in_job : scheme_in_job reg (encode_factor f ++ s) ≡ with_header f (scheme_in_job reg s)
      unfolding scheme_in_job read_part encode_factor bytes_of
      each_factor_in_job =
          let P = scheme_part reg in
          after_factor reg f fits s
          ∙ by_like (read_from P s P.start 0) _
          (read_behind 3 s (encode_factor f ++ s) refl P Like same P.start (factor_said reg f fits) 0 (record { parsed = refl; first = λ z. (refl, refl); later = λ d. absurd (d refl) }))
          (λ p end e. (read_from_end P s P.start 0 e).0)

      pub each_factor : scheme_by_itself reg (encode_factor f ++ s) ≡ with_header f (scheme_by_itself reg s)
      unfolding scheme_by_itself
      each_factor = ap (by_itself (encode_factor f ++ s)) each_factor_in_job ∙ itself_same (scheme_in_job reg s)
