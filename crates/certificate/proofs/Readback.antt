-- The operands of a multiplier command and of a square say it, and are read back as it.
use Prim.Native.Nat.{ℕ, zero, suc, ◌^◌, ◌<◌}
use native.Mathlib.Omega.{arith}
use mathlib.Core.Path.{◌≡◌, ◌∙◌, ap}
use mathlib.Core.List.{List, [], ◌∷◌, ◌++◌, map}
use lib.IntN.{pos}
use lib.ListN.{length, get_or, drop, replicate, length-map}
use lib.Seq.{get_or_at}
use mir.Syntax.{w16, w64}
use mir.Val.{SFits, to_z, of_z}
use mir.Facts.{of_z-to_z}
use Rattle.integers.proofs.Machine.{read_signed, fits_signed}
use Rattle.wire.specs.Rows.{first_of}
use Rattle.wire.specs.Encoding.{Fit}
use Rattle.wire.proofs.Encoding.{fit_one, fit_two}
use Rattle.wire.proofs.Many.{length_first, first_at, signed_said, fit_signed, signed_back}
use Rattle.register.specs.declared.Register.{Register}
use Rattle.scheme.specs.declared.Scheme.{Scheme}
use Rattle.certificate.specs.Limits.{square_entries}
use Rattle.certificate.specs.Certificate.{Multiplier, Square}
use Rattle.certificate.specs.Rules.{arity}
use Rattle.certificate.specs.Format.{scale_widths, multiplier_widths, multiplier_of, square_widths, square_of}
use Rattle.certificate.specs.Within.{Allowed, SquareAllowed}
use Rattle.certificate.proofs.Conditions.{tested, m_within}

-- ---- operands that fit are those of what they say

pub scale_said : (xs : List ℕ) → Fit scale_widths xs → xs ≡ get_or xs 0 0 ∷ of_z w64 (to_z w64 (get_or xs 1 0)) ∷ []
scale_said xs f = let (e, _, l) = fit_two 4 8 xs f in e ∙ rw (of_z-to_z (record { fits = l }))

names_said : (n : ℕ) (xs : List ℕ) → Fit (replicate n 1 ++ (8 ∷ [])) xs → xs ≡ first_of n xs ++ (of_z w64 (to_z w64 (get_or xs n 0)) ∷ [])
names_said zero xs f = let (e, l) = fit_one 8 xs f in e ∙ rw (of_z-to_z (record { fits = l }))
names_said (suc n) [] f = absurd f
names_said (suc n) (x ∷ xs) f = ap (λ l. x ∷ l) (names_said n xs f.1)

pub multiplier_said : (kind : ℕ) (xs : List ℕ) → Fit (multiplier_widths kind) xs → xs ≡ (multiplier_of kind xs).names ++ (of_z w64 (multiplier_of kind xs).m ∷ [])
multiplier_said kind = names_said (arity kind)

pub square_said : (xs : List ℕ) → Fit square_widths xs → xs ≡ (square_of xs).w ∷ map (of_z w16) (square_of xs).v
square_said [] f = absurd f
square_said (x ∷ xs) f = ap (λ l. x ∷ l) (signed_said w16 square_entries xs f.1)

pub entries_long : (xs : List ℕ) → length (square_of xs).v ≡ square_entries
entries_long xs = length-map (first_of square_entries (drop 1 xs)) (to_z w16) ∙ length_first square_entries (drop 1 xs)

-- ---- and operands of what is allowed fit, and say it

pub fit_names : (xs : List ℕ) (m : ℕ) → ((i : ℕ) → i < length xs → get_or xs i 0 < 256) → m < 256 ^ 8 → Fit (replicate (length xs) 1 ++ (8 ∷ [])) (xs ++ (m ∷ []))
fit_names [] m h l = (l, tt)
fit_names (x ∷ xs) m h l = (h 0 (omega arith), fit_names xs m (λ i b. h (suc i) (omega arith)) l)

pub multiplier_back : (reg : Register) (sch : Scheme) (t : Multiplier) → Allowed reg sch t → multiplier_of t.kind (t.names ++ (of_z w64 t.m ∷ [])) ≡ t
multiplier_back reg sch t a =
    let h = tested reg sch t a in
    let x : first_of (arity t.kind) (t.names ++ (of_z w64 t.m ∷ [])) ≡ t.names = first_at (arity t.kind) t.names (of_z w64 t.m ∷ []) h.names in
    let y : to_z w64 (get_or (t.names ++ (of_z w64 t.m ∷ [])) (arity t.kind) 0) ≡ t.m = ap (to_z w64) (get_or_at t.names (of_z w64 t.m) [] 0 (arity t.kind) h.names) ∙ read_signed w64 t.m (omega (arith, m_within reg sch t a)) in
    λ i. record { kind = t.kind; names = x i; m = y i }

module _ (n : ℕ) (sch : Scheme) (q : Square) (a : SquareAllowed n sch q) where
  -- entries within their range
  small : (i : ℕ) → i < square_entries → SFits w16 (get_or q.v i (pos 0))
  small i l = fits_signed w16 (get_or q.v i (pos 0)) (omega (arith, a.entries_within i l))

  pub fit_entries : Fit (replicate square_entries 2) (map (of_z w16) q.v)
  fit_entries = fit_signed w16 square_entries q.v a.entries small

  pub square_back : square_of (q.w ∷ map (of_z w16) q.v) ≡ q
  square_back = λ i. record { w = q.w; v = signed_back w16 square_entries q.v a.entries small i }
