-- The bytes of a certificate's commands: the encoding of the paper is that of the rows.
use Prim.Native.Nat.{ℕ, ◌^◌, ◌≤◌, ◌<◌}
use native.Mathlib.Omega.{arith}
use mathlib.Core.Path.{◌≡◌, refl, sym, ◌∙◌, ap, ap₂}
use mathlib.Core.List.{List, [], ◌∷◌, ◌++◌, map, flat_map, append_assoc, append-nil}
use lib.IntN.{ℤ}
use lib.ListN.{length, get_or, replicate}
use mir.Syntax.{w16, w64}
use mir.Val.{of_z}
use mir.Facts.{Fits-of_z}
use Rattle.integers.specs.Lists.{All}
use Rattle.integers.proofs.Machine.{fits_signed}
use Rattle.wire.specs.Number.{bytes_of}
use Rattle.wire.specs.Part.{Part}
use Rattle.wire.specs.Rows.{Progress, row_of}
use Rattle.wire.specs.Encoding.{fields, encode_command, encode}
use Rattle.wire.specs.Grammar as G
use Rattle.wire.proofs.Encoding.{encode-append}
use Rattle.wire.proofs.Many.{fields_signed}
use Rattle.register.specs.Limits.{max_rows}
use Rattle.register.specs.declared.Register.{Register}
use Rattle.scheme.specs.declared.Scheme.{Scheme}
use Rattle.scheme.specs.Scheme.{max_variables, variables}
use Rattle.certificate.specs.Limits.{square_entries}
use Rattle.certificate.specs.Certificate.{Certificate}
use Rattle.certificate.specs.Format.{certificate_part}
use Rattle.certificate.specs.Within.{Allowed, SquareAllowed, Within}
use Rattle.certificate.specs.Encoding.{Entry, multiplier, square, multipliers_of, squares_of, encode_scale, encode_multiplier, encode_square, encode_entry, encode_body, Encodes}
use Rattle.certificate.proofs.Ranges.{multiplier_between, among_between}
use Rattle.certificate.proofs.Conditions.{tested, m_within}
use Rattle.certificate.proofs.Checked.{names_there}
use Rattle.certificate.proofs.Readback.{fit_names, fit_entries}
use Rattle.certificate.proofs.Entries.{scale_command, command_of, end_command, certificate_of}
use Rattle.certificate.proofs.Rows.{row_multiplier}
use Rattle.certificate.proofs.Laws.{Fits, Commands}

-- ---- operands and their bytes

fields_names : (xs : List ℕ) (m : ℕ) → fields (replicate (length xs) 1 ++ (8 ∷ [])) (xs ++ (m ∷ [])) ≡ flat_map (bytes_of 1) xs ++ bytes_of 8 m
unfolding fields flat_map
fields_names [] m = append-nil (bytes_of 8 m)
fields_names (x ∷ xs) m = rw (fields_names xs m, append_assoc)

module _ (reg : Register) (sch : Scheme) where
  abbrev P : Part (Progress Certificate)
  P = certificate_part reg sch

  abbrev n : ℕ
  n = reg.choices

  -- ---- each command

  abbrev EntryAllowed : Entry → Type 0
  EntryAllowed (multiplier t) = Allowed reg sch t
  EntryAllowed (square q) = SquareAllowed n sch q

  all_allowed : (es : List Entry) → All (Allowed reg sch) (multipliers_of es) → All (SquareAllowed n sch) (squares_of es) → All EntryAllowed es
  unfolding flat_map
  all_allowed [] a b = tt
  all_allowed (multiplier t ∷ es) a b = (a.0, all_allowed es a.1 b)
  all_allowed (square q ∷ es) a b = (b.0, all_allowed es a b.1)

  scale_bytes : (s : ℕ) (target : ℤ) → encode_command P (scale_command s target) ≡ encode_scale s target
  unfolding encode_command encode_scale row_of fields
  scale_bytes s target = rw append-nil

  entry_bytes : (x : Entry) → EntryAllowed x → encode_command P (command_of x) ≡ encode_entry x
  unfolding encode_command encode_multiplier encode_square row_of fields
  entry_bytes (multiplier t) a =
      let h = tested reg sch t a in
      rw (row_multiplier reg sch t.kind h.kind, ← h.names) (ap (λ xs. t.kind ∷ xs) (fields_names t.names (of_z w64 t.m)))
  entry_bytes (square q) a = ap (λ xs. 0x3A ∷ (bytes_of 4 q.w ++ xs)) (fields_signed w16 2 square_entries q.v a.entries)

  entry_fits : variables n sch ≤ max_variables → reg.rows ≤ max_rows → (x : Entry) → EntryAllowed x → Fits reg sch (command_of x)
  unfolding row_of
  entry_fits few rows (multiplier t) a =
      let h = tested reg sch t a in
      let named : (i : ℕ) → i < length t.names → get_or t.names i 0 < 256 = λ i b. names_there reg sch 256 (omega arith) (omega arith) t a i (omega (arith, h.names)) in
      let wide : of_z w64 t.m < 256 ^ 8 = (Fits-of_z (fits_signed w64 t.m (omega (arith, m_within reg sch t a)))).fits in
      record {
        between = let r = multiplier_between t.kind h.kind in among_between t.kind (omega arith) r.1;
        operands = rw (row_multiplier reg sch t.kind h.kind) (rw h.names at (fit_names t.names (of_z w64 t.m) named wide));
      }
  entry_fits few rows (square q) a = record { between = refl; operands = (omega (arith, a.w_within), fit_entries n sch q a) }

  -- ---- all of them

  module _ (s : ℕ) (target : ℤ) (es : List Entry) (w : Within reg sch (certificate_of s target es)) where
    allowed : All EntryAllowed es
    allowed = all_allowed es w.multipliers w.squares

    commands_bytes : encode P ((scale_command s target ∷ map command_of es) ++ (end_command ∷ [])) ≡ encode_body s target es ++ (0x3F ∷ [])
    unfolding encode flat_map encode_command row_of fields
    commands_bytes =
        encode-append P (scale_command s target ∷ map command_of es) (end_command ∷ []) ∙ ap (λ x. x ++ (0x3F ∷ [])) (ap₂ (λ x y. x ++ y) (scale_bytes s target) (each es allowed))
      where
        each : (es : List Entry) → All EntryAllowed es → encode P (map command_of es) ≡ flat_map encode_entry es
        each [] a = refl
        each (x ∷ es) a = ap₂ (λ y z. y ++ z) (entry_bytes x a.0) (each es a.1)

    commands_fit : variables n sch ≤ max_variables → reg.rows ≤ max_rows → All (Fits reg sch) (scale_command s target ∷ map command_of es)
    unfolding row_of
    commands_fit few rows = (record { between = refl; operands = (omega (arith, w.scale_within), ((Fits-of_z (fits_signed w64 target (omega (arith, w.target_within)))).fits, tt)) }, each es allowed)
      where
        each : (es : List Entry) → All EntryAllowed es → All (Fits reg sch) (map command_of es)
        each [] a = tt
        each (x ∷ es) a = (entry_fits few rows x a.0, each es a.1)

  -- ---- an encoding of a certificate within the limits is the bytes of commands that say it

  pub says_encodes : (k : Certificate) (s : List ℕ) → Within reg sch k → G.Encodes P (Commands reg sch) k s → Encodes k s
  says_encodes k s w e =
      let c = e.are in
      let f = c.is_first in
      rw f.is (record {
        entries = f.entries;
        commands = record { multipliers_are = refl; squares_are = refl };
        bytes = e.bytes ∙ ap (encode P) (c.whole ∙ rw (f.whole, c.is_second.whole, c.is_second.form)) ∙ commands_bytes f.scale f.target f.entries (rw f.is at w);
      })

  pub encodes_says : variables n sch ≤ max_variables → reg.rows ≤ max_rows → (k : Certificate) (s : List ℕ) → Within reg sch k → Encodes k s → G.Encodes P (Commands reg sch) k s
  encodes_says few rows k s w e =
      let cs = scale_command k.scale k.target ∷ map command_of e.entries in
      let is : k ≡ certificate_of k.scale k.target e.entries = λ i. record { scale = k.scale; target = k.target; multipliers = sym e.commands.multipliers_are i; squares = sym e.commands.squares_are i } in
      let w' = rw is at w in
      record {
        commands = cs ++ (end_command ∷ []);
        are = record {
          first = cs;
          second = end_command ∷ [];
          is_first = record { scale = k.scale; target = k.target; entries = e.entries; is = is; fit = commands_fit k.scale k.target e.entries w' few rows; whole = refl };
          is_second = record { command = end_command; form = refl; whole = refl };
          whole = refl;
        };
        bytes = e.bytes ∙ sym (commands_bytes k.scale k.target e.entries w');
      }
