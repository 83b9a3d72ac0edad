-- The laws of the register's rows: what has been read is within its limits, from commands that say it; and the last command
-- can be taken back.
use Prim.Native.Nat.{ℕ, suc, ◌-◌, ◌^◌, ◌<◌, ◌≤◌}
use native.Mathlib.Omega.{arith}
use mathlib.Core.Path.{◌≡◌, refl, sym, ◌∙◌, ap, subst}
use mathlib.Core.Logic.{◌⊎◌, inl, inr, ⊎_elim}
use mathlib.Core.Bool.{Bool, true, false, false≢true}
use mathlib.Core.List.{List, [], ◌∷◌, ◌++◌}
use lib.ListN.{length, get_or}
use lib.IntN.{ℤ, pos, nat_abs}
use lib.Pow.{pow_mono}
use mir.Syntax.{w8, w16, w32}
use mir.Val.{SFits, of_z, to_z, hbits}
use mir.Facts.{to_z-of_z, of_z-to_z, Fits-of_z}
use Rattle.integers.proofs.Lists.{◌▹◌, flag}
use Rattle.integers.proofs.Blocks.{length_ones}
use Rattle.integers.proofs.Machine.{read_signed, fits_signed}
use Rattle.wire.specs.Checks.{refusal}
use Rattle.wire.specs.Rows.{is_among, row_of}
use Rattle.wire.specs.Encoding.{Command, Fit, Allowed}
use Rattle.wire.specs.Grammar.{Only, Optional, Then, Among, Kind, Kinds}
use Rattle.wire.proofs.Encoding.{fit_none, fit_one, fit_two, fit_three}
use Rattle.wire.proofs.Grammar.{last_from, last_from_one, said, Last, then_missing, then_present, optional_last, None, Entries, apart_not, among_test, kinds_none, none_kinds, kinds_absent, kinds_stand, kinds_more, kinds_less, by_kind, under, under_all}
use Rattle.wire.proofs.Accepting.{reached, Grows, Back, Laws}
use Rattle.wire.proofs.Ends.{Ends}
use Rattle.register.specs.declared.Register.{Register}
use Rattle.register.specs.Limits.{row_entries, max_base, usual_day}
use Rattle.register.specs.Register.{tank, minute, mask, coefficient, high, is_range, window_tank, window_from, window_to, row_total, row_entry, fresh, with_base, with_length, with_choice, with_term, with_entry, with_window, with_row}
use Rattle.register.specs.Format.{base_row, choice_row, term_row, window_row, row_row, entries_of, wide_term_row, range_row, length_row, end_row, base_checks, term_checks, length_checks, register_rows, register_part}
use Rattle.register.specs.Valid.{DayLength, Within, Valid, window_at}
use Rattle.register.specs.Encoding.{base_command, length_command, choice_command, SaysKnown, SaysRanged, SaysTerm, window_command, row_list, row_command, end_command, choice_kind, term_kind, window_kind, row_kind, kinds}
use Rattle.register.proofs.Passes.{base_iff, choice_iff, NextTerm, term_iff, range_iff, window_iff, row_iff, within_byte, length_within, length_iff, end_iff}
use Rattle.register.proofs.MayFeed.{may_iff}
use Rattle.register.proofs.RowOperands.{entries_long, entries_read, row_said, row_fit, entries_back}
use Rattle.register.proofs.Entries.{fresh_within, base_more, length_more, base_back, choice_kept, choice_new, choice_more, less_choice, choice_less, choice_back, choice_next, term_at, term_kept, term_new, term_more, less_term, term_less, term_back, term_next, window_kept, window_new, window_more, less_window, window_less, window_back, window_next, row_kept, row_new, row_more, less_row, row_less, row_back, row_next}

-- ---- what has been read; what commands say of it is known where B holds

abbrev pub BaseWhere : Type 0 → Register → Command → Type 0
BaseWhere B r c = (c.byte ≡ 0x10) × (B → c ≡ base_command r.base)

abbrev pub LengthWhere : Type 0 → Register → Command → Type 0
LengthWhere B r c = (c.byte ≡ 0x18) × (B → c ≡ length_command r.day_length)

abbrev pub HeaderWhere : Type 0 → Register → List Command → Type 0
HeaderWhere B r = Then (Only (BaseWhere B r)) (Optional (r.day_length ≡ usual_day) (LengthWhere B r))

abbrev pub Body : Type 0 → Register → List Command → Type 0
Body B r = Kinds r (HeaderWhere B r) (under_all B kinds)

pub record Good (B : Type 0) (r : Register) (cs : List Command) : Type 0 where
  pub within : Within r
  pub body : ((r ≡ fresh) × (cs ≡ [])) ⊎ (DayLength r.day_length × Body B r cs)

abbrev pub Done : Type 0 → Register → List Command → Type 0
Done = Ends Valid HeaderWhere kinds end_command

-- a command that does not stand first follows the commands of a register
pub followed : {B : Type 0} {r : Register} {cs : List Command} (bs : List ℕ) → is_among 0 bs ≡ false → is_among (last_from 0 cs) bs ≡ true → Good B r cs → DayLength r.day_length × Body B r cs
followed bs f e g = ⊎_elim (λ h. absurd (false≢true (sym f ∙ rw h.1 at e))) (λ b. b) g.body

-- a header without `18`, and with it

abbrev Header10 : Type 0 → Register → List Command → Type 0
Header10 B r cs = (r.day_length ≡ usual_day) × Only (BaseWhere B r) cs

abbrev Header18 : Type 0 → Register → List Command → Type 0
Header18 B r = Last (Only (BaseWhere B r)) (LengthWhere B r)

header_by : {B : Type 0} (r : Register) {cs : List Command} → HeaderWhere B r cs → Header10 B r cs ⊎ Header18 B r cs
header_by {B} r = optional_last (Only (BaseWhere B r)) (r.day_length ≡ usual_day) (LengthWhere B r)

-- the byte of its last command

base_byte : {B : Type 0} (r : Register) {cs : List Command} → Only (BaseWhere B r) cs → last_from 0 cs ≡ 0x10
base_byte r o = rw o.whole o.form.0

length_byte : {B : Type 0} (r : Register) {cs : List Command} → Header18 B r cs → last_from 0 cs ≡ 0x18
length_byte r l = ap (last_from 0) l.whole ∙ last_from_one 0 l.front l.last ∙ l.form.0

pub header_stands : (B : Type 0) (r : Register) {cs : List Command} → HeaderWhere B r cs → Among (last_from 0 cs) (0x10 ∷ 0x18 ∷ [])
header_stands B r h = ⊎_elim (λ b. inl (base_byte r b.1)) (λ l. inr (inl (length_byte r l))) (header_by r h)

-- commands of terms whose operands fit say what is read; four bytes name narrow sets

known_said : (b w : ℕ) (xs : List ℕ) → Fit (w ∷ 4 ∷ []) xs → ◌≡◌ {A = Command} (record { byte = b; operands = xs }) (record { byte = b; operands = get_or xs 0 0 ∷ of_z w32 (to_z w32 (get_or xs 1 0)) ∷ [] })
known_said b w xs f = let (e, _, l) = fit_two w 4 xs f in said b (e ∙ rw (of_z-to_z {w = w32} (record { fits = l })))

term_said : (xs : List ℕ) → Fit term_row.widths xs → SaysKnown (get_or xs 0 0) (to_z w32 (get_or xs 1 0)) (record { byte = 0x12; operands = xs })
term_said xs f = let (_, l, _) = fit_two 4 4 xs f in inl (omega (arith, l), known_said 0x12 4 xs f)

wide_term_said : (xs : List ℕ) → Fit wide_term_row.widths xs → SaysKnown (get_or xs 0 0) (to_z w32 (get_or xs 1 0)) (record { byte = 0x15; operands = xs })
wide_term_said xs f = inr (known_said 0x15 8 xs f)

range_said : (xs : List ℕ) → Fit range_row.widths xs → SaysRanged (get_or xs 0 0) (to_z w32 (get_or xs 1 0)) (to_z w32 (get_or xs 2 0)) (record { byte = 0x16; operands = xs })
range_said [] f = absurd f
range_said (x ∷ xs) f =
    let (e, k, l) = fit_two 4 4 xs f.1 in
    (omega (arith, f.0), said 0x16 (ap (λ ys. x ∷ ys) (e ∙ rw (of_z-to_z {w = w32} (record { fits = k }), of_z-to_z {w = w32} (record { fits = l })))))

-- a command says a term, by its mask, its coefficients and whether it has a range
abbrev SaidBy : Command → ℕ × ℤ × ℤ × Bool → Type 0
SaidBy c t = SaysTerm t.3 t.0 t.1 t.2 c

-- ---- each row keeps it

module _ (B : Type 0) where
  -- the kinds after the windows, after the choices, and after the rows

  abbrev after_windows : List (Kind Register)
  after_windows = under_all B (choice_kind ∷ row_kind ∷ term_kind ∷ [])

  abbrev pub after_choices : List (Kind Register)
  after_choices = under_all B (row_kind ∷ term_kind ∷ [])

  abbrev after_rows : List (Kind Register)
  after_rows = under_all B (term_kind ∷ [])

  -- up to the windows, to the choices, and to the rows

  abbrev pub ToWindows : Register → List Command → Type 0
  ToWindows r = Entries (HeaderWhere B r) r (under B window_kind)

  abbrev pub ToChoices : Register → List Command → Type 0
  ToChoices r = Entries (ToWindows r) r (under B choice_kind)

  abbrev ToRows : Register → List Command → Type 0
  ToRows r = Entries (ToChoices r) r (under B row_kind)

  base_grows : Grows B (Good B) (Done B) 0x10 base_row
  unfolding fresh
  base_grows = record { on = λ r cs xs g e q fit. ⊎_elim (first r cs xs g e q fit) (λ (d, b). absurd (apart_not (last_from 0 cs) base_row.follows end_row.follows tt (among_test (last_from 0 cs) base_row.follows e) (among_test (last_from 0 cs) end_row.follows (kinds_stand r (HeaderWhere B r) (under_all B kinds) cs (0x10 ∷ 0x18 ∷ []) end_row.follows tt (header_stands B r) b)))) g.body }
    where
      first : (r : Register) (cs : List Command) (xs : List ℕ) → Good B r cs → is_among (last_from 0 cs) (0 ∷ []) ≡ true → refusal (base_checks (to_z w32 (get_or xs 0 0))) ≡ 0 → (B → Fit (4 ∷ []) xs) → (r ≡ fresh) × (cs ≡ []) → Good B (with_base r (to_z w32 (get_or xs 0 0))) (cs ++ (record { byte = 0x10; operands = xs } ∷ []))
      first r cs xs g e q fit (a, b) =
          let r' = with_base r (to_z w32 (get_or xs 0 0)) in
          record {
            within = base_more r g.within (to_z w32 (get_or xs 0 0)) ((base_iff _).0 q) (ap (λ r. r.choices) a) (ap (λ r. r.windows) a);
            body = inr (
              inr (inl refl),
              none_kinds r' (HeaderWhere B r') (under_all B kinds) _ (ap (λ r. r.windows) a, (ap (λ r. r.choices) a, (ap (λ r. r.rows) a, (ap (λ r. r.terms) a, tt))))
                  (then_missing (Only (BaseWhere B r')) (usual_day ≡ usual_day) (LengthWhere B r') refl
                  (record { command = record { byte = 0x10; operands = xs }; form = (refl, λ b. let (f, l) = fit_one 4 xs (fit b) in said 0x10 {ys = of_z w32 (to_z w32 (get_or xs 0 0)) ∷ []} (f ∙ rw (of_z-to_z (record { fits = l })))); whole = rw b })),
            );
          }

  choice_grows : Grows B (Good B) (Done B) 0x11 choice_row
  choice_grows = record {
    on = λ r cs xs g e q fit.
        let t = get_or xs 0 0 in
        let m = get_or xs 1 0 in
        let (d, b) = followed choice_row.follows refl e g in
        let none = kinds_absent r (ToChoices r) after_choices cs choice_row.follows tt e b in
        let (p, may) = (choice_iff r.day_length r.choices _ _ t m _).0 q in
        record {
          within = choice_more r g.within t m none.0 none.1.0 p ((may_iff r.window_tanks r.window_froms r.window_tos t m r.windows).0 may);
          body = inr (
            d,
            kinds_more (ToWindows r) r (with_choice r t m) (under B choice_kind) after_choices none none cs (record { byte = 0x11; operands = xs }) refl
                (λ i d l h b. h b ∙ ap (λ c. choice_command c.0 c.1) (sym (choice_kept r g.within t m i l)))
                (inl refl, λ b. said 0x11 (fit_two 2 2 xs (fit b)).0 ∙ ap (λ c. choice_command c.0 c.1) (sym (choice_new r g.within t m p.few))) b,
          );
        };
  }

  -- a term more, by any command that says it
  term_grown : (r : Register) (cs : List Command) (m : ℕ) (a b : ℤ) (ranged : Bool) (c : Command) → is_among c.byte term_kind.bytes ≡ true → (B → SaysTerm ranged m a b c)
      → is_among (last_from 0 cs) term_row.follows ≡ true → NextTerm r.choices r.terms (term_at r (r.terms - 1)) m a b ranged → Good B r cs → Good B (with_entry r m a b ranged) (cs ++ (c ∷ []))
  term_grown r cs m a b ranged c t says e p g =
      let (d, body) = followed term_row.follows refl e g in
      record {
        within = term_more r g.within m a b ranged p;
        body = inr (
          d,
          kinds_more (ToRows r) r (with_entry r m a b ranged) (under B term_kind) [] tt tt cs c refl
              (λ i d l h x. subst (SaidBy d) (sym (term_kept r g.within m a b ranged i l)) (h x))
              (among_test c.byte term_kind.bytes t, λ x. subst (SaidBy c) (sym (term_new r g.within m a b ranged p.few)) (says x)) body,
        );
      }

  term_grows : Grows B (Good B) (Done B) 0x12 term_row
  term_grows = record {
    on = λ r cs xs g e q fit.
        let m = get_or xs 0 0 in
        let z = to_z w32 (get_or xs 1 0) in
        term_grown r cs m z z false (record { byte = 0x12; operands = xs }) refl (λ b. term_said xs (fit b)) e ((term_iff r.choices r.terms (term_at r (r.terms - 1)) m z).0 q) g;
  }

  wide_term_grows : Grows B (Good B) (Done B) 0x15 wide_term_row
  wide_term_grows = record {
    on = λ r cs xs g e q fit.
        let m = get_or xs 0 0 in
        let z = to_z w32 (get_or xs 1 0) in
        term_grown r cs m z z false (record { byte = 0x15; operands = xs }) refl (λ b. wide_term_said xs (fit b)) e ((term_iff r.choices r.terms (term_at r (r.terms - 1)) m z).0 q) g;
  }

  range_grows : Grows B (Good B) (Done B) 0x16 range_row
  range_grows = record {
    on = λ r cs xs g e q fit.
        let m = get_or xs 0 0 in
        let a = to_z w32 (get_or xs 1 0) in
        let b = to_z w32 (get_or xs 2 0) in
        term_grown r cs m a b true (record { byte = 0x16; operands = xs }) refl (λ b. range_said xs (fit b)) e ((range_iff r.choices r.terms (term_at r (r.terms - 1)) m a b).0 q) g;
  }

  window_grows : Grows B (Good B) (Done B) 0x13 window_row
  window_grows = record {
    on = λ r cs xs g e q fit.
        let t = get_or xs 0 0 in
        let f = get_or xs 1 0 in
        let o = get_or xs 2 0 in
        let (d, b) = followed window_row.follows refl e g in
        let none = kinds_absent r (ToWindows r) after_windows cs window_row.follows tt e b in
        let p = (window_iff r.day_length r.windows (window_at r (r.windows - 1)) t f o).0 q in
        record {
          within = window_more r g.within t f o none.0 p;
          body = inr (
            d,
            kinds_more (HeaderWhere B r) r (with_window r t f o) (under B window_kind) after_windows none none cs (record { byte = 0x13; operands = xs }) refl
                (λ i d l h b. h b ∙ ap (λ c. window_command c.0 c.1 c.2) (sym (window_kept r g.within t f o i l)))
                (inl refl, λ b. said 0x13 (fit_three 2 2 2 xs (fit b)) ∙ ap (λ c. window_command c.0 c.1 c.2) (sym (window_new r g.within t f o p.few))) b,
          );
        };
  }

  row_grows : Grows B (Good B) (Done B) 0x14 row_row
  row_grows = record {
    on = λ r cs xs g e q fit.
        let z = to_z w16 (get_or xs 0 0) in
        let es = entries_of xs in
        let (d, b) = followed row_row.follows refl e g in
        let none = kinds_absent r (ToRows r) after_rows cs row_row.follows tt e b in
        let p = (row_iff r.choices r.rows z (λ j. get_or es j (pos 0)) (λ j l. entries_read xs j)).0 q in
        record {
          within = row_more r g.within z es (entries_long xs) p;
          body = inr (
            d,
            kinds_more (ToChoices r) r (with_row r z es) (under B row_kind) after_rows none none cs (record { byte = 0x14; operands = xs }) refl
                (λ i d l h b. h b ∙ ap (λ c. row_command c.0 c.1) (sym (row_kept r g.within z es (entries_long xs) i l)))
                (inl refl, λ b. said 0x14 (row_said xs (fit b)) ∙ ap (λ c. row_command c.0 c.1) (sym (row_new r g.within z es (entries_long xs) p.few))) b,
          );
        };
  }

  length_grows : Grows B (Good B) (Done B) 0x18 length_row
  length_grows = record {
    on = λ r cs xs g e q fit.
        let (_, b) = followed length_row.follows refl e g in
        let none = kinds_absent r (HeaderWhere B r) (under_all B kinds) cs length_row.follows tt e b in
        ⊎_elim (after r cs xs g q fit none) (λ l. absurd (again r cs e l)) (header_by r (kinds_none r (HeaderWhere B r) (under_all B kinds) cs none b));
  }
    where
      after : (r : Register) (cs : List Command) (xs : List ℕ) → Good B r cs → refusal (length_checks (get_or xs 0 0)) ≡ 0 → (B → Fit (2 ∷ []) xs) → None r (under_all B kinds) → Header10 B r cs → Good B (with_length r (get_or xs 0 0)) (cs ++ (record { byte = 0x18; operands = xs } ∷ []))
      after r cs xs g q fit none (_, x) =
          let r' = with_length r (get_or xs 0 0) in
          record {
            within = length_more r g.within (get_or xs 0 0) ((length_iff (get_or xs 0 0)).0 q) none.1.0 none.0;
            body = inr (
              (length_iff (get_or xs 0 0)).0 q,
              none_kinds r' (HeaderWhere B r') (under_all B kinds) _ none
                  (then_present (Only (BaseWhere B r')) (get_or xs 0 0 ≡ usual_day) (LengthWhere B r') (record { byte = 0x18; operands = xs }) x (refl, λ b. said 0x18 (fit_one 2 xs (fit b)).0)),
            );
          }

      again : (r : Register) (cs : List Command) → is_among (last_from 0 cs) (0x10 ∷ []) ≡ true → Header18 B r cs → ⊥
      again r cs e l = false≢true (rw (length_byte r l) at e)

  end_grows : Grows B (Good B) (Done B) 0x1F end_row
  end_grows = record {
    on = λ r cs xs g e q fit.
        let (d, b) = followed end_row.follows refl e g in
        record {
          valid = record { within = g.within; day_length = d; some_choice = (end_iff r.choices).0 q };
          body = record {
            first = cs;
            second = record { byte = 0x1F; operands = xs } ∷ [];
            is_first = b;
            is_second = record { command = record { byte = 0x1F; operands = xs }; form = (refl, λ b. said 0x1F (fit_none xs (fit b))); whole = refl };
            whole = refl;
          };
        };
  }

-- ---- the last command taken back

abbrev U : Type 0
U = Unit {0}

-- a signed operand of 32 bits
small : (z : ℤ) → nat_abs z ≤ max_base → nat_abs z < 2 ^ hbits w32
small z h = omega arith

-- the last term
module _ (r : Register) (w : Within r) (k : ℕ) (e : r.terms ≡ suc k) where
  abbrev less : Register
  less = less_term r k

  -- a command gives it after the others
  record Gives (c : Command) : Type 0 where
    allowed : (previous : ℕ) → is_among previous term_row.follows ≡ true → Allowed register_part (reached previous less) c
    after : (row_of register_rows c.byte).after less c.operands ≡ r
    ends : (row_of register_rows c.byte).last ≡ false

  next : NextTerm r.choices k (term_at less (k - 1)) (mask r k) (coefficient r k) (high r k) (is_range r k)
  next = (term_next r w k e).1

  low_fits : SFits w32 (coefficient r k)
  low_fits = fits_signed w32 (coefficient r k) (small (coefficient r k) (omega (arith, next.fits.coefficient_within)))

  high_fits : SFits w32 (high r k)
  high_fits = fits_signed w32 (high r k) (small (high r k) (omega (arith, next.fits.high_within)))

  -- its high coefficient is its low one
  known_gives : is_range r k ≡ false → {c : Command} → SaysKnown (mask r k) (coefficient r k) c → Gives c
  unfolding row_of
  known_gives t s =
      ⊎_elim
      (λ (n, q). rw q (record {
        allowed = λ previous h. record { byte = omega arith; here = h; operands = (omega (arith, n), ((Fits-of_z low_fits).fits, tt)); passes = passes };
        after = after;
        ends = refl;
      }))
      (λ q. rw q (record {
        allowed = λ previous h. record { byte = omega arith; here = h; operands = (omega (arith, next.fits.mask_names, pow_mono w.choices.few), ((Fits-of_z low_fits).fits, tt)); passes = passes };
        after = after;
        ends = refl;
      })) s
    where
      one : high r k ≡ coefficient r k
      one = (next.fits.known t).0

      passes : refusal (term_checks r.choices k (mask less (k - 1)) (mask r k) (to_z w32 (of_z w32 (coefficient r k)))) ≡ 0
      passes = rw (to_z-of_z low_fits) ((term_iff r.choices k (term_at less (k - 1)) (mask r k) (coefficient r k)).1 (rw (t, one) at next))

      after : with_term less (mask r k) (to_z w32 (of_z w32 (coefficient r k))) ≡ r
      after = rw (to_z-of_z low_fits) (rw (t, one) at (term_back r w k e))

  ranged_gives : is_range r k ≡ true → {c : Command} → SaysRanged (mask r k) (coefficient r k) (high r k) c → Gives c
  unfolding row_of
  ranged_gives t (n, q) =
      rw q (record {
        allowed = λ previous h. record {
          byte = omega arith;
          here = h;
          operands = (omega (arith, n), ((Fits-of_z low_fits).fits, ((Fits-of_z high_fits).fits, tt)));
          passes = rw (to_z-of_z low_fits, to_z-of_z high_fits) ((range_iff r.choices k (term_at less (k - 1)) (mask r k) (coefficient r k) (high r k)).1 (rw t at next));
        };
        after = rw (to_z-of_z low_fits, to_z-of_z high_fits) (rw t at (term_back r w k e));
        ends = refl;
      })

  said_gives : {c : Command} → SaysTerm (is_range r k) (mask r k) (coefficient r k) (high r k) c → Gives c
  said_gives {c} s = flag (is_range r k) (λ t. ranged_gives t (rw t at s)) (λ t. known_gives t (rw t at s))

module _ (r : Register) (cs : List Command) (w : Within r) (d : DayLength r.day_length) (b : Body U r cs) where
  base_taken : None r (under_all U kinds) → Header10 U r cs → Back fresh register_rows (Good U) false r cs
  unfolding row_of
  base_taken none (usual, h) =
      let same = read_signed w32 r.base (small r.base w.base) in
      record {
        before = fresh;
        front = [];
        command = base_command r.base;
        good = record { within = fresh_within; body = inl (refl, refl) };
        allowed = record { byte = omega arith; here = refl; operands = ((Fits-of_z (fits_signed w32 r.base (small r.base w.base))).fits, tt); passes = rw same ((base_iff r.base).1 w.base) };
        after = rw same (base_back r w usual none.0 none.1.0 none.1.1.0 none.1.1.1.0);
        ends_is = refl;
        whole = h.whole ∙ rw (h.form.1 tt);
      }

  length_taken : None r (under_all U kinds) → Header18 U r cs → Back fresh register_rows (Good U) false r cs
  unfolding row_of
  length_taken none l =
      let r' = with_length r usual_day in
      record {
        before = r';
        front = l.front;
        command = length_command r.day_length;
        good = record {
          within = length_more r w usual_day (inr (inl refl)) none.1.0 none.0;
          body = inr (inr (inl refl), none_kinds r' (HeaderWhere U r') (under_all U kinds) l.front none (then_missing (Only (BaseWhere U r')) (usual_day ≡ usual_day) (LengthWhere U r') refl l.before));
        };
        allowed = record { byte = omega arith; here = rw (base_byte r l.before); operands = (omega (arith, length_within d), tt); passes = (length_iff r.day_length).1 d };
        after = refl;
        ends_is = refl;
        whole = l.whole ∙ rw (l.form.1 tt);
      }

  header_taken : None r (under_all U kinds) → Back fresh register_rows (Good U) false r cs
  header_taken none = ⊎_elim (base_taken none) (length_taken none) (header_by r (kinds_none r (HeaderWhere U r) (under_all U kinds) cs none b))

  choice_taken : (n : ℕ) → r.choices ≡ suc n → None r (under_all U (row_kind ∷ term_kind ∷ [])) → Back fresh register_rows (Good U) false r cs
  unfolding row_of
  choice_taken n e none =
      let r' = less_choice r n in
      let (w', p, may) = choice_next r w n e none.0 none.1.0 in
      let l = kinds_less (ToWindows U r) r r' (under U choice_kind) (after_choices U) none none cs n e refl (λ i d k h u. h u ∙ ap (λ c. choice_command c.0 c.1) (choice_less r w n e i k)) b in
      record {
        before = r';
        front = l.front;
        command = choice_command (tank r n) (minute r n);
        good = record { within = w'; body = inr (d, l.before) };
        allowed = record {
          byte = omega arith;
          here = kinds_stand r' (HeaderWhere U r) (under_all U (window_kind ∷ choice_kind ∷ [])) l.front (0x10 ∷ 0x18 ∷ []) choice_row.follows tt (header_stands U r) (kinds_none r' (ToChoices U r') (after_choices U) l.front none l.before);
          operands = (omega (arith, p.fits.tank_within), (omega (arith, p.fits.minute_below, length_within d), tt));
          passes = (choice_iff _ _ _ _ _ _ _).1 (p, (may_iff r.window_tanks r.window_froms r.window_tos (tank r n) (minute r n) r.windows).1 may);
        };
        after = choice_back r w n e;
        ends_is = refl;
        whole = l.whole ∙ rw (l.form.1 tt);
      }

  window_taken : (k : ℕ) → r.windows ≡ suc k → None r (under_all U (choice_kind ∷ row_kind ∷ term_kind ∷ [])) → Back fresh register_rows (Good U) false r cs
  unfolding row_of
  window_taken k e none =
      let r' = less_window r k in
      let (w', p) = window_next r w k e none.0 in
      let l = kinds_less (HeaderWhere U r) r r' (under U window_kind) (after_windows U) none none cs k e refl (λ i d l h u. h u ∙ ap (λ c. window_command c.0 c.1 c.2) (window_less r w k e i l)) b in
      record {
        before = r';
        front = l.front;
        command = window_command (window_tank r k) (window_from r k) (window_to r k);
        good = record { within = w'; body = inr (d, l.before) };
        allowed = record {
          byte = omega arith;
          here = kinds_stand r' (HeaderWhere U r) (under U window_kind ∷ []) l.front (0x10 ∷ 0x18 ∷ []) window_row.follows tt (header_stands U r) (kinds_none r' (ToWindows U r') (after_windows U) l.front none l.before);
          operands = (omega (arith, p.fits.tank_within), (omega (arith, p.fits.from_below, length_within d), (omega (arith, p.fits.to_within, length_within d), tt)));
          passes = (window_iff r.day_length k (window_at r' (k - 1)) _ _ _).1 p;
        };
        after = window_back r w k e;
        ends_is = refl;
        whole = l.whole ∙ rw (l.form.1 tt);
      }

  row_taken : (k : ℕ) → r.rows ≡ suc k → None r (under_all U (term_kind ∷ [])) → Back fresh register_rows (Good U) false r cs
  unfolding row_of
  row_taken k e none =
      let r' = less_row r k in
      let (w', p) = row_next r w k e in
      let z = row_total r k in
      let es = row_list r k in
      let long : length es ≡ row_entries = length_ones (row_entry r k) row_entries in
      let bytes : (j : ℕ) → j < row_entries → SFits w8 (get_or es j (pos 0)) = λ j l. within_byte (get_or es j (pos 0)) (p.fits.entry_above j l) (p.fits.entry_below j l) in
      let f : SFits w16 z = fits_signed w16 z (omega (arith, p.fits.total_within)) in
      let l = kinds_less (ToChoices U r) r r' (under U row_kind) (after_rows U) none none cs k e refl (λ i d k' h u. h u ∙ ap (λ c. row_command c.0 c.1) (row_less r w k e i k')) b in
      record {
        before = r';
        front = l.front;
        command = row_command z es;
        good = record { within = w'; body = inr (d, l.before) };
        allowed = record {
          byte = omega arith;
          here = kinds_stand r' (HeaderWhere U r) (under_all U (window_kind ∷ choice_kind ∷ row_kind ∷ [])) l.front (0x10 ∷ 0x18 ∷ []) row_row.follows tt (header_stands U r) (kinds_none r' (ToRows U r') (after_rows U) l.front none l.before);
          operands = row_fit z es long bytes f;
          passes = rw (to_z-of_z f, entries_back z es long bytes) ((row_iff r.choices k z (λ j. get_or es j (pos 0)) bytes).1 p);
        };
        after = rw (to_z-of_z f, entries_back z es long bytes) (row_back r w k e);
        ends_is = refl;
        whole = l.whole ∙ rw (l.form.1 tt);
      }

  term_taken : (k : ℕ) → r.terms ≡ suc k → Unit {0} → Back fresh register_rows (Good U) false r cs
  term_taken k e none =
      let r' = less_term r k in
      let l = kinds_less (ToRows U r) r r' (under U term_kind) [] tt tt cs k e refl (λ i d k' h u. subst (SaidBy d) (term_less r w k e i k') (h u)) b in
      let g = said_gives r w k e (l.form.1 tt) in
      record {
        before = r';
        front = l.front;
        command = l.last;
        good = record { within = (term_next r w k e).0; body = inr (d, l.before) };
        allowed = g.allowed (last_from 0 l.front) (kinds_stand r' (HeaderWhere U r) (under_all U kinds) l.front (0x10 ∷ 0x18 ∷ []) term_row.follows tt (header_stands U r) l.before);
        after = g.after;
        ends_is = g.ends;
        whole = l.whole;
      }

end_taken : (r : Register) (cs : List Command) → Done U r cs → Back fresh register_rows (Good U) true r cs
unfolding row_of
end_taken r cs d =
    let b = d.body in
    record {
      before = r;
      front = b.first;
      command = end_command;
      good = record { within = d.valid.within; body = inr (d.valid.day_length, b.is_first) };
      allowed = record {
        byte = omega arith;
        here = kinds_stand r (HeaderWhere U r) (under_all U kinds) b.first (0x10 ∷ 0x18 ∷ []) end_row.follows tt (header_stands U r) b.is_first;
        operands = tt;
        passes = (end_iff r.choices).1 d.valid.some_choice;
      };
      after = refl;
      ends_is = refl;
      whole = b.whole ∙ rw (b.is_second.whole, b.is_second.form.1 tt);
    }

pub laws : Laws fresh register_rows Good Done
laws = record {
  starts = λ B. record { within = fresh_within; body = inl (refl, refl) };
  grows = λ B. base_grows B ▹ choice_grows B ▹ term_grows B ▹ window_grows B ▹ row_grows B ▹ wide_term_grows B ▹ range_grows B ▹ length_grows B ▹ end_grows B ▹ tt;
  back = λ r cs g. ⊎_elim (λ h. inl h) (λ (d, b). inr (by_kind (Back fresh register_rows (Good U) false r cs) r (under_all U kinds) (header_taken r cs g.within d b) (window_taken r cs g.within d b, (choice_taken r cs g.within d b, (row_taken r cs g.within d b, (term_taken r cs g.within d b, tt)))))) g.body;
  back_end = end_taken;
}
