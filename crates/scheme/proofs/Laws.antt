-- The laws of the scheme's rows: what has been read is within its limits, from commands that say it; the last command can be taken
-- back; and operands are bytes.
use Prim.Native.Nat.{ℕ, suc}
use native.Mathlib.Nat.{le_antisymm}
use native.Mathlib.Omega.{arith}
use mathlib.Core.Path.{◌≡◌, refl, sym, ◌∙◌, ap}
use mathlib.Core.Logic.{◌⊎◌, inl, inr, ⊎_elim}
use mathlib.Core.Bool.{true, false, false≢true}
use mathlib.Core.List.{List, [], ◌∷◌, ◌++◌}
use lib.ListN.{get_or}
use Rattle.integers.proofs.Lists.{◌▹◌}
use Rattle.wire.specs.Rows.{is_among, row_of}
use Rattle.wire.specs.Checks.{refusal}
use Rattle.wire.specs.Encoding.{Command, Fit}
use Rattle.wire.specs.Grammar.{Only, Optional, Among, Kind, Kinds}
use Rattle.wire.proofs.Encoding.{fit_none, fit_one, fit_two}
use Rattle.wire.proofs.Grammar.{last_from, said, None, Entries, kinds_none, none_kinds, kinds_absent, kinds_stand, kinds_more, kinds_less, by_kind, under, under_all}
use Rattle.wire.proofs.Accepting.{Grows, Back, Laws}
use Rattle.wire.proofs.Ends.{Ends}
use Rattle.register.specs.declared.Register.{Register}
use Rattle.register.specs.Valid as R
use Rattle.scheme.specs.declared.Scheme.{Scheme}
use Rattle.scheme.specs.Scheme.{product_left, product_right, split_left, split_right, fresh, initial, with_factor, with_product, with_split}
use Rattle.scheme.specs.Format.{factor_checks, factor_row, product_row, split_row, end_row, scheme_rows}
use Rattle.scheme.specs.Valid.{Within, Valid}
use Rattle.scheme.specs.Encoding.{factor_command, product_command, split_command, end_command, product_kind, split_kind, kinds}
use Rattle.scheme.proofs.Passes.{factor_iff, product_iff, split_iff, end_iff}
use Rattle.scheme.proofs.Entries.{initial_within, lengths_within, initial_back, factor_more, product_kept, product_new, product_more, less_product, product_less, product_back, product_next, split_kept, split_new, split_more, less_split, split_less, split_back, split_next}

-- ---- what has been read; what commands say of it is known where B holds

abbrev pub FactorWhere : Type 0 → Scheme → Command → Type 0
FactorWhere B s c = (c.byte ≡ 0x23) × (B → c ≡ factor_command s.factor)

abbrev pub HeaderWhere : Type 0 → Scheme → List Command → Type 0
HeaderWhere B s = Optional (s.factor ≡ 1) (FactorWhere B s)

pub record Good (reg : Register) (B : Type 0) (s : Scheme) (cs : List Command) : Type 0 where
  pub within : Within reg s
  pub body : Kinds s (HeaderWhere B s) (under_all B kinds) cs

abbrev pub Done : Register → Type 0 → Scheme → List Command → Type 0
Done reg = Ends (Valid reg) HeaderWhere kinds end_command

-- the byte of its last command

pub factor_byte : {B : Type 0} (s : Scheme) {cs : List Command} → Only (FactorWhere B s) cs → last_from 0 cs ≡ 0x23
factor_byte s o = rw o.whole o.form.0

pub header_stands : (B : Type 0) (s : Scheme) {cs : List Command} → HeaderWhere B s cs → Among (last_from 0 cs) (0 ∷ 0x23 ∷ [])
header_stands B s h = ⊎_elim (λ (f, q). rw q (inl refl)) (λ o. inr (inl (factor_byte s o))) h

module _ (reg : Register) (ok : R.Valid reg) where
  abbrev n : ℕ
  n = reg.choices

  -- ---- each row keeps it

  module _ (B : Type 0) where
    -- the kinds after the products
    abbrev pub after_products : List (Kind Scheme)
    after_products = under_all B (split_kind ∷ [])

    -- up to the products
    abbrev pub ToProducts : Scheme → List Command → Type 0
    ToProducts s = Entries (HeaderWhere B s) s (under B product_kind)

    start : Good reg B initial []
    unfolding fresh
    start = record { within = initial_within reg ok.within.choices.few; body = none_kinds initial (HeaderWhere B initial) (under_all B kinds) [] (refl, (refl, tt)) (inl (refl, refl)) }

    factor_grows : Grows B (Good reg B) (Done reg B) 0x23 factor_row
    factor_grows = record {
      on = λ s cs xs g e q fit.
          let none = kinds_absent s (HeaderWhere B s) (under_all B kinds) cs factor_row.follows tt e g.body in
          ⊎_elim (after s cs xs g q fit none) (λ o. absurd (again s cs e o)) (kinds_none s (HeaderWhere B s) (under_all B kinds) cs none g.body);
    }
      where
        after : (s : Scheme) (cs : List Command) (xs : List ℕ) → Good reg B s cs → refusal (factor_checks (get_or xs 0 0)) ≡ 0 → (B → Fit (2 ∷ []) xs) → None s (under_all B kinds) → (s.factor ≡ 1) × (cs ≡ []) → Good reg B (with_factor s (get_or xs 0 0)) (cs ++ (record { byte = 0x23; operands = xs } ∷ []))
        after s cs xs g q fit none (_, first) =
            let s' = with_factor s (get_or xs 0 0) in
            record {
              within = factor_more reg s (get_or xs 0 0) g.within none.0 none.1.0 ((factor_iff (get_or xs 0 0)).0 q);
              body = none_kinds s' (HeaderWhere B s') (under_all B kinds) _ none (inr (record { command = record { byte = 0x23; operands = xs }; form = (refl, λ b. said 0x23 (fit_one 2 xs (fit b)).0); whole = rw first }));
            }

        again : (s : Scheme) (cs : List Command) → is_among (last_from 0 cs) (0 ∷ []) ≡ true → Only (FactorWhere B s) cs → ⊥
        again s cs e o = false≢true (rw (factor_byte s o) at e)

    product_grows : Grows B (Good reg B) (Done reg B) 0x21 (product_row reg)
    product_grows = record {
      on = λ s cs xs g e q fit.
          let l = get_or xs 0 0 in
          let r = get_or xs 1 0 in
          let none = kinds_absent s (ToProducts s) after_products cs (product_row reg).follows tt e g.body in
          let p = (product_iff n s l r).0 q in
          record {
            within = product_more reg s g.within l r p;
            body = kinds_more (HeaderWhere B s) s (with_product s l r) (under B product_kind) after_products none none cs (record { byte = 0x21; operands = xs }) refl
                (λ i d h k b. k b ∙ ap (λ c. product_command c.0 c.1) (sym (product_kept s l r i h)))
                (inl refl, λ b. said 0x21 (fit_two 1 1 xs (fit b)).0 ∙ ap (λ c. product_command c.0 c.1) (sym (product_new s l r (lengths_within g.within) p.few))) g.body;
          };
    }

    split_grows : Grows B (Good reg B) (Done reg B) 0x22 (split_row reg)
    split_grows = record {
      on = λ s cs xs g e q fit.
          let l = get_or xs 0 0 in
          let r = get_or xs 1 0 in
          let p = (split_iff reg s l r).0 q in
          record {
            within = split_more s l r reg g.within ok.within.terms.few p;
            body = kinds_more (ToProducts s) s (with_split s l r) (under B split_kind) [] tt tt cs (record { byte = 0x22; operands = xs }) refl
                (λ i d h k b. k b ∙ ap (λ c. split_command c.0 c.1) (sym (split_kept s l r i h)))
                (inl refl, λ b. said 0x22 (fit_two 1 1 xs (fit b)).0 ∙ ap (λ c. split_command c.0 c.1) (sym (split_new s l r (lengths_within g.within) (omega (arith, p.few, ok.within.terms.few))))) g.body;
          };
    }

    end_grows : Grows B (Good reg B) (Done reg B) 0x2F (end_row reg)
    end_grows = record {
      on = λ s cs xs g e q fit. record {
        valid = record { within = g.within; all_split = le_antisymm g.within.splits_within ((end_iff reg.terms s.splits).0 q) };
        body = record {
          first = cs;
          second = record { byte = 0x2F; operands = xs } ∷ [];
          is_first = g.body;
          is_second = record { command = record { byte = 0x2F; operands = xs }; form = (refl, λ b. said 0x2F (fit_none xs (fit b))); whole = refl };
          whole = refl;
        };
      };
    }

  -- ---- the last command taken back

  abbrev U : Type 0
  U = Unit {0}

  module _ (s : Scheme) (cs : List Command) (g : Good reg U s cs) where
    abbrev Taken : Type 0
    Taken = ((s ≡ initial) × (cs ≡ [])) ⊎ Back initial (scheme_rows reg) (Good reg U) false s cs

    none_taken : None s (under_all U kinds) → Taken
    unfolding row_of
    none_taken none = ⊎_elim missing present (kinds_none s (HeaderWhere U s) (under_all U kinds) cs none g.body)
      where
        missing : (s.factor ≡ 1) × (cs ≡ []) → Taken
        missing (f, first) = inl (sym (initial_back s g.within f none.0 none.1.0), first)

        present : Only (FactorWhere U s) cs → Taken
        present o =
            let s' = with_factor s 1 in
            inr (record {
              before = s';
              front = [];
              command = factor_command s.factor;
              good = record {
                within = factor_more reg s 1 g.within none.0 none.1.0 (record { positive = omega arith; within = omega arith });
                body = none_kinds s' (HeaderWhere U s') (under_all U kinds) [] none (inl (refl, refl));
              };
              allowed = record { byte = omega arith; here = refl; operands = (omega (arith, g.within.factor.within), tt); passes = (factor_iff s.factor).1 g.within.factor };
              after = refl;
              ends_is = refl;
              whole = o.whole ∙ rw (o.form.1 tt);
            })

    product_taken : (k : ℕ) → s.products ≡ suc k → None s (under_all U (split_kind ∷ [])) → Taken
    unfolding row_of
    product_taken k e none =
        let s' = less_product s k in
        let (w, p) = product_next s k reg g.within e none.0 in
        let f = kinds_less (HeaderWhere U s) s s' (under U product_kind) (after_products U) none none cs k e refl (λ i d h m u. m u ∙ ap (λ c. product_command c.0 c.1) (product_less s k i h)) g.body in
        inr (record {
          before = s';
          front = f.front;
          command = product_command (product_left s k) (product_right s k);
          good = record { within = w; body = f.before };
          allowed = record {
            byte = omega arith;
            here = kinds_stand s' (HeaderWhere U s') (under U product_kind ∷ []) f.front (0 ∷ 0x23 ∷ []) (product_row reg).follows tt (header_stands U s') (kinds_none s' (ToProducts U s') (after_products U) f.front none f.before);
            operands = (omega (arith, p.fits.ordered, p.fits.falls, p.room), (omega (arith, p.fits.falls, p.room), tt));
            passes = (product_iff n s' _ _).1 p;
          };
          after = product_back s k e;
          ends_is = refl;
          whole = f.whole ∙ rw (f.form.1 tt);
        })

    split_taken : (t : ℕ) → s.splits ≡ suc t → Unit {0} → Taken
    unfolding row_of
    split_taken t e none =
        let s' = less_split s t in
        let (w, p) = split_next s t reg g.within ok.within.terms.few e in
        let f = kinds_less (ToProducts U s) s s' (under U split_kind) [] tt tt cs t e refl (λ i d h m u. m u ∙ ap (λ c. split_command c.0 c.1) (split_less s t i h)) g.body in
        inr (record {
          before = s';
          front = f.front;
          command = split_command (split_left s t) (split_right s t);
          good = record { within = w; body = f.before };
          allowed = record {
            byte = omega arith;
            here = kinds_stand s' (HeaderWhere U s') (under_all U kinds) f.front (0 ∷ 0x23 ∷ []) (split_row reg).follows tt (header_stands U s') f.before;
            operands = (omega (arith, p.fits.ordered, p.fits.there, w.variables_within), (omega (arith, p.fits.there, w.variables_within), tt));
            passes = (split_iff reg s' _ _).1 p;
          };
          after = split_back s t e;
          ends_is = refl;
          whole = f.whole ∙ rw (f.form.1 tt);
        })

  end_taken : (s : Scheme) (cs : List Command) → Done reg U s cs → Back initial (scheme_rows reg) (Good reg U) true s cs
  unfolding row_of
  end_taken s cs d =
      let b = d.body in
      record {
        before = s;
        front = b.first;
        command = end_command;
        good = record { within = d.valid.within; body = b.is_first };
        allowed = record {
          byte = omega arith;
          here = kinds_stand s (HeaderWhere U s) (under_all U kinds) b.first (0 ∷ 0x23 ∷ []) (end_row reg).follows tt (header_stands U s) b.is_first;
          operands = tt;
          passes = (end_iff reg.terms s.splits).1 (omega (arith, d.valid.all_split));
        };
        after = refl;
        ends_is = refl;
        whole = b.whole ∙ rw (b.is_second.whole, b.is_second.form.1 tt);
      }

  pub laws : Laws initial (scheme_rows reg) (Good reg) (Done reg)
  laws = record {
    starts = start;
    grows = λ B. factor_grows B ▹ product_grows B ▹ split_grows B ▹ end_grows B ▹ tt;
    back = λ s cs g. by_kind (Taken s cs g) s (under_all U kinds) (none_taken s cs g) (product_taken s cs g, (split_taken s cs g, tt));
    back_end = end_taken;
  }
