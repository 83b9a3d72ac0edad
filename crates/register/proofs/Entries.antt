-- A register with a day length, with one choice, one term, one window or one row more, and with one less: its entries, and that it
-- stays within its limits.
use Prim.Native.Nat.{ℕ, zero, suc, ◌+◌, ◌-◌, ◌*◌, ◌<◌, ◌≤◌}
use native.Mathlib.Omega.{arith}
use native.Mathlib.Decide.{ℕ_discrete}
use mathlib.Core.Path.{◌≡◌, refl, sym, ◌∙◌, ap, subst}
use mathlib.Core.Logic.{inl, inr, ⊎_elim}
use mathlib.Core.Bool.{Bool, false}
use mathlib.Core.List.{List, [], ◌∷◌}
use lib.ListN.{length, get_or, set, replicate}
use lib.Seq.{sets, get_or-set_same, set-get_or}
use lib.IntN.{ℤ, pos, nat_abs}
use mir.Syntax.{w8}
use mir.Val.{SFits}
use borrow.Author.Tests.{lt-ltb, le-ltb}
use Rattle.integers.specs.Lists.{join_below}
use Rattle.integers.proofs.Join.{join_cong}
use Rattle.integers.proofs.Blocks.{ones_at, ones_are, sets_other, sets_in, column_block, column_unblock, sets_back}
use Rattle.integers.proofs.Entries.{below_or_last, each_more, kept_set, column_none, column_empty, column_more, column_less, set_back, table_none, table_more, table_less}
use Rattle.register.specs.declared.Register.{Register}
use Rattle.register.specs.Limits.{max_choices, max_terms, max_windows, max_rows, row_entries, max_base, usual_day, long_day}
use Rattle.register.specs.Register.{tank, minute, mask, coefficient, high, is_range, window_tank, window_from, window_to, entry_in, row_total, row_entry, fresh, set_base, set_length, set_choices, set_terms, set_windows, set_rows, with_base, with_length, with_choice, with_entry, with_window, with_row}
use Rattle.register.specs.Answer.{NoFall}
use Rattle.register.specs.Valid.{DayLength, FeedingRow, Within, Choices, Terms, Windows, Rows, MayFeed, window_at}
use Rattle.register.specs.Encoding.{row_list}
use Rattle.register.proofs.Passes.{NextChoice, NextTerm, NextWindow, NextRow, within_byte, length_within}

-- ---- with no choice, term, window or row

pub choices_none : (length : ℕ) → Choices length 0 (replicate max_choices 0) (replicate max_choices 0)
choices_none length = let column = column_none {A = ℕ} max_choices 0 in record { tanks = column; minutes = column; table = table_none max_choices _ _ _ }

pub terms_none : (n : ℕ) → Terms n 0 (replicate max_terms 0) (replicate max_terms (pos 0)) (replicate max_terms (pos 0)) (replicate max_terms false)
terms_none n = let column = column_none max_terms (pos 0) in record { masks = column_none max_terms 0; coefficients = column; highs = column; ranged = column_none max_terms false; table = table_none max_terms _ _ _ }

pub windows_none : (length : ℕ) → Windows length 0 (replicate max_windows 0) (replicate max_windows 0) (replicate max_windows 0)
windows_none length = let column = column_none {A = ℕ} max_windows 0 in record { tanks = column; froms = column; tos = column; table = table_none max_windows _ _ _ }

pub rows_none : (n : ℕ) → Rows n 0 (replicate max_rows (pos 0)) (replicate (max_rows * row_entries) (pos 0))
rows_none n = record {
  totals = column_none max_rows (pos 0);
  entries = column_none (max_rows * row_entries) (pos 0);
  few = omega arith;
  each = λ i l. absurd (omega arith);
}

-- those that are none are right on a day of any length, and over any choices

choices_on : {n a : ℕ} {ts ms : List ℕ} (b : ℕ) → n ≡ 0 → Choices a n ts ms → Choices b n ts ms
choices_on b e c = record { tanks = c.tanks; minutes = c.minutes; table = rw e (table_none max_choices _ _ _) }

windows_on : {k a : ℕ} {ts fs os : List ℕ} (b : ℕ) → k ≡ 0 → Windows a k ts fs os → Windows b k ts fs os
windows_on b e w = record { tanks = w.tanks; froms = w.froms; tos = w.tos; table = rw e (table_none max_windows _ _ _) }

terms_over : {m a : ℕ} {ms : List ℕ} {cs hs : List ℤ} {rs : List Bool} (b : ℕ) → m ≡ 0 → Terms a m ms cs hs rs → Terms b m ms cs hs rs
terms_over b e t = record { masks = t.masks; coefficients = t.coefficients; highs = t.highs; ranged = t.ranged; table = rw e (table_none max_terms _ _ _) }

rows_over : {k a : ℕ} {bs es : List ℤ} (b : ℕ) → k ≡ 0 → Rows a k bs es → Rows b k bs es
rows_over b e q = record { totals = q.totals; entries = q.entries; few = q.few; each = λ i l. absurd (omega arith) }

pub fresh_within : Within fresh
unfolding fresh
fresh_within = record {
  base = omega arith;
  day = inl refl;
  choices = choices_none 0;
  terms = terms_none 0;
  windows = windows_none 0;
  rows = rows_none 0;
  may_feed = λ i l. absurd (omega arith);
}

-- no day is longer than the longest
pub day_within : (r : Register) → Within r → r.day_length ≤ long_day
day_within r w = ⊎_elim (λ z. omega (arith, z)) length_within w.day

-- ---- a register with other values of one group stays within its limits, and is the same where they are

module _ (r : Register) (w : Within r) where
  in_base : (base : ℤ) → nat_abs base ≤ max_base → Within (set_base r base)
  in_base base h = record { base = h; day = w.day; choices = w.choices; terms = w.terms; windows = w.windows; rows = w.rows; may_feed = w.may_feed }

  -- another day length, where there is no choice and no window
  in_length : (length : ℕ) → DayLength length → r.choices ≡ 0 → r.windows ≡ 0 → Within (set_length r length)
  in_length length d none no_window = record {
    base = w.base;
    day = inr d;
    choices = choices_on length none w.choices;
    terms = w.terms;
    windows = windows_on length no_window w.windows;
    rows = w.rows;
    may_feed = w.may_feed;
  }

  -- other choices, where there is no row and no term
  in_choices : {n : ℕ} {tanks minutes : List ℕ} → r.rows ≡ 0 → r.terms ≡ 0 → Choices r.day_length n tanks minutes
      → ((i : ℕ) → i < n → MayFeed r.windows (window_at r) (get_or tanks i 0) (get_or minutes i 0)) → Within (set_choices r n tanks minutes)
  in_choices no_row_lem none c may = record {
    base = w.base;
    day = w.day;
    choices = c;
    terms = terms_over _ none w.terms;
    windows = w.windows;
    rows = rows_over _ no_row_lem w.rows;
    may_feed = may;
  }

  in_terms : {m : ℕ} {masks : List ℕ} {lows highs : List ℤ} {ranged : List Bool} → Terms r.choices m masks lows highs ranged → Within (set_terms r m masks lows highs ranged)
  in_terms t = record { base = w.base; day = w.day; choices = w.choices; terms = t; windows = w.windows; rows = w.rows; may_feed = w.may_feed }

  -- other windows, in which each choice may be fed
  pub in_windows : {k : ℕ} {tanks froms tos : List ℕ} → Windows r.day_length k tanks froms tos → let r' = set_windows r k tanks froms tos in
      ((i : ℕ) → i < r.choices → MayFeed k (window_at r') (tank r i) (minute r i)) → Within r'
  in_windows k may = record { base = w.base; day = w.day; choices = w.choices; terms = w.terms; windows = k; rows = w.rows; may_feed = may }

  pub in_rows : {k : ℕ} {totals entries : List ℤ} → Rows r.choices k totals entries → Within (set_rows r k totals entries)
  in_rows q = record { base = w.base; day = w.day; choices = w.choices; terms = w.terms; windows = w.windows; rows = q; may_feed = w.may_feed }

module _ (r : Register) where
  same_choices : {n : ℕ} {tanks minutes : List ℕ} → n ≡ r.choices → tanks ≡ r.tanks → minutes ≡ r.minutes → set_choices r n tanks minutes ≡ r
  same_choices a b c = rw (a, b, c)

  same_terms : {m : ℕ} {masks : List ℕ} {lows highs : List ℤ} {ranged : List Bool} → m ≡ r.terms → masks ≡ r.masks → lows ≡ r.coefficients → highs ≡ r.highs → ranged ≡ r.ranged → set_terms r m masks lows highs ranged ≡ r
  same_terms a b c d e = rw (a, b, c, d, e)

  same_windows : {k : ℕ} {tanks froms tos : List ℕ} → k ≡ r.windows → tanks ≡ r.window_tanks → froms ≡ r.window_froms → tos ≡ r.window_tos → set_windows r k tanks froms tos ≡ r
  same_windows a b c d = rw (a, b, c, d)

  same_rows : {k : ℕ} {totals entries : List ℤ} → k ≡ r.rows → totals ≡ r.row_totals → entries ≡ r.row_entries → set_rows r k totals entries ≡ r
  same_rows a b c = rw (a, b, c)

-- ---- the base cost and the day length

abbrev no_terms : Register → Register
no_terms r = set_terms r 0 (replicate max_terms 0) (replicate max_terms (pos 0)) (replicate max_terms (pos 0)) (replicate max_terms false)

abbrev no_windows : Register → Register
no_windows r = set_windows r 0 (replicate max_windows 0) (replicate max_windows 0) (replicate max_windows 0)

abbrev no_rows : Register → Register
no_rows r = set_rows r 0 (replicate max_rows (pos 0)) (replicate (max_rows * row_entries) (pos 0))

module _ (r : Register) (w : Within r) where
  pub base_more : (base : ℤ) → nat_abs base ≤ max_base → r.choices ≡ 0 → r.windows ≡ 0 → Within (with_base r base)
  base_more base h = in_length (set_base r base) (in_base r w base h) usual_day (inr (inl refl))

  pub length_more : (length : ℕ) → DayLength length → r.choices ≡ 0 → r.windows ≡ 0 → Within (with_length r length)
  length_more = in_length r w

  -- a register of the usual length with no windows, choices, rows or terms has only a base cost
  pub base_back : r.day_length ≡ usual_day → r.windows ≡ 0 → r.choices ≡ 0 → r.rows ≡ 0 → r.terms ≡ 0 → with_base fresh r.base ≡ r
  unfolding fresh
  base_back d k c q t =
      ap (λ x. no_rows (no_windows (no_terms (set_choices (set_length r x) 0 (replicate max_choices 0) (replicate max_choices 0))))) (sym d)
      ∙ ap (λ x. no_rows (no_windows (no_terms x))) (same_choices r (sym c) (column_empty max_choices _ 0 _ c w.choices.tanks) (column_empty max_choices _ 0 _ c w.choices.minutes))
      ∙ ap (λ x. no_rows (no_windows x)) (same_terms r (sym t) (column_empty max_terms _ 0 _ t w.terms.masks) (column_empty max_terms _ (pos 0) _ t w.terms.coefficients) (column_empty max_terms _ (pos 0) _ t w.terms.highs) (column_empty max_terms _ false _ t w.terms.ranged))
      ∙ ap no_rows (same_windows r (sym k) (column_empty max_windows _ 0 _ k w.windows.tanks) (column_empty max_windows _ 0 _ k w.windows.froms) (column_empty max_windows _ 0 _ k w.windows.tos))
      ∙ same_rows r (sym q) (column_empty max_rows _ (pos 0) _ q w.rows.totals) (column_empty (max_rows * row_entries) _ (pos 0) _ (omega arith) w.rows.entries)

-- ---- choices: the entries of a register with one more, where there is no row and no term yet, and of one with one less

abbrev pub choice_at : Register → ℕ → ℕ × ℕ
choice_at r i = (tank r i, minute r i)

module _ (r : Register) (w : Within r) (t m : ℕ) where
  abbrev n : ℕ
  n = r.choices

  pub choice_kept : (i : ℕ) → i < n → choice_at (with_choice r t m) i ≡ choice_at r i
  choice_kept i l = rw (kept_set r.tanks n t 0 i l, kept_set r.minutes n m 0 i l)

  pub choice_new : n < max_choices → choice_at (with_choice r t m) n ≡ (t, m)
  choice_new l = rw (get_or-set_same r.tanks n t 0 (omega (arith, w.choices.tanks.room)), get_or-set_same r.minutes n m 0 (omega (arith, w.choices.minutes.room)))

  pub choice_more : r.rows ≡ 0 → r.terms ≡ 0 → NextChoice r.day_length n (tank r (n - 1)) (minute r (n - 1)) t m → MayFeed r.windows (window_at r) t m → Within (with_choice r t m)
  choice_more no_row_lem none p may =
      in_choices r w no_row_lem none (record {
        tanks = column_more t w.choices.tanks;
        minutes = column_more m w.choices.minutes;
        table = table_more (choice_at r) (choice_at (with_choice r t m)) n (t, m) choice_kept (choice_new p.few) w.choices.table p;
      })
      (each_more (choice_at r) (choice_at (with_choice r t m)) n (t, m) choice_kept (choice_new p.few) (λ c. MayFeed r.windows (window_at r) c.0 c.1) w.may_feed may)

-- without its last choice
abbrev pub less_choice : Register → ℕ → Register
less_choice r n = set_choices r n (set r.tanks n 0) (set r.minutes n 0)

module _ (r : Register) (w : Within r) (n : ℕ) (e : r.choices ≡ suc n) where
  few : n < max_choices
  few = omega (arith, w.choices.few)

  pub choice_less : (i : ℕ) → i < n → choice_at r i ≡ choice_at (less_choice r n) i
  choice_less i l = rw (kept_set r.tanks n 0 0 i l, kept_set r.minutes n 0 0 i l)

  pub choice_back : with_choice (less_choice r n) (tank r n) (minute r n) ≡ r
  choice_back = same_choices r (sym e) (set_back r.tanks n 0) (set_back r.minutes n 0)

  pub choice_next : r.rows ≡ 0 → r.terms ≡ 0 → Within (less_choice r n) × NextChoice r.day_length n (tank (less_choice r n) (n - 1)) (minute (less_choice r n) (n - 1)) (tank r n) (minute r n) × MayFeed r.windows (window_at r) (tank r n) (minute r n)
  choice_next no_row_lem none =
      let (t, p) = table_less (choice_at (less_choice r n)) (choice_at r) n (choice_at r n) choice_less refl (rw e at w.choices.table) in
      let may : (i : ℕ) → i < n → MayFeed r.windows (window_at r) (tank (less_choice r n) i) (minute (less_choice r n) i) = λ i l. subst (λ c. MayFeed r.windows (window_at r) c.0 c.1) (choice_less i l) (w.may_feed i (omega arith)) in
      (in_choices r w no_row_lem none (record { tanks = column_less few (rw e at w.choices.tanks); minutes = column_less few (rw e at w.choices.minutes); table = t }) may, p, w.may_feed n (omega arith))

-- ---- terms, with a range or without: the entries of a register with one more, and of one with one less

abbrev pub term_at : Register → ℕ → ℕ × ℤ × ℤ × Bool
term_at r t = (mask r t, coefficient r t, high r t, is_range r t)

module _ (r : Register) (w : Within r) (m : ℕ) (a b : ℤ) (ranged : Bool) where
  abbrev k : ℕ
  k = r.terms

  pub term_kept : (t : ℕ) → t < k → term_at (with_entry r m a b ranged) t ≡ term_at r t
  term_kept t l = rw (kept_set r.masks k m 0 t l, kept_set r.coefficients k a (pos 0) t l, kept_set r.highs k b (pos 0) t l, kept_set r.ranged k ranged false t l)

  pub term_new : k < max_terms → term_at (with_entry r m a b ranged) k ≡ (m, a, b, ranged)
  term_new l =
      rw (
        get_or-set_same r.masks k m 0 (omega (arith, w.terms.masks.room)),
        get_or-set_same r.coefficients k a (pos 0) (omega (arith, w.terms.coefficients.room)),
        get_or-set_same r.highs k b (pos 0) (omega (arith, w.terms.highs.room)),
        get_or-set_same r.ranged k ranged false (omega (arith, w.terms.ranged.room)),
      )

  pub term_more : NextTerm r.choices k (term_at r (k - 1)) m a b ranged → Within (with_entry r m a b ranged)
  term_more p =
      in_terms r w (record {
        masks = column_more m w.terms.masks;
        coefficients = column_more a w.terms.coefficients;
        highs = column_more b w.terms.highs;
        ranged = column_more ranged w.terms.ranged;
        table = table_more (term_at r) (term_at (with_entry r m a b ranged)) k (m, a, b, ranged) term_kept (term_new p.few) w.terms.table p;
      })

-- that the next term has no range is what its entry says already
pub still_unranged : (r : Register) → Within r → set r.ranged r.terms false ≡ r.ranged
still_unranged r w = ap (set r.ranged r.terms) (sym (w.terms.ranged.rest r.terms (omega arith))) ∙ set-get_or r.ranged r.terms false

-- without its last term
abbrev pub less_term : Register → ℕ → Register
less_term r k = set_terms r k (set r.masks k 0) (set r.coefficients k (pos 0)) (set r.highs k (pos 0)) (set r.ranged k false)

module _ (r : Register) (w : Within r) (k : ℕ) (e : r.terms ≡ suc k) where
  some : k < max_terms
  some = omega (arith, w.terms.few)

  pub term_less : (t : ℕ) → t < k → term_at r t ≡ term_at (less_term r k) t
  term_less t l = rw (kept_set r.masks k 0 0 t l, kept_set r.coefficients k (pos 0) (pos 0) t l, kept_set r.highs k (pos 0) (pos 0) t l, kept_set r.ranged k false false t l)

  pub term_back : with_entry (less_term r k) (mask r k) (coefficient r k) (high r k) (is_range r k) ≡ r
  term_back = same_terms r (sym e) (set_back r.masks k 0) (set_back r.coefficients k (pos 0)) (set_back r.highs k (pos 0)) (set_back r.ranged k false)

  pub term_next : Within (less_term r k) × NextTerm r.choices k (term_at (less_term r k) (k - 1)) (mask r k) (coefficient r k) (high r k) (is_range r k)
  term_next =
      let (t, p) = table_less (term_at (less_term r k)) (term_at r) k (term_at r k) term_less refl (rw e at w.terms.table) in
      (in_terms r w (record { masks = column_less some (rw e at w.terms.masks); coefficients = column_less some (rw e at w.terms.coefficients); highs = column_less some (rw e at w.terms.highs); ranged = column_less some (rw e at w.terms.ranged); table = t }), p)

-- ---- windows: the entries of a register with one more, where there is no choice yet, and of one with one less

module _ (r : Register) (w : Within r) (t f o : ℕ) where
  abbrev h : ℕ
  h = r.windows

  pub window_kept : (j : ℕ) → j < h → window_at (with_window r t f o) j ≡ window_at r j
  window_kept j l = rw (kept_set r.window_tanks h t 0 j l, kept_set r.window_froms h f 0 j l, kept_set r.window_tos h o 0 j l)

  pub window_new : h < max_windows → window_at (with_window r t f o) h ≡ (t, f, o)
  window_new l =
      rw (
        get_or-set_same r.window_tanks h t 0 (omega (arith, w.windows.tanks.room)),
        get_or-set_same r.window_froms h f 0 (omega (arith, w.windows.froms.room)),
        get_or-set_same r.window_tos h o 0 (omega (arith, w.windows.tos.room)),
      )

  pub window_more : r.choices ≡ 0 → NextWindow r.day_length h (window_at r (h - 1)) t f o → Within (with_window r t f o)
  window_more none p =
      in_windows r w (record {
        tanks = column_more t w.windows.tanks;
        froms = column_more f w.windows.froms;
        tos = column_more o w.windows.tos;
        table = table_more (window_at r) (window_at (with_window r t f o)) h (t, f, o) window_kept (window_new p.few) w.windows.table p;
      }) (λ i l. absurd (omega arith))

-- without its last window
abbrev pub less_window : Register → ℕ → Register
less_window r k = set_windows r k (set r.window_tanks k 0) (set r.window_froms k 0) (set r.window_tos k 0)

module _ (r : Register) (w : Within r) (k : ℕ) (e : r.windows ≡ suc k) where
  fits : k < max_windows
  fits = omega (arith, w.windows.few)

  pub window_less : (j : ℕ) → j < k → window_at r j ≡ window_at (less_window r k) j
  window_less j l = rw (kept_set r.window_tanks k 0 0 j l, kept_set r.window_froms k 0 0 j l, kept_set r.window_tos k 0 0 j l)

  pub window_back : with_window (less_window r k) (window_tank r k) (window_from r k) (window_to r k) ≡ r
  window_back = same_windows r (sym e) (set_back r.window_tanks k 0) (set_back r.window_froms k 0) (set_back r.window_tos k 0)

  pub window_next : r.choices ≡ 0 → Within (less_window r k) × NextWindow r.day_length k (window_at (less_window r k) (k - 1)) (window_tank r k) (window_from r k) (window_to r k)
  window_next none =
      let (t, p) = table_less (window_at (less_window r k)) (window_at r) k (window_at r k) window_less refl (rw e at w.windows.table) in (
        in_windows r w (record { tanks = column_less fits (rw e at w.windows.tanks); froms = column_less fits (rw e at w.windows.froms); tos = column_less fits (rw e at w.windows.tos); table = t })
            (λ i l. absurd (omega arith)),
        p,
      )

-- ---- rows: the entries of a register with one more, and of one with one less

-- an entry is in the list for the first choices, and 0 for every other

pub entry_there : (es : List ℤ) (k j : ℕ) → j < row_entries → entry_in es k j ≡ get_or es (k * row_entries + j) (pos 0)
entry_there es k j l = rw (lt-ltb j row_entries l)

pub entry_past : (es : List ℤ) (k j : ℕ) → row_entries ≤ j → entry_in es k j ≡ pos 0
entry_past es k j l = rw (le-ltb j row_entries l)

-- a row with the same total and entries
same_row : {n : ℕ} {b c : ℤ} {f g : ℕ → ℤ} → c ≡ b → ((j : ℕ) → j < row_entries → g j ≡ f j) → FeedingRow n b f → FeedingRow n c g
same_row e h k = record {
  total_within = rw e k.total_within;
  entry_above = λ j l. rw (h j l) (k.entry_above j l);
  entry_below = λ j l. rw (h j l) (k.entry_below j l);
  past_0 = λ j a l. h j l ∙ k.past_0 j a l;
}

-- a row as its command says it
abbrev pub row_said : Register → ℕ → ℤ × List ℤ
row_said r k = (row_total r k, row_list r k)

module _ (r : Register) (w : Within r) (b : ℤ) (es : List ℤ) (long : length es ≡ row_entries) where
  abbrev q : ℕ
  q = r.rows

  entry_kept : (i j : ℕ) → i < q → j < row_entries → row_entry (with_row r b es) i j ≡ row_entry r i j
  entry_kept i j l h = entry_there _ i j h ∙ sets_other (pos 0) es r.row_entries (q * row_entries) (i * row_entries + j) (inl (omega arith)) ∙ sym (entry_there r.row_entries i j h)

  entry_new : q < max_rows → (j : ℕ) → j < row_entries → row_entry (with_row r b es) q j ≡ get_or es j (pos 0)
  entry_new l j h = entry_there _ q j h ∙ sets_in (pos 0) es r.row_entries (q * row_entries) j (omega arith) (omega (arith, w.rows.entries.room))

  total_kept : (i : ℕ) → i < q → row_total (with_row r b es) i ≡ row_total r i
  total_kept i l = kept_set r.row_totals q b (pos 0) i l

  total_new : q < max_rows → row_total (with_row r b es) q ≡ b
  total_new l = get_or-set_same r.row_totals q b (pos 0) (omega (arith, w.rows.totals.room))

  pub row_kept : (i : ℕ) → i < q → row_said (with_row r b es) i ≡ row_said r i
  row_kept i l = rw (total_kept i l, join_cong row_entries _ _ (λ j h. ap (λ x. x ∷ []) (entry_kept i j l h)))

  pub row_new : q < max_rows → row_said (with_row r b es) q ≡ (b, es)
  row_new l = rw (total_new l, ones_are (pos 0) row_entries (row_entry (with_row r b es) q) es long (λ j h. sym (entry_new l j h)))

  pub row_more : NextRow r.choices q b (λ j. get_or es j (pos 0)) → Within (with_row r b es)
  row_more p =
      in_rows r w (record {
        totals = column_more b w.rows.totals;
        entries = column_block es (omega arith) w.rows.entries;
        few = p.few;
        each = λ i l.
            ⊎_elim
            (λ (k : i < q). same_row (total_kept i k) (λ j h. entry_kept i j k h) (w.rows.each i k))
            (λ (e : i ≡ q). rw e (same_row (total_new p.few) (entry_new p.few) p.fits))
            (below_or_last i q l);
      })

-- without its last row
abbrev pub less_row : Register → ℕ → Register
less_row r k = set_rows r k (set r.row_totals k (pos 0)) (sets r.row_entries (k * row_entries) (replicate row_entries (pos 0)))

module _ (r : Register) (w : Within r) (k : ℕ) (e : r.rows ≡ suc k) where
  enough : k < max_rows
  enough = omega (arith, w.rows.few)

  entry_less : (i j : ℕ) → i < k → j < row_entries → row_entry r i j ≡ row_entry (less_row r k) i j
  entry_less i j l h = entry_there r.row_entries i j h ∙ sym (entry_there _ i j h ∙ sets_other (pos 0) (replicate row_entries (pos 0)) r.row_entries (k * row_entries) (i * row_entries + j) (inl (omega arith)))

  total_less : (i : ℕ) → i < k → row_total r i ≡ row_total (less_row r k) i
  total_less i l = sym (kept_set r.row_totals k (pos 0) (pos 0) i l)

  pub row_less : (i : ℕ) → i < k → row_said r i ≡ row_said (less_row r k) i
  row_less i l = rw (← total_less i l) (ap (λ es. (row_total r i, es)) (join_cong row_entries _ _ (λ j h. ap (λ x. x ∷ []) (entry_less i j l h))))

  pub row_back : with_row (less_row r k) (row_total r k) (row_list r k) ≡ r
  row_back =
      let block : row_list r k ≡ join_below row_entries (λ j. get_or r.row_entries (k * row_entries + j) (pos 0) ∷ []) = join_cong row_entries _ _ (λ j l. ap (λ x. x ∷ []) (entry_there r.row_entries k j l)) in
      rw block (same_rows r (sym e) (set_back r.row_totals k (pos 0)) (sets_back (pos 0) r.row_entries (k * row_entries) row_entries (omega (arith, enough, w.rows.entries.room))))

  pub row_next : Within (less_row r k) × NextRow r.choices k (row_total r k) (λ j. get_or (row_list r k) j (pos 0))
  row_next = (
    in_rows r w (record {
      totals = column_less enough (rw e at w.rows.totals);
      entries = column_unblock row_entries (omega (arith, enough)) (omega arith) (rw e at w.rows.entries);
      few = omega (arith, enough);
      each = λ i l. same_row (sym (total_less i l)) (λ j h. sym (entry_less i j l h)) (w.rows.each i (omega arith));
    }),
    record { few = enough; fits = same_row refl (λ j h. ones_at (row_entry r k) row_entries j (pos 0) h) (w.rows.each k (omega arith)) },
  )

-- the entries of a row fit 8 bits
module _ (r : Register) (w : Within r) (k : ℕ) (l : k < r.rows) where
  pub entry_fits : (j : ℕ) → j < row_entries → SFits w8 (row_entry r k j)
  entry_fits j h = let f = w.rows.each k l in within_byte (row_entry r k j) (f.entry_above j h) (f.entry_below j h)

-- the tanks of windows do not fall
pub windows_no_fall : (r : Register) → Within r → NoFall r.windows r.window_tanks
windows_no_fall r w i zero l h = let e : i ≡ 0 = omega arith in rw e (omega arith)
windows_no_fall r w i (suc j) l h = go (ℕ_discrete i (suc j)) (λ k. windows_no_fall r w i j k (omega arith))
  where
    go : Dec (i ≡ suc j) → (i ≤ j → window_tank r i ≤ window_tank r j) → window_tank r i ≤ window_tank r (suc j)
    go (yes e) before = rw e (omega arith)
    go (no d) before = ⊎_elim (λ a. omega (arith, a, before (omega arith))) (λ b. omega (arith, b.0, before (omega arith))) (w.windows.rise j h)
