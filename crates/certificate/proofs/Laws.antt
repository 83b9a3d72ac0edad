-- The laws of the certificate's rows: what has been read is within its limits, from commands that say it; and the last command
-- can be taken back.
use Prim.Native.Nat.{ℕ}
use native.Mathlib.Omega.{arith}
use mathlib.Core.Path.{◌≡◌, refl, sym, ◌∙◌, ap}
use mathlib.Core.Logic.{◌⊎◌, inl, inr, ⊎_elim}
use mathlib.Core.Bool.{true, false, false≢true}
use mathlib.Core.List.{List, [], ◌∷◌, ◌++◌, map, map-append, flat_map}
use lib.IntN.{ℤ}
use lib.ListN.{length, get_or}
use borrow.Author.Tests.{eqb-true}
use mir.Syntax.{w64}
use mir.Val.{to_z}
use Rattle.integers.specs.Lists.{All}
use Rattle.integers.proofs.Lists.{All-append, ◌▹◌}
use Rattle.integers.proofs.Machine.{read_signed}
use Rattle.wire.specs.Checks.{refusal}
use Rattle.wire.specs.Rows.{Row, row_of, is_among}
use Rattle.wire.specs.Encoding.{Command, Fit, Allowed}
use Rattle.wire.specs.Grammar.{Only, Then}
use Rattle.wire.proofs.Encoding.{fit_none}
use Rattle.wire.proofs.Many.{length_first}
use Rattle.wire.proofs.Grammar.{last_from, last_from_one}
use Rattle.wire.proofs.Accepting.{reached, Grows, Back, Laws}
use Rattle.wire.proofs.Acceptance.{Means}
use Rattle.register.specs.declared.Register.{Register}
use Rattle.scheme.specs.declared.Scheme.{Scheme}
use Rattle.certificate.specs.Certificate.{Multiplier, Certificate, fresh, with_multiplier}
use Rattle.certificate.specs.Rules.{arity, rule_of}
use Rattle.certificate.specs.Format.{multiplier_of, multiplier_checks, multiplier_kinds, square_of, scale_row, multiplier_row, square_row, end_row, any_before, certificate_rows, certificate_part}
use Rattle.certificate.specs.Answer.{IsMultiplier}
use Rattle.certificate.specs.Within.{Within}
use Rattle.certificate.specs.Encoding.{Entry, multiplier, square}
use Rattle.certificate.proofs.Ranges.{multiplier_between, among_between, rows_alike}
use Rattle.certificate.proofs.Passes.{scale_iff, multiplier_passes, square_iff}
use Rattle.certificate.proofs.Conditions.{tested}
use Rattle.certificate.proofs.Checked.{multiplier_checked, multiplier_iff}
use Rattle.certificate.proofs.Readback.{scale_said, multiplier_said, square_said, entries_long, multiplier_back, square_back}
use Rattle.certificate.proofs.Entries.{scale_command, command_of, end_command, Snoc, none, some, snoc, all_less, certificate_of, with_entry, certificate_of_more, scale_within, Next, within_more, within_less}
use Rattle.certificate.proofs.Rows.{row_multiplier}

module _ (reg : Register) (sch : Scheme) where
  abbrev rows : List (Row Certificate)
  rows = certificate_rows reg sch

  -- ---- what has been read; what commands say of it is known where B holds

  -- a command that others may stand after, whose operands fit
  pub record Fits (c : Command) : Type 0 where
    pub between : is_among c.byte any_before ≡ true
    pub operands : Fit (row_of rows c.byte).widths c.operands

  -- the commands of a certificate, without the end
  pub record Says (k : Certificate) (cs : List Command) : Type 0 where
    pub scale : ℕ
    pub target : ℤ
    pub entries : List Entry
    pub is : k ≡ certificate_of scale target entries
    pub fit : All Fits cs
    pub whole : cs ≡ scale_command scale target ∷ map command_of entries

  abbrev pub Commands : Certificate → List Command → Type 0
  Commands k = Then (Says k) (Only (λ c. c ≡ end_command))

  -- from the first command on
  pub record Begun (B : Type 0) (k : Certificate) (cs : List Command) : Type 0 where
    pub within : Within reg sch k
    pub stands : is_among (last_from 0 cs) any_before ≡ true
    pub says : B → Says k cs

  abbrev pub Good : Type 0 → Certificate → List Command → Type 0
  Good B k cs = ((k ≡ fresh) × (cs ≡ [])) ⊎ Begun B k cs

  abbrev pub Done : Type 0 → Certificate → List Command → Type 0
  Done B k = Then (Begun B k) (Only (λ c. (c.byte ≡ 0x3F) × (B → c ≡ end_command)))

  -- ---- each row keeps it

  -- a command that does not stand first follows others
  followed : {B : Type 0} {k : Certificate} {cs : List Command} → is_among (last_from 0 cs) any_before ≡ true → Good B k cs → Begun B k cs
  followed e g = ⊎_elim (λ h. absurd (false≢true (rw h.1 at e))) (λ b. b) g

  -- a command by its operands
  operands_are : (b : ℕ) {xs ys : List ℕ} → xs ≡ ys → ◌≡◌ {A = Command} (record { byte = b; operands = xs }) (record { byte = b; operands = ys })
  operands_are b e = rw e

  module _ (B : Type 0) where
    scale_grows : Grows B (Good B) (Done B) 0x30 scale_row
    unfolding row_of flat_map
    scale_grows = record { on = λ k cs xs g e q fit. ⊎_elim (first k cs xs q fit) (λ b. let z = eqb-true (last_from 0 cs) 0 e in absurd (false≢true (rw z at b.stands))) g }
      where
        first : (k : Certificate) (cs : List Command) (xs : List ℕ) → refusal (scale_row.checks k xs) ≡ 0 → (B → Fit (4 ∷ 8 ∷ []) xs) → (k ≡ fresh) × (cs ≡ []) → Good B (scale_row.after k xs) (cs ++ (record { byte = 0x30; operands = xs } ∷ []))
        first k cs xs q fit (a, b) = rw (a, b) (inr (record {
          within = scale_within reg sch _ _ ((scale_iff _ _).0 q);
          stands = refl;
          says = λ b. record {
            scale = get_or xs 0 0;
            target = to_z w64 (get_or xs 1 0);
            entries = [];
            is = refl;
            fit = (record { between = refl; operands = fit b }, tt);
            whole = ap (λ c. c ∷ []) (operands_are 0x30 (scale_said xs (fit b)));
          };
        }))

    -- one command more
    entry_grows : (k : Certificate) (cs : List Command) (x : Entry) (c : Command) → Begun B k cs → Next reg sch k x → is_among c.byte any_before ≡ true → (B → Fit (row_of rows c.byte).widths c.operands) → (B → c ≡ command_of x) → Begun B (with_entry k x) (cs ++ (c ∷ []))
    entry_grows k cs x c g next between fit said = record {
      within = within_more reg sch k x g.within next;
      stands = rw (last_from_one 0 cs c) between;
      says = λ b.
          let f = g.says b in
          record {
            scale = f.scale;
            target = f.target;
            entries = f.entries ++ (x ∷ []);
            is = ap (λ k. with_entry k x) f.is ∙ sym (certificate_of_more f.scale f.target f.entries x);
            fit = All-append Fits cs (c ∷ []) f.fit (record { between = between; operands = fit b }, tt);
            whole = rw (f.whole, said b, map-append command_of f.entries (x ∷ []));
          };
    }

    multiplier_grows : (kind : ℕ) → IsMultiplier kind → Grows B (Good B) (Done B) kind (multiplier_row reg sch kind)
    multiplier_grows kind x = record {
      on = λ k cs xs g e q fit.
          let t = multiplier_of kind xs in
          let p = multiplier_passes _ _ _ q in
          inr (entry_grows k cs (multiplier t) (record { byte = kind; operands = xs }) (followed e g)
          (p.0, (multiplier_iff _ _ sch t p.0 x (length_first (arity kind) xs)).0 q)
          (let r = multiplier_between kind x in among_between kind (omega arith) r.1) (λ b. rw (row_multiplier reg sch kind x) (fit b)) (λ b. operands_are kind (multiplier_said kind xs (fit b))));
    }

    square_grows : Grows B (Good B) (Done B) 0x3A (square_row reg sch)
    unfolding row_of
    square_grows = record {
      on = λ k cs xs g e q fit.
          inr (entry_grows k cs (square (square_of xs)) (record { byte = 0x3A; operands = xs }) (followed e g)
          ((square_iff _ _ sch (square_of xs) (entries_long xs)).0 q) refl fit (λ b. operands_are 0x3A (square_said xs (fit b))));
    }

    end_grows : Grows B (Good B) (Done B) 0x3F end_row
    end_grows = record {
      on = λ k cs xs g e q fit.
          let c : Command = record { byte = 0x3F; operands = xs } in
          record { first = cs; second = c ∷ []; is_first = followed e g; is_second = record { command = c; form = (refl, λ b. operands_are 0x3F (fit_none xs (fit b))); whole = refl }; whole = refl };
    }

  -- ---- the last command taken back

  abbrev U : Type 0
  U = Unit {0}

  last_stands : (b : ℕ) (cs : List Command) → is_among b any_before ≡ true → All Fits cs → is_among (last_from b cs) any_before ≡ true
  last_stands b [] h f = h
  last_stands b (c ∷ cs) h f = last_stands c.byte cs f.0.between f.1

  says_stand : (k : Certificate) (cs : List Command) → Says k cs → is_among (last_from 0 cs) any_before ≡ true
  says_stand k cs f = rw f.whole (last_stands 0x30 (map command_of f.entries) refl (rw f.whole at f.fit).1)

  scale_taken : (s : ℕ) (t : ℤ) → Within reg sch (certificate_of s t []) → Fits (scale_command s t) → Back fresh rows (Good U) false (certificate_of s t []) (scale_command s t ∷ [])
  unfolding row_of flat_map
  scale_taken s t w f =
      let same = read_signed w64 t (omega (arith, w.target_within)) in
      record {
        before = fresh;
        front = [];
        command = scale_command s t;
        good = inl (refl, refl);
        allowed = record { byte = omega arith; here = refl; operands = f.operands; passes = rw same ((scale_iff s t).1 (record { scale_above = w.scale_above; scale_within = w.scale_within; target_within = w.target_within })) };
        after = rw same;
        ends_is = refl;
        whole = refl;
      }

  -- a command of those between
  record Stands (previous : ℕ) (k : Certificate) (x : Entry) : Type 0 where
    allowed : Allowed (certificate_part reg sch) (reached previous k) (command_of x)
    after : (row_of rows (command_of x).byte).after k (command_of x).operands ≡ with_entry k x
    goes : (row_of rows (command_of x).byte).last ≡ false

  stands : (previous : ℕ) (k : Certificate) (x : Entry) → is_among previous any_before ≡ true → Next reg sch k x → Fits (command_of x) → Stands previous k x
  unfolding row_of
  stands previous k (multiplier t) b (few, a) f =
      let h = tested reg sch t a in
      let xs = (command_of (multiplier t)).operands in
      let row = row_multiplier reg sch t.kind h.kind in
      let back = multiplier_back reg sch t a in
      record {
        allowed = record {
          byte = omega (arith, multiplier_between t.kind h.kind);
          here = ap (λ (r : Row Certificate). is_among previous r.follows) row ∙ b;
          operands = f.operands;
          passes =
              ap (λ (r : Row Certificate). refusal (r.checks k xs)) row
              ∙ ap (λ (x : Multiplier). refusal (multiplier_checks (length k.multipliers) (rule_of reg sch x) x.m)) back
              ∙ multiplier_checked (length k.multipliers) reg sch t few a;
        };
        after = ap (λ (r : Row Certificate). r.after k xs) row ∙ ap (with_multiplier k) back;
        goes = ap (λ (r : Row Certificate). r.last) row;
      }
  stands previous k (square q) b (few, a) f =
      let back = square_back reg.choices sch q a in
      record {
        allowed = record { byte = omega arith; here = b; operands = f.operands; passes = rw back ((square_iff _ _ sch q a.entries).1 (few, a)) };
        after = rw back;
        goes = refl;
      }

  entry_taken : (s : ℕ) (t : ℤ) (es : List Entry) (x : Entry) → Within reg sch (certificate_of s t (es ++ (x ∷ []))) → All Fits (scale_command s t ∷ map command_of (es ++ (x ∷ []))) → Back fresh rows (Good U) false (certificate_of s t (es ++ (x ∷ []))) (scale_command s t ∷ map command_of (es ++ (x ∷ [])))
  entry_taken s t es x w f =
      let k = certificate_of s t es in
      let (w', next) = within_less reg sch k x (rw (certificate_of_more s t es x) at w) in
      let (g, h) = all_less Fits (scale_command s t ∷ map command_of es) (command_of x) (rw (map-append command_of es (x ∷ [])) at f) in
      let b = last_stands 0x30 (map command_of es) refl g.1 in
      let p = stands (last_from 0x30 (map command_of es)) k x b next h in
      record {
        before = k;
        front = scale_command s t ∷ map command_of es;
        command = command_of x;
        good = inr (record { within = w'; stands = b; says = λ _. record { scale = s; target = t; entries = es; is = refl; fit = g; whole = refl } });
        allowed = p.allowed;
        after = p.after ∙ sym (certificate_of_more s t es x);
        ends_is = p.goes;
        whole = ap (λ cs. scale_command s t ∷ cs) (map-append command_of es (x ∷ []));
      }

  begun_taken : (k : Certificate) (cs : List Command) → Begun U k cs → Back fresh rows (Good U) false k cs
  begun_taken k cs g = go (g.says tt) (snoc (g.says tt).entries)
    where
      go : (f : Says k cs) → Snoc f.entries → Back fresh rows (Good U) false k cs
      go f (none e) = rw (f.is, f.whole, e) (scale_taken f.scale f.target (rw (f.is, e) at g.within) (rw f.whole at f.fit).0)
      go f (some es x e) = rw (f.is, f.whole, e) (entry_taken f.scale f.target es x (rw (f.is, e) at g.within) (rw (f.whole, e) at f.fit))

  end_taken : (k : Certificate) (cs : List Command) → Done U k cs → Back fresh rows (Good U) true k cs
  unfolding row_of refusal
  end_taken k cs d = record {
    before = k;
    front = d.first;
    command = end_command;
    good = inr d.is_first;
    allowed = record { byte = omega arith; here = d.is_first.stands; operands = tt; passes = refl };
    after = refl;
    ends_is = refl;
    whole = d.whole ∙ rw (d.is_second.whole, d.is_second.form.1 tt);
  }

  abbrev Keeps : Type 0 → Row Certificate → Type 0
  Keeps B row = Grows B (Good B) (Done B) row.byte row

  pub laws : Laws fresh rows Good Done
  laws = record {
    starts = λ B. inl (refl, refl);
    grows = λ B.
        scale_grows B
        ▹ All-append (Keeps B) (map (multiplier_row reg sch) multiplier_kinds) (square_row reg sch ∷ end_row ∷ []) (rows_alike (Keeps B) (multiplier_row reg sch) (multiplier_grows B)) (square_grows B ▹ end_grows B ▹ tt);
    back = λ k cs g. ⊎_elim (λ h. inl h) (λ b. inr (begun_taken k cs b)) g;
    back_end = end_taken;
  }

  -- ---- a part that has ended, and the commands of a certificate within its limits

  pub means : Means Done (Within reg sch) Commands (λ b. b ≡ 0x3F)
  means = record {
    valid = λ B k cs d.
        let e = d.is_second in
        let q : cs ≡ d.first ++ (e.command ∷ []) = d.whole ∙ rw e.whole in
        (d.is_first.within, ap (last_from 0) q ∙ last_from_one 0 d.first e.command ∙ e.form.0);
    said = λ B k cs b d.
        let e = d.is_second in
        record { first = d.first; second = d.second; is_first = d.is_first.says b; is_second = record { command = e.command; form = e.form.1 b; whole = e.whole }; whole = d.whole };
    done = λ k cs w c.
        let e = c.is_second in
        record { first = c.first; second = c.second; is_first = record { within = w; stands = says_stand k c.first c.is_first; says = λ _. c.is_first }; is_second = record { command = e.command; form = (rw e.form, λ _. e.form); whole = e.whole }; whole = c.whole };
  }
