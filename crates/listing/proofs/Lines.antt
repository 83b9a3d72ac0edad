-- Equal `T` and `F` lines stand for the same choices, the same ones fed; and the `F` lines are those of the fed choices.
use Prim.Native.Nat.{ℕ, zero, suc, ◌<◌}
use native.Mathlib.Omega.{arith}
use mathlib.Core.Path.{◌≡◌, refl, sym, ap, ap₂, ◌∙◌, subst}
use mathlib.Core.Logic.{◌↔◌, inl, inr, ⊎_elim}
use mathlib.Core.Bool.{Bool, true, false, cond, true≢false}
use mathlib.Core.List.{List, [], ◌∷◌, ◌++◌}
use lib.Dec.{ltb}
use lib.IntN.{ℤ, pos, nat_abs}
use lib.ListN.{get_or}
use borrow.Author.Tests.{ltb-true, ltb-false}
use Rattle.integers.specs.Lists.{All, join_below}
use Rattle.integers.proofs.Lists.{flag, cond_cases, All-append, All-join}
use Rattle.integers.proofs.Join.{join_cong}
use Rattle.integers.proofs.Entries.{below_or_last}
use Rattle.sets.specs.Sets.{is_member}
use Rattle.text.specs.Text.{line, Starts, HasLine}
use Rattle.text.proofs.Unique.{line_without, texts, texts_append, texts_join, texts_one, texts_none, texts_determine}
use Rattle.text.proofs.Standing.{starts_line, starts_join, stands_alone, stands_first, stands_second, stands_join, stands_among}
use Rattle.register.specs.declared.Register.{Register}
use Rattle.register.specs.Register.{tank, minute}
use Rattle.register.specs.Valid.{Before, Valid}
use Rattle.register.specs.Encoding as RE
use Rattle.register.proofs.Accept.{encodes_determines}
use Rattle.plan.specs.Encoding as PE
use Rattle.plan.proofs.Accept.{plan_determines}
use Rattle.wire.specs.Number.{Bytes}
use Rattle.wire.specs.Outcome.{accepts}
use Rattle.job.proofs.Accept.{accepted_iff}
use Rattle.job.specs.Outcome.{Parts, outcome}
use Rattle.listing.specs.Listing.{choice_line, choice_lines, fed_line, fed_lines, plan_lines}
use Rattle.listing.specs.Same.{SamePlan}
use Rattle.listing.proofs.Lettered.{Line, Has, apart, count, each}
use Rattle.job.proofs.Sound.{accepted_valid}

-- ---- the lines, each as its letter and its fields

abbrev choice : Register → ℕ → Line
choice r i = (0x54, pos i ∷ pos (tank r i) ∷ pos (minute r i) ∷ [])

abbrev feed : Register → ℕ → Line
feed r i = (0x46, pos (tank r i) ∷ pos (minute r i) ∷ [])

abbrev choices : Register → List Line
choices r = join_below r.choices (λ i. choice r i ∷ [])

abbrev feeds : Register → ℕ → List Line
feeds r plan = join_below r.choices (λ i. cond (is_member i plan) (feed r i ∷ []) [])

choice_lines_lem : (r : Register) → texts (choices r) ≡ choice_lines r
unfolding choice_lines
choice_lines_lem r = texts_join r.choices (λ i. choice r i ∷ []) ∙ join_cong r.choices _ _ (λ i l. texts_one 0x54 (pos i ∷ pos (tank r i) ∷ pos (minute r i) ∷ []))

fed_lines_lem : (r : Register) (plan : ℕ) → texts (feeds r plan) ≡ fed_lines r plan
unfolding fed_lines
fed_lines_lem r plan =
    texts_join r.choices (λ i. cond (is_member i plan) (feed r i ∷ []) [])
    ∙ join_cong r.choices _ _ (λ i l. flag (is_member i plan) (λ e. rw e (texts_one 0x46 (pos (tank r i) ∷ pos (minute r i) ∷ []))) (λ e. rw e texts_none))

plan_lines_lem : (r : Register) (plan : ℕ) → texts (choices r ++ feeds r plan) ≡ plan_lines r plan
plan_lines_lem r plan = texts_append (choices r) (feeds r plan) ∙ ap₂ ◌++◌ (choice_lines_lem r) (fed_lines_lem r plan)

-- ---- `T` and `F` lines are told apart by their letters

choices_have : (r : Register) → All (Has 0x54) (choices r)
choices_have r = All-join (Has 0x54) r.choices _ (λ i l. (refl, tt))

feeds_have : (r : Register) (plan : ℕ) → All (Has 0x46) (feeds r plan)
feeds_have r plan = All-join (Has 0x46) r.choices _ (λ i l. cond_cases (All (Has 0x46)) (is_member i plan) (feed r i ∷ []) [] (λ _. (refl, tt)) (λ _. tt))

-- ---- different choices differ in tank or minute: each comes before all later ones

before_all : (c d e : ℕ × ℕ) → Before c d → Before d e → Before c e
before_all c d e (inl a) (inl b) = inl (omega (arith, a, b))
before_all c d e (inl a) (inr b) = inl (omega (arith, a, b.0))
before_all c d e (inr a) (inl b) = inl (omega (arith, a.0, b))
before_all c d e (inr a) (inr b) = inr (a.0 ∙ b.0, omega (arith, a.1, b.1))

not_before : (c d : ℕ × ℕ) → c.0 ≡ d.0 → c.1 ≡ d.1 → Before c d → ⊥
not_before c d t m (inl a) = omega (arith, t, a)
not_before c d t m (inr a) = omega (arith, m, a.1)

module _ (r : Register) (v : Valid r) where
  abbrev at : ℕ → ℕ × ℕ
  at i = (tank r i, minute r i)

  pub rises : (j i : ℕ) → i < j → j < r.choices → Before (tank r i, minute r i) (tank r j, minute r j)
  rises zero i l h = absurd (omega arith)
  rises (suc j) i l h =
      let next = v.within.choices.rise j h in
      ⊎_elim
      (λ (k : i < j). before_all (at i) (at j) (at (suc j)) (rises j i k (omega arith)) next)
      (λ (k : i ≡ j). rw k next)
      (below_or_last i j l)

  one_choice : (i j : ℕ) → i < r.choices → j < r.choices → tank r i ≡ tank r j → minute r i ≡ minute r j → i ≡ j
  one_choice i j l h t m =
      flag (ltb i j)
      (λ a. absurd (not_before (at i) (at j) t m (rises j i (ltb-true i j a) h)))
      (λ a. flag (ltb j i)
      (λ b. absurd (not_before (at j) (at i) (sym t) (sym m) (rises i j (ltb-true j i b) l)))
      (λ b. omega (arith, ltb-false i j a, ltb-false j i b)))

-- ---- the fed choices of equal `F` lines

-- what holds of all lists one after the other holds of each
all_at : (P : Line → Type 0) (n : ℕ) (f : ℕ → List Line) → All P (join_below n f) → (i : ℕ) → i < n → All P (f i)
unfolding join_below
all_at P zero f h i l = absurd (omega arith)
all_at P (suc n) f h i l =
    ⊎_elim
    (λ (k : i < n). all_at P n f (both (join_below n f) h).0 i k)
    (λ (k : i ≡ n). subst (λ j. All P (f j)) (sym k) (both (join_below n f) h).1)
    (below_or_last i n l)
  where
    both : (a : List Line) → All P (a ++ f n) → All P a × All P (f n)
    both [] h = (tt, h)
    both (x ∷ a) h = let (u, w) = both a h.1 in ((h.0, u), w)

field_is : {a b : Line} (k : ℕ) → a ≡ b → nat_abs (get_or a.1 k (pos 0)) ≡ nat_abs (get_or b.1 k (pos 0))
field_is k e = ap (λ (l : Line). nat_abs (get_or l.1 k (pos 0))) e

module _ (r r' : Register) (v : Valid r') (n : r.choices ≡ r'.choices)
    (t : (i : ℕ) → i < r.choices → tank r i ≡ tank r' i) (m : (i : ℕ) → i < r.choices → minute r i ≡ minute r' i) (plan plan' : ℕ) (e : feeds r plan ≡ feeds r' plan') where
  still_fed : (i : ℕ) → i < r.choices → is_member i plan ≡ true → is_member i plan' ≡ true
  still_fed i l fed = flag (is_member i plan') (λ h. h) (λ h. absurd (clash h))
    where
      Other : Line → Type 0
      Other x = x ≡ feed r i → ⊥

      one : is_member i plan' ≡ false → (j : ℕ) → j < r'.choices → (b : Bool) → is_member j plan' ≡ b → All Other (cond b (feed r' j ∷ []) [])
      one h j k false q = tt
      one h j k true q = (
        (λ d.
            let i_is : j ≡ i = one_choice r' v j i k (omega (arith, n)) (field_is 0 d ∙ t i l) (field_is 1 d ∙ m i l) in
            true≢false (sym q ∙ ap (λ x. is_member x plan') i_is ∙ h)),
        tt,
      )

      clash : is_member i plan' ≡ false → ⊥
      clash h =
          let there : All Other (feeds r plan) = subst (All Other) (sym e) (All-join Other r'.choices _ (λ j k. one h j k (is_member j plan') refl)) in
          let here : All Other (cond true (feed r i ∷ []) []) = subst (λ b. All Other (cond b (feed r i ∷ []) [])) fed (all_at Other r.choices _ there i l) in
          here.0 refl

module _ (r r' : Register) (v : Valid r) (v' : Valid r') (plan plan' : ℕ) where
  pub same_plan : plan_lines r plan ≡ plan_lines r' plan' → SamePlan r plan r' plan'
  same_plan e =
      let lines = texts_determine (choices r ++ feeds r plan) (choices r' ++ feeds r' plan') (plan_lines_lem r plan ∙ e ∙ sym (plan_lines_lem r' plan')) in
      let (c, f) = apart 0x54 0x46 (λ e. omega arith) (choices r) (choices r') (feeds r plan) (feeds r' plan') (choices_have r) (choices_have r') (feeds_have r plan) (feeds_have r' plan') lines in
      let n = count r.choices r'.choices (choice r) (choice r') c in
      let t : (i : ℕ) → i < r.choices → tank r i ≡ tank r' i = λ i l. field_is 1 (each r.choices r'.choices (choice r) (choice r') c i l) in
      let m : (i : ℕ) → i < r.choices → minute r i ≡ minute r' i = λ i l. field_is 2 (each r.choices r'.choices (choice r) (choice r') c i l) in
      record {
        choices = n;
        tanks = t;
        minutes = m;
        fed = λ i l. equal (is_member i plan) (is_member i plan') (still_fed r r' v' n t m plan plan' f i l)
            (still_fed r' r v (sym n) (λ j k. sym (t j (omega (arith, n)))) (λ j k. sym (m j (omega (arith, n)))) plan' plan (sym f) i (omega (arith, n)));
      }
    where
      equal : (a b : Bool) → (a ≡ true → b ≡ true) → (b ≡ true → a ≡ true) → a ≡ b
      equal true b f g = sym (f refl)
      equal false true f g = g refl
      equal false false f g = refl

  pub same_lines : SamePlan r plan r' plan' → plan_lines r plan ≡ plan_lines r' plan'
  unfolding choice_lines fed_lines
  same_lines s = ap₂ ◌++◌
      (join_cong r.choices _ _ (λ i l. ap₂ (choice_line i) (s.tanks i l) (s.minutes i l)) ∙ ap (λ n. join_below n (λ i. choice_line i (tank r' i) (minute r' i))) s.choices)
      (join_cong r.choices _ _ (λ i l. ap₂ (λ b x. cond b x []) (s.fed i l) (ap₂ fed_line (s.tanks i l) (s.minutes i l)))
      ∙ ap (λ n. join_below n (λ i. cond (is_member i plan') (fed_line (tank r' i) (minute r' i)) [])) s.choices)

-- the letter of the `B` line stands nowhere in the `T` and `F` lines
pub lines_without : (r : Register) (plan : ℕ) → All (λ b. b ≡ 0x42 → ⊥) (plan_lines r plan)
unfolding choice_lines fed_lines
lines_without r plan =
    All-append Other (choice_lines r) (fed_lines r plan)
    (All-join Other r.choices _ (λ i l. line_without 0x42 0x54 (pos i ∷ pos (tank r i) ∷ pos (minute r i) ∷ []) (omega arith) (λ e. omega arith)))
    (All-join Other r.choices _ (λ i l. cond_cases (All Other) (is_member i plan) (fed_line (tank r i) (minute r i)) [] (λ _. line_without 0x42 0x46 _ (omega arith) (λ e. omega arith)) (λ _. tt)))
  where
    Other : ℕ → Type 0
    Other b = b ≡ 0x42 → ⊥

-- an `F` line that stands among the lines is that of a fed choice: what holds of each of these holds of it
module _ (P : (t m : ℕ) → Type 0) (r : Register) (plan : ℕ) (h : (i : ℕ) → i < r.choices → is_member i plan ≡ true → P (tank r i) (minute r i)) where
  Holds : Line → Type 0
  Holds l = l.0 ≡ 0x46 → P (nat_abs (get_or l.1 0 (pos 0))) (nat_abs (get_or l.1 1 (pos 0)))

  pub fed_shown : (last : List ℤ) (t m : ℕ) → HasLine (fed_line t m) (plan_lines r plan ++ line 0x42 last) → P t m
  unfolding Holds
  fed_shown last t m s = stands_among Holds 0x46 (pos t ∷ pos m ∷ []) lines each_holds (subst (HasLine (fed_line t m)) (sym text) s) refl
    where
      lines : List Line
      lines = choices r ++ feeds r plan ++ ((0x42, last) ∷ [])

      text : texts lines ≡ plan_lines r plan ++ line 0x42 last
      text = texts_append (choices r ++ feeds r plan) ((0x42, last) ∷ []) ∙ ap₂ ◌++◌ (plan_lines_lem r plan) (texts_one 0x42 last)

      Each : Line → Type 0
      Each l = (0x0A < l.0) × Holds l

      fed : (i : ℕ) → i < r.choices → (b : Bool) → is_member i plan ≡ b → All Each (cond b (feed r i ∷ []) [])
      fed i l false q = tt
      fed i l true q = ((omega arith, λ e. h i l q), tt)

      each_holds : All Each lines
      each_holds =
          All-append Each (choices r ++ feeds r plan) ((0x42, last) ∷ [])
          (All-append Each (choices r) (feeds r plan)
          (All-join Each r.choices _ (λ i l. ((omega arith, λ e. absurd (omega arith)), tt)))
          (All-join Each r.choices _ (λ i l. fed i l (is_member i plan) refl)))
          ((omega arith, λ e. absurd (omega arith)), tt)

-- and the line of each fed choice stands there
pub shown_fed : (r : Register) (plan i : ℕ) → i < r.choices → is_member i plan ≡ true → (last : List ℕ) → HasLine (fed_line (tank r i) (minute r i)) (plan_lines r plan ++ last)
unfolding choice_lines fed_lines
shown_fed r plan i l fed last =
    stands_first x (plan_lines r plan) last
    (stands_second x (choice_lines r) (fed_lines r plan) (starts_join r.choices _ (λ j. starts_line 0x54 (pos j ∷ pos (tank r j) ∷ pos (minute r j) ∷ [])))
    (stands_join x r.choices f (λ j. cond_cases Starts (is_member j plan) (fed_line (tank r j) (minute r j)) [] (λ _. starts_line 0x46 (pos (tank r j) ∷ pos (minute r j) ∷ [])) (λ _. inl refl))
    i l (subst (λ b. HasLine x (cond b x [])) (sym fed) (stands_alone x))))
  where
    x : List ℕ
    x = fed_line (tank r i) (minute r i)

    f : ℕ → List ℕ
    f j = cond (is_member j plan) (fed_line (tank r j) (minute r j)) []

-- "Whoever wrote the scheme and the certificate, the same register and plan give the same lines": the `T` and `F` lines of two
-- accepted jobs are equal just where both jobs have the same choices and feed the same ones.
pub line_for_line : (s s' : List ℕ) (p p' : Parts) → outcome s ≡ accepts p → outcome s' ≡ accepts p' →
    (plan_lines p.register p.plan ≡ plan_lines p'.register p'.plan) ↔ SamePlan p.register p.plan p'.register p'.plan
line_for_line s s' p p' e e' =
    let r = p.register in
    let r' = p'.register in
    let v = (accepted_valid s p e).register in
    let v' = (accepted_valid s' p' e').register in
    (same_plan r r' v v' p.plan p'.plan, same_lines r r' v v' p.plan p'.plan)

-- in particular where parts 1 and 4 are the same
pub same_parts : (p p' : Parts) → p.register ≡ p'.register → p.plan ≡ p'.plan → plan_lines p.register p.plan ≡ plan_lines p'.register p'.plan
same_parts p p' e f = ap₂ plan_lines e f

-- two accepted jobs with the same bytes of part 1 and the same bytes of part 4
pub same_bytes : (s s' one four : List ℕ) (p p' : Parts) → Bytes s → Bytes s' → outcome s ≡ accepts p → outcome s' ≡ accepts p' →
    RE.Encodes p.register one → RE.Encodes p'.register one → PE.Encodes p.register p.plan four → PE.Encodes p'.register p'.plan four →
    plan_lines p.register p.plan ≡ plan_lines p'.register p'.plan
same_bytes s s' one four p p' b b' e e' x x' y y' =
    let v = ((accepted_iff s p b).0 e).0 in
    let v' = ((accepted_iff s' p' b').0 e').0 in
    let same : p.register ≡ p'.register = encodes_determines p.register p'.register one v.register v'.register x x' in
    same_parts p p' same (plan_determines p'.register v'.register.within.choices.few p.plan p'.plan four (rw same at v.plan) v'.plan (rw same at y) y')
