-- The laws of a list of checks.
use Prim.Native.Nat.{ℕ, ◌<◌, ◌≤◌}
use native.Mathlib.Omega.{arith}
use mathlib.Core.Path.{◌≡◌, refl, sym, ◌∙◌}
use mathlib.Core.Logic.{◌⊎◌, inl, inr}
use mathlib.Core.Bool.{Bool, true, false, cond, ◌&&◌, false≢true}
use mathlib.Core.List.{List, [], ◌∷◌, ◌++◌}
use lib.Dec.{T, leb, leb→le}
use mir.Facts.{and_yes}
use Rattle.integers.specs.Lists.{All}
use borrow.Author.Tests.{ltb-false, not-false}
use Rattle.wire.specs.Checks.{Check, refusal, command_checks, Fails, NoLower}

-- no check fails
abbrev pub Passed : List Check → Type 0
Passed cs = All (λ c. c.fails ≡ false) cs

-- no check has the number 0, which says that none fails
abbrev pub Numbered : List Check → Type 0
Numbered cs = All (λ c. 0 < c.number) cs

-- the numbers do not fall, and start at m or above
abbrev pub rising_from : ℕ → List Check → Bool
rising_from m [] = true
rising_from m (c ∷ cs) = leb m c.number && rising_from c.number cs

pub refusal_none : (cs : List Check) → Numbered cs → refusal cs ≡ 0 → Passed cs
unfolding refusal
refusal_none [] h e = tt
refusal_none (c ∷ cs) h e = by c.fails c.number h.0 (refusal_none cs h.1) e
  where
    by : (b : Bool) (n : ℕ) → 0 < n → (refusal cs ≡ 0 → Passed cs) → cond b n (refusal cs) ≡ 0 → (b ≡ false) × Passed cs
    by true n g rest q = absurd (omega arith)
    by false n g rest q = (refl, rest q)

pub none_refusal : (cs : List Check) → Passed cs → refusal cs ≡ 0
unfolding refusal
none_refusal [] h = refl
none_refusal (c ∷ cs) h = rw h.0 (none_refusal cs h.1)

-- the checks of two lists: where one of the first fails, and where none does
pub refusal_hit : (cs ds : List Check) → (refusal cs ≡ 0 → ⊥) → refusal (cs ++ ds) ≡ refusal cs
unfolding refusal
refusal_hit [] ds h = absurd (h refl)
refusal_hit (c ∷ cs) ds h = by c.fails c.number h (refusal_hit cs ds)
  where
    by : (b : Bool) (n : ℕ) → (cond b n (refusal cs) ≡ 0 → ⊥) → ((refusal cs ≡ 0 → ⊥) → refusal (cs ++ ds) ≡ refusal cs) → cond b n (refusal (cs ++ ds)) ≡ cond b n (refusal cs)
    by true n g rest = refl
    by false n g rest = rest g

pub refusal_miss : (cs ds : List Check) → Passed cs → refusal (cs ++ ds) ≡ refusal ds
unfolding refusal
refusal_miss [] ds h = refl
refusal_miss (c ∷ cs) ds h = rw h.0 (refusal_miss cs ds h.1)

-- the number that is refused is that of a check that fails
pub refusal_fails : (cs : List Check) (n : ℕ) → refusal cs ≡ n → (n ≡ 0 → ⊥) → Fails n cs
unfolding refusal
refusal_fails [] n e h = absurd (omega arith)
refusal_fails (c ∷ cs) n e h = by c.fails c.number (λ q. refusal_fails cs n q h) e
  where
    by : (b : Bool) (m : ℕ) → (refusal cs ≡ n → Fails n cs) → cond b m (refusal cs) ≡ n → ((b ≡ true) × (m ≡ n)) ⊎ Fails n cs
    by true m rest q = inl (refl, q)
    by false m rest q = inr (rest q)

-- what holds wherever a check with the refused number fails
pub by_refusal : {G : Type 0} (cs : List Check) (n : ℕ) → refusal cs ≡ n → (n ≡ 0 → ⊥) → All (λ c. c.number ≡ n → c.fails ≡ true → G) cs → G
by_refusal {G} cs n e d h = go cs (refusal_fails cs n e d) h
  where
    go : (cs : List Check) → Fails n cs → All (λ c. c.number ≡ n → c.fails ≡ true → G) cs → G
    go [] f h = absurd f
    go (c ∷ cs) (inl (t, e)) h = h.0 e t
    go (c ∷ cs) (inr f) h = go cs f h.1

-- checks whose numbers start at m or above
above : (m k : ℕ) → k ≤ m → (cs : List Check) → T (rising_from m cs) → NoLower k cs
above m k l [] r = tt
above m k l (c ∷ cs) r =
    let (a, b) = and_yes (leb m c.number) (rising_from c.number cs) r in
    let h = leb→le m c.number a in
    (λ f. omega arith, above c.number k (omega arith) cs b)

lowest : (m : ℕ) (cs : List Check) → T (rising_from m cs) → NoLower (refusal cs) cs
unfolding refusal
lowest m [] r = tt
lowest m (c ∷ cs) r =
    let (a, b) = and_yes (leb m c.number) (rising_from c.number cs) r in
    by c.fails c.number b (lowest c.number cs b)
  where
    by : (f : Bool) (k : ℕ) → T (rising_from k cs) → NoLower (refusal cs) cs → (f ≡ true → cond f k (refusal cs) ≤ k) × NoLower (cond f k (refusal cs)) cs
    by true k q rest = (λ f. omega arith, above k k (omega arith) cs q)
    by false k q rest = (λ f. let z : ◌≡◌ {A = ℕ} 0 1 = cc in absurd (omega arith), rest)

-- within one command, the lowest number: where the numbers do not fall, no check that fails has a lower one than that which is refused
pub refusal_lowest : (m : ℕ) (cs : List Check) (n : ℕ) → T (rising_from m cs) → refusal cs ≡ n → NoLower n cs
refusal_lowest m cs n r e = rw e at (lowest m cs r)

-- and only the lowest number is refused

no_lower : (k n : ℕ) (cs : List Check) → NoLower k cs → Fails n cs → k ≤ n
no_lower k n [] l f = absurd f
no_lower k n (c ∷ cs) l (inl (t, e)) = rw e at (l.0 t)
no_lower k n (c ∷ cs) l (inr f) = no_lower k n cs l.1 f

some_fails : (n : ℕ) (cs : List Check) → Fails n cs → Fails (refusal cs) cs
unfolding refusal
some_fails n [] f = absurd f
some_fails n (c ∷ cs) f = by c.fails c.number f (some_fails n cs)
  where
    by : (b : Bool) (m : ℕ) → ((b ≡ true) × (m ≡ n)) ⊎ Fails n cs → (Fails n cs → Fails (refusal cs) cs) → ((b ≡ true) × (m ≡ cond b m (refusal cs))) ⊎ Fails (cond b m (refusal cs)) cs
    by true m g rest = inl (refl, refl)
    by false m (inl (t, e)) rest = absurd (false≢true t)
    by false m (inr g) rest = inr (rest g)

pub lowest_refusal : (m : ℕ) (cs : List Check) (n : ℕ) → T (rising_from m cs) → Fails n cs → NoLower n cs → (refusal cs ≡ n) × (m ≤ n)
lowest_refusal m cs n r f l =
    (omega (arith, no_lower (refusal cs) n cs (lowest m cs r) f, no_lower n (refusal cs) cs l (some_fails n cs f)), no_lower m n cs (above m m (omega arith) cs r) f)

-- ---- the checks of a command, where the common ones gave n

module _ (here : Bool) (left size : ℕ) (own : List Check) (n : ℕ) (e : n ≡ refusal (command_checks here left size [])) where
  pub command_refused : (n ≡ 0 → ⊥) → n ≡ refusal (command_checks here left size own)
  unfolding command_checks
  command_refused h = e ∙ sym (refusal_hit (command_checks here left size []) own (λ q. h (e ∙ q)))

  pub command_own : n ≡ 0 → refusal (command_checks here left size own) ≡ refusal own
  unfolding command_checks
  command_own h = refusal_miss (command_checks here left size []) own (refusal_none (command_checks here left size []) (omega arith) (sym e ∙ h))

  pub command_room : n ≡ 0 → size ≤ left
  unfolding command_checks
  command_room h = ltb-false left size (refusal_none (command_checks here left size []) (omega arith) (sym e ∙ h)).1.0

  pub command_here : n ≡ 0 → here ≡ true
  unfolding command_checks
  command_here h = not-false here (refusal_none (command_checks here left size []) (omega arith) (sym e ∙ h)).0
