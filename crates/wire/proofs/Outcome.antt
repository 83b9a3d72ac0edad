-- Parts read in turn: what an outcome or an answer says of the parts.
use Prim.Native.Nat.{ℕ, ◌+◌}
use native.Mathlib.Omega.{arith}
use mathlib.Core.Path.{◌≡◌, refl, sym, subst}
use mathlib.Core.Bool.{Bool, true, false, cond}
use mathlib.Core.List.{List}
use lib.Dec.{ltb}
use lib.ListN.{length}
use Rattle.wire.specs.Part.{Reading, refused, accepted, by_itself}
use Rattle.wire.specs.Rows.{Progress}
use Rattle.wire.specs.Outcome.{Outcome, refuses, accepts, next, given, and_then, starting_at, added_by}
use Rattle.wire.proofs.Part.{NumberedReading}

-- ---- by what the first part leads to

-- what holds where it is refused, and of what follows where it is accepted
pub next_by : {S A : Type 0} (P : Outcome A → Type 0) (part : ℕ) (x : Reading S) (rest : S → ℕ → Outcome A) →
    ((n at : ℕ) → x ≡ refused n at → P (refuses n part at)) → ((read : S) (end : ℕ) → x ≡ accepted read end → P (rest read end)) → P (next part x rest)
next_by P part (refused n at) rest f g = f n at refl
next_by P part (accepted read end) rest f g = g read end refl

-- two parts that lead to the same, and what follows them, which agrees where they are accepted
pub next_same : {S A : Type 0} (part : ℕ) (x y : Reading S) (f g : S → ℕ → Outcome A) → x ≡ y → ((read : S) (end : ℕ) → y ≡ accepted read end → f read end ≡ g read end) → next part x f ≡ next part y g
next_same part x (refused n at) f g e h = rw e
next_same part x (accepted read end) f g e h = rw e (h read end refl)

-- what holds of a part that starts at a position where it is refused, and of what follows where it is accepted
pub next_at : {A B C : Type 0} (P : Outcome C → Type 0) (part from : ℕ) (add : A → B) (x : Reading (Progress A)) (rest : B → ℕ → Outcome C) →
    ((n at : ℕ) → x ≡ refused n at → P (refuses n part (from + at))) → ((p : Progress A) (end : ℕ) → x ≡ accepted p end → P (rest (add p.parsed) (from + end))) →
    P (next part (starting_at from (added_by add x)) rest)
next_at P part from add (refused n at) rest f g = f n at refl
next_at P part from add (accepted p end) rest f g = g p end refl

module _ {A : Type 0} where
  pub accepts_one : {a b : A} → accepts a ≡ accepts b → a ≡ b
  accepts_one e = cc

  pub not_both : {n part at : ℕ} {a : A} → ◌≡◌ {A = Outcome A} (refuses n part at) (accepts a) → ⊥
  not_both e = let z : ◌≡◌ {A = ℕ} 0 1 = cc in absurd (omega arith)

  pub refuses_same : {n n' part part' at at' : ℕ} → ◌≡◌ {A = Outcome A} (refuses n part at) (refuses n' part' at') → (n ≡ n') × ((part ≡ part') × (at ≡ at'))
  refuses_same e = (cc, (cc, cc))

-- where all is accepted, so are the first parts, and what follows them
pub then_accepts : {A B : Type 0} (x : Outcome A) (rest : A → Outcome B) {b : B} → and_then x rest ≡ accepts b → (a : A) × ((x ≡ accepts a) × (rest a ≡ accepts b))
then_accepts (refuses n part at) rest e = absurd (not_both e)
then_accepts (accepts a) rest e = (a, (refl, e))

pub given_accepts : {A : Type 0} (part : ℕ) (x : Reading (Progress A)) (G : A → Type 0) {a : A} → given part x ≡ accepts a → ((p : Progress A) (end : ℕ) → x ≡ accepted p end → G p.parsed) → G a
given_accepts part (refused n at) G e h = absurd (not_both e)
given_accepts part (accepted p end) G e h = subst G (accepts_one e) (h p end refl)

-- where something is refused, it is one of the first parts, or what follows them
pub then_refuses : {A B G : Type 0} (x : Outcome A) (rest : A → Outcome B) {n part at : ℕ} → and_then x rest ≡ refuses n part at →
    (x ≡ refuses n part at → G) → ((a : A) → x ≡ accepts a → rest a ≡ refuses n part at → G) → G
then_refuses (refuses i k j) rest e f g = let (a, (b, c)) = refuses_same e in f (rw (a, b, c))
then_refuses (accepts a) rest e f g = g a refl e

pub given_refuses : {A : Type 0} (k : ℕ) (x : Reading (Progress A)) {n part at : ℕ} → given k x ≡ refuses n part at → (x ≡ refused n at) × (part ≡ k)
given_refuses k (refused i j) e = let (a, (b, c)) = refuses_same e in (rw (a, c), sym b)
given_refuses k (accepted p end) e = absurd (not_both (sym e))

-- ---- where a reading stops, and the number of its refusal, 0 where it is accepted

abbrev pub number_of : {S : Type 0} → Reading S → ℕ
number_of (refused number at) = number
number_of (accepted read end) = 0

abbrev pub position_of : {S : Type 0} → Reading S → ℕ
position_of (refused number at) = at
position_of (accepted read end) = end

pub refused_numbered : {S : Type 0} {x : Reading S} {n at : ℕ} → NumberedReading x → x ≡ refused n at → n ≡ 0 → ⊥
refused_numbered d e = subst NumberedReading e d

-- a part by itself, from the part in a job
module _ {S : Type 0} (s : List ℕ) {x : Reading S} where
  pub itself_refused : {n at : ℕ} → x ≡ refused n at → by_itself s x ≡ refused n at
  unfolding by_itself
  itself_refused e = rw e

-- a refusal by itself is that in a job, but for 12
pub refused_itself : {S : Type 0} (s : List ℕ) (x : Reading S) {n at : ℕ} → (n ≡ 12 → ⊥) → by_itself s x ≡ refused n at → x ≡ refused n at
unfolding by_itself
refused_itself s (refused k j) d e = e
refused_itself {S} s (accepted read end) {n} {at} d e = by (ltb end (length s)) e
  where
    by : (t : Bool) → ◌≡◌ {A = Reading S} (cond t (refused 12 end) (accepted read end)) (refused n at) → ◌≡◌ {A = Reading S} (accepted read end) (refused n at)
    by true q = let z : 12 ≡ n = cc in absurd (d (sym z))
    by false q = q

-- ---- the number of a refusal is not 0

abbrev pub Numbered : {A : Type 0} → Outcome A → Type 0
Numbered (refuses n part at) = n ≡ 0 → ⊥
Numbered (accepts a) = Unit {0}

pub next_numbered : {S A : Type 0} (part : ℕ) (x : Reading S) (rest : S → ℕ → Outcome A) → NumberedReading x → ((read : S) (end : ℕ) → Numbered (rest read end)) → Numbered (next part x rest)
next_numbered part (refused n at) rest d h = d
next_numbered part (accepted read end) rest d h = h read end

pub then_numbered : {A B : Type 0} (x : Outcome A) (rest : A → Outcome B) → Numbered x → ((a : A) → Numbered (rest a)) → Numbered (and_then x rest)
then_numbered (refuses n part at) rest d h = d
then_numbered (accepts a) rest d h = h a
