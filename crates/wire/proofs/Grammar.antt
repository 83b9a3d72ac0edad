-- Lists of commands by kinds: one command more, one command less, the last command's byte, and where it may stand.
use Prim.Native.Nat.{ℕ, zero, suc, ◌<◌}
use native.Mathlib.Omega.{arith}
use mathlib.Core.Path.{◌≡◌, refl, sym, ◌∙◌, ap, ap₂}
use mathlib.Core.Logic.{◌⊎◌, inl, inr, ⊎_elim}
use mathlib.Core.Bool.{Bool, true, not, ◌&&◌, cond}
use mathlib.Core.List.{List, [], ◌∷◌, ◌++◌, append_assoc, append-nil}
use lib.Dec.{T, eqb, ltb}
use borrow.Author.Tests.{eqb-true, eq-eqb, ltb-true, ltb-false, lt-ltb, le-ltb}
use mir.Facts.{and_yes}
use Rattle.integers.specs.Lists.{All, join_below}
use Rattle.integers.proofs.Lists.{T_true, or_either, flag}
use Rattle.integers.proofs.Join.{join_cong}
use Rattle.wire.specs.Rows.{is_among}
use Rattle.wire.specs.Encoding.{Command}
use Rattle.wire.specs.Grammar.{Only, Optional, Then, Each, Among, Kind, Form, Kinds}

-- the byte of the last command, b where there is none
abbrev pub last_from : ℕ → List Command → ℕ
last_from b [] = b
last_from b (c ∷ cs) = last_from c.byte cs

pub last_from_one : (b : ℕ) (cs : List Command) (c : Command) → last_from b (cs ++ (c ∷ [])) ≡ c.byte
last_from_one b [] c = refl
last_from_one b (d ∷ cs) c = last_from_one d.byte cs c

-- a command by its operands
pub said : (b : ℕ) {xs ys : List ℕ} → xs ≡ ys → ◌≡◌ {A = Command} (record { byte = b; operands = xs }) (record { byte = b; operands = ys })
said b e = rw e

-- ---- bytes in lists

pub among_left : (b : ℕ) (xs ys : List ℕ) → Among b xs → Among b (xs ++ ys)
among_left b [] ys h = absurd h
among_left b (x ∷ xs) ys (inl e) = inl e
among_left b (x ∷ xs) ys (inr h) = inr (among_left b xs ys h)

pub among_right : (b : ℕ) (xs ys : List ℕ) → Among b ys → Among b (xs ++ ys)
among_right b [] ys h = h
among_right b (x ∷ xs) ys h = inr (among_right b xs ys h)

pub among_test : (b : ℕ) (xs : List ℕ) → is_among b xs ≡ true → Among b xs
among_test b [] e = let z : ◌≡◌ {A = ℕ} 0 1 = cc in absurd (omega arith)
among_test b (x ∷ []) e = inl (eqb-true b x e)
among_test b (x ∷ (y ∷ ys)) e = ⊎_elim (λ t. inl (eqb-true b x t)) (λ t. inr (among_test b (y ∷ ys) t)) (or_either _ _ e)

-- no number is in both; every number of the first is in the second

abbrev pub apart : List ℕ → List ℕ → Bool
apart [] ys = true
apart (x ∷ xs) ys = not (is_among x ys) && apart xs ys

abbrev pub covers : List ℕ → List ℕ → Bool
covers [] ys = true
covers (x ∷ xs) ys = is_among x ys && covers xs ys

pub test_among : (b : ℕ) (xs : List ℕ) → Among b xs → is_among b xs ≡ true
test_among b [] h = absurd h
test_among b (x ∷ []) (inl e) = eq-eqb b x e
test_among b (x ∷ []) (inr h) = absurd h
test_among b (x ∷ (y ∷ ys)) (inl e) = rw (eq-eqb b x e)
test_among b (x ∷ (y ∷ ys)) (inr h) = flag (eqb b x) (λ t. rw t) (λ t. rw t (test_among b (y ∷ ys) h))

pub apart_not : (b : ℕ) (xs ys : List ℕ) → T (apart xs ys) → Among b xs → Among b ys → ⊥
apart_not b [] ys t h k = h
apart_not b (x ∷ xs) ys t h k =
    let (u, v) = and_yes (not (is_among x ys)) (apart xs ys) t in
    ⊎_elim (λ e. let q : is_among x ys ≡ true = test_among x ys (rw e at k) in rw q at u) (λ g. apart_not b xs ys v g k) h

pub covers_test : (b : ℕ) (xs ys : List ℕ) → T (covers xs ys) → Among b xs → is_among b ys ≡ true
covers_test b [] ys t h = absurd h
covers_test b (x ∷ xs) ys t h =
    let (u, v) = and_yes (is_among x ys) (covers xs ys) t in
    ⊎_elim (λ e. rw e ((T_true (is_among x ys)).0 u)) (λ g. covers_test b xs ys v g) h

-- ---- commands one after the other

pub each_map : (F G : ℕ → Command → Type 0) (n : ℕ) (cs : List Command) → ((i : ℕ) (c : Command) → i < n → F i c → G i c) → Each F n cs → Each G n cs
each_map F G zero cs h e = e
each_map F G (suc n) cs h e =
    record {
      first = e.first;
      second = e.second;
      is_first = each_map F G n e.first (λ i c l. h i c (omega arith)) e.is_first;
      is_second = record { command = e.is_second.command; form = h n _ (omega arith) e.is_second.form; whole = e.is_second.whole };
      whole = e.whole;
    }

-- one command for each entry

pub each_below : (F : ℕ → Command → Type 0) (c : ℕ → Command) (n : ℕ) → ((i : ℕ) → i < n → F i (c i)) → Each F n (join_below n (λ i. c i ∷ []))
unfolding join_below
each_below F c zero h = refl
each_below F c (suc n) h = record {
  first = join_below n (λ i. c i ∷ []);
  second = c n ∷ [];
  is_first = each_below F c n (λ i l. h i (omega arith));
  is_second = record { command = c n; form = h n (omega arith); whole = refl };
  whole = refl;
}

-- and no others, where each entry has one form
pub each_only : (F : ℕ → Command → Type 0) (c : ℕ → Command) (n : ℕ) (cs : List Command) → ((i : ℕ) (d : Command) → F i d → d ≡ c i) → Each F n cs → cs ≡ join_below n (λ i. c i ∷ [])
unfolding join_below
each_only F c zero cs h e = e
each_only F c (suc n) cs h e =
    e.whole ∙ ap₂ (λ x y. x ++ y) (each_only F c n e.first h e.is_first) (e.is_second.whole ∙ ap (λ d. d ∷ []) (h n _ e.is_second.form))

-- the command of each entry
pub each_command : (F : ℕ → Command → Type 0) (n : ℕ) (cs : List Command) → Each F n cs → (c : ℕ → Command) × (((i : ℕ) → i < n → F i (c i)) × (cs ≡ join_below n (λ i. c i ∷ [])))
unfolding join_below
each_command F zero cs e = (λ i. record { byte = 0; operands = [] }, ((λ i l. absurd (omega arith)), e))
each_command F (suc n) cs e =
    let (c, (h, q)) = each_command F n e.first e.is_first in
    let last = e.is_second.command in
    let d : ℕ → Command = λ i. cond (ltb i n) (c i) last in (
      d,
      (
        (λ i l. flag (ltb i n) (λ t. rw t (h i (ltb-true i n t))) (λ t. let z : i ≡ n = omega (arith, ltb-false i n t) in rw (t, z) e.is_second.form)),
        e.whole ∙ ap₂ (λ x y. x ++ y) (q ∙ join_cong n _ _ (λ i l. rw (lt-ltb i n l))) (e.is_second.whole ∙ rw (le-ltb n n (omega arith))),
      ),
    )

-- commands, and a last one
pub record Last (X : List Command → Type 0) (F : Command → Type 0) (cs : List Command) : Type 0 where
  pub front : List Command
  pub last : Command
  pub before : X front
  pub form : F last
  pub whole : cs ≡ front ++ (last ∷ [])

pub only_map : (F G : Command → Type 0) {cs : List Command} → ((c : Command) → F c → G c) → Only F cs → Only G cs
only_map F G h o = record { command = o.command; form = h _ o.form; whole = o.whole }

-- a command that may be missing: without it, with it, and which of these it is

module _ (X : List Command → Type 0) (D : Type 0) (F : Command → Type 0) where
  pub then_missing : {cs : List Command} → D → X cs → Then X (Optional D F) cs
  then_missing {cs} d x = record { first = cs; second = []; is_first = x; is_second = inl (d, refl); whole = sym (append-nil cs) }

  pub then_present : {cs : List Command} (c : Command) → X cs → F c → Then X (Optional D F) (cs ++ (c ∷ []))
  then_present {cs} c x f = record { first = cs; second = c ∷ []; is_first = x; is_second = inr (record { command = c; form = f; whole = refl }); whole = refl }

  pub optional_last : {cs : List Command} → Then X (Optional D F) cs → (D × X cs) ⊎ Last X F cs
  optional_last {cs} t = ⊎_elim missing present t.is_second
    where
      missing : D × (t.second ≡ []) → (D × X cs) ⊎ Last X F cs
      missing (d, e) = let q : t.first ≡ cs = sym (t.whole ∙ ap (λ x. t.first ++ x) e ∙ append-nil t.first) in inl (d, rw q at t.is_first)

      present : Only F t.second → (D × X cs) ⊎ Last X F cs
      present o = inr (record { front = t.first; last = o.command; before = t.is_first; form = o.form; whole = t.whole ∙ ap (λ x. t.first ++ x) o.whole })

pub optional_map : (X Y : List Command → Type 0) (D : Type 0) (F G : Command → Type 0) {cs : List Command} → ((ds : List Command) → X ds → Y ds) → ((c : Command) → F c → G c) → Then X (Optional D F) cs → Then Y (Optional D G) cs
optional_map X Y D F G x f t = record {
  first = t.first;
  second = t.second;
  is_first = x _ t.is_first;
  is_second = ⊎_elim (λ d. inl d) (λ o. inr (only_map F G f o)) t.is_second;
  whole = t.whole;
}

module _ (X : List Command → Type 0) (F : ℕ → Command → Type 0) where
  -- none of the entries, and one more of them

  then_none : (n : ℕ) {cs : List Command} → n ≡ 0 → Then X (Each F n) cs → X cs
  then_none zero {cs} e t =
      let q : t.first ≡ cs = sym (t.whole ∙ ap (λ x. t.first ++ x) t.is_second ∙ append-nil t.first) in
      rw q at t.is_first
  then_none (suc n) e t = absurd (omega arith)

  none_then : (n : ℕ) (cs : List Command) → n ≡ 0 → X cs → Then X (Each F n) cs
  none_then zero cs e x = record { first = cs; second = []; is_first = x; is_second = refl; whole = sym (append-nil cs) }
  none_then (suc n) cs e x = absurd (omega arith)

  then_more : (n : ℕ) {cs : List Command} (c : Command) → Then X (Each F n) cs → F n c → Then X (Each F (suc n)) (cs ++ (c ∷ []))
  then_more n {cs} c t f = record {
    first = t.first;
    second = t.second ++ (c ∷ []);
    is_first = t.is_first;
    is_second = record { first = t.second; second = c ∷ []; is_first = t.is_second; is_second = record { command = c; form = f; whole = refl }; whole = refl };
    whole = ap (λ x. x ++ (c ∷ [])) t.whole ∙ append_assoc t.first t.second (c ∷ []);
  }

  then_last : (n : ℕ) {cs : List Command} → Then X (Each F (suc n)) cs → Last (Then X (Each F n)) (F n) cs
  then_last n t =
      let e = t.is_second in
      record {
        front = t.first ++ e.first;
        last = e.is_second.command;
        before = record { first = t.first; second = e.first; is_first = t.is_first; is_second = e.is_first; whole = refl };
        form = e.is_second.form;
        whole = t.whole ∙ rw (e.whole, e.is_second.whole, append_assoc);
      }

  then_map : (G : ℕ → Command → Type 0) (n : ℕ) {cs : List Command} → ((i : ℕ) (c : Command) → i < n → F i c → G i c) → Then X (Each F n) cs → Then X (Each G n) cs
  then_map G n h t = record { first = t.first; second = t.second; is_first = t.is_first; is_second = each_map F G n t.second h t.is_second; whole = t.whole }

-- ---- kinds one after the other

module _ {R : Type 0} where
  -- no entry of any of the kinds
  abbrev pub None : R → List (Kind R) → Type 0
  None r ks = All (λ k. k.count r ≡ 0) ks

  abbrev pub bytes_in : List (Kind R) → List ℕ
  bytes_in [] = []
  bytes_in (k ∷ ks) = k.bytes ++ bytes_in ks

  -- after commands that are X, one entry after the other
  abbrev pub Entries : (List Command → Type 0) → R → Kind R → List Command → Type 0
  Entries X r k = Then X (Each (Form k r) (k.count r))

module _ {R : Type 0} (r : R) where
  pub kinds_none : (X : List Command → Type 0) (ks : List (Kind R)) (cs : List Command) → None r ks → Kinds r X ks cs → X cs
  kinds_none X [] cs z h = h
  kinds_none X (k ∷ ks) cs z h = then_none X (Form k r) (k.count r) z.0 (kinds_none (Entries X r k) ks cs z.1 h)

  pub none_kinds : (X : List Command → Type 0) (ks : List (Kind R)) (cs : List Command) → None r ks → X cs → Kinds r X ks cs
  none_kinds X [] cs z h = h
  none_kinds X (k ∷ ks) cs z h = none_kinds (Entries X r k) ks cs z.1 (none_then X (Form k r) (k.count r) cs z.0 h)

  -- the last command's byte is one of the kinds', or there is no entry of them
  pub kinds_last : (X : List Command → Type 0) (ks : List (Kind R)) (cs : List Command) → Kinds r X ks cs → (X cs × None r ks) ⊎ Among (last_from 0 cs) (bytes_in ks)
  kinds_last X [] cs h = inl (h, tt)
  kinds_last X (k ∷ ks) cs h = ⊎_elim (λ g. by (k.count r) refl g.0 g.1) (λ b. inr (among_right _ k.bytes (bytes_in ks) b)) (kinds_last (Entries X r k) ks cs h)
    where
      by : (n : ℕ) → k.count r ≡ n → Entries X r k cs → None r ks → (X cs × None r (k ∷ ks)) ⊎ Among (last_from 0 cs) (bytes_in (k ∷ ks))
      by zero e t z = inl (then_none X (Form k r) (k.count r) e t, (e, z))
      by (suc n) e t z =
          let l = then_last X (Form k r) n (rw e at t) in
          let q : last_from 0 cs ≡ l.last.byte = ap (last_from 0) l.whole ∙ last_from_one 0 l.front l.last in
          inr (rw q (among_left _ k.bytes (bytes_in ks) l.form.0))

  -- where the last command's byte is none of the kinds', there is no entry of them
  pub kinds_absent : (X : List Command → Type 0) (ks : List (Kind R)) (cs : List Command) (bs : List ℕ) → T (apart bs (bytes_in ks)) → is_among (last_from 0 cs) bs ≡ true → Kinds r X ks cs → None r ks
  kinds_absent X ks cs bs t e h =
      ⊎_elim (λ g. g.1) (λ b. absurd (apart_not _ bs (bytes_in ks) t (among_test _ bs e) b)) (kinds_last X ks cs h)

  -- the last command's byte is one of the kinds' or of those before
  pub kinds_stand : (X : List Command → Type 0) (ks : List (Kind R)) (cs : List Command) (hs bs : List ℕ) → T (covers (hs ++ bytes_in ks) bs) → (X cs → Among (last_from 0 cs) hs) → Kinds r X ks cs → is_among (last_from 0 cs) bs ≡ true
  kinds_stand X ks cs hs bs t x h =
      covers_test _ (hs ++ bytes_in ks) bs t
      (⊎_elim (λ g. among_left _ hs (bytes_in ks) (x g.0)) (λ b. among_right _ hs (bytes_in ks) b) (kinds_last X ks cs h))

-- an entry more of the last kind that has any, and one less
module _ {R : Type 0} (X : List Command → Type 0) (r r' : R) (k : Kind R) (later : List (Kind R)) (z : None r later) (z' : None r' later) (cs : List Command) where
  pub kinds_more : (c : Command) → k.count r' ≡ suc (k.count r) → ((i : ℕ) (d : Command) → i < k.count r → k.says r i d → k.says r' i d) → Form k r' (k.count r) c
      → Kinds r X (k ∷ later) cs → Kinds r' X (k ∷ later) (cs ++ (c ∷ []))
  kinds_more c e kept new h =
      let t = then_map X (Form k r) (Form k r') (k.count r) (λ i d l f. (f.0, kept i d l f.1)) (kinds_none r (Entries X r k) later cs z h) in
      none_kinds r' (Entries X r' k) later (cs ++ (c ∷ [])) z' (rw e (then_more X (Form k r') (k.count r) c t new))

  pub kinds_less : (n : ℕ) → k.count r ≡ suc n → k.count r' ≡ n → ((i : ℕ) (d : Command) → i < n → k.says r i d → k.says r' i d)
      → Kinds r X (k ∷ later) cs → Last (Kinds r' X (k ∷ later)) (Form k r n) cs
  kinds_less n e e' kept h =
      let l = then_last X (Form k r) n (rw e at (kinds_none r (Entries X r k) later cs z h)) in
      let t = then_map X (Form k r) (Form k r') n (λ i d l f. (f.0, kept i d l f.1)) l.before in
      record { front = l.front; last = l.last; before = none_kinds r' (Entries X r' k) later l.front z' (rw e' t); form = l.form; whole = l.whole }

module _ {R : Type 0} where
  -- by the last kind that has an entry
  abbrev pub ByKind : Type 0 → R → List (Kind R) → Type 0
  ByKind G r [] = Unit {0}
  ByKind G r (k ∷ ks) = ((n : ℕ) → k.count r ≡ suc n → None r ks → G) × ByKind G r ks

  pub by_kind : (G : Type 0) (r : R) (ks : List (Kind R)) → (None r ks → G) → ByKind G r ks → G
  by_kind G r [] none by = none tt
  by_kind G r (k ∷ ks) none by = by_kind G r ks (λ z. go (k.count r) refl z) by.1
    where
      go : (n : ℕ) → k.count r ≡ n → None r ks → G
      go zero e z = none (e, z)
      go (suc n) e z = by.0 n e z

  -- ---- what is said where B holds

  abbrev pub under : Type 0 → Kind R → Kind R
  under B k = record { bytes = k.bytes; count = k.count; says = λ r i c. B → k.says r i c }

  abbrev pub under_all : Type 0 → List (Kind R) → List (Kind R)
  under_all B [] = []
  under_all B (k ∷ ks) = under B k ∷ under_all B ks

module _ {R : Type 0} (r : R) (B : Type 0) where
  -- and said outright, where B does hold

  pub kinds_said : B → (X Y : List Command → Type 0) (ks : List (Kind R)) (cs : List Command) → ((ds : List Command) → X ds → Y ds) → Kinds r X (under_all B ks) cs → Kinds r Y ks cs
  kinds_said b X Y [] cs h x = h cs x
  kinds_said b X Y (k ∷ ks) cs h x =
      kinds_said b (Entries X r (under B k)) (Entries Y r k) ks cs
      (λ ds t. record { first = t.first; second = t.second; is_first = h _ t.is_first; is_second = each_map (Form (under B k) r) (Form k r) (k.count r) t.second (λ i c l f. (f.0, f.1 b)) t.is_second; whole = t.whole }) x

  pub said_kinds : (X Y : List Command → Type 0) (ks : List (Kind R)) (cs : List Command) → ((ds : List Command) → X ds → Y ds) → Kinds r X ks cs → Kinds r Y (under_all B ks) cs
  said_kinds X Y [] cs h x = h cs x
  said_kinds X Y (k ∷ ks) cs h x =
      said_kinds (Entries X r k) (Entries Y r (under B k)) ks cs
      (λ ds t. record { first = t.first; second = t.second; is_first = h _ t.is_first; is_second = each_map (Form k r) (Form (under B k) r) (k.count r) t.second (λ i c l f. (f.0, λ b. f.1)) t.is_second; whole = t.whole }) x
