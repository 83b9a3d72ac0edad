-- The walk over commands by their sizes: a loop that takes it, and that it finds an entry of a kind in every encoding.
use Prim.Native.Nat.{ℕ, zero, suc, ◌+◌, ◌-◌, ◌*◌, ◌<◌, ◌≤◌}
use native.Mathlib.Nat.{add_assoc, add-zero, zero-add, zero-mul, suc-mul}
use native.Mathlib.Omega.{arith}
use native.Mathlib.Decide.{ℕ_discrete}
use mathlib.Core.Path.{◌≡◌, refl, sym, ◌∙◌, ap}
use mathlib.Core.Bool.{true, false, cond}
use mathlib.Core.List.{List, [], ◌∷◌, ◌++◌, append_assoc, append-nil, flat_map}
use lib.ListN.{length, get_or, drop, length-append, length-drop}
use lib.Seq.{get_or-drop, get_or-append-add}
use lib.Dec.{T}
use borrow.Author.Tests.{lt-ltb, le-ltb}
use Rattle.integers.specs.Lists.{All}
use Rattle.integers.proofs.Lists.{flag}
use Rattle.wire.specs.Part.{Part, size}
use Rattle.wire.specs.Rows.{is_among}
use Rattle.wire.specs.Encoding.{Command, encode_command, encode, Accepts}
use Rattle.wire.specs.Grammar.{Then, Each, Among, Kind, Form, Kinds}
use Rattle.wire.specs.Walk.{positions_from, position_of, Stands}
use Rattle.wire.proofs.Encoding.{after_first, encode-append, length_command}
use Rattle.wire.proofs.Grammar.{Entries, bytes_in, among_left, among_right, among_test, test_among, apart, apart_not}

-- ---- one command passed

module _ {S : Type 0} (P : Part S) (bytes s : List ℕ) where
  abbrev from : ℕ → ℕ → List ℕ
  from = positions_from P bytes s

  record Here (k at : ℕ) : Type 0 where
    rest : ℕ
    enough : length s - (at + size P (get_or s at 0)) ≤ rest
    are : from k at ≡ cond (is_among (get_or s at 0) bytes) (at ∷ []) [] ++ from rest (at + size P (get_or s at 0))

  here : (k at : ℕ) → at < length s → length s - at ≤ k → Here k at
  unfolding positions_from
  here zero at l e = absurd (omega arith)
  here (suc k) at l e = record { rest = k; enough = omega arith; are = rw (lt-ltb at (length s) l) }

  -- ---- a loop over the commands that looks for `found`: before position `at` all but i of those that count were passed

  pub record Walking (found i at : ℕ) : Type 0 where
    pub fuel : ℕ
    pub enough : length s - at ≤ fuel
    pub same : get_or (from fuel at) i 0 ≡ found

  pub walking_starts : (i : ℕ) → Walking (position_of P bytes s i) i 0
  unfolding position_of
  walking_starts i = record { fuel = length s; enough = omega arith; same = refl }

  module _ {found i at : ℕ} (w : Walking found i at) where
    pub walking_none : length s ≤ at → 0 ≡ found
    unfolding positions_from
    walking_none l = go w.fuel w.same
      where
        go : (k : ℕ) → get_or (from k at) i 0 ≡ found → 0 ≡ found
        go zero e = e
        go (suc k) e = rw (le-ltb at (length s) l) at e

    module _ (l : at < length s) where
      now : Here w.fuel at
      now = here w.fuel at l w.enough

      -- the command here is the one; it is one of those that count; it is not

      pub walking_found : is_among (get_or s at 0) bytes ≡ true → i ≡ 0 → at ≡ found
      walking_found b e = rw (now.are, b, e) at w.same

      pub walking_counted : (j : ℕ) → is_among (get_or s at 0) bytes ≡ true → i ≡ suc j → Walking found j (at + size P (get_or s at 0))
      walking_counted j b e = record { fuel = now.rest; enough = now.enough; same = rw (now.are, b, e) at w.same }

      pub walking_passed : is_among (get_or s at 0) bytes ≡ false → Walking found i (at + size P (get_or s at 0))
      walking_passed b = record { fuel = now.rest; enough = now.enough; same = rw (now.are, b) at w.same }

-- ---- commands and their bytes

-- how many of the commands have one of these bytes
abbrev pub counted : List ℕ → List Command → ℕ
counted bytes [] = 0
counted bytes (c ∷ cs) = let n = counted bytes cs in cond (is_among c.byte bytes) (suc n) n

pub counted_append : (bytes : List ℕ) (cs ds : List Command) → counted bytes (cs ++ ds) ≡ counted bytes cs + counted bytes ds
counted_append bytes [] ds = sym (zero-add (counted bytes ds))
counted_append bytes (c ∷ cs) ds = flag (is_among c.byte bytes) (λ t. rw (t, counted_append bytes cs ds) (omega arith)) (λ t. rw (t, counted_append bytes cs ds))

module _ {S : Type 0} (P : Part S) where
  -- each has the bytes of its size
  abbrev pub Sized : List Command → Type 0
  Sized cs = All (λ c. length (encode_command P c) ≡ size P c.byte) cs

  pub accepts_sized : (cs : List Command) (read end : S) → Accepts P read cs end → Sized cs
  accepts_sized [] read end a = absurd a
  accepts_sized (c ∷ cs) read end a =
      (length_command P c a.0.operands, flag (P.last c.byte) (λ l. let (none, _) = rw l at a.1 in rw none tt) (λ l. accepts_sized cs _ end (rw l at a.1)))

  -- the byte of a command whose bytes stand at a position
  byte_at : (s : List ℕ) (at b : ℕ) (rest : List ℕ) → drop at s ≡ b ∷ rest → (get_or s at 0 ≡ b) × (at < length s)
  byte_at s at b rest e =
      ((rw add-zero at (sym (get_or-drop at s 0 0))) ∙ ap (λ (l : List ℕ). get_or l 0 0) e, omega (arith, length-drop at s, ap length e))

  module _ (bytes s : List ℕ) (c : Command) (back : List Command) (mine : is_among c.byte bytes ≡ true) where
    walk_finds : (front : List Command) (k at : ℕ) → Sized (front ++ (c ∷ back)) → length s - at ≤ k → drop at s ≡ encode P (front ++ (c ∷ back))
        → get_or (positions_from P bytes s k at) (counted bytes front) 0 ≡ at + length (encode P front)
    unfolding encode flat_map encode_command
    walk_finds [] k at h l e =
        let (b, m) = byte_at s at c.byte _ e in
        let p = here P bytes s k at m l in
        rw (p.are, b, mine, add-zero)
    walk_finds (d ∷ ds) k at h l e =
        let (b, m) = byte_at s at d.byte _ e in
        let p = here P bytes s k at m l in
        let r = walk_finds ds p.rest (at + size P (get_or s at 0)) h.1 p.enough (rw b (after_first s at _ (encode_command P d) _ h.0 e)) in
        let n : at + size P (get_or s at 0) + length (encode P ds) ≡ at + length (encode_command P d ++ encode P ds) = rw (b, length-append, h.0, add_assoc) in
        flag (is_among d.byte bytes) (λ t. rw (p.are, b, t) (rw b at (r ∙ n))) (λ t. rw (p.are, b, t) (rw b at (r ∙ n)))

  -- the command after i that count stands where the walk finds it
  pub position_found : (bytes : List ℕ) (cs front back : List Command) (c : Command) (i : ℕ) → Sized cs → cs ≡ front ++ (c ∷ back) → counted bytes front ≡ i → is_among c.byte bytes ≡ true
      → position_of P bytes (encode P cs) i ≡ length (encode P front)
  unfolding position_of
  position_found bytes cs front back c i h w n mine =
      rw (w, ← n) (walk_finds bytes (encode P (front ++ (c ∷ back))) c back mine front _ 0 (rw w at h) (omega arith) refl ∙ zero-add (length (encode P front)))

-- ---- entries of a kind

-- what adds up over commands, and is w of each entry
pub each_sum : (f : List Command → ℕ) → f [] ≡ 0 → ((cs ds : List Command) → f (cs ++ ds) ≡ f cs + f ds) → (F : ℕ → Command → Type 0) (w n : ℕ) (cs : List Command) → ((i : ℕ) (c : Command) → F i c → f (c ∷ []) ≡ w) → Each F n cs → f cs ≡ n * w
each_sum f none more F w zero cs h e = rw (e, zero-mul) none
each_sum f none more F w (suc n) cs h e =
    rw (e.whole, more, each_sum f none more F w n e.first h e.is_first, e.is_second.whole, h n _ e.is_second.form, suc-mul)

-- as how many of them count
pub each_counted : (bytes : List ℕ) (F : ℕ → Command → Type 0) (w n : ℕ) (cs : List Command) → ((i : ℕ) (c : Command) → F i c → counted bytes (c ∷ []) ≡ w) → Each F n cs → counted bytes cs ≡ n * w
each_counted bytes = each_sum (counted bytes) refl (counted_append bytes)

-- and their bytes
pub each_length : {S : Type 0} (P : Part S) (F : ℕ → Command → Type 0) (w n : ℕ) (cs : List Command) → ((i : ℕ) (c : Command) → F i c → length (encode P (c ∷ [])) ≡ w) → Each F n cs → length (encode P cs) ≡ n * w
unfolding encode flat_map
each_length P = each_sum (λ cs. length (encode P cs)) refl (λ cs ds. ap length (encode-append P cs ds) ∙ length-append (encode P cs) (encode P ds))

-- the entries before one, it, and those after it
pub record Around (F : ℕ → Command → Type 0) (i : ℕ) (cs : List Command) : Type 0 where
  pub front : List Command
  pub command : Command
  pub back : List Command
  pub before : Each F i front
  pub form : F i command
  pub whole : cs ≡ front ++ (command ∷ back)

pub each_around : (F : ℕ → Command → Type 0) (n : ℕ) (cs : List Command) → Each F n cs → (i : ℕ) → i < n → Around F i cs
each_around F zero cs e i l = absurd (omega arith)
each_around F (suc n) cs e i l = by (ℕ_discrete i n) (each_around F n e.first e.is_first i)
  where
    by : Dec (i ≡ n) → (i < n → Around F i e.first) → Around F i cs
    by (yes d) ih = rw d (record { front = e.first; command = e.is_second.command; back = []; before = e.is_first; form = e.is_second.form; whole = e.whole ∙ rw e.is_second.whole })
    by (no d) ih =
        let a = ih (omega arith) in
        record { front = a.front; command = a.command; back = a.back ++ e.second; before = a.before; form = a.form; whole = e.whole ∙ rw (a.whole, append_assoc) }

module _ {R : Type 0} (r : R) where
  kinds_front : (X : List Command → Type 0) (ks : List (Kind R)) (cs : List Command) → Kinds r X ks cs → Then X (λ ds. Unit {0}) cs
  kinds_front X [] cs h = record { first = cs; second = []; is_first = h; is_second = tt; whole = sym (append-nil cs) }
  kinds_front X (k ∷ ks) cs h =
      let t = kinds_front (Entries X r k) ks cs h in
      let e = t.is_first in
      record { first = e.first; second = e.second ++ t.second; is_first = e.is_first; is_second = tt; whole = t.whole ∙ rw (e.whole, append_assoc) }

  -- kinds with other bytes do not count
  kinds_apart : (bytes : List ℕ) (X : List Command → Type 0) (ks : List (Kind R)) (cs : List Command) → ((b : ℕ) → Among b (bytes_in ks) → Among b bytes → ⊥) → ((ds : List Command) → X ds → counted bytes ds ≡ 0) → Kinds r X ks cs → counted bytes cs ≡ 0
  kinds_apart bytes X [] cs other none h = none cs h
  kinds_apart bytes X (k ∷ ks) cs other none h =
      kinds_apart bytes (Entries X r k) ks cs (λ b m. other b (among_right b k.bytes (bytes_in ks) m))
      (λ ds t. rw (t.whole, counted_append, none _ t.is_first, each_counted bytes (Form k r) 0 (k.count r) t.second alone t.is_second) (omega arith)) h
    where
      alone : (i : ℕ) (c : Command) → Form k r i c → counted bytes (c ∷ []) ≡ 0
      alone i c f = flag (is_among c.byte bytes) (λ t. absurd (other _ (among_left _ k.bytes (bytes_in ks) f.0) (among_test _ bytes t))) (λ t. rw t)

-- commands that are X, kinds `ks` with other bytes, the kind k, later kinds, and commands that are Y: entry i of k stands where the
-- walk finds its bytes, in every encoding
module _ {R S : Type 0} (P : Part S) (r : R) (X Y : List Command → Type 0) (ks later : List (Kind R)) (k : Kind R)
    (other : T (apart (bytes_in ks) k.bytes)) (none : (ds : List Command) → X ds → counted k.bytes ds ≡ 0) where
  pub entry_stands : (read end : S) (cs : List Command) → Accepts P read cs end → Then (Kinds r (Kinds r X ks) (k ∷ later)) Y cs → (i : ℕ) → i < k.count r
      → Stands P k r i cs (position_of P k.bytes (encode P cs) i)
  entry_stands read end cs a t i l =
      let f = kinds_front r (Entries (Kinds r X ks) r k) later t.first t.is_first in
      let e = f.is_first in
      let m = each_around (Form k r) (k.count r) e.second e.is_second i l in
      let front = e.first ++ m.front in
      let whole : cs ≡ front ++ (m.command ∷ (m.back ++ f.second ++ t.second)) =
      t.whole ∙ ap (λ x. x ++ t.second) (f.whole ∙ ap (λ x. x ++ f.second) (e.whole ∙ ap (λ x. e.first ++ x) m.whole)) ∙ simp append_assoc in
      let n : counted k.bytes front ≡ i =
      counted_append k.bytes e.first m.front
      ∙ rw (kinds_apart r k.bytes X ks e.first (λ b. apart_not b (bytes_in ks) k.bytes other) none e.is_first, each_counted k.bytes (Form k r) 1 i m.front (λ j c f. rw (test_among c.byte k.bytes f.0)) m.before)
      (omega arith) in
      record {
        front = front;
        command = m.command;
        back = m.back ++ f.second ++ t.second;
        form = m.form;
        whole = whole;
        position = position_found P k.bytes cs front _ m.command i (accepts_sized P cs read end a) whole n (test_among m.command.byte k.bytes m.form.0);
      }

-- one of the kind's bytes stands there
pub stands_byte : {R S : Type 0} (P : Part S) (k : Kind R) (r : R) (i at : ℕ) (cs : List Command) → Stands P k r i cs at → Among (get_or (encode P cs) at 0) k.bytes
unfolding encode flat_map encode_command
stands_byte P k r i at cs h =
    let e : get_or (encode P cs) at 0 ≡ h.command.byte = rw (h.whole, h.position, encode-append P h.front (h.command ∷ h.back)) (ap (λ n. get_or (encode P h.front ++ encode P (h.command ∷ h.back)) n 0) (sym (add-zero _)) ∙ get_or-append-add (encode P h.front) _ 0 0) in
    rw e h.form.0
