use Rattle.std.proofs.Common.{rules}
use Prim.Native.Nat.{ℕ, ◌+◌, ◌<◌}
use native.Mathlib.Nat.{add-zero}
use native.Mathlib.Omega.{arith}
use native.Mathlib.Numerals.{add-one}
use mathlib.Core.Path.{◌≡◌, refl, sym, ◌∙◌, ap}
use mathlib.Core.Bool.{false}
use mathlib.Core.List.{List, [], ◌∷◌}
use lib.ListN.{length, get_or}
use Rattle.wire.specs.Checks.{refusal}
use Rattle.wire.specs.Number.{nat_at}
use Rattle.wire.specs.Part.{refused, operands_at, total, checks_at}
use Rattle.wire.specs.Outcome.{added_by}
use Rattle.wire.specs.Results.{number_of, number_in, reading_of}
use Rattle.wire.specs.Rows.{Progress, row_of}
use Rattle.wire.proofs.Rest.{only_last}
use Rattle.wire.proofs.Accepting.{reached}
use Rattle.wire.proofs.Loop.{Here, here_at, Going, going_starts, going_missing, going_refused, going_on, going_ends, next_of, size_of}
use Rattle.register.specs.declared.Register.{Register}
use Rattle.register.specs.Register.{mask}
use Rattle.register.specs.Valid.{Valid}
use Rattle.scheme.specs.declared.Scheme.{Scheme}
use Rattle.scheme.specs.Scheme.{variables, fresh, initial, with_factor, with_split}
use Rattle.scheme.specs.Sets.{SetsBelow}
use Rattle.scheme.specs.Format.{factor_row, product_row, split_row, end_row, scheme_rows, scheme_part, scheme_in_job}
use Rattle.scheme.specs.Answer.{seen_of}
use Rattle.wire.proofs.Results.{numbered}
use Rattle.scheme.proofs.Sets.{sets_same}
use Rattle.scheme.proofs.Passes.{NextProduct, product_iff, NextSplit, split_iff}
use Rattle.scheme.proofs.Entries.{lengths_within, grown_sets}
use Rattle.scheme.proofs.Laws.{Good, laws}
use Rattle.scheme.proofs.read_scheme.Goals.{In_ok-map_err}
use Rattle.scheme.proofs.read_scheme.Goals as goal

-- what the loop has seen
seen_is : (reg : Register) (previous : ℕ) (s : Scheme) {m : ℕ} → m ≡ mask reg s.splits → seen_of reg (reached previous s)
    ≡ record { previous = previous; choices = reg.choices; terms = reg.terms; products = s.products; splits = s.splits; mask = m }
seen_is reg previous s e = rw e

-- the sets of the choices are those of the initial scheme
first_sets : (reg : Register) {sets : List ℕ} → SetsBelow reg.choices initial reg.choices sets → SetsBelow reg.choices initial (variables reg.choices initial) sets
unfolding fresh
first_sets reg h = rw add-zero h

-- a turn of the loop, whose command is not refused
record Turn (bytes : List ℕ) (reg : Register) (previous : ℕ) (s : Scheme) (at : ℕ) : Type 0 where
  inside : at < length bytes
  judged : refusal (checks_at (scheme_part reg) bytes (reached previous s) at) ≡ 0

-- by the array of sets, whose entries are those of what has been read
turn : (bytes : List ℕ) (reg : Register) (previous : ℕ) (s : Scheme) (at : ℕ) {m number : ℕ} {sets : List ℕ} → at < length bytes → m ≡ mask reg s.splits
    → SetsBelow reg.choices s (variables reg.choices s) sets
    → ((r : Register) (p : Progress Scheme)
    → seen_of r p ≡ record { previous = previous; choices = reg.choices; terms = reg.terms; products = s.products; splits = s.splits; mask = m }
    → SetsBelow r.choices p.parsed (variables r.choices p.parsed) sets → number ≡ refusal (checks_at (scheme_part r) bytes p at))
    → number ≡ 0 → Turn bytes reg previous s at
turn bytes reg previous s at l e held n z = record { inside = l; judged = sym (n reg (reached previous s) (seen_is reg previous s e) held) ∙ z }

module _ {bytes : List ℕ} {reg : Register} {previous : ℕ} {s : Scheme} {at : ℕ} (t : Turn bytes reg previous s at) where
  here : (b : ℕ) → get_or bytes at 0 ≡ b → Here initial (scheme_rows reg) bytes (reached previous s) at b
  here b e = here_at initial (scheme_rows reg) bytes (reached previous s) at b e t.inside t.judged

  product : get_or bytes at 0 ≡ 0x21 → NextProduct reg.choices s (nat_at 1 bytes (at + 1)) (nat_at 1 bytes (at + 1 + 1))
  unfolding row_of operands_at
  product e = (product_iff _ _ _ _).0 (here 0x21 e).allowed

  split : get_or bytes at 0 ≡ 0x22 → NextSplit reg s (nat_at 1 bytes (at + 1)) (nat_at 1 bytes (at + 1 + 1))
  unfolding row_of operands_at
  split e = (split_iff _ _ _ _).0 (here 0x22 e).allowed

  -- what else stands here is the end
  end : (get_or bytes at 0 ≡ 0x23 → ⊥) → (get_or bytes at 0 ≡ 0x21 → ⊥) → (get_or bytes at 0 ≡ 0x22 → ⊥) → get_or bytes at 0 ≡ 0x2F
  end x f g = only_last (end_row reg) _ (factor_row ∷ product_row reg ∷ split_row reg ∷ []) (x, (f, (g, tt))) _ (here _ refl).place

  -- what is read with the command, where it does not end the part
  on : Valid reg → Going initial (scheme_rows reg) (Good reg) bytes (reached previous s) at → (b : ℕ) → get_or bytes at 0 ≡ b → (row_of (scheme_rows reg) b).last ≡ false
      → Going initial (scheme_rows reg) (Good reg) bytes (next_of initial (scheme_rows reg) bytes (reached previous s) at b) (at + size_of initial (scheme_rows reg) b)
  on valid g b e f = going_on initial (scheme_rows reg) (laws reg valid) g t.inside t.judged b e f

turn_of : (c : In_ok-map_err) → Turn c.args.bytes.now c.args.register.now c.loop-at.previous c.loop-at.scheme c.loop-at.at
turn_of c =
    let z : number_in c.refusal_at.result ≡ 0 = search rules in
    turn c.args.bytes.now c.args.register.now c.loop-at.previous c.loop-at.scheme c.loop-at.at c.loop-at-test.true c.entry.ensures c.loop-at.invariant.held c.refusal_at.ensures z

pub loop-at-init : goal.loop-at-init
loop-at-init c =
    let reg = c.args.register.now in
    rw c.initial-scheme.ensures (record { going = going_starts initial (scheme_rows reg) (laws reg c.requires) _; held = first_sets reg (c.choice_sets-sets.ensures initial) })

pub returns-in_err-map_err : goal.returns-in_err-map_err
unfolding scheme_in_job
returns-in_err-map_err c =
    let reg = c.args.register.now in
    let i = c.loop-at in
    let r = c.in_err-map_err.field-0.0 in
    let answer : reading_of c.from_residual.result ≡ refused (number_of r.refusal) r.position = search rules in
    let place : r.position ≡ i.at = search rules in
    let judged : number_of r.refusal ≡ number_in c.refusal_at.result = search rules in
    let n = judged ∙ c.refusal_at.ensures reg (reached i.previous i.scheme) (seen_is reg i.previous i.scheme c.entry.ensures) i.invariant.held in
    answer ∙ ap (refused (number_of r.refusal)) place ∙ ap (added_by (λ s. s)) (sym (going_refused initial (scheme_rows reg) (laws reg c.requires) i.invariant.going _ c.loop-at-test.true n (numbered r.refusal)))

pub read-l-requires : goal.read-l-requires
unfolding row_of total
read-l-requires c = omega (arith, (here (turn_of (goal.at.read-l-requires c).In_ok-map_err) 0x21 c.in-33.is).room)

pub read-r-requires : goal.read-r-requires
unfolding row_of total
read-r-requires c = omega (arith, (here (turn_of (goal.at.read-r-requires c).In_ok-map_err) 0x21 c.in-33.is).room)

pub bounds-sets-n : goal.bounds-sets-n
bounds-sets-n c = (product (turn_of (goal.at.bounds-sets-n c).In_ok-map_err) c.in-33.is).room

pub bounds-scheme-k : goal.bounds-scheme-k
bounds-scheme-k c = (product (turn_of (goal.at.bounds-scheme-k c).In_ok-map_err) c.in-33.is).few

pub bounds-scheme-k-in-33 : goal.bounds-scheme-k-in-33
bounds-scheme-k-in-33 c = (product (turn_of (goal.at.bounds-scheme-k-in-33 c).In_ok-map_err) c.in-33.is).few

pub loop-at-preserved-in-33 : goal.loop-at-preserved-in-33
unfolding row_of total operands_at
loop-at-preserved-in-33 c =
    let reg = c.args.register.now in
    let i = c.loop-at in
    let t = turn_of (goal.at.loop-at-preserved-in-33 c).In_ok-map_err in
    let f = c.in-33.is in
    let q = product t f in
    rw (c.union_of.ensures, c.read-r.ensures, c.read-l.ensures, add-one)
    (record {
      going = on t c.requires i.invariant.going 0x21 f refl;
      held = grown_sets i.scheme _ _ reg.choices (lengths_within i.invariant.going.so_far.holds.within) q.few i.invariant.held q.room (omega (arith, q.fits.ordered, q.fits.falls)) q.fits.falls;
    })

pub read-requires : goal.read-requires
unfolding row_of total
read-requires c = omega (arith, (here (turn_of (goal.at.read-requires c).In_ok-map_err) 0x22 c.in-34.is).room)

pub bounds-scheme-t : goal.bounds-scheme-t
bounds-scheme-t c = omega (arith, c.requires.within.terms.few, (split (turn_of (goal.at.bounds-scheme-t c).In_ok-map_err) c.in-34.is).few)

pub read-requires-in-34 : goal.read-requires-in-34
unfolding row_of total
read-requires-in-34 c = omega (arith, (here (turn_of (goal.at.read-requires-in-34 c).In_ok-map_err) 0x22 c.in-34.is).room)

pub bounds-scheme-t-in-34 : goal.bounds-scheme-t-in-34
bounds-scheme-t-in-34 c = omega (arith, c.requires.within.terms.few, (split (turn_of (goal.at.bounds-scheme-t-in-34 c).In_ok-map_err) c.in-34.is).few)

pub loop-at-preserved-in-34 : goal.loop-at-preserved-in-34
unfolding row_of total operands_at
loop-at-preserved-in-34 c =
    let i = c.loop-at in
    let t = turn_of (goal.at.loop-at-preserved-in-34 c).In_ok-map_err in
    rw (c.read-in-34.ensures, c.read.ensures, add-one)
    (record { going = on t c.requires i.invariant.going 0x22 c.in-34.is refl; held = sets_same i.invariant.held (with_split i.scheme _ _) (λ w a b. (refl, refl)) })

pub read-requires-in-35 : goal.read-requires-in-35
unfolding row_of total
read-requires-in-35 c = omega (arith, (here (turn_of (goal.at.read-requires-in-35 c).In_ok-map_err) 0x23 c.in-35.is).room)

pub loop-at-preserved : goal.loop-at-preserved
unfolding row_of total operands_at
loop-at-preserved c =
    let i = c.loop-at in
    let t = turn_of (goal.at.loop-at-preserved c).In_ok-map_err in
    rw c.read-in-35.ensures
    (record { going = on t c.requires i.invariant.going 0x23 c.in-35.is refl; held = sets_same i.invariant.held (with_factor i.scheme _) (λ w a b. (refl, refl)) })

pub returns-in_default : goal.returns-in_default
unfolding scheme_in_job row_of total operands_at
returns-in_default c =
    let reg = c.args.register.now in
    let i = c.loop-at in
    let t = turn_of (goal.at.returns-in_default c).In_ok-map_err in
    let f = end t (λ e. omega arith) (λ e. omega arith) (λ e. omega arith) in
    ap (added_by (λ s. s)) (sym (going_ends initial (scheme_rows reg) (laws reg c.requires) i.invariant.going t.inside t.judged 0x2F f refl))

pub returns : goal.returns
unfolding scheme_in_job
returns c =
    let reg = c.args.register.now in
    ap (added_by (λ s. s)) (sym (going_missing initial (scheme_rows reg) (laws reg c.requires) c.loop-at.invariant.going c.loop-at-test.false))
