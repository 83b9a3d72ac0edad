-- A plan is accepted from just those runs of bytes that are encodings of it, where it meets its conditions.
use Prim.Native.Nat.{ℕ, ◌^◌, ◌≤◌}
use native.Mathlib.Omega.{arith}
use mathlib.Core.Path.{◌≡◌, refl, sym, ◌∙◌, ap}
use mathlib.Core.Logic.{◌↔◌, ◌⊎◌, inl, inr, ⊎_elim}
use mathlib.Core.Bool.{true}
use mathlib.Core.List.{List, [], ◌∷◌, ◌++◌, append-nil, flat_map}
use lib.Dec.{ltb}
use lib.ListN.{length, get_or, take}
use lib.Pow.{pow_mono}
use borrow.Author.Tests.{leb-false, lt-leb, ltb-true, not-false}
use Rattle.integers.proofs.Lists.{◌▹◌, flag}
use Rattle.wire.specs.Number.{Bytes}
use Rattle.wire.specs.Checks.{refusal}
use Rattle.wire.specs.Part.{accepted}
use Rattle.wire.specs.Rows.{Progress, row_of}
use Rattle.wire.specs.Encoding.{Command, fields, encode_command, encode}
use Rattle.wire.specs.Grammar.{Only, Among}
use Rattle.wire.proofs.Checks.{refusal_none}
use Rattle.wire.proofs.Encoding.{fit_one}
use Rattle.wire.proofs.Grammar.{last_from, said}
use Rattle.wire.proofs.Accepting.{reached, Laws, Back}
use Rattle.wire.proofs.Acceptance as A
use Rattle.register.specs.declared.Register.{Register}
use Rattle.register.specs.Limits.{max_choices, narrow_choices}
use Rattle.register.specs.Encoding.{Narrow}
use Rattle.plan.specs.Fits.{fits}
use Rattle.plan.specs.Valid.{Valid}
use Rattle.plan.specs.Format.{plan_checks, plan_rows, plan_part, plan_in_job, plan_by_itself}
use Rattle.plan.specs.Answer.{plan_bytes}
use Rattle.plan.proofs.Fits.{register_fits}
use Rattle.plan.specs.Encoding.{plan_command, wide_plan_command, SaysPlan, Commands, Encodes, BeginsWide, encode_narrow_plan, encode_wide_plan, encode_plan}

-- ---- the laws of the rows; what the command says is known where B holds

module _ (reg : Register) where
  record Nothing (B : Type 0) (p : ℕ) (cs : List Command) : Type 0 where
    fresh : p ≡ 0
    none : cs ≡ []

  record Done (B : Type 0) (p : ℕ) (cs : List Command) : Type 0 where
    valid : Valid reg p
    only : Only (λ c. Among c.byte plan_bytes × (B → SaysPlan p c)) cs

  valid_iff : (p : ℕ) → (refusal (plan_checks reg.choices p (fits reg p)) ≡ 0) ↔ Valid reg p
  unfolding plan_checks refusal
  valid_iff p = (
    (λ q.
        let passed = refusal_none (plan_checks reg.choices p (fits reg p)) (omega arith, omega arith) q in
        record { inside = leb-false _ _ passed.0; fits = (register_fits reg p).0 (not-false _ passed.1.0) }),
    (λ v. rw (lt-leb (2 ^ reg.choices) p v.inside, (register_fits reg p).1 v.fits)),
  )

module _ (reg : Register) (few : reg.choices ≤ max_choices) where
  -- the only command taken back, by which of the two it is
  back : (p : ℕ) (cs : List Command) (c : Command) → Valid reg p → SaysPlan p c → cs ≡ c ∷ [] → Back 0 (plan_rows reg) (Nothing reg (Unit {0})) true p cs
  unfolding row_of
  back p cs c v (inl (n, e)) w = record {
    before = 0;
    front = [];
    command = plan_command p;
    good = record { fresh = refl; none = refl };
    allowed = record { byte = omega arith; here = refl; operands = (omega arith, tt); passes = (valid_iff reg p).1 v };
    after = refl;
    ends_is = refl;
    whole = w ∙ rw e;
  }
  back p cs c v (inr e) w = record {
    before = 0;
    front = [];
    command = wide_plan_command p;
    good = record { fresh = refl; none = refl };
    allowed = record { byte = omega arith; here = refl; operands = (omega (arith, v.inside, pow_mono few), tt); passes = (valid_iff reg p).1 v };
    after = refl;
    ends_is = refl;
    whole = w ∙ rw e;
  }

  laws : Laws 0 (plan_rows reg) (Nothing reg) (Done reg)
  unfolding row_of
  laws = record {
    starts = λ B. record { fresh = refl; none = refl };
    grows = λ B. record {
      on = λ p cs xs g e q fit. record {
        valid = (valid_iff reg _).0 q;
        only = record { command = record { byte = 0x40; operands = xs }; form = (inl refl, λ b. let (one, below) = fit_one 4 xs (fit b) in inl (omega arith, said 0x40 one)); whole = rw g.none };
      };
    } ▹ record {
      on = λ p cs xs g e q fit. record {
        valid = (valid_iff reg _).0 q;
        only = record { command = record { byte = 0x41; operands = xs }; form = (inr (inl refl), λ b. inr (said 0x41 (fit_one 8 xs (fit b)).0)); whole = rw g.none };
      };
    } ▹ tt;
    back = λ p cs g. inl (g.fresh, g.none);
    back_end = λ p cs d. back p cs d.only.command d.valid (d.only.form.1 tt) d.only.whole;
  }

  -- the byte of a command that says a plan
  byte_among : (p : ℕ) (c : Command) → SaysPlan p c → Among c.byte plan_bytes
  byte_among p c (inl (n, e)) = rw e (inl refl)
  byte_among p c (inr e) = rw e (inr (inl refl))

  means : A.Means (Done reg) (Valid reg) Commands (λ b. Among b plan_bytes)
  means = record {
    valid = λ B p cs d. (d.valid, rw d.only.whole d.only.form.0);
    said = λ B p cs b d. record { command = d.only.command; form = d.only.form.1 b; whole = d.only.whole };
    done = λ p cs valid c. record { valid = valid; only = record { command = c.command; form = (byte_among p c.command c.form, λ b. c.form); whole = c.whole } };
  }

  -- ---- at the front of a run of bytes, as in a job

  module _ (s : List ℕ) (p : Progress ℕ) (end : ℕ) (e : plan_in_job reg s ≡ accepted p end) where
    pub valid_accepted : Valid reg p.parsed × Among p.previous plan_bytes
    unfolding plan_in_job
    valid_accepted = A.front_valid 0 (plan_rows reg) laws means s p end e

    pub bytes_accepted : Bytes s → Encodes reg p.parsed (take end s) × (end ≤ length s)
    unfolding plan_in_job
    bytes_accepted = A.front_encodes 0 (plan_rows reg) laws means s p end e

  pub front_accepted : (plan : ℕ) (x rest : List ℕ) → Valid reg plan → (e : Encodes reg plan x) → plan_in_job reg (x ++ rest) ≡ accepted (reached (last_from 0 e.commands) plan) (length x)
  unfolding plan_in_job
  front_accepted = A.front_said 0 (plan_rows reg) laws means

  -- two plans of a register with one encoding are one
  pub plan_determines : (plan plan' : ℕ) (x : List ℕ) → Valid reg plan → Valid reg plan' → Encodes reg plan x → Encodes reg plan' x → plan ≡ plan'
  plan_determines = A.determines 0 (plan_rows reg) laws means

  -- ---- by itself

  pub whole_accepted : (plan : ℕ) (s : List ℕ) → Valid reg plan → (e : Encodes reg plan s) → plan_by_itself reg s ≡ accepted (reached (last_from 0 e.commands) plan) (length s)
  unfolding plan_by_itself plan_in_job
  whole_accepted = A.whole_said 0 (plan_rows reg) laws means

  module _ (s : List ℕ) (p : Progress ℕ) (end : ℕ) (e : plan_by_itself reg s ≡ accepted p end) where
    pub whole_valid : Valid reg p.parsed × Among p.previous plan_bytes
    unfolding plan_by_itself plan_in_job
    whole_valid = A.whole_valid 0 (plan_rows reg) laws means s p end e

    pub whole_encodes : Bytes s → Encodes reg p.parsed s
    unfolding plan_by_itself plan_in_job
    whole_encodes = A.whole_encodes 0 (plan_rows reg) laws means s p end e

  -- by one command or the other
  pub accepts_plan : (s : List ℕ) (plan : ℕ) → Bytes s → ((byte : ℕ) × (plan_by_itself reg s ≡ accepted (reached byte plan) (length s))) ↔ (Valid reg plan × Encodes reg plan s)
  accepts_plan s plan b = ((λ h. ((whole_valid s _ _ h.1).0, whole_encodes s _ _ h.1 b)), λ h. (last_from 0 h.1.commands, whole_accepted plan s h.0 h.1))

-- ---- the encodings of a plan: with `41`, and where it is narrow also with `40`; there are no others

module _ (reg : Register) (plan : ℕ) where
  narrow_bytes : encode (plan_part reg) (plan_command plan ∷ []) ≡ encode_narrow_plan plan
  unfolding encode flat_map encode_command fields row_of encode_narrow_plan
  narrow_bytes = rw (append-nil, append-nil)

  wide_bytes : encode (plan_part reg) (wide_plan_command plan ∷ []) ≡ encode_wide_plan plan
  unfolding encode flat_map encode_command fields row_of encode_wide_plan
  wide_bytes = rw (append-nil, append-nil)

  pub narrow_encodes : Narrow plan → Encodes reg plan (encode_narrow_plan plan)
  narrow_encodes n = record { commands = plan_command plan ∷ []; are = record { command = plan_command plan; form = inl (n, refl); whole = refl }; bytes = sym narrow_bytes }

  pub wide_encodes : Encodes reg plan (encode_wide_plan plan)
  wide_encodes = record { commands = wide_plan_command plan ∷ []; are = record { command = wide_plan_command plan; form = inr refl; whole = refl }; bytes = sym wide_bytes }

  -- what a writer makes is one of them
  pub canonical : Encodes reg plan (encode_plan plan)
  unfolding encode_plan
  canonical =
      flag (ltb plan (2 ^ narrow_choices))
      (λ t. rw t (narrow_encodes (ltb-true _ _ t)))
      (λ t. rw t wide_encodes)

  pub encodings : (s : List ℕ) → Encodes reg plan s ↔ ((Narrow plan × (s ≡ encode_narrow_plan plan)) ⊎ (s ≡ encode_wide_plan plan))
  encodings s = (λ e. which e.commands e.bytes e.are.whole e.are.form, from)
    where
      which : (cs : List Command) {c : Command} → s ≡ encode (plan_part reg) cs → cs ≡ c ∷ [] → SaysPlan plan c → (Narrow plan × (s ≡ encode_narrow_plan plan)) ⊎ (s ≡ encode_wide_plan plan)
      which cs b w (inl (n, e)) = inl (n, b ∙ ap (encode (plan_part reg)) (w ∙ rw e) ∙ narrow_bytes)
      which cs b w (inr e) = inr (b ∙ ap (encode (plan_part reg)) (w ∙ rw e) ∙ wide_bytes)

      from : (Narrow plan × (s ≡ encode_narrow_plan plan)) ⊎ (s ≡ encode_wide_plan plan) → Encodes reg plan s
      from (inl (n, e)) = rw e (narrow_encodes n)
      from (inr e) = rw e wide_encodes

  -- bytes that do not begin with `41`, as all did before that command was there
  pub narrow_encodings : (s : List ℕ) → (BeginsWide s → ⊥) → Encodes reg plan s ↔ (Narrow plan × (s ≡ encode_narrow_plan plan))
  unfolding encode_wide_plan
  narrow_encodings s d = ((λ e. ⊎_elim (λ h. h) (λ h. absurd (d (ap (λ (x : List ℕ). get_or x 0 0) h))) ((encodings s).0 e)), λ h. (encodings s).1 (inl h))
