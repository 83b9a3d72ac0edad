-- What the call hands back: the bytes of a scheme that reads back as it was built, and all else as it was.
use mathlib.Core.Path.{◌≡◌, refl, sym, ◌∙◌, ap}
use mathlib.Core.List.{List}
use Prim.Native.Nat.{ℕ, ◌≤◌}
use native.Mathlib.Omega.{arith}
use lib.ListN.{length, take, drop}
use Rattle.wire.specs.Part.{Reading, refused, accepted}
use Rattle.wire.specs.Rows.{Progress}
use Rattle.wire.specs.Outcome.{Outcome, refuses, accepts, given, answer_by}
use Rattle.wire.specs.Writer.{refused_answer}
use Rattle.wire.proofs.Writer.{HandedBack, bytes_keep, bytes_back, bytes_enough}
use Rattle.register.specs.declared.Register.{Register}
use Rattle.register.specs.Format.{register_by_itself}
use Rattle.register.specs.Answer.{register_answer}
use Rattle.register.specs.Opening.{open_register}
use Rattle.register.specs.Valid as R
use Rattle.register.proofs.Opened.{Opened, opened}
use Rattle.scheme.specs.declared.Scheme.{Scheme}
use Rattle.scheme.specs.Encoding.{encode_scheme}
use Rattle.scheme.specs.Answer.{scheme_answer}
use Rattle.scheme.proofs.Accept.{encoding_accepted}
use Rattle.scheme.proofs.Whole.{answered}
use Rattle.scheme.proofs.Canonical.{canonical}
use Rattle.builder.specs.Builder.{Built, stopped, built, build}
use Rattle.builder.specs.Answer.{built_room, built_answer, built_buffer, build_answer, build_buffer}
use Rattle.builder.proofs.Factor.{built_factor}
use Rattle.builder.proofs.Validity.{build_valid, build_size}
use Rattle.builder.proofs.Answers.{build_full, build_whole}

module _ (s buffer : List ℕ) where
  abbrev register : Register
  register = (register_answer (register_by_itself s)).register

  -- the bytes handed back
  abbrev back : List ℕ
  back = take (build_answer s buffer).count (build_buffer s buffer)

  -- the register's bytes were accepted, its scheme was built, and the scheme's call reads it from the bytes handed back
  pub record Wrote : Type 0 where
    pub scheme : Scheme
    pub valid : R.Valid register
    pub builds : build register ≡ built scheme
    pub hands_back : HandedBack (encode_scheme register.choices scheme) buffer (build_answer s buffer) (build_buffer s buffer)
    pub reads : scheme_answer s back ≡ answered scheme

  -- the register where it is accepted
  read : (register_answer (register_by_itself s)).number ≡ 0 → Opened s register
  read = opened s (register_answer (register_by_itself s)) refl

  taken : Opened s register → accepts register ≡ open_register s
  taken o = rw o.reads

  -- where the call answers 0
  pub call_reads : (build_answer s buffer).number ≡ 0 → Wrote
  call_reads z = go (build register) refl
    where
      of_register : (x : Reading (Progress Register)) → (answer_by refused_answer (λ reg. built_answer s reg buffer (build reg)) (given 1 x)).number ≡ 0 → (register_answer x).number ≡ 0
      of_register (refused n at) z = z
      of_register (accepted p end) z = refl

      r : Opened s register
      r = read (of_register (register_by_itself s) z)

      go : (x : Built) → build register ≡ x → Wrote
      go (stopped t) e =
          let n : ◌≡◌ {A = ℕ} 10 0 = ap (λ a. a.number) (build_full s buffer register (taken r) t (sym e)).0 ∙ z in
          absurd (omega arith)
      go (built sch) e =
          let bytes = encode_scheme register.choices sch in
          let w = build_whole s buffer register (taken r) sch (sym e) in
          let h = bytes_back bytes buffer (build_answer s buffer) (build_buffer s buffer) (sym w.0) (sym w.1) z in
          record {
            scheme = sch;
            valid = r.valid;
            builds = e;
            hands_back = h;
            reads = ap (scheme_answer s) h.front ∙ rw (r.reads, encoding_accepted register r.valid bytes sch (build_valid register r.valid sch e) (canonical register sch (built_factor register sch e)));
          }

  -- it does where the register is accepted, its scheme is built, and there is room for the longest
  pub enough : (register_answer (register_by_itself s)).number ≡ 0 → (sch : Scheme) → build register ≡ built sch → built_room ≤ length buffer → (build_answer s buffer).number ≡ 0
  enough z sch e l =
      let r = read z in
      let w = build_whole s buffer register (taken r) sch (sym e) in
      bytes_enough (encode_scheme register.choices sch) buffer (build_answer s buffer) (build_buffer s buffer) (sym w.0) (sym w.1) (omega (arith, build_size register r.valid sch e))

  -- bytes past the count are as they were: all of them where the call is refused
  pub call_keeps : drop (build_answer s buffer).count (build_buffer s buffer) ≡ drop (build_answer s buffer).count buffer
  call_keeps = go (open_register s)
    where
      made : (reg : Register) (x : Built) → drop (built_answer s reg buffer x).count (built_buffer reg buffer x) ≡ drop (built_answer s reg buffer x).count buffer
      made reg (stopped t) = refl
      made reg (built sch) = bytes_keep (encode_scheme reg.choices sch) buffer

      go : (x : Outcome Register) → let n = (answer_by refused_answer (λ reg. built_answer s reg buffer (build reg)) x).count in
          drop n (answer_by (λ number part at. buffer) (λ reg. built_buffer reg buffer (build reg)) x) ≡ drop n buffer
      go (refuses n part at) = refl
      go (accepts reg) = made reg (build reg)
