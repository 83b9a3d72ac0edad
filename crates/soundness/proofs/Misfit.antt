-- Plans that do not fit: 15 at the plan's command, and 15 for nothing else.
use Prim.Native.Nat.{ℕ, ◌+◌, ◌-◌, ◌^◌, ◌≤◌, ◌<◌}
use native.Mathlib.Nat.{add-zero}
use native.Mathlib.Omega.{arith}
use native.Mathlib.Decide.{dec_lt}
use mathlib.Core.Path.{◌≡◌, refl, sym, ◌∙◌, ap, subst}
use mathlib.Core.Logic.{◌⊎◌, inl, inr, ⊎_elim}
use mathlib.Core.Bool.{true, true≢false, false≢true}
use mathlib.Core.List.{List, [], ◌∷◌, ◌++◌, append_assoc}
use lib.IntN.{ℤ}
use lib.Dec.{eqb, ltb, leb}
use lib.ListN.{length, get_or, drop, length-append, take-append-drop}
use lib.Seq.{drop-cons, drop_at}
use borrow.Author.Tests.{leb-false, ltb-false}
use Rattle.integers.specs.Lists.{All}
use Rattle.integers.proofs.Lists.{◌▹◌, cond_cases, flag}
use Rattle.wire.specs.Number.{Bytes, nat_at, bytes_of}
use Rattle.wire.specs.Checks.{Check, Fails, refusal, command_checks}
use Rattle.wire.specs.Part.{Part, Reading, refused, size, checks_at, operands_at, total, read_part}
use Rattle.wire.specs.Rows.{Progress, Row, is_among, row_of, part_of}
use Rattle.wire.specs.Grammar.{Among}
use Rattle.wire.specs.Refused.{Lowest, RefusedAt, RefusedByItself}
use Rattle.wire.specs.Outcome.{refuses}
use Rattle.wire.specs.declared.WriterAnswer.{WriterAnswer}
use Rattle.wire.proofs.Number.{bytes_drop, nat_at_below, bytes_of-nat_at}
use Rattle.wire.proofs.Part.{own, own_at, Ways, by_ways}
use Rattle.wire.proofs.Rest.{no_row_lem, by_bytes}
use Rattle.wire.proofs.Lowest.{own_refused}
use Rattle.wire.proofs.Encoding.{after_first}
use Rattle.wire.proofs.Outcome.{itself_refused, refused_itself}
use Rattle.forms.specs.Table.{table_numbers}
use Rattle.register.specs.declared.Register.{Register}
use Rattle.register.specs.Register.{coefficient}
use Rattle.register.specs.Format.{base_checks, choice_checks, term_checks, window_checks, row_checks, range_checks, length_checks, register_rows, register_part, register_in_job}
use Rattle.register.specs.Format as RF
use Rattle.register.proofs.Accept as Ra
use Rattle.scheme.specs.declared.Scheme.{Scheme}
use Rattle.scheme.specs.Format.{factor_checks, product_checks, split_checks, end_checks, scheme_rows, scheme_part, scheme_in_job}
use Rattle.scheme.proofs.Accept as SA
use Rattle.certificate.specs.Format.{scale_checks, multiplier_checks, square_checks, multiplier_row, certificate_rows}
use Rattle.bound.specs.declared.CheckAnswer.{CheckAnswer}
use Rattle.bound.specs.Refused.{CertificateRefused, CertificateRefusedByItself}
use Rattle.bound.proofs.Same.{certificate_same}
use Rattle.bound.proofs.Accept as CA
use Rattle.plan.specs.Chosen.{chosen}
use Rattle.plan.specs.Fits.{Fits, fits}
use Rattle.plan.specs.Format.{plan_checks, plan_rows, plan_part, plan_in_job, plan_by_itself}
use Rattle.plan.specs.Encoding.{Encodes, encode_narrow_plan, encode_wide_plan}
use Rattle.plan.specs.declared.CostAnswer.{CostAnswer}
use Rattle.plan.specs.Answer.{plan_bytes, cost_answer}
use Rattle.plan.proofs.Accept.{narrow_encodes, wide_encodes}
use Rattle.plan.proofs.Coefficients.{chosen_known}
use Rattle.plan.proofs.Fits.{register_fits}
use Rattle.plan.proofs.Lowest.{plan_refused_by_itself, plan_refused as plan_refused_at}
use Rattle.job.specs.declared.Tally.{Tally}
use Rattle.job.specs.declared.JobAnswer.{JobAnswer}
use Rattle.job.specs.Tally.{suppliers}
use Rattle.job.specs.Outcome.{JobPart, part_two, order, last_of, outcome}
use Rattle.job.specs.Rest.{first_two, plan_last, plan_first}
use Rattle.job.specs.Answer.{job_answer}
use Rattle.job.proofs.Turn.{follow}
use Rattle.job.proofs.Suppliers.{table_enough, of_three}
use Rattle.soundness.specs.Calls.{cost_call, check_call, plain_call, job_call}
use Rattle.soundness.specs.Parts.{Part1, Part2}
use Rattle.soundness.specs.Refusals.{InRegister, InScheme, InCertificate, InChoosing, InPlan, PlainTooLong, Behind, FromRegister, FromScheme, FromCertificate, FromPlan, FromPlanFirst, FromCertificateLast}
use Rattle.soundness.specs.PriceRanges.{MisfitChoosing}
use Rattle.soundness.specs.Rows.{Misfit, MisfitLast, MisfitFirst, MisfitJob, plan_refused, job_misfit}
use Rattle.soundness.proofs.Choosing.{plan_stands, unnamed_checks, plan_misfit, misfit_read}
use Rattle.soundness.proofs.Refusals.{cost_refusals, check_refusals, plain_refusals, job_refusals}

-- ---- a plan by itself

-- refused in a job at its command, it is given no cost
module _ (t plan : List ℕ) (reg : Register) (p : Part1 t reg) where
  cost_of : (n : ℕ) → plan_in_job reg plan ≡ refused n 0 → cost_call t plan ≡ plan_refused n
  unfolding cost_answer plan_by_itself
  cost_of n e = rw (Ra.encoding_accepted t reg p.conditions p.bytes, itself_refused plan e)

pub misfit : (register plan : List ℕ) → Misfit register plan → cost_call register plan ≡ plan_refused 15
misfit register plan m = cost_of register plan m.reg m.part_1 15 (misfit_read register plan m)

pub names_first : (register front rest : List ℕ) (reg : Register) (fed : ℕ) → Part1 register reg → 2 ^ reg.choices ≤ fed → fed < 2 ^ 64 → Encodes reg fed front → cost_call register (front ++ rest) ≡ plan_refused 5
names_first register front rest reg fed p l small e = cost_of register (front ++ rest) reg p 5 (plan_stands reg fed rest 5 (unnamed_checks reg fed l) (λ z. omega arith) front e small)

-- ---- in a job

-- parts 1 and 2 at its front, and then the others in their order
module _ (job t u rest : List ℕ) (reg : Register) (sch : Scheme) (p : Part1 t reg) (q : Part2 reg u sch) (e : job ≡ (t ++ u) ++ rest) where
  abbrev from : ℕ
  from = length (t ++ u)

  there : drop from job ≡ rest
  there = ap (drop from) e ∙ drop_at (t ++ u) rest from refl

  behind_two : (ks : List JobPart) → order reg ≡ part_two ∷ ks → outcome job ≡ follow job (last_of 2 ks) ks (first_two reg sch) from
  unfolding outcome
  behind_two ks o =
      let whole : job ≡ t ++ (u ++ rest) = e ∙ append_assoc t u rest in
      let first = ap register_in_job whole ∙ Ra.register_accepted reg t (u ++ rest) p.conditions p.bytes in
      let d : drop (length t) job ≡ u ++ rest = ap (drop (length t)) whole ∙ drop_at t (u ++ rest) (length t) refl in
      let second = ap (scheme_in_job reg) d ∙ SA.scheme_accepted reg p.conditions sch u rest q.conditions q.bytes in
      rw (first, o, second, length-append t u)

-- the plan is the last part, behind the certificate
module _ (job : List ℕ) (position : ℕ) (m : MisfitLast job position) where
  last_misfit : outcome job ≡ refuses 15 4 position
  last_misfit =
      let h = m.before in
      let reg = h.reg in
      let sch = h.sch in
      let v = h.part_1.conditions in
      let v' = h.part_2.conditions in
      let plan = m.front ++ m.rest in
      let front = m.register ++ m.scheme in
      let whole : job ≡ front ++ (m.certificate ++ plan) = m.bytes ∙ append_assoc front m.certificate plan in
      let here = there job m.register m.scheme (m.certificate ++ plan) reg sch h.part_1 h.part_2 whole in
      let after = after_first job (length front) (length m.certificate) m.certificate plan refl here in
      let known = chosen_known reg v.within 0 h.no_range in
      let third =
      certificate_same (chosen reg 0) (coefficient reg) reg sch (λ i l. known i) (m.certificate ++ plan)
      ∙ CA.encoding_front reg v sch v' (coefficient reg) h.cert m.certificate plan h.part_3.conditions h.part_3.bytes in
      let size : position ≡ length front + length m.certificate = m.position_is ∙ length-append front m.certificate in
      behind_two job m.register m.scheme (m.certificate ++ plan) reg sch h.part_1 h.part_2 whole plan_last (rw h.no_range refl)
      ∙ rw (here, third, after, plan_misfit reg m.fed m.front m.rest m.encodes v.within.choices.few m.inside m.misfit, add-zero, size) refl

-- or it comes before the certificate
module _ (job : List ℕ) (position : ℕ) (m : MisfitFirst job position) where
  first_misfit : outcome job ≡ refuses 15 4 position
  first_misfit =
      let h = m.before in
      let plan = m.front ++ m.rest in
      let here = there job m.register m.scheme plan h.reg h.sch h.part_1 h.part_2 m.bytes in
      behind_two job m.register m.scheme plan h.reg h.sch h.part_1 h.part_2 m.bytes plan_first (rw m.ranged refl)
      ∙ rw (here, plan_misfit h.reg m.fed m.front m.rest m.encodes h.part_1.conditions.within.choices.few m.inside m.misfit, add-zero, m.position_is) refl

misfit_outcome : (job : List ℕ) (position : ℕ) → MisfitJob job position → outcome job ≡ refuses 15 4 position
misfit_outcome job position m = ⊎_elim (last_misfit job position) (first_misfit job position) m

pub misfit_in_job : (job : List ℕ) (table : List ℤ) (supplier : ℕ) (tally : Tally) (position : ℕ) → supplier < suppliers → table_numbers ≤ length table → MisfitJob job position → job_answer job table supplier tally ≡ job_misfit position supplier tally
misfit_in_job job table supplier tally position k l m = (table_enough job table supplier tally k l).0 ∙ rw (misfit_outcome job position m)

-- ---- what is refused 15

-- a number that no row's checks have

abbrev pub Never : {R : Type 0} → ℕ → Row R → Type 0
Never {R} n row = (r : R) (xs : List ℕ) → All (λ c. c.number ≡ n → ⊥) (row.checks r xs)

no_fail : (n : ℕ) (cs : List Check) → All (λ c. c.number ≡ n → ⊥) cs → Fails n cs → ⊥
no_fail n [] h f = f
no_fail n (c ∷ cs) h (inl (e, k)) = h.0 k
no_fail n (c ∷ cs) h (inr f) = no_fail n cs h.1 f

module _ {R : Type 0} (n : ℕ) where
  row_never : (rows : List (Row R)) → All (Never n) rows → (b : ℕ) → Never n (row_of rows b)
  unfolding row_of
  row_never [] h b r xs = tt
  row_never (row ∷ rows) h b r xs =
      cond_cases (λ (x : Row R). All (λ c. c.number ≡ n → ⊥) (x.checks r xs)) (eqb b row.byte) row (row_of rows b) (λ t. h.0 r xs) (λ t. row_never rows h.1 b r xs)

  -- is answered nowhere
  pub never : (fresh : R) (rows : List (Row R)) → All (Never n) rows → 2 < n → (s : List ℕ) (at : ℕ) → RefusedAt (part_of fresh rows) s n at → ⊥
  unfolding checks_at command_checks
  never fresh rows h l s at r = go r.lowest
    where
      go : Lowest (part_of fresh rows) s r.read n at → ⊥
      go (inl (e, k)) = absurd (omega arith)
      go (inr (k, (inl (e, i), g))) = absurd (omega arith)
      go (inr (k, (inr (inl (e, i)), g))) = absurd (omega arith)
      go (inr (k, (inr (inr f), g))) =
          let b = get_or s at 0 in
          no_fail n _ (row_never rows h b r.read.parsed (operands_at (row_of rows b).widths s (at + 1))) f

-- none above 13 is of part 1, and none above 12 of parts 2 and 3

module _ (n : ℕ) (l : 13 < n) where
  pub register_never : All (Never n) register_rows
  unfolding base_checks choice_checks term_checks window_checks row_checks range_checks length_checks RF.end_checks
  register_never =
      (λ r xs. (λ k. absurd (omega arith)) ▹ tt)
      ▹ (λ r xs. (λ k. absurd (omega arith)) ▹ (λ k. absurd (omega arith)) ▹ (λ k. absurd (omega arith)) ▹ (λ k. absurd (omega arith)) ▹ tt)
      ▹ (λ r xs. (λ k. absurd (omega arith)) ▹ (λ k. absurd (omega arith)) ▹ (λ k. absurd (omega arith)) ▹ (λ k. absurd (omega arith)) ▹ tt)
      ▹ (λ r xs. (λ k. absurd (omega arith)) ▹ (λ k. absurd (omega arith)) ▹ (λ k. absurd (omega arith)) ▹ (λ k. absurd (omega arith)) ▹ tt)
      ▹ (λ r xs. (λ k. absurd (omega arith)) ▹ (λ k. absurd (omega arith)) ▹ (λ k. absurd (omega arith)) ▹ tt)
      ▹ (λ r xs. (λ k. absurd (omega arith)) ▹ (λ k. absurd (omega arith)) ▹ (λ k. absurd (omega arith)) ▹ (λ k. absurd (omega arith)) ▹ tt)
      ▹ (λ r xs. (λ k. absurd (omega arith)) ▹ (λ k. absurd (omega arith)) ▹ (λ k. absurd (omega arith)) ▹ (λ k. absurd (omega arith)) ▹ (λ k. absurd (omega arith)) ▹ tt)
      ▹ (λ r xs. (λ k. absurd (omega arith)) ▹ tt)
      ▹ (λ r xs. (λ k. absurd (omega arith)) ▹ tt)
      ▹ tt

module _ (n : ℕ) (l : 12 < n) where
  pub scheme_never : (reg : Register) → All (Never n) (scheme_rows reg)
  unfolding factor_checks product_checks split_checks end_checks
  scheme_never reg =
      (λ r xs. (λ k. absurd (omega arith)) ▹ tt)
      ▹ (λ r xs. (λ k. absurd (omega arith)) ▹ (λ k. absurd (omega arith)) ▹ (λ k. absurd (omega arith)) ▹ (λ k. absurd (omega arith)) ▹ tt)
      ▹ (λ r xs. (λ k. absurd (omega arith)) ▹ (λ k. absurd (omega arith)) ▹ (λ k. absurd (omega arith)) ▹ (λ k. absurd (omega arith)) ▹ tt)
      ▹ (λ r xs. (λ k. absurd (omega arith)) ▹ tt)
      ▹ tt

  multiplier_never : (reg : Register) (sch : Scheme) (kind : ℕ) → Never n (multiplier_row reg sch kind)
  unfolding multiplier_checks
  multiplier_never reg sch kind r xs =
      (λ k. absurd (omega arith)) ▹ (λ k. absurd (omega arith)) ▹ (λ k. absurd (omega arith)) ▹ (λ k. absurd (omega arith)) ▹ (λ k. absurd (omega arith)) ▹ tt

  pub certificate_never : (reg : Register) (sch : Scheme) → All (Never n) (certificate_rows reg sch)
  unfolding scale_checks square_checks
  certificate_never reg sch =
      let m = multiplier_never reg sch in
      (λ r xs. (λ k. absurd (omega arith)) ▹ tt)
      ▹ m 0x31 ▹ m 0x32 ▹ m 0x33 ▹ m 0x34 ▹ m 0x35 ▹ m 0x36 ▹ m 0x37 ▹ m 0x38 ▹ m 0x39 ▹ m 0x3B
      ▹ (λ r xs. (λ k. absurd (omega arith)) ▹ (λ k. absurd (omega arith)) ▹ (λ k. absurd (omega arith)) ▹ tt)
      ▹ (λ r xs. tt)
      ▹ tt

-- in part 4 it is the plan's command, which stands whole at the front

room_for : {S : Type 0} (P : Part S) (s : List ℕ) (read : S) (at n : ℕ) → 2 < n → refusal (checks_at P s read at) ≡ n → size P (get_or s at 0) ≤ length s - at
unfolding checks_at command_checks refusal
room_for P s read at n l e =
    flag (P.here read (get_or s at 0))
    (λ t. flag (ltb (length s - at) (size P (get_or s at 0))) (λ u. absurd (omega (arith, rw (t, u) at e))) (λ u. ltb-false _ _ u))
    (λ t. absurd (omega (arith, rw t at e)))

-- it is of so many bytes
record Stood (byte width : ℕ) (reg : Register) (s : List ℕ) (n : ℕ) : Type 0 where
  room : width + 1 ≤ length s
  byte_is : get_or s 0 0 ≡ byte
  own_is : refusal (plan_checks reg.choices (nat_at width s 1) (fits reg (nat_at width s 1))) ≡ n

abbrev EitherStood : Register → List ℕ → ℕ → Type 0
EitherStood reg s n = Stood 0x40 4 reg s n ⊎ Stood 0x41 8 reg s n

module _ (reg : Register) (s : List ℕ) (n at : ℕ) (l : 2 < n) where
  abbrev P : Part (Progress ℕ)
  P = plan_part reg

  only_plan : (read : Progress ℕ) (k : ℕ) → P.here read (get_or s k 0) ≡ true → Among (get_or s k 0) plan_bytes
  unfolding row_of
  only_plan read k =
      let b = get_or s k 0 in
      by_bytes (λ c. is_among read.previous (row_of (plan_rows reg) c).follows ≡ true → Among c plan_bytes) (plan_rows reg) b
      (λ z h. absurd (false≢true (rw (no_row_lem (plan_rows reg) b z) at h)))
      ((λ h. inl refl) ▹ (λ h. inr (inl refl)) ▹ tt)

  stands_here : (read : Progress ℕ) → refusal (checks_at P s read 0) ≡ n → EitherStood reg s n
  unfolding row_of operands_at total
  stands_here read f = by (only_plan read 0 stands.0)
    where
      stands : (P.here read (get_or s 0 0) ≡ true) × (refusal (own P s read 0) ≡ n)
      stands = own_refused P s read 0 n l f

      by : Among (get_or s 0 0) plan_bytes → EitherStood reg s n
      by (inl e) =
          let room : size P 0x40 ≤ length s - 0 = rw e at (room_for P s read 0 n l f) in
          inl (record { room = omega (arith, room); byte_is = e; own_is = rw (own_at P s read 0 0x40 e) at stands.1 })
      by (inr (inl e)) =
          let room : size P 0x41 ≤ length s - 0 = rw e at (room_for P s read 0 n l f) in
          inr (record { room = omega (arith, room); byte_is = e; own_is = rw (own_at P s read 0 0x41 e) at stands.1 })
      by (inr (inr z)) = absurd z

  -- it is the last command
  ends_part : (b : ℕ) → Among b plan_bytes → P.last b ≡ true
  unfolding row_of
  ends_part b (inl e) = rw e refl
  ends_part b (inr (inl e)) = rw e refl
  ends_part b (inr (inr z)) = absurd z

  stood : plan_in_job reg s ≡ refused n at → (at ≡ 0) × EitherStood reg s n
  unfolding plan_in_job read_part
  stood e = by_ways P s Q ways P.start 0 e refl
    where
      Q : Progress ℕ → ℕ → Reading (Progress ℕ) → Type 0
      Q read k x = x ≡ refused n at → k ≡ 0 → (at ≡ 0) × EitherStood reg s n

      ways : Ways P s Q
      ways = record {
        missing = λ read k h q z. let m : 2 ≡ n = cc in absurd (omega arith);
        refuses = λ read k m h f d q z.
            let i : k ≡ at = cc in
            let o : m ≡ n = cc in
            let f' : refusal (checks_at P s read 0) ≡ n = rw (z, o) at f in
            (sym i ∙ z, stands_here read f');
        goes = λ read k x p last rest q z. absurd (true≢false (sym (ends_part _ (only_plan read k p.here)) ∙ last));
        ends = λ read k p last q z. let c : ◌≡◌ {A = ℕ} 0 1 = cc in absurd (omega arith);
      }

-- so a plan stands there, of the register's choices, which does not fit
record MisfitRead (reg : Register) (s : List ℕ) (at : ℕ) : Type 0 where
  fed : ℕ
  at_start : at ≡ 0
  inside : fed < 2 ^ reg.choices
  misfit : Fits reg fed → ⊥
  front : List ℕ
  encodes : Encodes reg fed front
  rest : List ℕ
  bytes : s ≡ front ++ rest

checked_15 : (reg : Register) (fed : ℕ) → refusal (plan_checks reg.choices fed (fits reg fed)) ≡ 15 → (fed < 2 ^ reg.choices) × (Fits reg fed → ⊥)
unfolding plan_checks refusal
checked_15 reg fed own =
    flag (leb (2 ^ reg.choices) fed)
    (λ t. absurd (omega (arith, rw t at own)))
    (λ t. flag (fits reg fed)
    (λ f. absurd (omega (arith, rw (t, f) at own)))
    (λ f. (leb-false _ _ t, λ g. true≢false (sym ((register_fits reg fed).1 g) ∙ f))))

module _ (reg : Register) (s : List ℕ) (at : ℕ) (b : Bytes s) where
  -- the command's bytes are those of the number that is read
  stands_whole : (byte width : ℕ) → Stood byte width reg s 15 → s ≡ (byte ∷ bytes_of width (nat_at width s 1)) ++ drop width (drop 1 s)
  stands_whole byte width h =
      drop-cons s 0 0 (omega (arith, h.room))
      ∙ rw (h.byte_is, bytes_of-nat_at width s 1 b (omega (arith, h.room)), take-append-drop width (drop 1 s))

  by_stood : (byte width : ℕ) → at ≡ 0 → Stood byte width reg s 15 → Encodes reg (nat_at width s 1) (byte ∷ bytes_of width (nat_at width s 1)) → MisfitRead reg s at
  by_stood byte width z h e =
      let (l, d) = checked_15 reg (nat_at width s 1) h.own_is in
      record {
        fed = nat_at width s 1;
        at_start = z;
        inside = l;
        misfit = d;
        front = byte ∷ bytes_of width (nat_at width s 1);
        encodes = e;
        rest = drop width (drop 1 s);
        bytes = stands_whole byte width h;
      }

  misfit_at : plan_in_job reg s ≡ refused 15 at → MisfitRead reg s at
  unfolding encode_narrow_plan encode_wide_plan
  misfit_at q =
      let (z, h) = stood reg s 15 at (omega arith) q in
      ⊎_elim
      (λ h. by_stood 0x40 4 z h (narrow_encodes reg (nat_at 4 s 1) (omega (arith, nat_at_below 4 s 1 b))))
      (λ h. by_stood 0x41 8 z h (wide_encodes reg (nat_at 8 s 1))) h

  module _ (n : ℕ) (e : n ≡ 15) where
    misfit_in : RefusedAt (plan_part reg) s n at → MisfitRead reg s at
    misfit_in r = misfit_at (rw e at ((plan_refused_at reg s b n at).1 r))

    misfit_whole : RefusedByItself (plan_part reg) s n at → MisfitRead reg s at
    unfolding plan_by_itself
    misfit_whole r =
        let q = rw e at ((plan_refused_by_itself reg s b n at).1 r) in
        misfit_at (refused_itself s (plan_in_job reg s) (λ z. omega arith) q)

module _ (n : ℕ) (e : n ≡ 15) (part at : ℕ) where
  -- it is no number of parts 1 and 2 by themselves
  no_register : (t : List ℕ) → InRegister n part at t → ⊥
  no_register t f = go f.refused
    where
      go : RefusedByItself register_part t n at → ⊥
      go (inl r) = never n _ register_rows (register_never n (omega arith)) (omega arith) t at r
      go (inr (z, _)) = omega arith

  no_scheme : (t s : List ℕ) → InScheme n part at t s → ⊥
  no_scheme t s f = go f.refused
    where
      go : RefusedByItself (scheme_part f.before.reg) s n at → ⊥
      go (inl r) = never n _ (scheme_rows f.before.reg) (scheme_never n (omega arith) f.before.reg) (omega arith) s at r
      go (inr (z, _)) = omega arith

pub only_misfit : (register plan : List ℕ) → Bytes register → Bytes plan → (cost_call register plan).number ≡ 15 → Misfit register plan
only_misfit t s b b' e = go (cost_refusals t s b b' (λ z. absurd (omega arith))).1
  where
    a : CostAnswer
    a = cost_call t s

    go : InRegister a.number a.part a.position t ⊎ InPlan a.number a.part a.position t s → Misfit t s
    go (inl f) = absurd (no_register a.number e a.part a.position t f)
    go (inr f) =
        let m = misfit_whole f.before.reg s a.position b' a.number e f.refused in
        record { reg = f.before.reg; part_1 = f.before.part_1; fed = m.fed; inside = m.inside; misfit = m.misfit; front = m.front; encodes = m.encodes; rest = m.rest; bytes = m.bytes }

-- what is refused behind some bytes is bytes
behind_bytes : (front s : List ℕ) (position : ℕ) (Refused : List ℕ → ℕ → Type 0) → Bytes s → (k : Behind front s position Refused) → Bytes k.rest
behind_bytes front s position Refused b k = subst Bytes (ap (drop (length front)) k.job_is ∙ drop_at front k.rest (length front) refl) (bytes_drop (length front) s b)

-- the plan at the start of them
module _ (front s : List ℕ) (position : ℕ) (Refused : List ℕ → ℕ → Type 0) (k : Behind front s position Refused) (reg : Register) (m : MisfitRead reg k.rest k.at) where
  stands_behind : s ≡ front ++ (m.front ++ m.rest)
  stands_behind = k.job_is ∙ ap (λ x. front ++ x) m.bytes

  at_front : position ≡ length front
  at_front = k.position_is ∙ rw (m.at_start, add-zero)

module _ (n : ℕ) (l : 12 < n) (c : ℕ → ℤ) (reg : Register) (sch : Scheme) (s : List ℕ) (at : ℕ) where
  pub no_certificate : CertificateRefused c reg sch s n at → ⊥
  no_certificate (inl r) = never n _ (certificate_rows reg sch) (certificate_never n l reg sch) (omega arith) s at r
  no_certificate (inr short) = omega (arith, short.nine)

  pub no_certificate_by_itself : CertificateRefusedByItself c reg sch s n at → ⊥
  no_certificate_by_itself (inl r) = no_certificate r
  no_certificate_by_itself (inr past) = omega (arith, past.twelve)

-- ---- part 4 before part 3, of the check and of our own certificate

module _ (n : ℕ) (e : n ≡ 15) (part at : ℕ) where
  choosing_misfit : (t s q : List ℕ) → Bytes q → InChoosing n part at t s q → MisfitChoosing t s q
  choosing_misfit t s q b f =
      let h = f.before in
      let m = misfit_whole h.reg q at b n e f.refused in
      record {
        sch = h.sch;
        misfit = record { reg = h.reg; part_1 = h.part_1; fed = m.fed; inside = m.inside; misfit = m.misfit; front = m.front; encodes = m.encodes; rest = m.rest; bytes = m.bytes };
        ranged = f.ranged;
        part_2 = h.part_2;
      }

pub only_misfit_checked : (register scheme certificate plan : List ℕ) (table : List ℤ) → Bytes register → Bytes scheme → Bytes certificate → Bytes plan →
    (check_call register scheme certificate plan table).0.number ≡ 15 → MisfitChoosing register scheme plan
only_misfit_checked t s k q table b b' b'' b₄ e = by (dec_lt (length table) table_numbers)
  where
    a : CheckAnswer
    a = (check_call t s k q table).0

    after : List ℤ
    after = (check_call t s k q table).1

    go : (InRegister a.number a.part a.position t × (after ≡ table))
        ⊎ ((InScheme a.number a.part a.position t s × (after ≡ table))
        ⊎ ((InChoosing a.number a.part a.position t s q × (after ≡ table))
        ⊎ InCertificate a.number a.part a.position t s q k table after)) → MisfitChoosing t s q
    go (inl (f, _)) = absurd (no_register a.number e a.part a.position t f)
    go (inr (inl (f, _))) = absurd (no_scheme a.number e a.part a.position t s f)
    go (inr (inr (inl (f, _)))) = choosing_misfit a.number e a.part a.position t s q b₄ f
    go (inr (inr (inr f))) =
        let h = f.before in
        absurd (no_certificate_by_itself a.number (omega arith) (chosen h.reg h.fed) h.reg h.sch k a.position f.refused)

    by : Dec (length table < table_numbers) → MisfitChoosing t s q
    by (yes l) = let n : ◌≡◌ {A = ℕ} 11 15 = ap (λ x. x.0.number) (sym (check_refusals.short t s k q table l)) ∙ e in absurd (omega arith)
    by (no l) = go (check_refusals.refused t s k q b b' b'' b₄ table (omega arith) (λ z. absurd (omega arith))).1

pub only_misfit_own : (register scheme plan lent : List ℕ) → Bytes register → Bytes scheme → Bytes plan → (plain_call register scheme plan lent).0.number ≡ 15 → MisfitChoosing register scheme plan
only_misfit_own t s q lent b b' b'' e = go (plain_refusals t s q b b' b'' lent (λ z. absurd (omega arith))).2
  where
    a : WriterAnswer
    a = (plain_call t s q lent).0

    go : InRegister a.number a.part a.position t
        ⊎ (InScheme a.number a.part a.position t s
        ⊎ (InChoosing a.number a.part a.position t s q
        ⊎ PlainTooLong a.number a.part a.position t s q lent)) → MisfitChoosing t s q
    go (inl f) = absurd (no_register a.number e a.part a.position t f)
    go (inr (inl f)) = absurd (no_scheme a.number e a.part a.position t s f)
    go (inr (inr (inl f))) = choosing_misfit a.number e a.part a.position t s q b'' f
    go (inr (inr (inr f))) = absurd (omega (arith, f.buffer.number_is))

-- ---- the job

pub only_misfit_in_job : (job : List ℕ) (table : List ℤ) (supplier : ℕ) (tally : Tally) → Bytes job → table_numbers ≤ length table → (job_answer job table supplier tally).number ≡ 15 → MisfitJob job (job_answer job table supplier tally).position
only_misfit_in_job s table supplier tally b l e = go (job_refusals.refused s b table l supplier known tally (λ z. absurd (omega arith))).4
  where
    a : JobAnswer
    a = job_answer s table supplier tally

    after : List ℤ
    after = (job_call s table supplier tally).1

    known : supplier < suppliers
    known = of_three s table supplier tally (λ a. a.number ≡ 15 → supplier < suppliers) (λ l z. absurd (omega arith)) (λ l m z. l) (λ l m z. l) e

    go : FromRegister a.number a.part a.position s table after
        ⊎ (FromScheme a.number a.part a.position s table after
        ⊎ (FromCertificate a.number a.part a.position s table after
        ⊎ (FromPlan a.number a.part a.position s table after
        ⊎ (FromPlanFirst a.number a.part a.position s table after
        ⊎ FromCertificateLast a.number a.part a.position s table after)))) → MisfitJob s a.position
    go (inl f) = absurd (never a.number _ register_rows (register_never a.number (omega arith)) (omega arith) s a.position f.refused)
    go (inr (inl f)) =
        let k = f.behind in
        absurd (never a.number _ (scheme_rows f.before.reg) (scheme_never a.number (omega arith) f.before.reg) (omega arith) k.rest k.at k.refused)
    go (inr (inr (inl f))) =
        let k = f.behind in
        absurd (no_certificate a.number (omega arith) (coefficient f.before.reg) f.before.reg f.before.sch k.rest k.at k.refused)
    go (inr (inr (inr (inl f)))) =
        let k = f.behind in
        let front = (f.register ++ f.scheme) ++ f.certificate in
        let m = misfit_whole f.before.reg k.rest k.at (behind_bytes front s a.position _ b k) a.number e k.refused in
        inl (record {
          register = f.register;
          scheme = f.scheme;
          certificate = f.certificate;
          before = f.before;
          fed = m.fed;
          inside = m.inside;
          misfit = m.misfit;
          front = m.front;
          encodes = m.encodes;
          rest = m.rest;
          bytes = stands_behind front s a.position _ k f.before.reg m;
          position_is = at_front front s a.position _ k f.before.reg m;
        })
    go (inr (inr (inr (inr (inl f))))) =
        let k = f.behind in
        let front = f.register ++ f.scheme in
        let m = misfit_in f.before.reg k.rest k.at (behind_bytes front s a.position _ b k) a.number e k.refused in
        inr (record {
          register = f.register;
          scheme = f.scheme;
          before = f.before;
          ranged = f.ranged;
          fed = m.fed;
          inside = m.inside;
          misfit = m.misfit;
          front = m.front;
          encodes = m.encodes;
          rest = m.rest;
          bytes = stands_behind front s a.position _ k f.before.reg m;
          position_is = at_front front s a.position _ k f.before.reg m;
        })
    go (inr (inr (inr (inr (inr f))))) =
        let k = f.behind in
        let h = f.before in
        absurd (no_certificate_by_itself a.number (omega arith) (chosen h.reg h.fed) h.reg h.sch k.rest k.at k.refused)
