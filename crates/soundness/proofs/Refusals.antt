-- What a refusal says and hands back, proved of our calls.
use Prim.Native.Nat.{ℕ, ◌+◌, ◌<◌}
use native.Mathlib.Omega.{arith}
use mathlib.Core.Path.{◌≡◌, refl, sym, ap, ap₂, ◌∙◌}
use mathlib.Core.Logic.{◌⊎◌, inl, inr, ⊎_elim}
use mathlib.Core.Bool.{Bool, true, false, false≢true, cond}
use mathlib.Core.List.{List, [], ◌∷◌, ◌++◌, append_assoc}
use lib.Dec.{ltb}
use lib.IntN.{ℤ, pos}
use lib.ListN.{length, take, drop, length-append, length-drop, take-append-drop}
use lib.Seq.{drop-drop, length-take-le}
use borrow.Author.Tests.{ltb-true, ltb-false, lt-ltb, le-ltb}
use Rattle.integers.specs.Lists.{All}
use Rattle.integers.proofs.Lists.{◌▹◌, flag}
use Rattle.wire.specs.Number.{Bytes}
use Rattle.wire.specs.Part.{Reading, refused, accepted, by_itself}
use Rattle.wire.specs.Rows.{Progress}
use Rattle.wire.specs.Outcome.{Outcome, refuses, accepts, next, given, and_then, answer_by, starting_at, added_by}
use Rattle.wire.specs.Writer.{refused_answer, bytes_answer, with_front}
use Rattle.wire.proofs.Number.{bytes_drop}
use Rattle.wire.proofs.Lowest.{Rising, Rises, rows_rising, refused_iff}
use Rattle.wire.proofs.Outcome.{next_by, next_at, not_both, refuses_same, then_refuses, given_accepts, given_refuses, itself_refused}
use Rattle.forms.specs.Table.{table_numbers}
use Rattle.register.specs.declared.Register.{Register}
use Rattle.register.specs.Register.{coefficient, has_range}
use Rattle.register.specs.Register as OfRegister
use Rattle.register.specs.Format.{register_in_job, register_by_itself}
use Rattle.register.specs.Answer.{register_answer}
use Rattle.register.specs.Opening.{open_register}
use Rattle.register.specs.Encoding as RE
use Rattle.register.specs.Valid as R
use Rattle.register.proofs.Accept as Ra
use Rattle.register.proofs.Lowest.{register_refused, register_refused_by_itself}
use Rattle.scheme.specs.declared.Scheme.{Scheme}
use Rattle.scheme.specs.Scheme as OfScheme
use Rattle.scheme.specs.Format.{scheme_in_job, scheme_by_itself}
use Rattle.scheme.specs.Answer.{open_parts}
use Rattle.scheme.specs.Answer as SchemeCall
use Rattle.scheme.specs.Encoding.{encode_scheme}
use Rattle.scheme.specs.Valid as S
use Rattle.scheme.proofs.Accept as SA
use Rattle.scheme.proofs.Opened.{opened, register_bytes, scheme_bytes}
use Rattle.scheme.proofs.Lowest.{scheme_refused, scheme_refused_by_itself}
use Rattle.builder.specs.Builder.{Built, stopped, built, build}
use Rattle.builder.specs.Answer as Builder
use Rattle.builder.proofs.Validity.{stopped_stands}
use Rattle.penalty.specs.Answer as Penalty
use Rattle.penalty.specs.Answer.{penalty_answer, penalty_table}
use Rattle.penalty.proofs.Demand.{refused_unchanged}
use Rattle.certificate.specs.Certificate.{Certificate, fresh}
use Rattle.certificate.specs.Format.{scale_checks, multiplier_checks, square_checks, certificate_rows, certificate_part, commands_in_job}
use Rattle.bound.specs.Format.{certificate_in_job, certificate_by_itself}
use Rattle.certificate.specs.Within.{Within}
use Rattle.certificate.specs.Encoding.{Encodes}
use Rattle.bound.specs.Refused.{CertificateRefused, CertificateRefusedByItself}
use Rattle.bound.specs.Check.{check_answer, with_residual, check_table}
use Rattle.bound.specs.Check as Check
use Rattle.certificate.proofs.Accept.{front_encodes, certificate_front}
use Rattle.bound.proofs.Accept as CA
use Rattle.bound.specs.Opening.{open_plan, open_chosen}
use Rattle.bound.proofs.Same.{certificate_same, residual_same}
use Rattle.bound.proofs.Opening.{plan_ranged, plan_none, chosen_opened}
use Rattle.bound.proofs.Answers.{after_certificate}
use Rattle.bound.proofs.Lowest.{certificate_refused, certificate_refused_by_itself}
use Rattle.plan.specs.Chosen.{chosen}
use Rattle.plan.specs.Format.{plan_in_job, plan_by_itself}
use Rattle.plan.specs.Answer.{refused_cost, accepted_cost, cost_outcome, cost_answer}
use Rattle.plan.proofs.Coefficients.{chosen_known}
use Rattle.plan.proofs.Fits.{register_fits}
use Rattle.plan.proofs.Accept as PA
use Rattle.plan.proofs.Lowest.{plan_refused, plan_refused_by_itself}
use Rattle.plain.specs.Answer.{own_bytes, plain_answer, plain_buffer}
use Rattle.job.specs.declared.Tally.{Tally}
use Rattle.job.specs.Tally.{with_refused, moved}
use Rattle.job.specs.Outcome.{Parts, of_register, with_scheme, with_certificate, with_plan, JobPart, part_two, part_three, part_four, order, in_turn, ended, before, outcome, table_from_certificate, table_by, table_after}
use Rattle.job.specs.Rest.{rest, table_of_rest, first_two, plan_last, plan_first}
use Rattle.job.specs.Answer.{after_job}
use Rattle.job.proofs.Turn.{follow}
use Rattle.job.proofs.Suppliers.{unknown, table_short, table_enough}
use Rattle.listing.specs.Listing.{PlanLines, plan_lines, supplier_lines, listed}
use Rattle.listing.specs.Answer.{answer_with, buffer_with, listing_table}
use Rattle.search.specs.Walk.{Best}
use Rattle.search.specs.Answer.{search, search_outcome, refused_search, accepted_search, search_answer}
use Rattle.search.proofs.Cheapest.{found_none}
use Rattle.soundness.specs.Calls.{register_call, scheme_call, cost_call, penalty_call, check_call, plain_call, build_call, job_call, listing_with, listing_call, supplier_listing_call, search_call}
use Rattle.soundness.specs.Parts.{Part2, with_r, WithPlan}
use Rattle.soundness.specs.Refusals.{Before2, Before3, Before4, BeforeLast, table_refused, table_refused_by_itself, InRegister, InScheme, InCertificate, InChoosing, InPlan, InTerm, ShortBuffer, SchemeTooLong, PlainTooLong, PastLimit, NoneFits, Behind, FromRegister, FromScheme, FromCertificate, FromPlan, FromPlanFirst, FromCertificateLast, RegisterRefusals, SchemeRefusals, BuildRefusals, CostRefusals, PenaltyRefusals, CheckRefusals, PlainRefusals, JobRefusals, ListingRefusals, SearchRefusals, Refusals}
use Rattle.soundness.proofs.Choosing.{choosing_of}

-- ---- parts by themselves

register_whole : (t : List ℕ) → Bytes t → (reg : Register) → open_register t ≡ accepts reg → R.Valid reg × RE.Encodes reg t
register_whole t b reg e =
    given_accepts 1 (register_by_itself t) (λ reg. R.Valid reg × RE.Encodes reg t) e λ p end x.
    ((Ra.whole_valid t p end x).0, Ra.whole_encodes t p end x b)

abbrev before2 : (t : List ℕ) → Bytes t → (reg : Register) → open_register t ≡ accepts reg → Before2 t
before2 t b reg e = let (v, x) = register_whole t b reg e in record { reg = reg; part_1 = record { conditions = v; bytes = x } }

abbrev before3 : (t s : List ℕ) → Bytes t → Bytes s → (reg : Register) (sch : Scheme) → open_parts t s ≡ accepts (reg, sch) → Before3 t s
before3 t s b b' reg sch e =
    let o = opened t s reg sch e in
    record {
      reg = reg;
      sch = sch;
      part_1 = record { conditions = o.register_valid; bytes = register_bytes t s reg sch o b };
      part_2 = record { conditions = o.scheme_valid; bytes = scheme_bytes t s reg sch o b' };
    }

-- and the plan that chooses the coefficients
abbrev before_chosen : (t s q : List ℕ) → Bytes t → Bytes s → Bytes q → (reg : Register) (sch : Scheme) (plan : ℕ) → open_chosen t s q ≡ accepts (reg, sch, plan) → WithPlan t s q
before_chosen t s q b b' b'' reg sch plan e =
    let o = chosen_opened t s q reg sch plan e in
    record {
      reg = reg;
      sch = sch;
      fed = plan;
      part_1 = record { conditions = o.parts.register_valid; bytes = register_bytes t s reg sch o.parts b };
      part_2 = record { conditions = o.parts.scheme_valid; bytes = scheme_bytes t s reg sch o.parts b' };
      choosing = choosing_of o b'';
    }

module _ (n part at : ℕ) where
  in_register : (t : List ℕ) → Bytes t → open_register t ≡ refuses n part at → InRegister n part at t
  in_register t b e = let (x, p) = given_refuses 1 (register_by_itself t) e in record { part_is = p; refused = (register_refused_by_itself t b n at).0 x }

  in_parts : (t s : List ℕ) → Bytes t → Bytes s → open_parts t s ≡ refuses n part at → InRegister n part at t ⊎ InScheme n part at t s
  in_parts t s b b' e =
      then_refuses (open_register t) _ e (λ x. inl (in_register t b x)) λ reg x y.
      then_refuses (given 2 (scheme_by_itself reg s)) _ y (λ z.
      let (w, p) = given_refuses 2 (scheme_by_itself reg s) z in
      inr (record { part_is = p; before = before2 t b reg x; refused = (scheme_refused_by_itself reg s b' n at).0 w }))
      (λ sch z w. absurd (not_both (sym w)))

  in_choosing : (t s q : List ℕ) → Bytes q → (k : Before3 t s) → open_plan k.reg q ≡ refuses n part at → InChoosing n part at t s q
  in_choosing t s q b k e =
      flag (has_range k.reg)
      (λ some.
      let (x, p) = given_refuses 4 (plan_by_itself k.reg q) (sym (plan_ranged k.reg q some) ∙ e) in
      record { part_is = p; before = k; ranged = some; refused = (plan_refused_by_itself k.reg q b n at).0 x })
      (λ none. absurd (not_both (sym e ∙ plan_none k.reg q none)))

  in_chosen : (t s q : List ℕ) → Bytes t → Bytes s → Bytes q → open_chosen t s q ≡ refuses n part at → InRegister n part at t ⊎ (InScheme n part at t s ⊎ InChoosing n part at t s q)
  in_chosen t s q b b' b'' e =
      then_refuses (open_parts t s) _ e (λ x. ⊎_elim inl (λ r. inr (inl r)) (in_parts t s b b' x)) λ (reg, sch) x y.
      then_refuses (open_plan reg q) _ y (λ z. inr (inr (in_choosing t s q b'' (before3 t s b b' reg sch x) z)))
      (λ plan z w. absurd (not_both (sym w)))

  in_cost : (t s : List ℕ) → Bytes t → Bytes s → cost_outcome t s ≡ refuses n part at → InRegister n part at t ⊎ InPlan n part at t s
  in_cost t s b b' e =
      then_refuses (open_register t) _ e (λ x. inl (in_register t b x)) λ reg x y.
      then_refuses (given 4 (plan_by_itself reg s)) _ y (λ z.
      let (w, p) = given_refuses 4 (plan_by_itself reg s) z in
      inr (record { part_is = p; before = before2 t b reg x; refused = (plan_refused_by_itself reg s b' n at).0 w }))
      (λ fed z w. absurd (not_both (sym w)))

  in_search : (t : List ℕ) → Bytes t → (limit : ℕ) → search_outcome t limit ≡ refuses n part at → InRegister n part at t ⊎ (PastLimit n part at t limit ⊎ NoneFits n part at t limit)
  in_search t b limit e =
      then_refuses (open_register t) _ e (λ x. inl (in_register t b x)) λ reg x y.
      let w = search (coefficient reg) reg in
      flag (ltb limit w.visits)
      (λ l.
      let (i, (j, k)) = refuses_same (rw l at y) in
      inr (inl (record { number_is = sym i; part_is = sym j; position_is = sym k; before = before2 t b reg x; passed = ltb-true limit w.visits l })))
      (λ l. flag w.met
      (λ m. absurd (not_both (sym (rw (l, m) at y))))
      (λ m.
      let (i, (j, k)) = refuses_same (rw (l, m) at y) in
      inr (inr (record {
        number_is = sym i;
        part_is = sym j;
        position_is = sym k;
        before = before2 t b reg x;
        within = ltb-false limit w.visits l;
        none = λ plan h f. false≢true (sym ((found_none (coefficient reg) reg).0 m plan h) ∙ (register_fits reg plan).1 f);
      }))))

pub register_refusals : RegisterRefusals register_call
register_refusals t b = go (register_by_itself t) refl
  where
    go : (x : Reading (Progress Register)) → register_by_itself t ≡ x → let a = register_answer x in (a.number ≡ 0 → ⊥) → (a.register ≡ OfRegister.fresh) × InRegister a.number a.part a.position t
    go (refused n at) e h = (refl, in_register n 1 at t b (ap (given 1) e))
    go (accepted p end) e h = absurd (h refl)

pub scheme_refusals : SchemeRefusals scheme_call
scheme_refusals t s b b' = go (open_parts t s) refl
  where
    go : (x : Outcome (Register × Scheme)) → open_parts t s ≡ x → let a = answer_by SchemeCall.refused_answer SchemeCall.accepted_answer x in (a.number ≡ 0 → ⊥) → (a.scheme ≡ OfScheme.fresh) × (InRegister a.number a.part a.position t ⊎ InScheme a.number a.part a.position t s)
    go (refuses n part at) e h = (refl, in_parts n part at t s b b' e)
    go (accepts a) e h = absurd (h refl)

pub cost_refusals : CostRefusals cost_call
unfolding cost_answer
cost_refusals t s b b' = go (cost_outcome t s) refl
  where
    go : (x : Outcome ℤ) → cost_outcome t s ≡ x → let a = answer_by refused_cost accepted_cost x in (a.number ≡ 0 → ⊥) → (a.cost ≡ pos 0) × (InRegister a.number a.part a.position t ⊎ InPlan a.number a.part a.position t s)
    go (refuses n part at) e h = (refl, in_cost n part at t s b b' e)
    go (accepts z) e h = absurd (h refl)

pub search_refusals : SearchRefusals search_call
unfolding search_answer
search_refusals t b limit = go (search_outcome t limit) refl
  where
    go : (x : Outcome Best) → search_outcome t limit ≡ x → let a = answer_by refused_search accepted_search x in (a.number ≡ 0 → ⊥) →
        (a.plan ≡ 0) × (a.cost ≡ pos 0) × (a.visits ≡ 0) × (InRegister a.number a.part a.position t ⊎ (PastLimit a.number a.part a.position t limit ⊎ NoneFits a.number a.part a.position t limit))
    go (refuses n part at) e h = (refl, refl, refl, in_search n part at t b limit e)
    go (accepts w) e h = absurd (h refl)

pub penalty_refusals : PenaltyRefusals penalty_call
unfolding penalty_answer penalty_table
penalty_refusals = record {
  short = λ t s lent l. rw (lt-ltb (length lent) table_numbers l) refl;
  refused = λ t s b b' lent l h. let e = le-ltb (length lent) table_numbers l in (refused_unchanged t s lent h, rw e (go t s b b' (open_parts t s) refl (rw e at h)));
}
  where
    go : (t s : List ℕ) → Bytes t → Bytes s → (x : Outcome (Register × Scheme)) → open_parts t s ≡ x →
        let a = answer_by Penalty.answer (λ parts. Penalty.answer 0 0 0) x in (a.number ≡ 0 → ⊥) → InRegister a.number a.part a.position t ⊎ InScheme a.number a.part a.position t s
    go t s b b' (refuses n part at) e h = in_parts n part at t s b b' e
    go t s b b' (accepts a) e h = absurd (h refl)

-- ---- calls that write bytes

short_buffer : (bytes lent : List ℕ) → let a = bytes_answer bytes lent in (a.number ≡ 0 → ⊥) → (a.count ≡ 0) × (with_front bytes lent ≡ lent) × ShortBuffer a.number a.part a.position bytes lent
unfolding bytes_answer
short_buffer bytes lent =
    flag (ltb (length lent) (length bytes))
    (λ e. rw e λ h. (refl, refl, record { number_is = refl; part_is = refl; position_is = refl; short = ltb-true (length lent) (length bytes) e }))
    (λ e. rw e λ h. absurd (h refl))

pub build_refusals : BuildRefusals build_call
build_refusals t b lent = go (open_register t) refl
  where
    second : (k : Before2 t) (x : Built) → build k.reg ≡ x → let a = Builder.built_answer t k.reg lent x in (a.number ≡ 0 → ⊥) →
        (a.count ≡ 0) × (Builder.built_buffer k.reg lent x ≡ lent) × (InTerm a.number a.part a.position t ⊎ SchemeTooLong a.number a.part a.position t lent)
    second k (stopped i) e h = (refl, refl, inl (record { number_is = refl; part_is = refl; before = k; term = i; stops = e; position_is = refl; stands = stopped_stands k.reg k.part_1.conditions t k.part_1.bytes i e }))
    second k (built sch) e h =
        let (z, u, r) = short_buffer (encode_scheme k.reg.choices sch) lent h in
        (z, u, inr (record { before = k; scheme = sch; builds = e; buffer = r }))

    go : (x : Outcome Register) → open_register t ≡ x → let a = answer_by refused_answer (λ reg. Builder.built_answer t reg lent (build reg)) x in (a.number ≡ 0 → ⊥) →
        (a.count ≡ 0) × (answer_by (λ number part at. lent) (λ reg. Builder.built_buffer reg lent (build reg)) x ≡ lent) × (InRegister a.number a.part a.position t ⊎ (InTerm a.number a.part a.position t ⊎ SchemeTooLong a.number a.part a.position t lent))
    go (refuses n part at) e h = (refl, refl, inl (in_register n part at t b e))
    go (accepts reg) e h = let (z, u, r) = second (before2 t b reg e) (build reg) refl h in (z, u, inr r)

pub plain_refusals : PlainRefusals plain_call
unfolding plain_answer plain_buffer
plain_refusals t s q b b' b'' lent = go (open_chosen t s q) refl
  where
    go : (x : Outcome (Register × Scheme × ℕ)) → open_chosen t s q ≡ x → let a = answer_by refused_answer (λ (reg, sch, p). bytes_answer (own_bytes reg sch p) lent) x in (a.number ≡ 0 → ⊥) →
        (a.count ≡ 0) × (answer_by (λ number part at. lent) (λ (reg, sch, p). with_front (own_bytes reg sch p) lent) x ≡ lent) ×
        (InRegister a.number a.part a.position t ⊎ (InScheme a.number a.part a.position t s ⊎ (InChoosing a.number a.part a.position t s q ⊎ PlainTooLong a.number a.part a.position t s q lent)))
    go (refuses n part at) e h = (refl, refl, ⊎_elim inl (λ r. inr (⊎_elim inl (λ r. inr (inl r)) r)) (in_chosen n part at t s q b b' b'' e))
    go (accepts (reg, sch, plan)) e h =
        let (z, u, r) = short_buffer (own_bytes reg sch plan) lent h in
        (z, u, inr (inr (inr (record { before = before_chosen t s q b b' b'' reg sch plan e; buffer = r }))))

pub listing_refusals : (lines : PlanLines) → ListingRefusals lines (listing_with lines)
unfolding answer_with listing_table buffer_with
listing_refusals lines = record {
  short = λ s table buffer l. rw (lt-ltb (length table) table_numbers l) refl;
  refused = λ s table l buffer. rw (le-ltb (length table) table_numbers l) λ h.
      let (z, u, r) = short_buffer (listed lines (outcome s)) buffer h in
      (z, ap (λ x. (table_after s table, x)) u, r);
}

-- ---- the certificate and the table after it

module _ (reg : Register) (sch : Scheme) where
  rising : Rising (certificate_part reg sch)
  unfolding scale_checks multiplier_checks square_checks
  rising = rows_rising fresh (certificate_rows reg sch) rises
    where
      rises : All Rises (certificate_rows reg sch)
      rises = (λ r xs. tt) ▹ (λ r xs. tt) ▹ (λ r xs. tt) ▹ (λ r xs. tt) ▹ (λ r xs. tt) ▹ (λ r xs. tt) ▹ (λ r xs. tt) ▹ (λ r xs. tt) ▹ (λ r xs. tt) ▹ (λ r xs. tt) ▹ (λ r xs. tt) ▹ (λ r xs. tt) ▹ (λ r xs. tt) ▹ tt

module _ (c : ℕ → ℤ) (reg : Register) (v : R.Valid reg) (sch : Scheme) (v' : S.Valid reg sch) (s : List ℕ) (b : Bytes s) (lent : List ℤ) (n at : ℕ) where
  -- where a certificate stands up to `3F`
  table_reached : (k : Certificate) (end : ℕ) → Within reg sch k → Encodes k (take end s) → with_residual c reg sch (commands_in_job reg sch s) lent ≡ with_r c reg sch k lent
  table_reached k end w e =
      let q = certificate_front reg sch v'.within.variables_within v.within.rows.few k (take end s) (drop end s) w e in
      ap (λ x. with_residual c reg sch x lent) (ap (commands_in_job reg sch) (sym (take-append-drop end s)) ∙ q)

  table_refused_lem : (r : CertificateRefused c reg sch s n at) → with_residual c reg sch (commands_in_job reg sch s) lent ≡ table_refused c reg sch lent r
  unfolding commands_in_job
  table_refused_lem (inl r) = ap (λ x. with_residual c reg sch x lent) ((refused_iff (certificate_part reg sch) s (rising reg sch) n at b).1 r)
  table_refused_lem (inr f) = table_reached f.certificate (at + 1) f.conditions f.bytes

  table_refused_by_itself_lem : (r : CertificateRefusedByItself c reg sch s n at) → with_residual c reg sch (commands_in_job reg sch s) lent ≡ table_refused_by_itself c reg sch lent r
  table_refused_by_itself_lem (inl r) = table_refused_lem r
  table_refused_by_itself_lem (inr f) = table_reached f.certificate at f.conditions.within f.bytes

module _ (t s k q : List ℕ) (b : Bytes t) (b' : Bytes s) (b'' : Bytes k) (b₄ : Bytes q) (lent : List ℤ) where
  third : (h : WithPlan t s q) (x : Reading (Progress Certificate)) → certificate_by_itself (chosen h.reg h.fed) h.reg h.sch k ≡ x →
      let a = after_certificate x in (a.number ≡ 0 → ⊥) →
      (a.bound ≡ pos 0) × InCertificate a.number a.part a.position t s q k lent (with_residual (chosen h.reg h.fed) h.reg h.sch (commands_in_job h.reg h.sch k) lent)
  third h (refused n at) e d =
      let c = chosen h.reg h.fed in
      let v = h.part_1.conditions in
      let v' = h.part_2.conditions in
      let r = (certificate_refused_by_itself h.reg v h.sch v' c k b'' n at).0 e in
      (refl, record { part_is = refl; before = h; refused = r; table_is = table_refused_by_itself_lem c h.reg v h.sch v' k b'' lent n at r })
  third h (accepted p end) e d = absurd (d refl)

  first : (x : Outcome (Register × Scheme × ℕ)) → open_chosen t s q ≡ x →
      let a = answer_by Check.refused_answer Check.accepted_answer (and_then x λ (reg, sch, p). given 3 (certificate_by_itself (chosen reg p) reg sch k)) in
      let table = answer_by (λ number part at. lent) (λ (reg, sch, p). with_residual (chosen reg p) reg sch (commands_in_job reg sch k) lent) x in
      (a.number ≡ 0 → ⊥) →
      (a.bound ≡ pos 0) × ((InRegister a.number a.part a.position t × (table ≡ lent)) ⊎ ((InScheme a.number a.part a.position t s × (table ≡ lent)) ⊎
      ((InChoosing a.number a.part a.position t s q × (table ≡ lent)) ⊎ InCertificate a.number a.part a.position t s q k lent table)))
  first (refuses n part at) e d = (refl, ⊎_elim (λ r. inl (r, refl)) (λ r. inr (⊎_elim (λ r. inl (r, refl)) (λ r. inr (inl (r, refl))) r)) (in_chosen n part at t s q b b' b₄ e))
  first (accepts (reg, sch, plan)) e d = let (z, r) = third (before_chosen t s q b b' b₄ reg sch plan e) (certificate_by_itself (chosen reg plan) reg sch k) refl d in (z, inr (inr (inr r)))

pub check_refusals : CheckRefusals check_call
unfolding check_answer check_table
check_refusals = record {
  short = λ t s k q lent l. rw (lt-ltb (length lent) table_numbers l) refl;
  refused = λ t s k q b b' b'' b₄ lent l. rw (le-ltb (length lent) table_numbers l) (first t s k q b b' b'' b₄ lent (open_chosen t s q) refl);
}

-- ---- the job

-- these bytes stand at the front of a job, and from is where they end
record Front (job front : List ℕ) (from : ℕ) : Type 0 where
  ends : length front ≡ from
  job_is : job ≡ front ++ drop from job

further : (s front part : List ℕ) (from end : ℕ) → Front s front from → drop from s ≡ part ++ drop end (drop from s) → length part ≡ end → Front s (front ++ part) (from + end)
further s front part from end f e l = record {
  ends = length-append front part ∙ rw (f.ends, l);
  job_is = f.job_is ∙ ap (λ x. front ++ x) (e ∙ ap (λ x. part ++ x) (drop-drop end from s)) ∙ sym (append_assoc front part (drop (from + end) s));
}

abbrev behind : (s front : List ℕ) (from at k : ℕ) {Refused : List ℕ → ℕ → Type 0} → Front s front from → from + at ≡ k → Refused (drop from s) at → Behind front s k Refused
behind s front from at k f e r = record { rest = drop from s; job_is = f.job_is; at = at; position_is = sym e ∙ ap (λ n. n + at) (sym f.ends); refused = r }

-- a part is refused, or what follows it
by_part : {A G : Type 0} (s : List ℕ) (last part from : ℕ) (add : A → Parts) (x : Reading (Progress A)) (ks : List JobPart) (n m k : ℕ) →
    and_then (next part (starting_at from (added_by add x)) (in_turn ks s)) (ended last s) ≡ refuses n m k →
    ((at : ℕ) → x ≡ refused n at → m ≡ part → from + at ≡ k → G) → ((read : Progress A) (end : ℕ) → x ≡ accepted read end → follow s last ks (add read.parsed) (from + end) ≡ refuses n m k → G) → G
by_part {A} {G} s last part from add x ks n m k e f g =
    next_at (λ o. and_then o (ended last s) ≡ refuses n m k → G) part from add x (in_turn ks s)
    (λ i at d q. let (a, (b, c)) = refuses_same q in f at (d ∙ ap (λ i. refused i at) a) (sym b) c) g e

-- the last part is one by itself
by_last : {A G : Type 0} (s : List ℕ) (part from : ℕ) (add : A → Parts) (x : Reading (Progress A)) (n m k : ℕ) →
    and_then (next part (starting_at from (added_by add x)) (in_turn [] s)) (ended part s) ≡ refuses n m k →
    ((at : ℕ) → by_itself (drop from s) x ≡ refused n at → m ≡ part → from + at ≡ k → G) → G
unfolding by_itself
by_last {A} {G} s part from add x n m k e g =
    by_part s part part from add x [] n m k e (λ at d. g at (itself_refused (drop from s) d)) (λ read end d. past read end d (ltb (from + end) (length s)) refl)
  where
    past : (read : Progress A) (end : ℕ) → x ≡ accepted read end → (c : Bool) → ltb (from + end) (length s) ≡ c → cond c (refuses 12 part (from + end)) (accepts (add read.parsed)) ≡ refuses n m k → G
    past read end d true l y =
        let (i, (j, q)) = refuses_same y in
        let inside : end < length (drop from s) = omega (arith, length-drop from s, ltb-true (from + end) (length s) l) in
        g end (rw (d, lt-ltb end (length (drop from s)) inside, i)) (sym j) q
    past read end d false l y = absurd (not_both (sym y))

-- the table, by what reading a part leads to and the parts after it that come before the certificate
abbrev table_next : {A : Type 0} → List ℕ → List ℤ → ℕ → ℕ → (A → Parts) → List JobPart → Reading (Progress A) → List ℤ
table_next s lent part from add ks x = table_by s lent (next part (starting_at from (added_by add x)) (in_turn ks s))

-- one of the parts after the scheme is refused
abbrev FromOthers : (n m k : ℕ) (s : List ℕ) (lent table : List ℤ) → Type 0
FromOthers n m k s lent table =
    FromCertificate n m k s lent table ⊎ (FromPlan n m k s lent table ⊎ (FromPlanFirst n m k s lent table ⊎ FromCertificateLast n m k s lent table))

module _ (s : List ℕ) (b : Bytes s) (n m k : ℕ) (lent table : List ℤ) where
  -- ---- where the register has no range: the certificate, and then the plan

  from_plan : (t u v : List ℕ) (from : ℕ) (h : Before4 t u v) → Front s ((t ++ u) ++ v) from → table ≡ with_r (coefficient h.reg) h.reg h.sch h.cert lent →
      follow s 4 (part_four ∷ []) (with_certificate (first_two h.reg h.sch) h.cert) from ≡ refuses n m k → FromPlan n m k s lent table
  unfolding plan_by_itself
  from_plan t u v from h f w e =
      let reg = h.reg in
      by_last s 4 from (with_plan (with_certificate (first_two reg h.sch) h.cert)) (plan_in_job reg (drop from s)) n m k e λ at x p q.
      let r = (plan_refused_by_itself reg (drop from s) (bytes_drop from s b) n at).0 x in
      record { part_is = p; register = t; scheme = u; certificate = v; before = h; behind = behind s _ from at k f q r; table_is = w }

  from_certificate : (t u : List ℕ) (from : ℕ) (h : Before3 t u) → has_range h.reg ≡ false → Front s (t ++ u) from →
      table ≡ table_from_certificate s (first_two h.reg h.sch) from lent → follow s 4 plan_last (first_two h.reg h.sch) from ≡ refuses n m k →
      FromCertificate n m k s lent table ⊎ FromPlan n m k s lent table
  from_certificate t u from h none f w e =
      let reg = h.reg in
      let sch = h.sch in
      let c = coefficient reg in
      let v = h.part_1.conditions in
      let v' = h.part_2.conditions in
      let left = drop from s in
      let d = bytes_drop from s b in
      let known = chosen_known reg v.within 0 none in
      let same = certificate_same (chosen reg 0) c reg sch (λ i l. known i) left in
      let held = w ∙ residual_same (chosen reg 0) c reg sch (λ i l. known i) (commands_in_job reg sch left) lent in
      by_part s 4 3 from (with_certificate (first_two reg sch)) (certificate_in_job (chosen reg 0) reg sch left) (part_four ∷ []) n m k e
      (λ at x p q.
      let r = (certificate_refused reg v sch v' c left d n at).0 (sym same ∙ x) in
      inl (record { part_is = p; register = t; scheme = u; before = h; no_range = none; behind = behind s _ from at k f q r; table_is = held ∙ table_refused_lem c reg v sch v' left d lent n at r }))
      (λ read end x y.
      let y' = sym same ∙ x in
      let (q, _) = CA.commands_accepted reg sch c left read end y' in
      let (encodes, _, l) = front_encodes reg sch left read end d q in
      let valid = (CA.valid_accepted reg sch c left read end y').0 in
      let g = further s (t ++ u) (take end left) from end f (sym (take-append-drop end left)) (length-take-le end left l) in
      let h' : Before4 t u (take end left) = record { reg = reg; sch = sch; cert = read.parsed; no_range = none; part_1 = h.part_1; part_2 = h.part_2; part_3 = record { conditions = valid; bytes = encodes } } in
      inr (from_plan t u (take end left) (from + end) h' g (held ∙ ap (λ x. with_residual c reg sch x lent) q) y))

  -- ---- where it has one: the plan, and then the certificate

  from_certificate_last : (t u v : List ℕ) (from : ℕ) (h : BeforeLast t u v) → Front s ((t ++ u) ++ v) from → table ≡ table_from_certificate s (with_plan (first_two h.reg h.sch) h.fed) from lent →
      follow s 3 (part_three ∷ []) (with_plan (first_two h.reg h.sch) h.fed) from ≡ refuses n m k → FromCertificateLast n m k s lent table
  unfolding certificate_by_itself
  from_certificate_last t u v from h f w e =
      let reg = h.reg in
      let c = chosen reg h.fed in
      let x = h.part_1.conditions in
      let x' = h.part_2.conditions in
      let d = bytes_drop from s b in
      by_last s 3 from (with_certificate (with_plan (first_two reg h.sch) h.fed)) (certificate_in_job c reg h.sch (drop from s)) n m k e λ at y p q.
      let r = (certificate_refused_by_itself reg x h.sch x' c (drop from s) d n at).0 y in
      record {
        part_is = p;
        register = t;
        scheme = u;
        plan = v;
        before = h;
        behind = behind s _ from at k f q r;
        table_is = w ∙ table_refused_by_itself_lem c reg x h.sch x' (drop from s) d lent n at r;
      }

  from_plan_first : (t u : List ℕ) (from : ℕ) (h : Before3 t u) → has_range h.reg ≡ true → Front s (t ++ u) from →
      table ≡ table_by s lent (in_turn (part_four ∷ []) s (first_two h.reg h.sch) from) → follow s 3 plan_first (first_two h.reg h.sch) from ≡ refuses n m k →
      FromPlanFirst n m k s lent table ⊎ FromCertificateLast n m k s lent table
  from_plan_first t u from h some f w e =
      let reg = h.reg in
      let few = h.part_1.conditions.within.choices.few in
      let left = drop from s in
      let d = bytes_drop from s b in
      let add = with_plan (first_two reg h.sch) in
      by_part s 3 4 from add (plan_in_job reg left) (part_three ∷ []) n m k e
      (λ at x p q.
      let r = (plan_refused reg left d n at).0 x in
      inl (record { part_is = p; register = t; scheme = u; before = h; ranged = some; behind = behind s _ from at k f q r; table_is = w ∙ ap (table_next s lent 4 from add []) x }))
      (λ read end x y.
      let (encodes, l) = PA.bytes_accepted reg few left read end x d in
      let valid = (PA.valid_accepted reg few left read end x).0 in
      let g = further s (t ++ u) (take end left) from end f (sym (take-append-drop end left)) (length-take-le end left l) in
      let h' : BeforeLast t u (take end left) = record { reg = reg; sch = h.sch; fed = read.parsed; ranged = some; part_1 = h.part_1; part_2 = h.part_2; part_4 = record { conditions = valid; bytes = encodes } } in
      inr (from_certificate_last t u (take end left) (from + end) h' g (w ∙ ap (table_next s lent 4 from add []) x) y))

  -- ---- the scheme, and then the others in their order

  by_scheme : (t : List ℕ) (from : ℕ) (h : Before2 t) → Front s t from → (last : ℕ) (ks front : List JobPart) →
      table ≡ table_by s lent (in_turn (part_two ∷ front) s (of_register h.reg) from) → follow s last (part_two ∷ ks) (of_register h.reg) from ≡ refuses n m k →
      ((u : List ℕ) (to : ℕ) (sch : Scheme) → Part2 h.reg u sch → Front s (t ++ u) to → table ≡ table_by s lent (in_turn front s (first_two h.reg sch) to) →
      follow s last ks (first_two h.reg sch) to ≡ refuses n m k → FromOthers n m k s lent table) →
      FromScheme n m k s lent table ⊎ FromOthers n m k s lent table
  by_scheme t from h f last ks front w e others =
      let reg = h.reg in
      let left = drop from s in
      let d = bytes_drop from s b in
      let add = with_scheme (of_register reg) in
      by_part s last 2 from add (scheme_in_job reg left) ks n m k e
      (λ at x p q.
      let r = (scheme_refused reg left d n at).0 x in
      inl (record { part_is = p; register = t; before = h; behind = behind s t from at k f q r; table_is = w ∙ ap (table_next s lent 2 from add front) x }))
      (λ read end x y.
      let (encodes, l) = SA.bytes_accepted reg h.part_1.conditions left read end x d in
      let valid = (SA.valid_accepted reg h.part_1.conditions left read end x).0 in
      let g = further s t (take end left) from end f (sym (take-append-drop end left)) (length-take-le end left l) in
      inr (others (take end left) (from + end) read.parsed (record { conditions = valid; bytes = encodes }) g (w ∙ ap (table_next s lent 2 from add front) x) y))

  from_scheme : (t : List ℕ) (from : ℕ) (h : Before2 t) → Front s t from → table ≡ table_of_rest s (order h.reg) (of_register h.reg) from lent →
      rest s (order h.reg) (of_register h.reg) from ≡ refuses n m k → FromScheme n m k s lent table ⊎ FromOthers n m k s lent table
  from_scheme t from h f w e =
      flag (has_range h.reg)
      (λ some. by_scheme t from h f 3 plan_first (part_four ∷ []) (rw some at w) (rw some at e) λ u to sch q g w e.
      inr (inr (from_plan_first t u to (record { reg = h.reg; sch = sch; part_1 = h.part_1; part_2 = q }) some g w e)))
      (λ none. by_scheme t from h f 4 plan_last [] (rw none at w) (rw none at e) λ u to sch q g w e.
      ⊎_elim inl (λ r. inr (inl r)) (from_certificate t u to (record { reg = h.reg; sch = sch; part_1 = h.part_1; part_2 = q }) none g w e))

  from_register : table ≡ table_after s lent → outcome s ≡ refuses n m k → FromRegister n m k s lent table ⊎ (FromScheme n m k s lent table ⊎ FromOthers n m k s lent table)
  unfolding outcome table_after
  from_register w e =
      let table_of : Reading (Progress Register) → List ℤ = λ x. table_by s lent (next 1 x λ one end. let reg = one.parsed in in_turn (before 3 (order reg)) s (of_register reg) end) in
      next_by (λ o. o ≡ refuses n m k → FromRegister n m k s lent table ⊎ (FromScheme n m k s lent table ⊎ FromOthers n m k s lent table)) 1 (register_in_job s)
      (λ one end. let reg = one.parsed in rest s (order reg) (of_register reg) end)
      (λ i at x q.
      let (a, (p, c)) = refuses_same q in
      inl (record { part_is = sym p; refused = (register_refused s b n k).0 (x ∙ ap₂ refused a c); table_is = w ∙ ap table_of x }))
      (λ read end x y.
      let t = take end s in
      let (bytes, l) = Ra.bytes_accepted s read end x b in
      let g : Front s t end = record { ends = length-take-le end s l; job_is = sym (take-append-drop end s) } in
      inr (from_scheme t end (record { reg = read.parsed; part_1 = record { conditions = (Ra.valid_accepted s read end x).0; bytes = bytes } }) g (w ∙ ap table_of x) y))
      e

pub job_refusals : JobRefusals job_call
job_refusals = record {
  unknown_supplier = λ s lent supplier tally k. let (a, t) = unknown s lent supplier tally k in rw (a, t);
  short = λ s lent supplier tally k l. let (a, t) = table_short s lent supplier tally k l in rw (a, t);
  refused = λ s b lent l supplier k tally. let (a, t) = table_enough s lent supplier tally k l in rw (a, t) (go s b lent supplier tally (outcome s) refl);
}
  where
    go : (s : List ℕ) → Bytes s → (lent : List ℤ) (supplier : ℕ) (tally : Tally) (x : Outcome Parts) → outcome s ≡ x →
        let a = after_job x supplier tally in
        let table = table_after s lent in
        (a.number ≡ 0 → ⊥) →
        (a.bound ≡ pos 0) × (a.cost ≡ pos 0) × (a.gap ≡ pos 0) × (a.tally ≡ moved with_refused supplier tally) × (FromRegister a.number a.part a.position s lent table ⊎ (FromScheme a.number a.part a.position s lent table ⊎ FromOthers a.number a.part a.position s lent table))
    go s b lent supplier tally (refuses n m k) e h = (refl, refl, refl, refl, from_register s b n m k lent (table_after s lent) refl e)
    go s b lent supplier tally (accepts p) e h = absurd (h refl)

-- ---- every call

pub refusals : Refusals register_call scheme_call build_call cost_call penalty_call check_call plain_call job_call listing_call supplier_listing_call search_call
refusals = record {
  of_register = register_refusals;
  of_scheme = scheme_refusals;
  of_builder = build_refusals;
  of_cost = cost_refusals;
  of_penalty = penalty_refusals;
  of_check = check_refusals;
  of_plain = plain_refusals;
  of_job = job_refusals;
  of_listing = listing_refusals plan_lines;
  of_supplier_listing = listing_refusals supplier_lines;
  of_search = search_refusals;
}
