-- From each place within a check the next access leads to a place, or ends it.
use Rattle.std.proofs.Common.{◌≡◌, ℕ, ◌+◌, ◌*◌, ◌/◌, ◌%◌, ◌^◌, ℤ, pos, negsuc, Some, None, List, refl, sym, ◌∙◌, ap, subst, arith, rules, ◌⊎◌, inl, inr, bit_xor, Bool, true, false}
use Rattle.std.proofs.lemmas.Bool.{cases_lt, cases_eq}
use Rattle.rv_insn.specs.declared.insn.Insn.{Insn}
use Rattle.cfi_unit.specs.declared.unit.Unit.{Unit as CodeUnit}
use Rattle.cfi_unit.specs.declared.unit.Unit.TheVariants as units
use Rattle.cfi_unit.specs.Unit.{check}
use Rattle.cfi_word.specs.Ids.{low_half}
use Rattle.cfi_word.specs.Word.{id_in, policy_in}
use Rattle.cfi_model.specs.Effect.{checked}
use Rattle.cfi_model.specs.Shows.{IsBetween, IsRepeat, end_of}
use Rattle.cfi_model.specs.State.{State, register, displaced}
use Rattle.cfi_model.specs.Raw.{Raw}
use Rattle.cfi_model.specs.Run.{Take, Word, Served, take_one}
use Rattle.cfi_model.specs.History.{History, allows_at}
use Rattle.cfi_model.specs.Fits.{Fits}
use Rattle.cfi_model.proofs.InnerLemmas.{inner}
use Rattle.cfi_model.proofs.WalkLemmas.{aims}
use Rattle.cfi_model.proofs.CheckLemmas.{high_word, splits, far, near, points, asks_bary, tables, adds, asks_tary, equals, differs, compares, keeps_low}
use Rattle.cfi_model.proofs.CheckEndLemmas.{far_ends, odd_ends, not_ends, jump_ends}
use Rattle.cfi_model.proofs.IdLemmas.{same-low, apart-low, apart-versions, equal-allows, apart-refuses}
use Rattle.cfi_model.proofs.CheckFinish as finish
use Rattle.cfi_model.proofs.CheckFinish.{in_code_whole, in_code_low}
use Rattle.cfi_model.proofs.FetchLemmas.{Here, walks, counts}
use Rattle.cfi_model.proofs.CheckPlaces.{CheckPlace, Aimed, Split, Far, Trying, Pointed, AskedBary, FoundBary, Tabled, Added, AskedTary, FoundTary, Differed, Compared, Lowered, Refused, Allowed, Values, check_raw, CheckHolds, HasTwo, Neither, found_at, CheckAt, CheckGoesOn, CheckStops}

module _ (h : History) (code : List ℕ) (p : State) (link : Bool) (rs1 : ℕ) (imm : ℤ) (slot : ℕ)
    (here : Here h code p (units.Check link rs1 imm slot)) (retries : ℕ) where
  abbrev unit : CodeUnit
  unit = units.Check link rs1 imm slot

  abbrev all : List Insn
  all = check link rs1 imm slot

  abbrev unpicked_state : (to : ℕ) → State
  unpicked_state to = finish.unpicked_state h code p link rs1 imm slot here retries to

  -- the first instruction leads to the first place
  pub check_begins : (x28 x29 x30 x31 : ℕ) (r : Raw)
      → r ≡ inner p p.units (p.pc + 4 * 0) (p.steps + 9 * retries) x28 x29 x30 x31 None None None
      → (t : Take) → Fits h code r t
      → (now : CheckAt h p retries slot (displaced (register p rs1) imm) (take_one r t))
      × (found_at now.place ≡ Neither)
  check_begins x28 x29 x30 x31 r is t fits =
      let small = here.small in (
        record {
          more = 0;
          two = λ some. absurd (some refl);
          values = record { x28 = x28; x29 = x29; x30 = x30; kept = None; last = None; bary = 0; tary = 0 };
          place = Aimed;
          is = walks h code p unit here all refl 0 (omega arith) _ _ _ _ _ _ _ _ r is
              (aims p (p.pc + 4 * 0) (p.steps + 9 * retries) x28 x29 x30 x31 None None rs1 imm here.stands.begins.fits.0
              (omega arith) ∙ counts p _ _ _ _ _ _ _ _ _ _ _ (omega arith) (omega arith)) t fits;
          holds = refl;
        },
        refl,
      )

  -- from each place the next access leads to a place, or ends the check
  pub check_goes_on : (more to : ℕ) → HasTwo h slot to more → (v : Values) (place : CheckPlace) (r : Raw)
      → r ≡ check_raw p (retries + more) slot to v place → CheckHolds h p more slot to v place
      → (t : Take) → Fits h code r t
      → CheckGoesOn h p retries slot to v place r t ⊎ CheckStops h p retries slot to link place (end_of r t) (take_one r t)
  check_goes_on more to two v Aimed r is holds t fits =
      let small = here.small in
      inl (record {
        now = record {
          more = more;
          two = two;
          values = v;
          place = Split;
          is = walks h code p unit here all refl 1 (omega arith) _ _ _ _ _ _ _ _ r is
              (splits p (p.pc + 4 * 1) (p.steps + 9 * (retries + more) + 1) v.x28 v.x29 v.x30 to None None (omega arith)
              ∙ counts p _ _ _ _ _ _ _ _ _ _ _ (omega arith) (omega arith)) t fits;
          holds = holds;
        };
        follows = ap (λ x. x.waits) is;
      })
  check_goes_on more to two v Split r is holds t fits =
      let small = here.small in
      elim (cases_lt to (2 ^ 18)) [
        | inl low ↦
            inl (record {
              now = record {
                more = more;
                two = two;
                values = record v { x30 = to / 2 ^ 18; kept = None; last = None };
                place = Trying;
                is = walks h code p unit here all refl 2 (omega arith) _ _ _ _ _ _ _ _ r is
                    (near p (p.pc + 4 * 2) (p.steps + 9 * (retries + more) + 2) v.x28 v.x29 (to / 2 ^ 18) to None None (pos 40) here.ready.zero_is (omega arith) (omega arith)
                    ∙ counts p _ _ _ _ _ _ _ _ _ _ _ (omega arith) (omega arith)) t fits;
                holds = record { low = low; whole = λ some. absurd (some holds); words = λ some. absurd (some holds) };
              };
              follows = ap (λ x. x.waits) is;
            })
        | inr high ↦
            inl (record {
              now = record {
                more = more;
                two = two;
                values = record v { x30 = to / 2 ^ 18 };
                place = Far;
                is = walks h code p unit here all refl 2 (omega arith) _ _ _ _ _ _ _ _ r is
                    (far p (p.pc + 4 * 2) (p.steps + 9 * (retries + more) + 2) v.x28 v.x29 (to / 2 ^ 18) to None None (pos 40) here.ready.zero_is (omega arith)
                    ∙ counts p _ _ _ _ _ _ _ _ _ _ _ (omega arith) (omega arith)) t fits;
                holds = (holds, high);
              };
              follows = ap (λ x. x.waits) is;
            })
      ]
  check_goes_on more to two v Trying r is holds t fits =
      let small = here.small in
      inl (record {
        now = record {
          more = more;
          two = two;
          values = v;
          place = Pointed;
          is = walks h code p unit here all refl 3 (omega arith) _ _ _ _ _ _ _ _ r is
              (points p (p.pc + 4 * 3) (p.steps + 9 * (retries + more) + 3) v.x28 v.x29 v.x30 to v.kept v.last slot (omega arith)
              ∙ counts p _ _ _ _ _ _ _ _ _ _ _ (omega arith) (omega arith)) t fits;
          holds = holds;
        };
        follows = ap (λ x. x.waits) is;
      })
  check_goes_on more to two v Pointed r is holds t fits =
      let small = here.small in
      inl (record {
        now = record {
          more = more;
          two = two;
          values = v;
          place = AskedBary;
          is = walks h code p unit here all refl 4 (omega arith) _ _ _ _ _ _ _ _ r is
              (asks_bary p (p.pc + 4 * 4) (p.steps + 9 * (retries + more) + 4) v.x29 v.x30 to v.kept v.last slot here.stands.begins.fits.2 (omega arith)
              ∙ counts p _ _ _ _ _ _ _ _ _ _ _ (omega arith) (omega arith)) t fits;
          holds = holds;
        };
        follows = ap (λ x. x.waits) is;
      })
  check_goes_on more to two v AskedBary r is holds (Word w) fits =
      let small = here.small in
      inl (record {
        now = record {
          more = more;
          two = two;
          values = record v { x28 = high_word slot; bary = w };
          place = FoundBary;
          is = ap (λ x. take_one x (Word w)) is;
          holds = (holds, subst (λ x. Fits h code x (Word w)) is fits);
        };
        follows = (ap (λ x. x.waits) is, refl);
      })
  check_goes_on more to two v AskedBary r is holds (Served reply) fits =
      absurd (subst (λ x. Fits h code x (Served reply)) is fits)
  check_goes_on more to two v FoundBary r is holds t fits =
      let small = here.small in
      inl (record {
        now = record {
          more = more;
          two = two;
          values = v;
          place = Tabled;
          is = walks h code p unit here all refl 5 (omega arith) _ _ _ _ _ _ _ _ r is
              (tables p (p.pc + 4 * 5) (p.steps + 9 * (retries + more) + 5) v.x28 (id_in v.bary) v.x30 to (Some v.bary) v.last (omega arith)
              ∙ counts p _ _ _ _ _ _ _ _ _ _ _ (omega arith) (omega arith)) t fits;
          holds = holds;
        };
        follows = (ap (λ x. x.waits) is, refl);
      })
  check_goes_on more to two v Tabled r is holds t fits =
      let small = here.small in
      inl (record {
        now = record {
          more = more;
          two = two;
          values = v;
          place = Added;
          is = walks h code p unit here all refl 6 (omega arith) _ _ _ _ _ _ _ _ r is
              (adds p (p.pc + 4 * 6) (p.steps + 9 * (retries + more) + 6) v.x28 (id_in v.bary) to (Some v.bary) v.last (omega arith) holds.0.low
              ∙ counts p _ _ _ _ _ _ _ _ _ _ _ (omega arith) (omega arith)) t fits;
          holds = holds;
        };
        follows = (ap (λ x. x.waits) is, refl);
      })
  check_goes_on more to two v Added r is holds t fits =
      let small = here.small in
      let start = here.ready.start here.going in
      elim (cases_eq (to % 4) 0) [
        | inl whole ↦
            inl (record {
              now = record {
                more = more;
                two = two;
                values = v;
                place = AskedTary;
                is = walks h code p unit here all refl 7 (omega arith) _ _ _ _ _ _ _ _ r is
                    (asks_tary p (p.pc + 4 * 7) (p.steps + 9 * (retries + more) + 7) v.x28 (id_in v.bary) to (Some v.bary) v.last (omega arith) holds.0.low whole
                    ∙ counts p _ _ _ _ _ _ _ _ _ _ _ (omega arith) (omega arith)) t fits;
                holds = (holds.0.low, whole, holds.1);
              };
              follows = (ap (λ x. x.waits) is, refl);
            })
        | inr odd ↦
            inr (record {
              ended = finish.unpicked h code p link rs1 imm slot here retries more to two (λ inside. odd (in_code_whole to inside)) (λ some. odd (holds.0.whole some)) (end_of r t)
                  (take_one r t) (subst (IsBetween (retries + more) (unpicked_state to))
                  (sym (walks h code p unit here all refl 7 (omega arith) _ _ _ _ _ _ _ _ r is refl t fits))
                  (odd_ends p (retries + more) v.x28 (id_in v.bary) to (Some v.bary) v.last (h.policy start.epoch)
                  (allows_at h start.epoch slot to) link holds.0.low odd));
              tried = λ inside. absurd (odd (in_code_whole to inside));
            })
      ]
  check_goes_on more to two v AskedTary r is holds (Word w) fits =
      let small = here.small in
      let given : Fits h code (check_raw p (retries + more) slot to v AskedTary) (Word w) =
      subst (λ x. Fits h code x (Word w)) is fits in
      inl (record {
        now = record {
          more = more;
          two = two;
          values = record v { tary = w };
          place = FoundTary;
          is = ap (λ x. take_one x (Word w)) is;
          holds = record {
            low = holds.0;
            whole = holds.1;
            words = record { branch = holds.2; goal = given.found; fair = given.fair };
            rises = given.rises;
          };
        };
        follows = (ap (λ x. x.waits) is, refl, refl);
      })
  check_goes_on more to two v AskedTary r is holds (Served reply) fits =
      absurd (subst (λ x. Fits h code x (Served reply)) is fits)
  check_goes_on more to two v FoundTary r is holds t fits =
      let small = here.small in
      elim (cases_eq (id_in v.bary) (id_in v.tary)) [
        | inl same ↦
            inl (record {
              now = record {
                more = more;
                two = two;
                values = record v { x29 = id_in v.bary; x30 = id_in v.tary };
                place = Allowed;
                is = walks h code p unit here all refl 8 (omega arith) _ _ _ _ _ _ _ _ r is
                    (equals p (p.pc + 4 * 8) (p.steps + 9 * (retries + more) + 8) v.x28 (id_in v.bary) (id_in v.tary) to (Some v.bary) (Some v.tary) same (omega arith)
                    ∙ counts p _ _ _ _ _ _ _ _ _ _ _ (omega arith) (omega arith)) t fits;
                holds = (holds, same);
              };
              follows = (ap (λ x. x.waits) is, refl, refl);
            })
        | inr other ↦
            inl (record {
              now = record {
                more = more;
                two = two;
                values = v;
                place = Differed;
                is = walks h code p unit here all refl 8 (omega arith) _ _ _ _ _ _ _ _ r is
                    (differs p (p.pc + 4 * 8) (p.steps + 9 * (retries + more) + 8) v.x28 (id_in v.bary) (id_in v.tary) to (Some v.bary) (Some v.tary) other (omega arith)
                    ∙ counts p _ _ _ _ _ _ _ _ _ _ _ (omega arith) (omega arith)) t fits;
                holds = (holds, other);
              };
              follows = (ap (λ x. x.waits) is, refl, refl);
            })
      ]
  check_goes_on more to two v Differed r is holds t fits =
      let small = here.small in
      inl (record {
        now = record {
          more = more;
          two = two;
          values = v;
          place = Compared;
          is = walks h code p unit here all refl 9 (omega arith) _ _ _ _ _ _ _ _ r is
              (compares p (p.pc + 4 * 9) (p.steps + 9 * (retries + more) + 9) v.x28 (id_in v.bary) (id_in v.tary) to (Some v.bary) (Some v.tary) (omega arith)
              ∙ counts p _ _ _ _ _ _ _ _ _ _ _ (omega arith) (omega arith)) t fits;
          holds = holds;
        };
        follows = (ap (λ x. x.waits) is, refl, refl);
      })
  check_goes_on more to two v Compared r is holds t fits =
      let small = here.small in
      inl (record {
        now = record {
          more = more;
          two = two;
          values = v;
          place = Lowered;
          is = walks h code p unit here all refl 10 (omega arith) _ _ _ _ _ _ _ _ r is
              (keeps_low p (p.pc + 4 * 10) (p.steps + 9 * (retries + more) + 10) v.x28 (id_in v.bary) (bit_xor (id_in v.tary) (id_in v.bary)) to (Some v.bary) (Some v.tary) (omega arith)
              ∙ counts p _ _ _ _ _ _ _ _ _ _ _ (omega arith) (omega arith)) t fits;
          holds = holds;
        };
        follows = (ap (λ x. x.waits) is, refl, refl);
      })
  check_goes_on more to two v Lowered r is holds t fits =
      let small = here.small in
      elim (cases_eq (bit_xor (id_in v.tary) (id_in v.bary) * 2 ^ 16 % 2 ^ 32) 0) [
        | inl none ↦
            inl (record {
              now = record {
                more = more;
                two = two;
                values = record v { x29 = id_in v.bary; x30 = (bit_xor (id_in v.tary) (id_in v.bary) * 2 ^ 16 % 2 ^ 32) };
                place = Refused;
                is = walks h code p unit here all refl 11 (omega arith) _ _ _ _ _ _ _ _ r is
                    (near p (p.pc + 4 * 11) (p.steps + 9 * (retries + more) + 11) v.x28 (id_in v.bary) (bit_xor (id_in v.tary) (id_in v.bary) * 2 ^ 16 % 2 ^ 32) to (Some v.bary) (Some v.tary) (negsuc 31) here.ready.zero_is none (omega arith)
                    ∙ counts p _ _ _ _ _ _ _ _ _ _ _ (omega arith) (omega arith)) t fits;
                holds = (holds.0, holds.1, same-low (id_in v.tary) (id_in v.bary) none);
              };
              follows = (ap (λ x. x.waits) is, refl, refl);
            })
        | inr some ↦
            let apart = apart-versions h code slot to v.bary v.tary here.known holds.0.words
            (apart-low (id_in v.tary) (id_in v.bary) some) in
            let repeat : IsRepeat h slot to = record { bary = v.bary; tary = v.tary; apart = apart } in
            inl (record {
              now = record {
                more = more + 1;
                two = λ again. repeat;
                values = record v { x29 = id_in v.bary; x30 = (bit_xor (id_in v.tary) (id_in v.bary) * 2 ^ 16 % 2 ^ 32); kept = Some v.bary; last = Some v.tary };
                place = Trying;
                is = walks h code p unit here all refl 11 (omega arith) _ _ _ _ _ _ _ _ r is
                    (far p (p.pc + 4 * 11) (p.steps + 9 * (retries + more) + 11) v.x28 (id_in v.bary) (bit_xor (id_in v.tary) (id_in v.bary) * 2 ^ 16 % 2 ^ 32) to (Some v.bary) (Some v.tary) (negsuc 31) here.ready.zero_is some
                    ∙ counts p _ _ _ _ _ _ _ _ _ _ _ (omega arith) (omega arith)) t fits;
                holds = record {
                  low = holds.0.low;
                  whole = λ again. holds.0.whole;
                  words = λ again. record { words = repeat; kept = refl; last = refl };
                };
              };
              follows = ap (λ x. x.waits) is;
            })
      ]
  check_goes_on more to two v Refused r is holds t fits =
      let epoch : ℕ = holds.0.words.goal.epoch in
      let apart = apart-refuses h code slot to v.bary v.tary here.known holds.0.words holds.2 holds.1 in
      let refused : allows_at h epoch slot to ≡ false = search (rules, arith) in
      inr (record {
        ended = finish.judged h code p link rs1 imm slot here retries more to two v.bary v.tary holds.0 holds.2 (end_of r t) (ap (λ x. x.bary) is) (ap (λ x. x.tary) is)
            (take_one r t) (subst (IsBetween (retries + more) (checked (policy_in v.tary) (allows_at h epoch slot to) link to p))
            (sym (walks h code p unit here all refl 12 (omega arith) _ _ _ _ _ _ _ _ r is refl t fits))
            (not_ends p (retries + more) v.x28 v.x29 v.x30 to v.tary (Some v.bary) (allows_at h epoch slot to) link
            holds.0.low holds.0.whole refused));
        tried = λ inside. refl;
      })
  check_goes_on more to two v Allowed r is holds t fits =
      let epoch : ℕ = holds.0.words.goal.epoch in
      let same = equal-allows h code slot to v.bary v.tary here.known holds.0.words holds.1 in
      let granted : allows_at h epoch slot to ≡ true = search (rules, arith) in
      inr (record {
        ended = finish.judged h code p link rs1 imm slot here retries more to two v.bary v.tary holds.0 (ap low_half (sym holds.1)) (end_of r t) (ap (λ x. x.bary) is) (ap (λ x. x.tary) is)
            (take_one r t) (subst (IsBetween (retries + more) (checked (policy_in v.tary) (allows_at h epoch slot to) link to p))
            (sym (walks h code p unit here all refl 13 (omega arith) _ _ _ _ _ _ _ _ r is refl t fits))
            (jump_ends p (retries + more) v.x28 v.x29 v.x30 to v.tary (Some v.bary) (allows_at h epoch slot to) link
            holds.0.low holds.0.whole granted here.going));
        tried = λ inside. refl;
      })
  check_goes_on more to two v Far r is holds t fits =
      let start = here.ready.start here.going in
      inr (record {
        ended = finish.unpicked h code p link rs1 imm slot here retries more to two (λ inside. in_code_low to inside holds.1) (λ some. some holds.0)
            (end_of r t) (take_one r t) (subst (IsBetween (retries + more) (unpicked_state to))
            (sym (walks h code p unit here all refl 12 (omega arith) _ _ _ _ _ _ _ _ r is refl t fits))
            (far_ends p (retries + more) v.x28 v.x29 v.x30 to None (h.policy start.epoch) (allows_at h start.epoch slot to)
            link holds.1));
        tried = λ inside. absurd (in_code_low to inside holds.1);
      })
