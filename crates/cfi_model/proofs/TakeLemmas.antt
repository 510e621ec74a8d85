-- What a guest's loads bring.
use Rattle.std.proofs.Common.{◌≡◌, ℕ, ◌/◌, ◌<◌, ◌≤◌, nat_lt, cond, List, [], ◌∷◌, ◌++◌, length, Option, Some, None, refl, sym, ◌∙◌, ap, subst, arith, inl, inr}
use Rattle.std.proofs.lemmas.Bool.{cases_eq, cases_lt, lt-ltb, le-ltb}
use Rattle.std.proofs.lemmas.List.{append_assoc}
use Rattle.cfi_word.specs.Table.{IsTary, IsSize}
use Rattle.cfi_word.specs.declared.layout.TheConstants.{FIRST_CODE}
use Rattle.cfi_word.specs.declared.limits.TheConstants.{MAX_OPENS}
use Rattle.cfi_word.specs.declared.services.TheConstants.{OPEN}
use Rattle.rv_insn.specs.InsnOf.{insn_of}
use Rattle.cfi_model.specs.declared.act.Wait.{Wait}
use Rattle.cfi_model.specs.declared.act.Wait.TheVariants as waits
use Rattle.cfi_model.specs.declared.history.Access.{Access}
use Rattle.cfi_model.specs.Accesses.{kept_by, AreFair, next_answer, ended_by, taken_by, left_after, takes_of, left_of, FindsWord, Finds, IsAnsweredBy, AllFind, KeepsLast}
use Rattle.cfi_model.specs.Fits.{FitsOpen, FitsWord, FitsReply, Along}
use Rattle.cfi_model.specs.History.{History, IsHistory, IsFair}
use Rattle.cfi_model.specs.InForce.{tary_index}
use Rattle.cfi_model.specs.Log.{opens}
use Rattle.cfi_model.specs.Raw.{Raw}
use Rattle.cfi_model.specs.Run.{Take, Word, Served, take_one, take_word, serve_as, serve_of, run_of}
use Rattle.cfi_model.specs.Service.{Reply, too_many}
use Rattle.cfi_model.proofs.KeptLemmas.{not_epoch, is_epoch, kept_same, kept_new, same_test, other_test}
use Rattle.cfi_model.proofs.BeginLemmas.{begin_keeps_bary}
use Rattle.cfi_model.proofs.SnocLemmas.{along_append, run_append}

-- the answer that there are too many fits an open where no more are logged
too_many_fits : (r : Raw) → MAX_OPENS ≤ opens r.base.log → FitsOpen too_many r.base
too_many_fits r many = record {
  answer = record {
    inside = λ k d past. absurd (omega (arith, past));
    few = λ other. absurd (other refl);
    rises = λ none. absurd (cc);
    most = λ none. absurd (cc);
  };
  exact = λ few. absurd (omega (arith, few, many));
}

-- no Bary word is kept when a service has ended
serve_drops : (r : Raw) (wait : Option Wait) → r.waits ≡ wait → (reply : Reply) (word : ℕ)
    → (serve_of r reply).bary ≡ Some word → r.bary ≡ Some word
serve_drops r None awaits reply word e = sym (ap (λ w. (serve_as w r reply).bary) awaits) ∙ e
serve_drops r (Some (waits.Tary at rd)) awaits reply word e = sym (ap (λ w. (serve_as w r reply).bary) awaits) ∙ e
serve_drops r (Some (waits.Bary slot rd)) awaits reply word e = sym (ap (λ w. (serve_as w r reply).bary) awaits) ∙ e
serve_drops r (Some (waits.Service number)) awaits reply word e =
    let none : None ≡ Some word = sym (ap (λ w. (serve_as w r reply).bary) awaits) ∙ e in absurd (cc)

-- an access brings what fits
module _ (h : History) (code : List ℕ) where
  -- how a service ends, and that it keeps no other Bary word
  record Ends (r : Raw) (takes : List Take) : Type 0 where
    fit : Along h code r takes
    keeps : (word : ℕ) → (run_of r takes).bary ≡ Some word → r.bary ≡ Some word

  no_end : (r : Raw) → Ends r []
  no_end r = record { fit = tt; keeps = λ word e. e }

  one_end : (r : Raw) (reply : Reply) → FitsReply r.waits r reply → Ends r (Served reply ∷ [])
  one_end r reply fits = record { fit = (fits, tt); keeps = serve_drops r r.waits refl reply }

  answer_ends : (r : Raw) (replies : List Reply) → r.waits ≡ Some (waits.Service OPEN)
      → opens r.base.log < MAX_OPENS → IsAnsweredBy replies r → Ends r (next_answer replies)
  answer_ends r [] awaits few answered = no_end r
  answer_ends r (reply ∷ later) awaits few answered =
      one_end r reply (subst (λ w. FitsReply w r reply) (sym awaits) (λ same. answered awaits few))

  full_ends : (r : Raw) (number : ℕ) → r.waits ≡ Some (waits.Service number)
      → (number ≡ OPEN → MAX_OPENS ≤ opens r.base.log) → Ends r (Served too_many ∷ [])
  full_ends r number awaits many =
      one_end r too_many
      (subst (λ w. FitsReply w r too_many) (sym awaits) (λ same. too_many_fits r (many same)))

  open_ends : (r : Raw) (replies : List Reply) → r.waits ≡ Some (waits.Service OPEN) → IsAnsweredBy replies r
      → Ends r (cond (nat_lt (opens r.base.log) MAX_OPENS) (next_answer replies) (Served too_many ∷ []))
  open_ends r replies awaits answered = elim (cases_lt (opens r.base.log) MAX_OPENS) [
    | inl few ↦
        subst (λ b. Ends r (cond b (next_answer replies) (Served too_many ∷ []))) (sym (lt-ltb _ _ few))
        (answer_ends r replies awaits few answered)
    | inr many ↦
        subst (λ b. Ends r (cond b (next_answer replies) (Served too_many ∷ []))) (sym (le-ltb _ _ many))
        (full_ends r OPEN awaits (λ same. many))
  ]

  service_ends : (r : Raw) (replies : List Reply) (number : ℕ) → r.waits ≡ Some (waits.Service number)
      → IsAnsweredBy replies r → Ends r (ended_by (Some (waits.Service number)) r replies)
  service_ends r replies number awaits answered = elim (cases_eq number OPEN) [
    | inl same ↦
        subst (λ b. Ends r (cond b (cond (nat_lt (opens r.base.log) MAX_OPENS) (next_answer replies)
        (Served too_many ∷ [])) (Served too_many ∷ []))) (sym (same_test number OPEN same))
        (open_ends r replies (awaits ∙ ap (λ n. Some (waits.Service n)) same) answered)
    | inr other ↦
        subst (λ b. Ends r (cond b (cond (nat_lt (opens r.base.log) MAX_OPENS) (next_answer replies)
        (Served too_many ∷ [])) (Served too_many ∷ []))) (sym (other_test number OPEN other))
        (full_ends r number awaits (λ same. absurd (other same)))
  ]

  ends_by : (r : Raw) (replies : List Reply) (wait : Option Wait) → r.waits ≡ wait → IsAnsweredBy replies r
      → Ends r (ended_by wait r replies)
  ends_by r replies None awaits answered = no_end r
  ends_by r replies (Some (waits.Tary at rd)) awaits answered = no_end r
  ends_by r replies (Some (waits.Bary slot rd)) awaits answered = no_end r
  ends_by r replies (Some (waits.Service number)) awaits answered = service_ends r replies number awaits answered

  -- what one access brings, and the Bary word that is kept after it
  record Brings (r : Raw) (kept : Option ℕ) (takes : List Take) : Type 0 where
    fit : Along h code r takes
    keeps : KeepsLast (run_of r takes) kept

  fair_by : (bary kept : Option ℕ) (found : ℕ) → ((word : ℕ) → bary ≡ Some word → kept ≡ Some word)
      → IsFair h kept found → IsFair h bary found
  fair_by None kept found keeps fair = tt
  fair_by (Some word) kept found keeps fair = subst (λ k. IsFair h k found) (keeps word refl) fair

  index_within : IsSize (length code) → (at : ℕ) → tary_index (length code) at < length code
  index_within size at = elim (cases_lt (at / 4) (length code)) [
    | inl less ↦ subst (λ b. cond b (at / 4) 0 < length code) (sym (lt-ltb _ _ less)) less
    | inr more ↦ subst (λ b. cond b (at / 4) 0 < length code) (sym (le-ltb _ _ more)) (omega (arith, size.least))
  ]

  -- the word that the machine asks for
  record Asked (r : Raw) (kept : Option ℕ) (access : Access) : Type 0 where
    least : FIRST_CODE ≤ access.word
    fits : FitsWord h code r.waits r access.found
    keeps : KeepsLast (take_one r (Word access.found)) (kept_by (length code) kept access)

  asks_by : (size : IsSize (length code)) (r : Raw) (kept : Option ℕ) (access : Access) → KeepsLast r kept
      → (IsTary (length code) access.word → IsFair h kept access.found) → (wait : Option Wait) → r.waits ≡ wait
      → FindsWord h code wait r access → Asked r kept access
  asks_by size r kept access keeps fair None awaits found = record {
    least = omega (arith, found.2);
    fits = subst (λ w. FitsWord h code w r access.found) (sym awaits) (found.0, found.3);
    keeps = λ word e.
        (let begun : (take_word None r access.found).bary ≡ Some word =
        subst (λ w. (take_word w r access.found).bary ≡ Some word) awaits e in
        kept_same (length code) kept access (omega (arith, found.2)) (omega (arith, found.1, found.2))
        ∙ keeps word (begin_keeps_bary r (insn_of access.found) word begun));
  }
  asks_by size r kept access keeps fair (Some (waits.Tary at rd)) awaits found =
      let within = index_within size at in
      record {
        least = omega (arith, found.0);
        fits = subst (λ w. FitsWord h code w r access.found) (sym awaits)
            (record {
              found = found.1;
              fair = fair_by r.bary kept access.found keeps
                  (fair (omega (arith, found.0), omega (arith, found.0, within)));
              rises = found.2;
            });
        keeps = λ word e.
            (let same : r.bary ≡ Some word = subst (λ w. (take_word w r access.found).bary ≡ Some word) awaits e in
            kept_same (length code) kept access (omega (arith, found.0)) (omega (arith, found.0, within))
            ∙ keeps word same);
      }
  asks_by size r kept access keeps fair (Some (waits.Bary slot rd)) awaits found = record {
    least = omega (arith, found.0);
    fits = subst (λ w. FitsWord h code w r access.found) (sym awaits) found.1;
    keeps = λ word e.
        (let same : Some access.found ≡ Some word =
        subst (λ w. (take_word w r access.found).bary ≡ Some word) awaits e in
        kept_new (length code) kept access (omega (arith, found.0)) ∙ same);
  }
  asks_by size r kept access keeps fair (Some (waits.Service number)) awaits found = absurd found

  brings : IsSize (length code) → (r : Raw) (kept : Option ℕ) (replies : List Reply) (access : Access)
      → KeepsLast r kept → (IsTary (length code) access.word → IsFair h kept access.found) → Finds h code r access
      → IsAnsweredBy replies (take_one r (Word access.found))
      → Brings r (kept_by (length code) kept access) (taken_by r replies access)
  brings size r kept replies access keeps fair (inl quiet) answered =
      let now : Raw = take_one r (Word access.found) in
      let none : taken_by r replies access ≡ [] =
      ap (λ b. cond b [] (Word access.found ∷ ended_by now.waits now replies)) (is_epoch access.word quiet.0) in
      subst (Brings r (kept_by (length code) kept access)) (sym none)
      (record { fit = tt; keeps = λ word e. (let never : None ≡ Some word = sym quiet.1 ∙ e in absurd (cc)) })
  brings size r kept replies access keeps fair (inr found) answered =
      let asks = asks_by size r kept access keeps fair r.waits refl found in
      let now : Raw = take_one r (Word access.found) in
      let ends = ends_by now replies now.waits refl answered in
      let some : taken_by r replies access ≡ Word access.found ∷ ended_by now.waits now replies =
      ap (λ b. cond b [] (Word access.found ∷ ended_by now.waits now replies)) (not_epoch access.word asks.least) in
      subst (Brings r (kept_by (length code) kept access)) (sym some)
      (record { fit = (asks.fits, ends.fit); keeps = λ word e. asks.keeps word (ends.keeps word e) })

  all_fit : IsSize (length code) → (accesses : List Access) (r : Raw) (replies : List Reply)
      → AllFind h code r replies accesses → (kept : Option ℕ) → KeepsLast r kept
      → AreFair h (length code) kept accesses → Along h code r (takes_of r replies accesses)
  all_fit size [] r replies all kept keeps fair = tt
  all_fit size (access ∷ later) r replies all kept keeps fair =
      let one = brings size r kept replies access keeps fair.0 all.0 all.1 in
      along_append h code (taken_by r replies access)
      (takes_of (run_of r (taken_by r replies access)) (left_after r replies access) later) r one.fit
      (all_fit size later (run_of r (taken_by r replies access)) (left_after r replies access) all.2
      (kept_by (length code) kept access) one.keeps fair.1)

pub accesses_fit : (h : History) (code : List ℕ) → IsHistory h code → (accesses : List Access) (r : Raw)
    (replies : List Reply) → AllFind h code r replies accesses → (kept : Option ℕ) → KeepsLast r kept
    → AreFair h (length code) kept accesses → Along h code r (takes_of r replies accesses)
accesses_fit h code known accesses r replies all kept keeps fair =
    all_fit h code known.size accesses r replies all kept keeps fair

pub accesses_join : (accesses later : List Access) (r : Raw) (replies : List Reply)
    → takes_of r replies (accesses ++ later)
    ≡ takes_of r replies accesses
    ++ takes_of (run_of r (takes_of r replies accesses)) (left_of r replies accesses) later
accesses_join [] later r replies = refl
accesses_join (access ∷ accesses) later r replies =
    let taken : List Take = taken_by r replies access in
    let now : Raw = run_of r taken in
    let left : List Reply = left_after r replies access in
    let rest : List Take = takes_of now left accesses in
    ap (λ takes. taken ++ takes) (accesses_join accesses later now left)
    ∙ sym (append_assoc taken rest (takes_of (run_of now rest) (left_of now left accesses) later))
    ∙ ap (λ v. (taken ++ rest) ++ takes_of v (left_of now left accesses) later) (sym (run_append taken rest r))
