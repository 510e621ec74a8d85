-- What a run hands on when its guest's service has ended, and how runs join.
use Rattle.std.proofs.Common.{◌≡◌, ◌≤◌, ℕ, ◌+◌, Some, None, List, ◌∷◌, ◌++◌, sym, ap, subst, ◌∙◌, arith, inl, inr}
use Rattle.cfi_word.specs.declared.services.TheConstants.{OPEN}
use Rattle.cfi_model.specs.declared.act.Wait.TheVariants as waits
use Rattle.cfi_model.specs.Fits.{Along, Fits, FitsOpen, FitsReply}
use Rattle.cfi_model.specs.History.{History, IsHistory, IsStart, allows_at}
use Rattle.cfi_model.specs.Log.{last_policy}
use Rattle.cfi_model.specs.Raw.{Raw}
use Rattle.cfi_model.specs.Run.{Take, Served, run_of, serve_as, serve_of, take_one}
use Rattle.cfi_model.specs.Service.{Reply}
use Rattle.cfi_model.specs.Shows.{IsAnswered, end_of}
use Rattle.cfi_model.specs.State.{State, register}
use Rattle.cfi_model.proofs.AdvanceLemmas.{Running, advance}
use Rattle.cfi_model.proofs.AfterLemmas.{effect_logs}
use Rattle.cfi_model.proofs.LawLemmas.{Ended}
use Rattle.cfi_model.proofs.ShownLemmas.{reached, shows_running, shows_units, shown_log}
use Rattle.cfi_model.proofs.SnocLemmas.{along_append, run_append}
use Rattle.cfi_tables.specs.Key.{Key}
use Rattle.cfi_tables.specs.declared.view.PassView.{PassView}
use Rattle.cfi_tables.specs.declared.view.Sight.{Sight}
use Rattle.cfi_runner.specs.Laws.{MayServe}
use Rattle.cfi_runner.specs.Run.{CanRunOn, HasRunOn, words_found}
use Rattle.cfi_runner.specs.Seen.{SeesMore, history_seen, code_seen, policy_seen}
use Rattle.cfi_runner.specs.declared.pause.Pause.{Pause}
use Rattle.cfi_runner.specs.declared.pause.Pause.TheVariants as pauses
use Rattle.cfi_runner.proofs.SeenLemmas.{policy_later, policy_most, seen_history, sees_trans}
use Rattle.cfi_runner.proofs.WayLemmas.{between, ready_in}

-- the reply that may come is the one that the machine takes
fits_served : (h : History) (code : List ℕ) (number : ℕ) (reply : Reply) (r : Raw)
    → r.waits ≡ Some (waits.Service number) → (number ≡ OPEN → FitsOpen reply r.base) → Fits h code r (Served reply)
fits_served h code number reply r wait fits = subst (λ w. FitsReply w r reply) (sym wait) fits

-- a service counts as a unit, with no instruction of its own
serve_units : (number : ℕ) (reply : Reply) (r : Raw) → r.waits ≡ Some (waits.Service number)
    → (serve_of r reply).base.units ≡ r.base.units + 1
serve_units number reply r wait = ap (λ w. (serve_as w r reply).base.units) wait

serve_steps : (number : ℕ) (reply : Reply) (r : Raw) → r.waits ≡ Some (waits.Service number)
    → (serve_of r reply).base.steps ≡ r.base.steps
serve_steps number reply r wait = ap (λ w. (serve_as w r reply).base.steps) wait

-- so it ends one
never_still : (h : History) (code : List ℕ) (s : State) (n : ℕ) (r : Raw) → Running h code s n r → (number : ℕ)
    → r.waits ≡ Some (waits.Service number) → (reply : Reply) → Running h code s n (take_one r (Served reply)) → ⊥
never_still h code s n r running number wait reply still =
    let before = shows_units h code n s r (shows_running h code s n r running) in
    let after = shows_units h code n s (take_one r (Served reply))
    (shows_running h code s n (take_one r (Served reply)) still) in
    omega (arith, before, after, serve_units number reply r wait)

serve_ends : (h : History) (code : List ℕ) → IsHistory h code → (s : State) (n : ℕ) (r : Raw) → Running h code s n r
    → (number : ℕ) → r.waits ≡ Some (waits.Service number) → (reply : Reply) → Fits h code r (Served reply)
    → Ended h code n (end_of r (Served reply)) s (take_one r (Served reply))
serve_ends h code known s n r running number wait reply fits =
    elim (advance h code s n known r running (Served reply) fits) [
      | inl still ↦ absurd (never_still h code s n r running number wait reply (inr still))
      | inr ended ↦ ended
    ]

-- the answer that came is the reply
same_reply : (reply other : Reply) → Some reply ≡ Some other → other ≡ reply
same_reply reply other e = cc

-- the guest can run on
module _ (k : Key) (fuel : ℕ) (p q next : PassView) (old new : Raw) (number : ℕ) (can : CanRunOn k fuel p old)
    (run : HasRunOn k fuel p q old new (pauses.Service number)) (more : SeesMore k q.sight next.sight) (reply : Reply)
    (may : MayServe k next.sight number reply new) where
  abbrev h : History
  h = history_seen k next.sight

  abbrev code : List ℕ
  code = code_seen k next.sight

  sees : SeesMore k p.sight next.sight
  sees = sees_trans k p.sight q.sight next.sight run.keeps.sees more

  wait : new.waits ≡ Some (waits.Service number)
  wait = ap (λ r. r.waits) run.pauses.0 ∙ run.pauses.1

  there : new ≡ run_of old (words_found run.taken.accesses)
  there = run.pauses.0 ∙ run.taken.is

  along_seen : Along h code old (words_found run.taken.accesses)
  along_seen = run.taken.along next.sight more

  fits : Fits h code new (Served reply)
  fits = fits_served h code number reply new wait may.fits

  ended : (s : State) × (n : ℕ) × (Running h code s n new)
      × Ended h code n (end_of new (Served reply)) s (serve_of new reply)
  ended =
      let known = seen_history k next.sight more.is in
      let now = reached h code known (words_found run.taken.accesses) old.base 0 old
      (inl (ready_in k fuel p old can next.sight sees, between k fuel p old can)) along_seen in
      let running : Running h code now.new now.settled new =
      subst (Running h code now.new now.settled) (sym there) now.running in
      (now.new, now.settled, running, serve_ends h code known now.new now.settled new running number wait reply fits)

  -- no policy is logged above the latest one
  shows_low : (s : State) (n : ℕ) → Running h code s n new → last_policy s.log ≤ policy_seen k next.sight
  shows_low s n running =
      let same = shown_log h code n s new (shows_running h code s n new running) in
      let up = policy_later k q.sight next.sight run.keeps.sees.is more in
      subst (λ l. last_policy l ≤ policy_seen k next.sight) same (omega (arith, run.logged, up))

  ended_low : (s : State) (n : ℕ) → Running h code s n new
      → (e : Ended h code n (end_of new (Served reply)) s (serve_of new reply))
      → last_policy e.new.log ≤ policy_seen k next.sight
  ended_low s n running e =
      let step = e.step in
      subst (λ x. last_policy x.log ≤ policy_seen k next.sight) (sym step.is)
      (effect_logs step.unit (h.policy step.epoch) (allows_at h step.epoch) step.reply s (policy_seen k next.sight)
      (shows_low s n running) (policy_most k next.sight more.is step.epoch step.known)
      (λ service free.
      (let came = (subst (λ u. IsAnswered u (end_of new (Served reply)) step.reply s) service step.answered).came in
      let is = same_reply reply step.reply came in
      subst (λ x. x.policy ≤ policy_seen k next.sight) (sym is) (may.known (sym (ap (λ x. x.cause) is) ∙ free)))))

  pub hands_on : (serve_of new reply).base.stop ≡ None → CanRunOn k fuel next (serve_of new reply)
  hands_on going =
      let e = ended.3 in
      let base = e.between.base in
      let still : e.new.stop ≡ None = sym (ap (λ b. b.stop) base) ∙ going in
      let fresh = e.between.fresh still in
      record {
        sight = more.is;
        going = going;
        idle = e.between.idle;
        fresh = (fresh.1, fresh.2);
        ready = record {
          zero_is = ap (λ b. register b 0) base ∙ e.ready.zero_is;
          start = λ same. subst (IsStart h) (sym fresh.0) (e.ready.start still);
        };
        logged = subst (λ l. last_policy l ≤ policy_seen k next.sight) (sym (ap (λ b. b.log) base))
            (ended_low ended.0 ended.1 ended.2 e);
        within = omega (arith, serve_steps number reply new wait, run.within);
      }

-- two runs are one
module _ (k : Key) (fuel : ℕ) (p q next end : PassView) (old mid new : Raw) (number : ℕ) (pause : Pause)
    (run : HasRunOn k fuel p q old mid (pauses.Service number)) (more : SeesMore k q.sight next.sight) (reply : Reply)
    (may : MayServe k next.sight number reply mid) (then : HasRunOn k fuel next end (serve_of mid reply) new pause) where
  abbrev takes : List Take
  takes = words_found run.taken.accesses ++ Served reply ∷ words_found then.taken.accesses

  mid_is : mid ≡ run_of old (words_found run.taken.accesses)
  mid_is = run.pauses.0 ∙ run.taken.is

  pub joined : then.last ≡ run_of old takes
  joined =
      then.taken.is
      ∙ (ap (λ r. run_of (serve_of r reply) (words_found then.taken.accesses)) mid_is
      ∙ sym (run_append (words_found run.taken.accesses) (Served reply ∷ words_found then.taken.accesses) old))

  pub along_joined : (later : Sight) → SeesMore k end.sight later
      → Along (history_seen k later) (code_seen k later) old takes
  along_joined later sees =
      let wait = ap (λ r. r.waits) run.pauses.0 ∙ run.pauses.1 in
      let on = sees_trans k next.sight end.sight later then.keeps.sees sees in
      along_append (history_seen k later) (code_seen k later) (words_found run.taken.accesses)
      (Served reply ∷ words_found then.taken.accesses) old
      (run.taken.along later (sees_trans k q.sight next.sight later more on))
      (subst (λ r. Along (history_seen k later) (code_seen k later) r (Served reply ∷ words_found then.taken.accesses))
      mid_is (
        fits_served (history_seen k later) (code_seen k later) number reply mid wait may.fits,
        then.taken.along later sees,
      ))
