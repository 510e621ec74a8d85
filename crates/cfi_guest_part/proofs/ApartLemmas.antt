-- A guest's log may stand in a report: adjacent picks differ in policy, and each counts one check or more.
use Rattle.std.proofs.Common.{◌≡◌, ℕ, ◌+◌, ◌-◌, ◌<◌, ◌==◌, not, Bool, true, false, cond, Option, Some, None, List, [], ◌∷◌, ◌++◌, length, take, slice_set, get_or, refl, sym, ap, subst, ◌∙◌, arith, rules}
use Rattle.std.specs.Prelude.{⊤}
use Rattle.std.specs.List.{AllByRecursion}
use Rattle.std.proofs.Common.{tests}
use Rattle.std.proofs.lemmas.Option.{slice_get-get_or}
use Rattle.rv_insn.specs.declared.insn.Insn.{Insn}
use Rattle.rv_insn.specs.declared.insn.Insn.TheVariants as insns
use Rattle.rv_insn.specs.declared.insn.LoadKind.{LoadKind}
use Rattle.rv_insn.specs.declared.insn.StoreKind.{StoreKind}
use Rattle.rv_insn.specs.InsnOf.{insn_of}
use Rattle.cfi_unit.specs.declared.log.Log.{Log}
use Rattle.cfi_unit.specs.declared.log.Log.TheVariants.{Pick, Open, Cause}
use Rattle.cfi_word.specs.Word.{policy_in}
use Rattle.cfi_word.specs.declared.services.TheConstants.{TOO_MANY}
use Rattle.cfi_model.specs.declared.act.Wait.{Wait}
use Rattle.cfi_model.specs.declared.act.Wait.TheVariants as waits
use Rattle.cfi_model.specs.Data.{load_width, store_width, is_aligned}
use Rattle.cfi_model.specs.Log.{last_of, is_pick_of, picks_of}
use Rattle.cfi_model.specs.Begin.{Area, Private, TaryId, BaryId, Nothing, begin_as, begin_by, load_at, store_at, area_of, reads_table, picked_by}
use Rattle.cfi_model.specs.Raw.{Raw, access_address}
use Rattle.cfi_model.specs.Run.{Take, Word, Served, take_word, take_one, run_of, serve_as}
use Rattle.cfi_model.specs.Service.{Reply, Service, Ends, Puts, Quiets, Opens, Unknown, service_of, served_log, succeeds, argument}
use Rattle.cfi_model.specs.State.{State}
use Rattle.cfi_model.proofs.LogLemmas.{within, ends_with, set_last}
use Rattle.cfi_report.specs.Report.{PicksDiffer, differ}
use Rattle.cfi_report.proofs.ReachedLemmas.{apart-push}

-- an entry of picks counts one or more
abbrev pub Counts : Log → Type 0
Counts (Pick policy count) = 0 < count
Counts (Open number address policy) = ⊤
Counts (Cause number cause) = ⊤

pub record IsKept (log : List Log) : Type 0 where
  pub apart : PicksDiffer log
  pub counts : AllByRecursion Counts log

-- ---- one entry more, and the last one anew

counts_push : (log : List Log) (x : Log) → AllByRecursion Counts log → Counts x → AllByRecursion Counts (log ++ x ∷ [])
counts_push [] x all one = (one, tt)
counts_push (a ∷ log) x all one = (all.0, counts_push log x all.1 one)

counts_front : (front : List Log) (e : Log) → AllByRecursion Counts (front ++ e ∷ []) → AllByRecursion Counts front
counts_front [] e all = tt
counts_front (a ∷ front) e all = (all.0, counts_front front e all.1)

apart_again : (front : List Log) (e x : Log) → PicksDiffer (front ++ e ∷ [])
    → ((a : Log) → differ a e ≡ true → differ a x ≡ true) → PicksDiffer (front ++ x ∷ [])
apart_again [] e x apart same = tt
apart_again (a ∷ []) e x apart same = (same a apart.0, tt)
apart_again (a ∷ b ∷ front) e x apart same = (apart.0, apart_again (b ∷ front) e x apart.1 same)

-- a log is empty, or has a last entry
push : (log : List Log) (x : Log) → IsKept log → ((e : Log) → last_of log ≡ Some e → differ e x ≡ true) → Counts x
    → IsKept (log ++ x ∷ [])
push [] x kept other one = record { apart = tt; counts = (one, tt) }
push (a ∷ rest) x kept other one =
    let log : List Log = a ∷ rest in
    let e : Log = get_or log (length log - 1) a in
    let last : last_of log ≡ Some e = slice_get-get_or log (length log - 1) a (omega arith) in
    let parts = ends_with log e last in
    let front : List Log = take (length log - 1) log in
    record {
      apart = subst (λ l. PicksDiffer (l ++ x ∷ [])) (sym parts)
          (apart-push front e x (subst PicksDiffer parts kept.apart) (other e last));
      counts = counts_push log x kept.counts one;
    }

again : (log : List Log) (e x : Log) → IsKept log → last_of log ≡ Some e
    → ((a : Log) → differ a e ≡ true → differ a x ≡ true) → Counts x → IsKept (slice_set log (length log - 1) x)
again log e x kept last same one =
    let parts = ends_with log e last in
    let front : List Log = take (length log - 1) log in
    let new = set_last log x (within log e last) in
    subst IsKept (sym new) (record {
      apart = apart_again front e x (subst PicksDiffer parts kept.apart) same;
      counts = counts_push front x (counts_front front e (subst (AllByRecursion Counts) parts kept.counts)) one;
    })

-- ---- a pick

not_pick : (policy : ℕ) (e : Log) → is_pick_of policy (Some e) ≡ false → differ e (Pick policy 1) ≡ true
not_pick policy (Pick p count) other = ap not other
not_pick policy (Open number address p) other = refl
not_pick policy (Cause number cause) other = refl

same_pick : (policy count p more : ℕ) (a : Log) → p ≡ policy → differ a (Pick p more) ≡ true
    → differ a (Pick policy count) ≡ true
same_pick policy count p more (Pick q n) same apart = ap (λ x. not (q == x)) (sym same) ∙ apart
same_pick policy count p more (Open number address q) same apart = refl
same_pick policy count p more (Cause number cause) same apart = refl

picked_again : (log : List Log) (policy : ℕ) (o : Option Log) → IsKept log → last_of log ≡ o
    → is_pick_of policy o ≡ true → IsKept (slice_set log (length log - 1) (Pick policy (picks_of policy o + 1)))
picked_again log policy None kept last is = absurd (cc)
picked_again log policy (Some (Pick p count)) kept last is =
    let same : p ≡ policy = search (rules, tests) in
    again log (Pick p count) (Pick policy (picks_of policy (Some (Pick p count)) + 1)) kept last
    (λ a apart. same_pick policy _ p count a same apart) (omega arith)
picked_again log policy (Some (Open number address p)) kept last is = absurd (cc)
picked_again log policy (Some (Cause number cause)) kept last is = absurd (cc)

picked_by_bit : (log : List Log) (policy : ℕ) (b : Bool) → IsKept log → is_pick_of policy (last_of log) ≡ b
    → IsKept (cond b (slice_set log (length log - 1) (Pick policy (picks_of policy (last_of log) + 1)))
    (log ++ Pick policy 1 ∷ []))
picked_by_bit log policy true kept is = picked_again log policy (last_of log) kept refl is
picked_by_bit log policy false kept is =
    push log (Pick policy 1) kept (λ e last. not_pick policy e (sym (ap (is_pick_of policy) last) ∙ is)) (omega arith)

judged_kept : (tary : Option ℕ) (log : List Log) → IsKept log → IsKept (picked_by tary log)
judged_kept None log kept = kept
judged_kept (Some word) log kept =
    picked_by_bit log (policy_in word) (is_pick_of (policy_in word) (last_of log)) kept refl

-- ---- an instruction, a table word, a service

either : (b : Bool) (x y : Raw) → IsKept x.base.log → IsKept y.base.log → IsKept (cond b x y).base.log
either true x y p q = p
either false x y p q = q

load_kept : (area : Area) (kind : LoadKind) (rd units : ℕ) (r : Raw) → IsKept r.base.log
    → IsKept (load_at area kind rd units r).base.log
load_kept (Private offset) kind rd units r kept = either (is_aligned (load_width kind) offset) _ _ kept kept
load_kept (TaryId address) kind rd units r kept =
    either (reads_table kind) _ r (either (is_aligned 4 address) _ _ kept kept) kept
load_kept (BaryId slot) kind rd units r kept = either (reads_table kind) _ r kept kept
load_kept Nothing kind rd units r kept = kept

store_kept : (area : Area) (kind : StoreKind) (value : ℕ) (r : Raw) → IsKept r.base.log
    → IsKept (store_at area kind value r).base.log
store_kept (Private offset) kind value r kept = either (is_aligned (store_width kind) offset) _ _ kept kept
store_kept (TaryId address) kind value r kept = kept
store_kept (BaryId slot) kind value r kept = kept
store_kept Nothing kind value r kept = kept

begin_kept : (insn : Insn) (r : Raw) → IsKept r.base.log → IsKept (begin_as insn r).base.log
begin_kept (insns.Lui rd imm) r kept = kept
begin_kept (insns.Auipc rd imm) r kept = kept
begin_kept (insns.Jal rd off) r kept = kept
begin_kept (insns.Jalr rd rs1 imm) r kept = either (rs1 == 31) _ _ (judged_kept r.tary r.base.log kept) kept
begin_kept (insns.Branch c rs1 rs2 off) r kept = kept
begin_kept (insns.Load kind rd rs1 imm) r kept = load_kept (area_of (access_address r rs1 imm)) kind rd _ r kept
begin_kept (insns.Store kind rs1 rs2 imm) r kept = store_kept (area_of (access_address r rs1 imm)) kind _ r kept
begin_kept (insns.OpImm op rd rs1 imm) r kept = kept
begin_kept (insns.Op op rd rs1 rs2) r kept = kept
begin_kept (insns.Fence fields) r kept = kept
begin_kept insns.Ecall r kept = kept
begin_kept insns.Ebreak r kept = judged_kept r.tary r.base.log kept

word_kept : (o : Option Insn) (r : Raw) → IsKept r.base.log → IsKept (begin_by o r).base.log
word_kept None r kept = kept
word_kept (Some insn) r kept = begin_kept insn r kept

open_differs : (e : Log) (number address policy : ℕ) → differ e (Open number address policy) ≡ true
open_differs (Pick p count) number address policy = refl
open_differs (Open n a p) number address policy = refl
open_differs (Cause n c) number address policy = refl

cause_differs : (e : Log) (number cause : ℕ) → differ e (Cause number cause) ≡ true
cause_differs (Pick p count) number cause = refl
cause_differs (Open n a p) number cause = refl
cause_differs (Cause n c) number cause = refl

opened_kept : (s : State) (reply : Reply) (b c : Bool) → IsKept s.log
    → IsKept (cond b (s.log ++ Open (argument s) reply.address reply.policy ∷ [])
    (cond c s.log (s.log ++ Cause (argument s) reply.cause ∷ [])))
opened_kept s reply true c kept = push s.log _ kept (λ e last. open_differs e _ _ _) tt
opened_kept s reply false true kept = kept
opened_kept s reply false false kept = push s.log _ kept (λ e last. cause_differs e _ _) tt

served_kept : (service : Service) (reply : Reply) (s : State) → IsKept s.log → IsKept (served_log service reply s)
served_kept Ends reply s kept = kept
served_kept Puts reply s kept = kept
served_kept Quiets reply s kept = kept
served_kept Opens reply s kept = opened_kept s reply (succeeds reply) (reply.cause == TOO_MANY) kept
served_kept Unknown reply s kept = kept

take_kept : (wait : Option Wait) (r : Raw) (t : Take) → r.waits ≡ wait → IsKept r.base.log
    → IsKept (take_one r t).base.log
take_kept None r (Word word) is kept =
    subst (λ w. IsKept (take_word w r word).base.log) (sym is) (word_kept (insn_of word) r kept)
take_kept (Some (waits.Tary at rd)) r (Word word) is kept =
    subst (λ w. IsKept (take_word w r word).base.log) (sym is) kept
take_kept (Some (waits.Bary slot rd)) r (Word word) is kept =
    subst (λ w. IsKept (take_word w r word).base.log) (sym is) kept
take_kept (Some (waits.Service number)) r (Word word) is kept =
    subst (λ w. IsKept (take_word w r word).base.log) (sym is) kept
take_kept None r (Served reply) is kept = subst (λ w. IsKept (serve_as w r reply).base.log) (sym is) kept
take_kept (Some (waits.Tary at rd)) r (Served reply) is kept =
    subst (λ w. IsKept (serve_as w r reply).base.log) (sym is) kept
take_kept (Some (waits.Bary slot rd)) r (Served reply) is kept =
    subst (λ w. IsKept (serve_as w r reply).base.log) (sym is) kept
take_kept (Some (waits.Service number)) r (Served reply) is kept =
    subst (λ w. IsKept (serve_as w r reply).base.log) (sym is) (served_kept (service_of number) reply r.base kept)

-- and so after any accesses
pub run_kept : (takes : List Take) (r : Raw) → IsKept r.base.log → IsKept (run_of r takes).base.log
run_kept [] r kept = kept
run_kept (t ∷ takes) r kept = run_kept takes (take_one r t) (take_kept r.waits r t refl kept)
