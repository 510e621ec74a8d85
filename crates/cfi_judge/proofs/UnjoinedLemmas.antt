-- Where a start module does not join those before it, no modules are those of a report.
use Rattle.std.proofs.Common.{◌≡◌, ◌≢◌, ℕ, zero, suc, ◌+◌, ◌<◌, Bool, true, false, cond, List, [], ◌∷◌, ◌++◌, length, map, take, drop, Some, refl, sym, ap, subst, ◌∙◌, arith, append_assoc, length-append}
use Rattle.std.specs.List.{slice_get}
use Rattle.std.proofs.lemmas.List.{length-map, length-take-le, map-append, take-map}
use Rattle.std.proofs.lemmas.Option.{slice_get_within}
use Rattle.cfi_aux.specs.declared.modules.Module.{Module}
use Rattle.cfi_aux.specs.declared.placed.Placed.{Placed}
use Rattle.cfi_modules.specs.Order.{AreInOrder, Joins}
use Rattle.cfi_modules.specs.declared.fault.JoinFault.{JoinFault}
use Rattle.cfi_modules.specs.declared.fault.JoinFault.TheVariants as joins
use Rattle.cfi_modules.proofs.OrderLemmas.{joins_or_refused}
use Rattle.cfi_plan.specs.declared.plan.Plan.{Plan}
use Rattle.cfi_plan.specs.declared.plan.PlanModule.{PlanModule}
use Rattle.cfi_report.specs.declared.report.Report.{Report}
use Rattle.cfi_ledger.specs.Opening.{IsStartFault}
use Rattle.cfi_ledger.specs.declared.fault.OpenFault.TheVariants.{NoEntry, Place, Verify}
use Rattle.cfi_ledger.specs.declared.fault.StartFault.{StartFault}
use Rattle.cfi_ledger.specs.declared.fault.StartFault.TheVariants.{Memory, Open}
use Rattle.cfi_valid.specs.Journal.{modules_at, starts_from}
use Rattle.cfi_valid.specs.Kept.{Origin}
use Rattle.cfi_valid.specs.Loaded.{LoadedModule, placed_modules}
use Rattle.cfi_valid.specs.Modules.{gone_before, number_of, origin_of, start_origin, told_origins}
use Rattle.cfi_valid.specs.Opening.{IsFirstUnjoined}
use Rattle.cfi_valid.proofs.OrderLemmas.{order_once}
use Rattle.cfi_judge.specs.Modules.{HasSomeModules}
use Rattle.cfi_judge.proofs.ItemLemmas.{found}
use Rattle.cfi_judge.proofs.ListLemmas.{map_at, parts_same}
use Rattle.cfi_judge.proofs.ModulesLemmas.{has_come}
use Rattle.cfi_judge.proofs.ToldLemmas.{ComeFrom, behind_them, first_placed, many, numbers_told}

-- a list around one of its items
around : {X : Type 0} (xs : List X) (k : ℕ) (x : X) → slice_get xs k ≡ Some x
    → xs ≡ take k xs ++ x ∷ drop (suc k) xs
around [] k x is = absurd (cc)
around {X} (y ∷ xs) zero x is =
    let same : y ≡ x = cc in
    ap (λ (z : X). z ∷ xs) same
around {X} (y ∷ xs) (suc k) x is = ap (λ (zs : List X). y ∷ zs) (around xs k x is)

starts_parts : (n : ℕ) (xs ys : List PlanModule)
    → starts_from n (xs ++ ys) ≡ starts_from n xs ++ starts_from (n + length xs) ys
starts_parts n [] ys = ap (λ (k : ℕ). starts_from k ys) (omega arith)
starts_parts n (x ∷ xs) ys =
    let rest = starts_parts (n + 1) xs ys
    ∙ ap (λ (k : ℕ). starts_from (n + 1) xs ++ starts_from k ys) (omega arith) in
    elim x.start as (λ b. cond b (n ∷ starts_from (n + 1) (xs ++ ys)) (starts_from (n + 1) (xs ++ ys))
    ≡ cond b (n ∷ starts_from (n + 1) xs) (starts_from (n + 1) xs) ++ starts_from (n + length (x ∷ xs)) ys) [
      | true ↦ ap (λ (ns : List ℕ). n ∷ ns) rest
      | false ↦ rest
    ]

numbers_back : (ns : List ℕ) → map (λ (o : Origin). o.number) (map start_origin ns) ≡ ns
numbers_back [] = refl
numbers_back (n ∷ ns) = ap (λ (ms : List ℕ). n ∷ ms) (numbers_back ns)

module _ (plan : Plan) (modules : List Module) (report : Report) (has : HasSomeModules plan modules report)
    (number : ℕ) (fault : JoinFault) (first : IsFirstUnjoined plan modules number fault) where
  abbrev before : List ℕ
  before = starts_from 0 (take number plan.modules)

  abbrev later : List ℕ
  later = starts_from (number + 1) (drop (suc number) plan.modules)

  starts_are : starts_from 0 plan.modules ≡ before ++ number ∷ later
  starts_are =
      let within = slice_get_within plan.modules number first.line first.line_is in
      let long : length (take number plan.modules) ≡ number =
      length-take-le number plan.modules (omega (arith, within)) in
      ap (starts_from 0) (around plan.modules number first.line first.line_is)
      ∙ starts_parts 0 (take number plan.modules) (first.line ∷ drop (suc number) plan.modules)
      ∙ ap (λ (k : ℕ). before ++ starts_from k (first.line ∷ drop (suc number) plan.modules)) (omega (arith, long))
      ∙ ap (λ (b : Bool). before ++ cond b (number ∷ later) later) first.starts

  abbrev gone : List (List ℕ)
  gone = gone_before [] report.journal

  come : ComeFrom plan modules (told_origins report.journal) gone has.0
  come = has_come plan modules report has.0 has.1

  within : length before < length has.0
  within =
      omega (
        arith,
        many plan modules (told_origins report.journal) gone has.0 come,
        ap (λ (ns : List ℕ). length ns) starts_are,
        length-append before (number ∷ later),
      )

  abbrev one : LoadedModule
  one = (found has.0 (length before) within).0

  abbrev these : List LoadedModule
  these = take (length before) has.0

  abbrev those : List LoadedModule
  those = drop (suc (length before)) has.0

  here : has.0 ≡ these ++ one ∷ those
  here = around has.0 (length before) one (found has.0 (length before) within).1

  split : ComeFrom plan modules (told_origins report.journal) gone (these ++ one ∷ those)
  split = subst (ComeFrom plan modules (told_origins report.journal) gone) here come

  so_many : length these ≡ length before
  so_many = length-take-le (length before) has.0 (omega (arith, within))

  origins : (map origin_of these ≡ map start_origin before)
      × (origin_of one ∷ map origin_of those
      ≡ start_origin number ∷ (map start_origin later ++ told_origins report.journal))
  origins =
      parts_same (map origin_of these) (map origin_of (one ∷ those)) (map start_origin before)
      (start_origin number ∷ (map start_origin later ++ told_origins report.journal))
      (length-map these origin_of ∙ so_many ∙ sym (length-map before start_origin))
      (sym (map-append origin_of these (one ∷ those)) ∙ split.origins
      ∙ ap (λ (ns : List ℕ). map start_origin ns ++ told_origins report.journal) starts_are
      ∙ ap (λ (os : List Origin). os ++ told_origins report.journal)
      (map-append start_origin before (number ∷ later))
      ∙ append_assoc (map start_origin before) (map start_origin (number ∷ later)) (told_origins report.journal))

  numbers : map number_of these ≡ before
  numbers =
      numbers_told plan modules these
      ∙ ap (λ (os : List Origin). map (λ (o : Origin). o.number) os) origins.0
      ∙ numbers_back before

  is_number : one.number ≡ number
  is_number =
      let same = origins.1 in
      let head : origin_of one ≡ start_origin number = cc in
      ap (λ (o : Origin). o.number) head

  few : length before < length (starts_from 0 plan.modules)
  few = omega (arith, ap (λ (ns : List ℕ). length ns) starts_are, length-append before (number ∷ later))

  order : AreInOrder plan.code_words (modules_at modules before) (placed_modules these)
  order =
      let placed = first_placed plan modules gone these (one ∷ those) split.places in
      subst (λ (ns : List ℕ). AreInOrder plan.code_words (modules_at modules ns) (placed_modules these)) numbers
      (record {
        count = length-map these (λ (l : LoadedModule). l.placed) ∙ placed.count;
        joins = λ k m p is_m is_p.
            let inside : k < length these =
            omega (
              arith,
              slice_get_within (placed_modules these) k p is_p,
              length-map these (λ (l : LoadedModule). l.placed),
            ) in
            let it = found these k inside in
            let both : Some it.0.placed ≡ Some p =
            sym (map_at (λ (l : LoadedModule). l.placed) these k it.0 it.1) ∙ is_p in
            let same : it.0.placed ≡ p = cc in
            subst (λ (x : Placed).
            Joins plan.code_words (take k (placed_modules these)) (take k (placed_modules these)) m x) same
            (subst (λ (ps : List Placed). Joins plan.code_words ps ps m it.0.placed)
            (sym (take-map (λ (l : LoadedModule). l.placed) k these))
            (placed.starts_join k m it.0 (omega (arith, inside, so_many, few)) is_m it.1));
      })

  joined : Joins plan.code_words first.before first.before first.unplaced one.placed
  joined =
      let places : placed_modules these ≡ first.before =
      order_once plan.code_words (modules_at modules before) (placed_modules these) first.before order first.order in
      let behind = behind_them plan modules gone these one those split.places in
      let there : slice_get modules number ≡ Some behind.unplaced =
      ap (slice_get modules) (sym is_number) ∙ behind.is in
      let same : behind.unplaced ≡ first.unplaced = cc (there, first.is) in
      subst (λ (m : Module). Joins plan.code_words first.before first.before m one.placed) same
      (subst (λ (ps : List Placed). Joins plan.code_words ps ps behind.unplaced one.placed) places
      (behind.joins (omega (arith, so_many, few))))

  pub only_memory : fault ≡ joins.Memory
  only_memory = joins_or_refused plan.code_words first.before first.before first.unplaced one.placed fault joined
      first.why

-- a start fault that is none of memory, nor of a guest
pub never_told : (plan : Plan) (modules : List Module) (report : Report) (fault : StartFault)
    → IsStartFault plan modules fault → ((guest : ℕ) → fault ≢ Open (NoEntry guest)) → fault ≢ Memory
    → ¬ HasSomeModules plan modules report
never_told plan modules report (Open (Place number fault)) first found some has =
    let same = only_memory plan modules report has number (joins.Place fault) first in
    cc
never_told plan modules report (Open (Verify number fault)) first found some has =
    let same = only_memory plan modules report has number (joins.Verify fault) first in
    cc
never_told plan modules report (Open (NoEntry guest)) first found some has = found guest refl
never_told plan modules report Memory first found some has = some refl
