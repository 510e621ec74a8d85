-- A journal leads to one state, and one line more is one fact more.
use Rattle.std.proofs.Common.{◌≡◌, ℕ, ◌++◌, List, [], ◌∷◌, length, map, Some, All, refl, sym, ap, subst, ◌∙◌, arith}
use Rattle.std.proofs.lemmas.List.{length-map}
use Rattle.std.proofs.lemmas.List.Elements.{All-head, All-tail}
use Rattle.cfi_aux.specs.declared.modules.Module.{Module}
use Rattle.cfi_aux.specs.declared.placed.Placed.{Placed}
use Rattle.cfi_plan.specs.declared.journal.Entry.{Entry}
use Rattle.cfi_plan.specs.declared.journal.JournalLine.{JournalLine}
use Rattle.cfi_plan.specs.declared.journal.JournalLine.TheVariants.{LoadOk, LoadAgain, LoadFull, LoadPlace, LoadVerify, LoadVersions, LoadEpochs, LoadRetired, RefreshOk, RefreshVersions, RefreshEpochs, RetireOk, RetireNotLive, RetireInUse, RetireVersions, RetireEpochs}
use Rattle.cfi_plan.specs.declared.plan.Plan.{Plan}
use Rattle.cfi_modules.specs.Order.{Joins}
use Rattle.cfi_modules.proofs.OrderLemmas.{joins_once}
use Rattle.cfi_valid.specs.Journal.{JournalState, live_in, IsClean, with_loaded, IsOpeningState, starts_from, modules_at, EntryLeads, LineLeads, EntriesLead, IsJournal}
use Rattle.cfi_valid.specs.Loaded.{LoadedModule, placed_modules}
use Rattle.cfi_valid.proofs.OrderLemmas.{order_once}

module _ (plan : Plan) (modules : List Module) where
  -- ---- one line more

  pub along_more : (old : JournalState) (entries : List Entry) (entry : Entry) (mid new : JournalState)
      → EntriesLead plan modules old entries mid → EntryLeads plan modules mid entry new
      → EntriesLead plan modules old (entries ++ entry ∷ []) new
  along_more old [] entry mid new along leads =
      (new, subst (λ (s : JournalState). EntryLeads plan modules s entry new) along leads, refl)
  along_more old (first ∷ entries) entry mid new along leads =
      (along.0, along.1, along_more along.0 entries entry mid new along.2 leads)

  pub along_last : (old : JournalState) (entries : List Entry) (entry : Entry) (new : JournalState)
      → EntriesLead plan modules old (entries ++ entry ∷ []) new
      → (mid : JournalState) × EntriesLead plan modules old entries mid × EntryLeads plan modules mid entry new
  along_last old [] entry new along =
      (old, refl, subst (λ (s : JournalState). EntryLeads plan modules old entry s) (sym along.2) along.1)
  along_last old (first ∷ entries) entry new along =
      let rest = along_last along.0 entries entry new along.2 in (rest.0, (along.0, along.1, rest.1), rest.2)

  -- ---- one state

  -- a module joins as one placed module
  pub clean_once : (s : JournalState) (number : ℕ) (a b : IsClean plan modules s number) → a.placed ≡ b.placed
  clean_once s number a b =
      let both : Some a.absent.unplaced ≡ Some b.absent.unplaced = sym a.absent.is ∙ b.absent.is in
      let same : a.absent.unplaced ≡ b.absent.unplaced = cc in
      joins_once plan.code_words (placed_modules s.loaded) (placed_modules (live_in s)) b.absent.unplaced a.placed
      b.placed
      (subst
      (λ (m : Module). Joins plan.code_words (placed_modules s.loaded) (placed_modules (live_in s)) m a.placed) same
      a.joins) b.joins

  leads_by_once : (old : JournalState) (line : JournalLine) (a b : JournalState) → LineLeads plan modules old line a
      → LineLeads plan modules old line b → a ≡ b
  leads_by_once old (LoadOk number epoch policy) a b p q =
      p.1 ∙ ap (λ (placed : Placed). with_loaded number epoch policy placed old)
      (clean_once old number p.0.clean q.0.clean) ∙ sym q.1
  leads_by_once old (LoadAgain number policy) a b p q = p.1 ∙ sym q.1
  leads_by_once old (LoadFull number) a b p q = p.1 ∙ sym q.1
  leads_by_once old (LoadPlace number fault) a b p q = p.1 ∙ sym q.1
  leads_by_once old (LoadVerify number fault place) a b p q = p.1 ∙ sym q.1
  leads_by_once old (LoadVersions number guest quiet) a b p q = p.2 ∙ sym q.2
  leads_by_once old (LoadEpochs number) a b p q = p.2 ∙ sym q.2
  leads_by_once old (LoadRetired number) a b p q = p.1 ∙ sym q.1
  leads_by_once old (RefreshOk epoch) a b p q = p.1 ∙ sym q.1
  leads_by_once old (RefreshVersions guest quiet) a b p q = p.1 ∙ sym q.1
  leads_by_once old RefreshEpochs a b p q = p.1 ∙ sym q.1
  leads_by_once old (RetireOk number epoch policy) a b p q = p.1 ∙ sym q.1
  leads_by_once old (RetireNotLive number) a b p q = p.1 ∙ sym q.1
  leads_by_once old (RetireInUse number user) a b p q = p.1 ∙ sym q.1
  leads_by_once old (RetireVersions number guest quiet) a b p q = p.2 ∙ sym q.2
  leads_by_once old (RetireEpochs number) a b p q = p.2 ∙ sym q.2

  pub leads_once : (old : JournalState) (entry : Entry) (a b : JournalState) → EntryLeads plan modules old entry a
      → EntryLeads plan modules old entry b → a ≡ b
  leads_once old entry a b p q = leads_by_once old entry.what a b p.1 q.1

  pub along_once : (old : JournalState) (entries : List Entry) (a b : JournalState)
      → EntriesLead plan modules old entries a → EntriesLead plan modules old entries b → a ≡ b
  along_once old [] a b p q = p ∙ sym q
  along_once old (entry ∷ entries) a b p q =
      let same : p.0 ≡ q.0 = leads_once old entry p.0 q.0 p.1 q.1 in
      along_once q.0 entries a b (subst (λ (s : JournalState). EntriesLead plan modules s entries a) same p.2) q.2

-- ---- one opening

-- loaded modules are told by their numbers, their places and their policies
pub loaded_same : (xs ys : List LoadedModule)
    → map (λ (l : LoadedModule). l.number) xs ≡ map (λ (l : LoadedModule). l.number) ys
    → placed_modules xs ≡ placed_modules ys
    → map (λ (l : LoadedModule). l.policy) xs ≡ map (λ (l : LoadedModule). l.policy) ys
    → xs ≡ ys
loaded_same [] [] numbers placed policies = refl
loaded_same [] (y ∷ ys) numbers placed policies = absurd (cc)
loaded_same (x ∷ xs) [] numbers placed policies = absurd (cc)
loaded_same (x ∷ xs) (y ∷ ys) numbers placed policies =
    let number : x.number ≡ y.number = cc in
    let place : x.placed ≡ y.placed = cc in
    let policy : x.policy ≡ y.policy = cc in
    let x_is : x ≡ record { number = x.number; placed = x.placed; policy = x.policy } = refl in
    let y_is : y ≡ record { number = y.number; placed = y.placed; policy = y.policy } = refl in
    let first : x ≡ y = cc in
    let numbers' : map (λ (l : LoadedModule). l.number) xs ≡ map (λ (l : LoadedModule). l.number) ys = cc in
    let placed' : placed_modules xs ≡ placed_modules ys = cc in
    let policies' : map (λ (l : LoadedModule). l.policy) xs ≡ map (λ (l : LoadedModule). l.policy) ys = cc in
    let rest : xs ≡ ys = loaded_same xs ys numbers' placed' policies' in
    cc

-- it is there from the start
abbrev IsFirst : LoadedModule → Type 0
IsFirst l = l.policy ≡ 0

-- as many policies of 0
policies_same : (xs ys : List LoadedModule) → length xs ≡ length ys → All IsFirst xs → All IsFirst ys
    → map (λ (l : LoadedModule). l.policy) xs ≡ map (λ (l : LoadedModule). l.policy) ys
policies_same [] [] same p q = refl
policies_same [] (y ∷ ys) same p q = absurd (omega (arith, same))
policies_same (x ∷ xs) [] same p q = absurd (omega (arith, same))
policies_same (x ∷ xs) (y ∷ ys) same p q =
    let here : x.policy ≡ 0 = All-head IsFirst x xs p in
    let there : y.policy ≡ 0 = All-head IsFirst y ys q in
    let rest = policies_same xs ys (omega (arith, same)) (All-tail IsFirst x xs p) (All-tail IsFirst y ys q) in
    cc

pub opening_once : (plan : Plan) (modules : List Module) (a b : JournalState) → IsOpeningState plan modules a
    → IsOpeningState plan modules b → a ≡ b
opening_once plan modules a b p q =
    let placed : placed_modules a.loaded ≡ placed_modules b.loaded =
    order_once plan.code_words (modules_at modules (starts_from 0 plan.modules)) (placed_modules a.loaded)
    (placed_modules b.loaded) p.order q.order in
    let numbers = p.starts ∙ sym q.starts in
    let count : length a.loaded ≡ length b.loaded =
    sym (length-map a.loaded (λ (l : LoadedModule). l.placed))
    ∙ ap (λ (ps : List Placed). length ps) placed
    ∙ length-map b.loaded (λ (l : LoadedModule). l.placed) in
    let loaded : a.loaded ≡ b.loaded =
    loaded_same a.loaded b.loaded numbers placed (policies_same a.loaded b.loaded count p.policies q.policies) in
    let epoch : a.epoch ≡ b.epoch = p.epoch ∙ sym q.epoch in
    let policy : a.policy ≡ b.policy = p.policy ∙ sym q.policy in
    let retired : a.retired ≡ b.retired = p.stay ∙ sym q.stay in
    let a_is : a ≡ record { epoch = a.epoch; policy = a.policy; loaded = a.loaded; retired = a.retired } = refl in
    let b_is : b ≡ record { epoch = b.epoch; policy = b.policy; loaded = b.loaded; retired = b.retired } = refl in
    cc

pub journal_once : (plan : Plan) (modules : List Module) (journal : List Entry) (a b : JournalState)
    → IsJournal plan modules journal a → IsJournal plan modules journal b → a ≡ b
journal_once plan modules journal a b p q =
    let same = opening_once plan modules p.opening q.opening p.opens q.opens in
    along_once plan modules q.opening journal a b
    (subst (λ (s : JournalState). EntriesLead plan modules s journal a) same p.leads) q.leads
