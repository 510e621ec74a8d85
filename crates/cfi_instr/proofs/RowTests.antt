-- What the tests of the rows decide: which modules can be instrumented, and the first fault of one that can not.
use Rattle.std.proofs.Common.{◌≡◌, ℕ, ◌+◌, ◌*◌, ◌<◌, ◌≤◌, ◌∙◌, Bool, false, List, length, Option, refl, ap, sym, inl, inr, ⊎_elim, arith}
use Rattle.std.proofs.lemmas.Bool.{both_ways, cases_lt}
use Rattle.elf_read.specs.Places.{IsFirst, IsNone}
use Rattle.elf_read.specs.Lists.{own_number}
use Rattle.rv_insn.specs.declared.insn.Insn.{Insn}
use Rattle.cfi_aux.specs.declared.records.Function.{Function}
use Rattle.cfi_aux.specs.declared.records.Kind.{Kind}
use Rattle.cfi_instr.specs.Words.{Words, count_of}
use Rattle.cfi_instr.specs.Insns.{OfInsn, IsInsn, NamesFree, IsNoTrap, LinksWell}
use Rattle.cfi_instr.specs.Functions.{IsFormedBehind}
use Rattle.cfi_instr.specs.Relocs.{IsRelocPlacedBehind}
use Rattle.cfi_instr.specs.Leads.{WordLeadsWell}
use Rattle.cfi_instr.specs.Jumps.{HasRecord, SwitchFits}
use Rattle.cfi_instr.specs.Fault.{Input, HasGoodWords, HasGoodShape, HasGoodJumps, IsInstrumentable, word_place, IsFirstWord, IsFirstMalformed, IsFirstBare}
use Rattle.cfi_instr.specs.inner.Flaws.{is_illegal_at, is_reserved_at, is_trap_at, is_bad_link_at}
use Rattle.cfi_instr.specs.inner.Functions.{is_malformed, falls_through}
use Rattle.cfi_instr.specs.inner.Stray.{is_stray}
use Rattle.cfi_instr.proofs.DecideLemmas.{Decides, each-from, none-from, break-from}
use Rattle.cfi_instr.proofs.WordTests.{legal, free, quiet, linked}
use Rattle.cfi_instr.proofs.FunctionTests.{formed, end-holds, end-clear, ends}
use Rattle.cfi_instr.proofs.LeadTests.{targets}
use Rattle.cfi_instr.proofs.JumpTests.{records, used-holds, used-clear, switches}
use Rattle.cfi_instr.proofs.RelocTests.{placed}
use Rattle.cfi_instr.proofs.RelocLemmas.{is_out_of_place}
use Rattle.cfi_instr.proofs.JumpLemmas.{lacks_kind, has_bad_switch}

-- ---- inputs that pass the tests of some rows

pub record PassesWords (t : Words) : Type 0 where
  pub legal : IsNone (is_illegal_at t) (count_of t)
  pub free : IsNone (is_reserved_at t) (count_of t)
  pub quiet : IsNone (is_trap_at t) (count_of t)
  pub linked : IsNone (is_bad_link_at t) (count_of t)

-- and those of relocations and functions
pub record PassesShape (p : Input) : Type 0 where
  pub words : PassesWords p.words
  pub relocs : IsNone (is_out_of_place p.words p.symbols p.functions p.relocs) (length p.relocs)
  pub functions : IsNone (is_malformed p.words p.functions) (length p.functions + 1)

-- and those of jumps and their records
pub record PassesJumps (p : Input) : Type 0 where
  pub shaped : PassesShape p
  pub stray : IsNone (is_stray p.words p.symbols p.functions) (count_of p.words)
  pub kinds : IsNone (lacks_kind p.words p.branches) (count_of p.words + 1)

-- and all others
pub record PassesAll (p : Input) : Type 0 where
  pub linked : PassesJumps p
  pub switches : IsNone (has_bad_switch p.words p.functions p.branches) (count_of p.words)
  pub ends : IsNone (falls_through p.words p.functions) (length p.functions)

-- a row of one place more, after those of a list
none-more : (test : ℕ → Bool) (n : ℕ) → IsNone test n → test n ≡ false → IsNone test (n + 1)
none-more test n none last j less =
    ⊎_elim (λ (low : j < n). none j low)
    (λ (high : n ≤ j). let same : j ≡ n = omega (arith, high, less) in ap test same ∙ last) (cases_lt j n)

none-fewer : (test : ℕ → Bool) (n : ℕ) → IsNone test (n + 1) → IsNone test n
none-fewer test n none j less = none j (omega (arith, less))

-- ---- words

module _ (t : Words) where
  pub words-good : PassesWords t → HasGoodWords t
  words-good p = record {
    legal = each-from t.insns (is_illegal_at t) IsInsn (legal t) p.legal;
    free = each-from t.insns (is_reserved_at t) (OfInsn NamesFree) (free t) p.free;
    quiet = each-from t.insns (is_trap_at t) (OfInsn IsNoTrap) (quiet t) p.quiet;
    linked = each-from t.insns (is_bad_link_at t) (OfInsn LinksWell) (linked t) p.linked;
  }

  pub good-words : HasGoodWords t → PassesWords t
  good-words g = record {
    legal = none-from t.insns (is_illegal_at t) IsInsn (legal t) g.legal;
    free = none-from t.insns (is_reserved_at t) (OfInsn NamesFree) (free t) g.free;
    quiet = none-from t.insns (is_trap_at t) (OfInsn IsNoTrap) (quiet t) g.quiet;
    linked = none-from t.insns (is_bad_link_at t) (OfInsn LinksWell) (linked t) g.linked;
  }

  -- the first word that passes a test is the first of which what it decides does not hold
  pub word-from : (test : ℕ → Bool) (P : ℕ → Option Insn → Type 0) → Decides t.insns test P → (w : ℕ)
      → IsFirst test (count_of t) w → IsFirstWord t P (4 * w)
  word-from test P d w first =
      break-from t.insns test P d word_place w (4 * w) first.within first.here first.before (λ x. refl)

-- ---- the whole input

module _ (p : Input) where
  abbrev t : Words
  t = p.words

  abbrev pub places_well : Decides p.relocs (is_out_of_place t p.symbols p.functions p.relocs)
      (IsRelocPlacedBehind t p.symbols p.functions p.relocs)
  places_well = placed t p.symbols p.functions p.relocs

  abbrev pub forms_well : Decides p.functions (is_malformed t p.functions) (IsFormedBehind t p.functions)
  forms_well = formed t p.functions

  abbrev pub leads_well : Decides t.insns (is_stray t p.symbols p.functions) (WordLeadsWell t p.symbols p.functions)
  leads_well = targets t p.symbols p.functions

  abbrev pub has_record : Decides t.insns (lacks_kind t p.branches) (HasRecord t p.branches)
  has_record = records t p.branches

  abbrev pub switch_fits : Decides t.insns (has_bad_switch t p.functions p.branches) (SwitchFits t p.functions p.branches)
  switch_fits = switches t p.functions p.branches

  shape-good : PassesShape p → HasGoodShape p
  shape-good s = record {
    words = words-good t s.words;
    relocs = each-from p.relocs _ _ places_well s.relocs;
    functions = each-from p.functions _ _ forms_well (none-fewer _ (length p.functions) s.functions);
    padding = end-holds t p.functions (s.functions (length p.functions) (omega arith));
  }

  good-shape : HasGoodShape p → PassesShape p
  good-shape g = record {
    words = good-words t g.words;
    relocs = none-from p.relocs _ _ places_well g.relocs;
    functions =
        none-more _ (length p.functions) (none-from p.functions _ _ forms_well g.functions)
        (end-clear t p.functions g.padding);
  }

  jumps-good : PassesJumps p → HasGoodJumps p
  jumps-good j = record {
    shaped = shape-good j.shaped;
    targets = each-from t.insns _ _ leads_well j.stray;
    records = each-from t.insns _ _ has_record (none-fewer _ (count_of t) j.kinds);
    used = used-holds t p.branches (j.kinds (count_of t) (omega arith));
  }

  good-jumps : HasGoodJumps p → PassesJumps p
  good-jumps g = record {
    shaped = good-shape g.shaped;
    stray = none-from t.insns _ _ leads_well g.targets;
    kinds =
        none-more _ (count_of t) (none-from t.insns _ _ has_record g.records) (used-clear t p.branches g.used);
  }

  pub instrumentable : PassesAll p → IsInstrumentable p
  instrumentable a = record {
    jumps = jumps-good a.linked;
    switches = each-from t.insns _ _ switch_fits a.switches;
    ends = each-from p.functions _ _ (ends t p.functions) a.ends;
  }

  pub passes : IsInstrumentable p → PassesAll p
  passes i = record {
    linked = good-jumps i.jumps;
    switches = none-from t.insns _ _ switch_fits i.switches;
    ends = none-from p.functions _ _ (ends t p.functions) i.ends;
  }

-- ---- the first that fails

module _ (t : Words) where
  pub malformed-first : (functions : List Function) (k : ℕ)
      → IsFirst (is_malformed t functions) (length functions + 1) k → IsFirstMalformed t functions k
  malformed-first functions k first =
      ⊎_elim
      (λ (inside : k < length functions).
      inl (break-from functions _ _ (formed t functions) own_number k k inside first.here first.before (λ x. refl)))
      (λ (past : length functions ≤ k).
      let last : k ≡ length functions = omega (arith, past, first.within) in
      inr (
        last,
        each-from functions _ _ (formed t functions) (λ j less. first.before j (omega (arith, less, last))),
        λ pad. both_ways _ (end-clear t functions pad) (ap (is_malformed t functions) (sym last) ∙ first.here),
      ))
      (cases_lt k (length functions))

  pub bare-first : (branches : List Kind) (w : ℕ) → IsFirst (lacks_kind t branches) (count_of t + 1) w
      → IsFirstBare t branches (4 * w)
  bare-first branches w first =
      ⊎_elim
      (λ (inside : w < count_of t).
      inl
      (break-from t.insns _ _ (records t branches) word_place w (4 * w) inside first.here first.before (λ x. refl)))
      (λ (past : count_of t ≤ w).
      let last : w ≡ count_of t = omega (arith, past, first.within) in
      inr (
        ap (λ (n : ℕ). 4 * n) last,
        each-from t.insns _ _ (records t branches) (λ j less. first.before j (omega (arith, less, last))),
        λ used. both_ways _ (used-clear t branches used) (ap (lacks_kind t branches) (sym last) ∙ first.here),
      ))
      (cases_lt w (count_of t))
