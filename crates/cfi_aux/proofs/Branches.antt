-- Records of branches are read exactly as they are spelled. The length of the data, within which cells are to lie, may be
-- known or not.
use Rattle.std.proofs.Common.{◌≡◌, ℕ, ◌≤◌, Bool, true, leb, IsTrue, List, ◌++◌, Option, refl, sym, ap, subst, ◌∙◌, arith}
use Rattle.std.proofs.lemmas.Bool.{leb-true, le-leb}
use Rattle.std.proofs.lemmas.Bool.Decides.{nat_tests}
use Rattle.cfi_type_table.specs.Node.{Node}
use Rattle.cfi_type_table.specs.Spelling.{word}
use Rattle.cfi_word.specs.declared.limits.TheConstants.{MAX_ENTRIES}
use Rattle.cfi_aux.specs.declared.fault.AuxFault.TheVariants.{BadRecord}
use Rattle.cfi_aux.specs.declared.records.Kind.{Kind}
use Rattle.cfi_aux.specs.Format.{has_count}
use Rattle.cfi_aux.specs.declared.version.RecordVersion.{RecordVersion}
use Rattle.cfi_aux.specs.Version.{last_kind}
use Rattle.cfi_aux.specs.Records.{kind_number, body_bytes, word_count, branch_bytes, IsBranchIn}
use Rattle.cfi_aux.specs.Reading.{Reader, word_where, and_with}
use Rattle.cfi_aux.specs.Fault.{body_at, branch_at}
use Rattle.cfi_aux.proofs.Formats.{Reads, Reads-with, Agree, Reads-as}
use Rattle.cfi_aux.proofs.Words.{Passes, Reads-word}
use Rattle.cfi_aux.proofs.Bodies.{fits_cell, IsBody, last_at_most, Reads-body}

-- a branch of a version, whose cell fits
pub record IsBranchOf (version : RecordVersion) (types : List Node) (size : Option ℕ) (b : Kind) : Type 0 where
  pub is : IsBranchIn version types b
  pub cell : IsTrue (fits_cell size b)

-- a branch as it is read: its kind, the number of its words, and what it is
abbrev Counted : Type 0
Counted = ℕ × (ℕ × Kind)

abbrev is_known : RecordVersion → ℕ → Bool
is_known version kind = leb kind (last_kind version)

abbrev counted_bytes : Counted → List ℕ
counted_bytes x = word x.0 ++ (word x.1.0 ++ body_bytes x.1.1)

abbrev IsCounted : (version : RecordVersion) (types : List Node) (size : Option ℕ) → Counted → Type 0
IsCounted version types size x =
    Passes (is_known version) x.0 × (Passes (has_count x.0) x.1.0 × IsBody version types size x.0 x.1.0 x.1.1)

abbrev counted_of : Kind → Counted
counted_of b = (kind_number b, (word_count b, b))

number_known : (version : RecordVersion) (kind : ℕ) → kind ≤ last_kind version → Passes (is_known version) kind
number_known version kind le =
    let known = le-leb kind (last_kind version) le in
    let small = last_at_most version kind known in
    (omega arith, known)

pub few_words : (kind n : ℕ) → has_count kind n ≡ true → n ≤ MAX_ENTRIES
few_words kind n h = grind (arith, nat_tests)

branches_agree : (version : RecordVersion) (types : List Node) (size : Option ℕ)
    → Agree Counted Kind counted_bytes (IsCounted version types size) branch_bytes (IsBranchOf version types size)
    (λ x. x.1.1) counted_of
branches_agree version types size = record {
  spelled = λ x h. let number = h.1.1.number in let count = h.1.1.count in
      ap (λ (kind : ℕ). word kind ++ (word (word_count x.1.1) ++ body_bytes x.1.1)) number
      ∙ ap (λ (n : ℕ). word x.0 ++ (word n ++ body_bytes x.1.1)) count;
  viewed = λ x h. record {
    is = record {
      kind = subst (λ (kind : ℕ). kind ≤ last_kind version) (sym h.1.1.number) (leb-true x.0 (last_kind version) h.0.1);
      count = subst (λ (kind : ℕ). has_count kind (word_count x.1.1) ≡ true) (sym h.1.1.number)
          (subst (λ (n : ℕ). has_count x.0 n ≡ true) (sym h.1.1.count) h.1.0.1);
      words = h.1.1.words;
      named = h.1.1.named;
    };
    cell = h.1.1.cell;
  };
  good_back = λ b h. (
    number_known version (kind_number b) h.is.kind,
    (
      (omega (arith, few_words (kind_number b) (word_count b) h.is.count), h.is.count),
      record { number = refl; count = refl; words = h.is.words; named = h.is.named; cell = h.cell },
    ),
  );
  view_back = λ b h. refl;
}

pub Reads-branch : (version : RecordVersion) (types : List Node) (size : Option ℕ) (k : ℕ)
    → Reads Kind branch_bytes (IsBranchOf version types size) (branch_at version types size k)
unfolding branch_at
Reads-branch version types size k =
    let bad = BadRecord k in
    let known = is_known version in
    let body : ℕ → ℕ → Reader Kind = λ kind n. body_at version types size k kind n in
    let rest : ℕ → Reader (ℕ × Kind) = λ kind. and_with (word_where (has_count kind) bad) (body kind) in
    Reads-as counted_bytes (IsCounted version types size) (and_with (word_where known bad) rest) branch_bytes
    (IsBranchOf version types size) (λ x. x.1.1) counted_of (branches_agree version types size)
    (Reads-with word (Passes known) (word_where known bad) (λ kind x. word x.0 ++ body_bytes x.1)
    (λ kind x. Passes (has_count kind) x.0 × IsBody version types size kind x.0 x.1) rest (Reads-word known bad)
    (λ kind passes. Reads-with word (Passes (has_count kind)) (word_where (has_count kind) bad)
    (λ n b. body_bytes b) (λ n b. IsBody version types size kind n b) (body kind) (Reads-word (has_count kind) bad)
    (λ n counted. Reads-body version types size k kind n passes.1 counted.1)))
