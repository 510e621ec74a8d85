-- The converse: what `insn_of` answers, the word is.
use Rattle.std.proofs.Common.{◌≡◌, ℕ, ◌+◌, ◌-◌, ◌*◌, ◌/◌, ◌%◌, ◌^◌, ◌<◌, Bool, true, eqb, cond, List, [], ◌∷◌, Option, Some, None, refl, sym, subst, ◌∙◌, inl, inr, arith, rules, tests}
use Rattle.std.specs.Prelude.{find, option_map, ◌&&◌, IfSome}
use Rattle.std.proofs.lemmas.Bool.{cases_Bool, cases_eq, cases_lt, eqb-true, and_parts, lt-ltb, le-ltb}
use Rattle.rv_insn.specs.declared.insn.Insn.{Insn}
use Rattle.rv_insn.specs.declared.insn.Insn.TheVariants as insns
use Rattle.rv_insn.specs.declared.insn.Cond.{Cond}
use Rattle.rv_insn.specs.declared.insn.LoadKind.{LoadKind}
use Rattle.rv_insn.specs.declared.insn.StoreKind.{StoreKind}
use Rattle.rv_insn.specs.declared.insn.ImmOp.{ImmOp}
use Rattle.rv_insn.specs.declared.insn.Op.{Op}
use Rattle.rv_insn.specs.declared.opcode.TheConstants as opcodes
use Rattle.rv_insn.specs.Rows.{cond_funct3, load_funct3, store_funct3, imm_funct3, imm_funct7, op_funct3, op_funct7}
use Rattle.rv_insn.specs.Word.{IsSigned, IsEven, low_bits}
use Rattle.rv_insn.specs.Fields.{fields_at, signed, imm_i_at, imm_s_at, imm_b_at, imm_u_at, imm_j_at}
use Rattle.rv_insn.specs.Insn.{IsWord, IsImmOf, imm_word}
use Rattle.rv_insn.specs.InsnOf.{conds, load_kinds, store_kinds, imm_ops, ops, insn_of, row_of, cond_at, load_at, store_at, imm_op_at, op_at, imm_value, allows_funct7, system_row}
use Rattle.rv_insn.proofs.InsnOfLemmas.{insn_of-by}

-- what a search finds passes the test
found : {X : Type 0} (p : X → Bool) (xs : List X) (x : X) → find p xs ≡ Some x → p x ≡ true
found p [] x e = cc
found p (y ∷ ys) x e =
    elim (cases_Bool (p y)) [
      | inl t ↦ let same : y ≡ x = (let h = rw t at e in cc) in subst (λ z. p z ≡ true) same t
      | inr f ↦ found p ys x (rw f at e)
    ]

-- what a map over an option gives comes from its value
mapped : {X Y : Type 0} (f : X → Y) (o : Option X) (y : Y) → option_map f o ≡ Some y →
    (x : X) × (o ≡ Some x) × (f x ≡ y)
mapped f None y e = absurd (cc)
mapped f (Some x) y e = (x, refl, (cc))

-- the bits of a signed number, and its range
signed-bits : (half n : ℕ) → n < 2 * half → low_bits (2 * half) (signed half n) ≡ n
signed-bits half n h =
    elim (cases_lt n half) [
      | inl lt ↦ rw (lt-ltb n half lt) refl
      | inr ge ↦ rw (le-ltb n half ge) (omega arith)
    ]

signed-range : (half n : ℕ) → n < 2 * half → IsSigned half (signed half n)
signed-range half n h =
    elim (cases_lt n half) [
      | inl lt ↦ rw (lt-ltb n half lt) lt
      | inr ge ↦ rw (le-ltb n half ge) (omega arith)
    ]

signed-even : (half n : ℕ) → n < 2 * half → n % 2 ≡ 0 → IsEven (signed half n)
signed-even half n h even =
    elim (cases_lt n half) [
      | inl lt ↦ rw (lt-ltb n half lt) even
      | inr ge ↦ rw (le-ltb n half ge) (omega arith)
    ]

-- the words of one opcode: each row is the word's, and the word is spelled by what was read of it
branch-spelled : (cond : Cond) (word : ℕ) → word < 2 ^ 32 → word % 2 ^ 7 ≡ opcodes.BRANCH →
    cond_funct3 cond ≡ word / 2 ^ 12 % 8 →
    IsWord (insns.Branch cond (word / 2 ^ 15 % 32) (word / 2 ^ 20 % 32) (imm_b_at word)) word
branch-spelled cond word fits o row =
    let n = 2 * (word / 2 ^ 8 % 16) + 2 ^ 5 * (word / 2 ^ 25 % 64) + 2 ^ 11 * (word / 2 ^ 7 % 2) + 2 ^ 12 *
    (word / 2 ^ 31) in
    let below : n < 2 * 2 ^ 12 = omega arith in
    let bits : low_bits (2 ^ 13) (imm_b_at word) ≡ n = signed-bits (2 ^ 12) n below in
    record {
      range = (omega arith, omega arith, signed-range (2 ^ 12) n below, signed-even (2 ^ 12) n below (omega arith));
      spelled = omega arith;
    }

branch-word : (word : ℕ) (insn : Insn) → word < 2 ^ 32 → word % 2 ^ 7 ≡ opcodes.BRANCH →
    row_of opcodes.BRANCH word ≡ Some insn →
    IsWord insn word
branch-word word insn fits o e =
    let f = fields_at word in
    let m = mapped (λ cond. insns.Branch cond f.rs1 f.rs2 (imm_b_at word)) (cond_at f.funct3) insn e in
    let row = eqb-true (cond_funct3 m.0) f.funct3 (found (λ cond. eqb (cond_funct3 cond) f.funct3) conds m.0 m.1) in
    subst (λ i. IsWord i word) m.2 (branch-spelled m.0 word fits o row)

load-spelled : (kind : LoadKind) (word : ℕ) → word < 2 ^ 32 → word % 2 ^ 7 ≡ opcodes.LOAD →
    load_funct3 kind ≡ word / 2 ^ 12 % 8 →
    IsWord (insns.Load kind (word / 2 ^ 7 % 32) (word / 2 ^ 15 % 32) (imm_i_at word)) word
load-spelled kind word fits o row =
    let below : word / 2 ^ 20 < 2 * 2 ^ 11 = omega arith in
    let bits : low_bits (2 ^ 12) (imm_i_at word) ≡ word / 2 ^ 20 = signed-bits (2 ^ 11) (word / 2 ^ 20) below in
    record {
      range = (omega arith, omega arith, signed-range (2 ^ 11) (word / 2 ^ 20) below);
      spelled = omega arith;
    }

load-word : (word : ℕ) (insn : Insn) → word < 2 ^ 32 → word % 2 ^ 7 ≡ opcodes.LOAD →
    row_of opcodes.LOAD word ≡ Some insn →
    IsWord insn word
load-word word insn fits o e =
    let f = fields_at word in
    let m = mapped (λ kind. insns.Load kind f.rd f.rs1 (imm_i_at word)) (load_at f.funct3) insn e in
    let row = eqb-true (load_funct3 m.0) f.funct3 (found (λ kind. eqb (load_funct3 kind) f.funct3) load_kinds m.0 m.1)
    in
    subst (λ i. IsWord i word) m.2 (load-spelled m.0 word fits o row)

store-spelled : (kind : StoreKind) (word : ℕ) → word < 2 ^ 32 → word % 2 ^ 7 ≡ opcodes.STORE →
    store_funct3 kind ≡ word / 2 ^ 12 % 8 →
    IsWord (insns.Store kind (word / 2 ^ 15 % 32) (word / 2 ^ 20 % 32) (imm_s_at word)) word
store-spelled kind word fits o row =
    let n = word / 2 ^ 7 % 32 + 2 ^ 5 * (word / 2 ^ 25) in
    let below : n < 2 * 2 ^ 11 = omega arith in
    let bits : low_bits (2 ^ 12) (imm_s_at word) ≡ n = signed-bits (2 ^ 11) n below in
    record {
      range = (omega arith, omega arith, signed-range (2 ^ 11) n below);
      spelled = omega arith;
    }

store-word : (word : ℕ) (insn : Insn) → word < 2 ^ 32 → word % 2 ^ 7 ≡ opcodes.STORE →
    row_of opcodes.STORE word ≡ Some insn →
    IsWord insn word
store-word word insn fits o e =
    let f = fields_at word in
    let m = mapped (λ kind. insns.Store kind f.rs1 f.rs2 (imm_s_at word)) (store_at f.funct3) insn e in
    let row = eqb-true (store_funct3 m.0) f.funct3 (found (λ kind. eqb (store_funct3 kind) f.funct3) store_kinds m.0
    m.1) in
    subst (λ i. IsWord i word) m.2 (store-spelled m.0 word fits o row)

op-spelled : (op : Op) (word : ℕ) → word < 2 ^ 32 → word % 2 ^ 7 ≡ opcodes.OP →
    op_funct3 op ≡ word / 2 ^ 12 % 8 → op_funct7 op ≡ word / 2 ^ 25 →
    IsWord (insns.Op op (word / 2 ^ 7 % 32) (word / 2 ^ 15 % 32) (word / 2 ^ 20 % 32)) word
op-spelled op word fits o row seven = record {
  range = (omega arith, omega arith, omega arith);
  spelled = omega arith;
}

op-word : (word : ℕ) (insn : Insn) → word < 2 ^ 32 → word % 2 ^ 7 ≡ opcodes.OP → row_of opcodes.OP word ≡ Some insn →
    IsWord insn word
op-word word insn fits o e =
    let f = fields_at word in
    let m = mapped (λ op. insns.Op op f.rd f.rs1 f.rs2) (op_at f.funct3 f.funct7) insn e in
    let both = and_parts (eqb (op_funct3 m.0) f.funct3) (eqb (op_funct7 m.0) f.funct7)
    (found (λ op. eqb (op_funct3 op) f.funct3 && eqb (op_funct7 op) f.funct7) ops m.0 m.1) in
    subst (λ i. IsWord i word) m.2 (op-spelled m.0 word fits o (eqb-true _ _ both.0) (eqb-true _ _ both.1))

-- an operation on an immediate: a shift has a row of funct7, the others the whole immediate
imm-spelled : (op : ImmOp) (seven : Option ℕ) (word : ℕ) → imm_funct7 op ≡ seven → word < 2 ^ 32 →
    word % 2 ^ 7 ≡ opcodes.OP_IMM →
    imm_funct3 op ≡ word / 2 ^ 12 % 8 → allows_funct7 seven (word / 2 ^ 25) ≡ true →
    (IsImmOf seven (imm_value seven (imm_i_at word) (word / 2 ^ 20 % 32))) × (word ≡ imm_word seven (word / 2 ^ 7 % 32)
    (imm_funct3 op) (word / 2 ^ 15 % 32) (imm_value seven (imm_i_at word) (word / 2 ^ 20 % 32)))
imm-spelled op None word at fits o row allowed =
    let below : word / 2 ^ 20 < 2 * 2 ^ 11 = omega arith in
    let bits : low_bits (2 ^ 12) (imm_i_at word) ≡ word / 2 ^ 20 = signed-bits (2 ^ 11) (word / 2 ^ 20) below in
    (signed-range (2 ^ 11) (word / 2 ^ 20) below, omega arith)
imm-spelled op (Some n) word at fits o row allowed =
    let seven : n ≡ word / 2 ^ 25 = eqb-true n (word / 2 ^ 25) allowed in
    (omega arith, omega arith)

imm-word : (word : ℕ) (insn : Insn) → word < 2 ^ 32 → word % 2 ^ 7 ≡ opcodes.OP_IMM →
    row_of opcodes.OP_IMM word ≡ Some insn →
    IsWord insn word
imm-word word insn fits o e =
    let f = fields_at word in
    let m = mapped (λ op. insns.OpImm op f.rd f.rs1 (imm_value (imm_funct7 op) (imm_i_at word) f.rs2))
    (imm_op_at f.funct3 f.funct7)
    insn e in
    let both = and_parts (eqb (imm_funct3 m.0) f.funct3) (allows_funct7 (imm_funct7 m.0) f.funct7)
    (found (λ op. eqb (imm_funct3 op) f.funct3 && allows_funct7 (imm_funct7 op) f.funct7) imm_ops m.0 m.1) in
    let h = imm-spelled m.0 (imm_funct7 m.0) word refl fits o (eqb-true _ _ both.0) both.1 in
    subst (λ i. IsWord i word) m.2 (record { range = (omega arith, omega arith, h.0); spelled = h.1 })

-- the rows with one mnemonic
jalr-word : (word : ℕ) (insn : Insn) → word < 2 ^ 32 → word % 2 ^ 7 ≡ opcodes.JALR →
    row_of opcodes.JALR word ≡ Some insn →
    IsWord insn word
jalr-word word insn fits o e =
    let f = fields_at word in
    let below : word / 2 ^ 20 < 2 * 2 ^ 11 = omega arith in
    let bits : low_bits (2 ^ 12) (imm_i_at word) ≡ word / 2 ^ 20 = signed-bits (2 ^ 11) (word / 2 ^ 20) below in
    elim (cases_Bool (eqb f.funct3 0)) [
      | inl t ↦
          let row : f.funct3 ≡ 0 = eqb-true f.funct3 0 t in
          let same : insns.Jalr f.rd f.rs1 (imm_i_at word) ≡ insn = (let h = rw t at e in cc) in
          subst (λ i. IsWord i word) same (record {
            range = (omega arith, omega arith, signed-range (2 ^ 11) (word / 2 ^ 20) below);
            spelled = omega arith;
          })
      | inr n ↦ (let h = rw n at e in absurd (cc))
    ]

fence-word : (word : ℕ) (insn : Insn) → word < 2 ^ 32 → word % 2 ^ 7 ≡ opcodes.FENCE →
    row_of opcodes.FENCE word ≡ Some insn →
    IsWord insn word
fence-word word insn fits o e =
    let f = fields_at word in
    elim (cases_Bool (eqb f.funct3 0)) [
      | inl t ↦
          let row : f.funct3 ≡ 0 = eqb-true f.funct3 0 t in
          let same : insns.Fence (word - opcodes.FENCE) ≡ insn = (let h = rw t at e in cc) in
          subst (λ i. IsWord i word) same (record {
            range = (omega arith, omega arith, omega arith);
            spelled = omega arith;
          })
      | inr n ↦ (let h = rw n at e in absurd (cc))
    ]

jal-word : (word : ℕ) (insn : Insn) → word < 2 ^ 32 → word % 2 ^ 7 ≡ opcodes.JAL → row_of opcodes.JAL word ≡ Some insn →
    IsWord insn word
jal-word word insn fits o e =
    let f = fields_at word in
    let n = 2 * (word / 2 ^ 21 % 1024) + 2 ^ 11 * (word / 2 ^ 20 % 2) + 2 ^ 12 * (word / 2 ^ 12 % 256) + 2 ^ 20 *
    (word / 2 ^ 31) in
    let below : n < 2 * 2 ^ 20 = omega arith in
    let bits : low_bits (2 ^ 21) (imm_j_at word) ≡ n = signed-bits (2 ^ 20) n below in
    let same : insns.Jal f.rd (imm_j_at word) ≡ insn = cc in
    subst (λ i. IsWord i word) same (record {
      range = (omega arith, signed-range (2 ^ 20) n below, signed-even (2 ^ 20) n below (omega arith));
      spelled = omega arith;
    })

lui-word : (word : ℕ) (insn : Insn) → word < 2 ^ 32 → word % 2 ^ 7 ≡ opcodes.LUI → row_of opcodes.LUI word ≡ Some insn →
    IsWord insn word
lui-word word insn fits o e =
    let f = fields_at word in
    let same : insns.Lui f.rd (imm_u_at word) ≡ insn = cc in
    subst (λ i. IsWord i word) same (record { range = (omega arith, omega arith); spelled = omega arith })

auipc-word : (word : ℕ) (insn : Insn) → word < 2 ^ 32 → word % 2 ^ 7 ≡ opcodes.AUIPC →
    row_of opcodes.AUIPC word ≡ Some insn →
    IsWord insn word
auipc-word word insn fits o e =
    let f = fields_at word in
    let same : insns.Auipc f.rd (imm_u_at word) ≡ insn = cc in
    subst (λ i. IsWord i word) same (record { range = (omega arith, omega arith); spelled = omega arith })

-- the two whole words
system-word : (word : ℕ) (insn : Insn) → system_row word ≡ Some insn → IsWord insn word
system-word word insn e =
    elim (cases_Bool (eqb word opcodes.ECALL)) [
      | inl t ↦
          let same : insns.Ecall ≡ insn = (let h = rw t at e in cc) in
          subst (λ i. IsWord i word) same (record { range = tt; spelled = eqb-true word opcodes.ECALL t })
      | inr n ↦
          let rest : cond (eqb word opcodes.EBREAK) (Some insns.Ebreak) None ≡ Some insn = rw n at e in
          elim (cases_Bool (eqb word opcodes.EBREAK)) [
            | inl t ↦
                let same : insns.Ebreak ≡ insn = (let h = rw t at rest in cc) in
                subst (λ i. IsWord i word) same (record { range = tt; spelled = eqb-true word opcodes.EBREAK t })
            | inr m ↦ (let h = rw m at rest in absurd (cc))
          ]
    ]

-- an opcode with no row
none-word : (word : ℕ) → (word % 2 ^ 7 ≡ opcodes.LUI → ⊥) → (word % 2 ^ 7 ≡ opcodes.AUIPC → ⊥) →
    (word % 2 ^ 7 ≡ opcodes.JAL → ⊥) → (word % 2 ^ 7 ≡ opcodes.JALR → ⊥) → (word % 2 ^ 7 ≡ opcodes.BRANCH → ⊥) →
    (word % 2 ^ 7 ≡ opcodes.LOAD → ⊥) → (word % 2 ^ 7 ≡ opcodes.STORE → ⊥) → (word % 2 ^ 7 ≡ opcodes.OP_IMM → ⊥) →
    (word % 2 ^ 7 ≡ opcodes.OP → ⊥) → (word % 2 ^ 7 ≡ opcodes.FENCE → ⊥) → (word % 2 ^ 7 ≡ opcodes.SYSTEM → ⊥) →
    insn_of word ≡ None
unfolding insn_of
none-word word a b c d e f g h i j k = search (tests, rules)

-- the instruction that `insn_of` answers of a word
pub IsWord-insn_of : (word : ℕ) (insn : Insn) → word < 2 ^ 32 → insn_of word ≡ Some insn → IsWord insn word
IsWord-insn_of word insn fits e =
    elim (cases_eq (word % 2 ^ 7) opcodes.LUI) [
      | inl o ↦ lui-word word insn fits o (sym (insn_of-by word opcodes.LUI o) ∙ e)
      | inr a ↦ elim (cases_eq (word % 2 ^ 7) opcodes.AUIPC) [
        | inl o ↦ auipc-word word insn fits o (sym (insn_of-by word opcodes.AUIPC o) ∙ e)
        | inr b ↦ elim (cases_eq (word % 2 ^ 7) opcodes.JAL) [
          | inl o ↦ jal-word word insn fits o (sym (insn_of-by word opcodes.JAL o) ∙ e)
          | inr c ↦ elim (cases_eq (word % 2 ^ 7) opcodes.JALR) [
            | inl o ↦ jalr-word word insn fits o (sym (insn_of-by word opcodes.JALR o) ∙ e)
            | inr d ↦ elim (cases_eq (word % 2 ^ 7) opcodes.BRANCH) [
              | inl o ↦ branch-word word insn fits o (sym (insn_of-by word opcodes.BRANCH o) ∙ e)
              | inr f ↦ elim (cases_eq (word % 2 ^ 7) opcodes.LOAD) [
                | inl o ↦ load-word word insn fits o (sym (insn_of-by word opcodes.LOAD o) ∙ e)
                | inr g ↦ elim (cases_eq (word % 2 ^ 7) opcodes.STORE) [
                  | inl o ↦ store-word word insn fits o (sym (insn_of-by word opcodes.STORE o) ∙ e)
                  | inr h ↦ elim (cases_eq (word % 2 ^ 7) opcodes.OP_IMM) [
                    | inl o ↦ imm-word word insn fits o (sym (insn_of-by word opcodes.OP_IMM o) ∙ e)
                    | inr i ↦ elim (cases_eq (word % 2 ^ 7) opcodes.OP) [
                      | inl o ↦ op-word word insn fits o (sym (insn_of-by word opcodes.OP o) ∙ e)
                      | inr j ↦ elim (cases_eq (word % 2 ^ 7) opcodes.FENCE) [
                        | inl o ↦ fence-word word insn fits o (sym (insn_of-by word opcodes.FENCE o) ∙ e)
                        | inr k ↦ elim (cases_eq (word % 2 ^ 7) opcodes.SYSTEM) [
                          | inl o ↦ system-word word insn (sym (insn_of-by word opcodes.SYSTEM o) ∙ e)
                          | inr l ↦ (let none = none-word word a b c d f g h i j k l in absurd (cc))
                        ]
                      ]
                    ]
                  ]
                ]
              ]
            ]
          ]
        ]
      ]
    ]

pub IfSome-row_of : (word : ℕ) (result : Option Insn) → word < 2 ^ 32 → result ≡ insn_of word →
    IfSome result (λ insn. IsWord insn word)
IfSome-row_of word None fits e = tt
IfSome-row_of word (Some insn) fits e = IsWord-insn_of word insn fits (sym e)
