-- `insn_of` by its opcode, and against the words of instructions.
use Rattle.std.proofs.Common.{◌≡◌, ℕ, ◌-◌, ◌/◌, ◌%◌, ◌^◌, ◌<◌, ℤ, pos, negsuc, Some, refl, ap, ◌∙◌, arith}
use Rattle.rv_insn.specs.declared.insn.Insn.{Insn}
use Rattle.rv_insn.specs.declared.insn.Insn.TheVariants as insns
use Rattle.rv_insn.specs.declared.insn.Cond.{Cond}
use Rattle.rv_insn.specs.declared.insn.Cond.TheVariants.{Beq, Bne, Blt, Bge, Bltu, Bgeu}
use Rattle.rv_insn.specs.declared.insn.LoadKind.{LoadKind}
use Rattle.rv_insn.specs.declared.insn.LoadKind.TheVariants.{Lb, Lh, Lw, Lbu, Lhu}
use Rattle.rv_insn.specs.declared.insn.StoreKind.{StoreKind}
use Rattle.rv_insn.specs.declared.insn.StoreKind.TheVariants.{Sb, Sh, Sw}
use Rattle.rv_insn.specs.declared.insn.ImmOp.{ImmOp}
use Rattle.rv_insn.specs.declared.insn.ImmOp.TheVariants.{Addi, Slli, Slti, Sltiu, Xori, Srli, Srai, Ori, Andi}
use Rattle.rv_insn.specs.declared.insn.Op.{Op}
use Rattle.rv_insn.specs.declared.insn.Op.TheVariants.{Add, Sub, Sll, Slt, Sltu, Xor, Srl, Sra, Or, And}
use Rattle.rv_insn.specs.declared.opcode.TheConstants as opcodes
use Rattle.rv_insn.specs.Rows.{cond_funct3, load_funct3, store_funct3, imm_funct3, op_funct3, op_funct7}
use Rattle.rv_insn.specs.Word.{IsSigned, i_word, word_by}
use Rattle.rv_insn.specs.Insn.{IsWord}
use Rattle.rv_insn.specs.InsnOf.{insn_of, row_of, jalr_row, fence_row, branch_row, load_row, store_row, imm_row, op_row}
use Rattle.rv_insn.specs.Fields.{fields_at, imm_i_at, imm_s_at, imm_b_at, imm_j_at}
use Rattle.rv_insn.proofs.FieldLemmas.{imm_i-at, imm_s-at, imm_b-at, imm_j-at, word_by-fields, i_word-fields, s_word-fields, b_word-fields}

-- the row of the opcode, which computes where the opcode is a numeral
pub insn_of-by : (word opcode : ℕ) → word % 2 ^ 7 ≡ opcode → insn_of word ≡ row_of opcode word
unfolding insn_of
insn_of-by word opcode e = ap (λ x. row_of x word) e

-- equal arguments give equal values
same4 : {A B C D E : Type 0} (f : A → B → C → D → E) (a a' : A) (b b' : B) (c c' : C) (d d' : D) →
    a ≡ a' → b ≡ b' → c ≡ c' → d ≡ d' → f a b c d ≡ f a' b' c' d'
same4 f a a' b b' c c' d d' p q r s = cc

same5 : {A B C D E F : Type 0} (f : A → B → C → D → E → F) (a a' : A) (b b' : B) (c c' : C) (d d' : D) (e e' : E) →
    a ≡ a' → b ≡ b' → c ≡ c' → d ≡ d' → e ≡ e' → f a b c d e ≡ f a' b' c' d' e'
same5 f a a' b b' c c' d d' e e' p q r s t = cc

-- funct3 has three bits
cond_below : (cond : Cond) → cond_funct3 cond < 8
cond_below Beq = omega arith
cond_below Bne = omega arith
cond_below Blt = omega arith
cond_below Bge = omega arith
cond_below Bltu = omega arith
cond_below Bgeu = omega arith

load_below : (kind : LoadKind) → load_funct3 kind < 8
load_below Lb = omega arith
load_below Lh = omega arith
load_below Lw = omega arith
load_below Lbu = omega arith
load_below Lhu = omega arith

store_below : (kind : StoreKind) → store_funct3 kind < 8
store_below Sb = omega arith
store_below Sh = omega arith
store_below Sw = omega arith

imm_op_below : (op : ImmOp) → imm_funct3 op < 8
imm_op_below Addi = omega arith
imm_op_below Slli = omega arith
imm_op_below Slti = omega arith
imm_op_below Sltiu = omega arith
imm_op_below Xori = omega arith
imm_op_below Srli = omega arith
imm_op_below Srai = omega arith
imm_op_below Ori = omega arith
imm_op_below Andi = omega arith

op_below : (op : Op) → (op_funct3 op < 8) × (op_funct7 op < 128)
op_below Add = (omega arith, omega arith)
op_below Sub = (omega arith, omega arith)
op_below Sll = (omega arith, omega arith)
op_below Slt = (omega arith, omega arith)
op_below Sltu = (omega arith, omega arith)
op_below Xor = (omega arith, omega arith)
op_below Srl = (omega arith, omega arith)
op_below Sra = (omega arith, omega arith)
op_below Or = (omega arith, omega arith)
op_below And = (omega arith, omega arith)

-- each row is found by its funct3, and by its funct7 where it has one
branch_row-is : (cond : Cond) (rs1 rs2 : ℕ) (off : ℤ) →
    branch_row (cond_funct3 cond) rs1 rs2 off ≡ Some (insns.Branch cond rs1 rs2 off)
branch_row-is Beq rs1 rs2 off = refl
branch_row-is Bne rs1 rs2 off = refl
branch_row-is Blt rs1 rs2 off = refl
branch_row-is Bge rs1 rs2 off = refl
branch_row-is Bltu rs1 rs2 off = refl
branch_row-is Bgeu rs1 rs2 off = refl

load_row-is : (kind : LoadKind) (rd rs1 : ℕ) (imm : ℤ) →
    load_row (load_funct3 kind) rd rs1 imm ≡ Some (insns.Load kind rd rs1 imm)
load_row-is Lb rd rs1 imm = refl
load_row-is Lh rd rs1 imm = refl
load_row-is Lw rd rs1 imm = refl
load_row-is Lbu rd rs1 imm = refl
load_row-is Lhu rd rs1 imm = refl

store_row-is : (kind : StoreKind) (rs1 rs2 : ℕ) (imm : ℤ) →
    store_row (store_funct3 kind) rs1 rs2 imm ≡ Some (insns.Store kind rs1 rs2 imm)
store_row-is Sb rs1 rs2 imm = refl
store_row-is Sh rs1 rs2 imm = refl
store_row-is Sw rs1 rs2 imm = refl

op_row-is : (op : Op) (rd rs1 rs2 : ℕ) →
    op_row (op_funct3 op) (op_funct7 op) rd rs1 rs2 ≡ Some (insns.Op op rd rs1 rs2)
op_row-is Add rd rs1 rs2 = refl
op_row-is Sub rd rs1 rs2 = refl
op_row-is Sll rd rs1 rs2 = refl
op_row-is Slt rd rs1 rs2 = refl
op_row-is Sltu rd rs1 rs2 = refl
op_row-is Xor rd rs1 rs2 = refl
op_row-is Srl rd rs1 rs2 = refl
op_row-is Sra rd rs1 rs2 = refl
op_row-is Or rd rs1 rs2 = refl
op_row-is And rd rs1 rs2 = refl

-- the words of one opcode
branch-is : (cond : Cond) (rs1 rs2 : ℕ) (off : ℤ) (word : ℕ) → IsWord (insns.Branch cond rs1 rs2 off) word →
    insn_of word ≡ Some (insns.Branch cond rs1 rs2 off)
branch-is cond rs1 rs2 off word w =
    let f = fields_at word in
    let r = w.range in
    let h = b_word-fields opcodes.BRANCH (cond_funct3 cond) rs1 rs2 off (omega arith) (cond_below cond) r.0 r.1 word
    w.spelled in
    let offset = imm_b-at word opcodes.BRANCH (cond_funct3 cond) rs1 rs2 off (omega arith) (cond_below cond) r.0 r.1
    r.2 r.3
    w.spelled in
    insn_of-by word opcodes.BRANCH h.2.opcode_is
    ∙ same4 branch_row f.funct3 (cond_funct3 cond) f.rs1 rs1 f.rs2 rs2 (imm_b_at word) off h.2.funct3_is h.2.rs1_is
    h.2.rs2_is
    offset
    ∙ branch_row-is cond rs1 rs2 off

load-is : (kind : LoadKind) (rd rs1 : ℕ) (imm : ℤ) (word : ℕ) → IsWord (insns.Load kind rd rs1 imm) word →
    insn_of word ≡ Some (insns.Load kind rd rs1 imm)
load-is kind rd rs1 imm word w =
    let f = fields_at word in
    let r = w.range in
    let h = i_word-fields opcodes.LOAD rd (load_funct3 kind) rs1 imm (omega arith) r.0 (load_below kind) r.1 word
    w.spelled in
    let offset = imm_i-at word opcodes.LOAD rd (load_funct3 kind) rs1 imm (omega arith) r.0 (load_below kind) r.1 r.2
    w.spelled in
    insn_of-by word opcodes.LOAD h.opcode_is
    ∙ same4 load_row f.funct3 (load_funct3 kind) f.rd rd f.rs1 rs1 (imm_i_at word) imm h.funct3_is h.rd_is h.rs1_is
    offset
    ∙ load_row-is kind rd rs1 imm

store-is : (kind : StoreKind) (rs1 rs2 : ℕ) (imm : ℤ) (word : ℕ) → IsWord (insns.Store kind rs1 rs2 imm) word →
    insn_of word ≡ Some (insns.Store kind rs1 rs2 imm)
store-is kind rs1 rs2 imm word w =
    let f = fields_at word in
    let r = w.range in
    let h = s_word-fields opcodes.STORE (store_funct3 kind) rs1 rs2 imm (omega arith) (store_below kind) r.0 r.1 word
    w.spelled in
    let offset = imm_s-at word opcodes.STORE (store_funct3 kind) rs1 rs2 imm (omega arith) (store_below kind) r.0 r.1
    r.2
    w.spelled in
    insn_of-by word opcodes.STORE h.opcode_is
    ∙ same4 store_row f.funct3 (store_funct3 kind) f.rs1 rs1 f.rs2 rs2 (imm_s_at word) imm h.funct3_is h.rs1_is
    h.rs2_is offset
    ∙ store_row-is kind rs1 rs2 imm

op-is : (op : Op) (rd rs1 rs2 : ℕ) (word : ℕ) → IsWord (insns.Op op rd rs1 rs2) word →
    insn_of word ≡ Some (insns.Op op rd rs1 rs2)
op-is op rd rs1 rs2 word w =
    let f = fields_at word in
    let r = w.range in
    let h = word_by-fields opcodes.OP rd (op_funct3 op) rs1 rs2 (op_funct7 op) (omega arith) r.0 (op_below op).0 r.1
    r.2 word
    w.spelled in
    insn_of-by word opcodes.OP h.opcode_is
    ∙ same5 op_row f.funct3 (op_funct3 op) f.funct7 (op_funct7 op) f.rd rd f.rs1 rs1 f.rs2 rs2 h.funct3_is h.funct7_is
    h.rd_is
    h.rs1_is h.rs2_is
    ∙ op_row-is op rd rs1 rs2

-- an operation that looks at funct3 alone
plain-is : (op : ImmOp) (rd rs1 : ℕ) (imm : ℤ) (word : ℕ) →
    ((funct7 rd rs1 rs2 : ℕ) (imm : ℤ) → imm_row (imm_funct3 op) funct7 rd rs1 rs2 imm ≡ Some
    (insns.OpImm op rd rs1 imm)) →
    rd < 32 → rs1 < 32 → IsSigned (2 ^ 11) imm → word ≡ i_word opcodes.OP_IMM rd (imm_funct3 op) rs1 imm →
    insn_of word ≡ Some (insns.OpImm op rd rs1 imm)
plain-is op rd rs1 imm word row d s range e =
    let f = fields_at word in
    let h = i_word-fields opcodes.OP_IMM rd (imm_funct3 op) rs1 imm (omega arith) d (imm_op_below op) s word e in
    let value = imm_i-at word opcodes.OP_IMM rd (imm_funct3 op) rs1 imm (omega arith) d (imm_op_below op) s range e in
    insn_of-by word opcodes.OP_IMM h.opcode_is
    ∙ same4 (λ funct3 rd rs1 imm. imm_row funct3 f.funct7 rd rs1 f.rs2 imm) f.funct3 (imm_funct3 op) f.rd rd f.rs1 rs1
    (imm_i_at word) imm h.funct3_is h.rd_is h.rs1_is value
    ∙ row f.funct7 rd rs1 f.rs2 imm

-- a shift, which looks at funct7 too
shift-is : (op : ImmOp) (rd rs1 n funct7 : ℕ) (word : ℕ) →
    ((rd rs1 rs2 : ℕ) (imm : ℤ) → imm_row (imm_funct3 op) funct7 rd rs1 rs2 imm ≡ Some
    (insns.OpImm op rd rs1 (pos rs2))) →
    rd < 32 → rs1 < 32 → n < 32 → word ≡ word_by opcodes.OP_IMM rd (imm_funct3 op) rs1 n funct7 →
    insn_of word ≡ Some (insns.OpImm op rd rs1 (pos n))
shift-is op rd rs1 n funct7 word row d s range e =
    let f = fields_at word in
    let h = word_by-fields opcodes.OP_IMM rd (imm_funct3 op) rs1 n funct7 (omega arith) d (imm_op_below op) s range
    word e in
    insn_of-by word opcodes.OP_IMM h.opcode_is
    ∙ same5 (λ funct3 funct7 rd rs1 rs2. imm_row funct3 funct7 rd rs1 rs2 (imm_i_at word)) f.funct3 (imm_funct3 op)
    f.funct7
    funct7 f.rd rd f.rs1 rs1 f.rs2 n h.funct3_is h.funct7_is h.rd_is h.rs1_is h.rs2_is
    ∙ row rd rs1 n (imm_i_at word)

imm-is : (op : ImmOp) (rd rs1 : ℕ) (imm : ℤ) (word : ℕ) → IsWord (insns.OpImm op rd rs1 imm) word →
    insn_of word ≡ Some (insns.OpImm op rd rs1 imm)
imm-is Addi rd rs1 imm word w =
    plain-is Addi rd rs1 imm word (λ f d s t i. refl) w.range.0 w.range.1 w.range.2 w.spelled
imm-is Slti rd rs1 imm word w =
    plain-is Slti rd rs1 imm word (λ f d s t i. refl) w.range.0 w.range.1 w.range.2 w.spelled
imm-is Sltiu rd rs1 imm word w =
    plain-is Sltiu rd rs1 imm word (λ f d s t i. refl) w.range.0 w.range.1 w.range.2 w.spelled
imm-is Xori rd rs1 imm word w =
    plain-is Xori rd rs1 imm word (λ f d s t i. refl) w.range.0 w.range.1 w.range.2 w.spelled
imm-is Ori rd rs1 imm word w =
    plain-is Ori rd rs1 imm word (λ f d s t i. refl) w.range.0 w.range.1 w.range.2 w.spelled
imm-is Andi rd rs1 imm word w =
    plain-is Andi rd rs1 imm word (λ f d s t i. refl) w.range.0 w.range.1 w.range.2 w.spelled
imm-is Slli rd rs1 (pos n) word w =
    shift-is Slli rd rs1 n 0 word (λ d s t i. refl) w.range.0 w.range.1 w.range.2 w.spelled
imm-is Slli rd rs1 (negsuc n) word w = absurd w.range.2
imm-is Srli rd rs1 (pos n) word w =
    shift-is Srli rd rs1 n 0 word (λ d s t i. refl) w.range.0 w.range.1 w.range.2 w.spelled
imm-is Srli rd rs1 (negsuc n) word w = absurd w.range.2
imm-is Srai rd rs1 (pos n) word w =
    shift-is Srai rd rs1 n 32 word (λ d s t i. refl) w.range.0 w.range.1 w.range.2 w.spelled
imm-is Srai rd rs1 (negsuc n) word w = absurd w.range.2

jal-is : (rd : ℕ) (off : ℤ) (word : ℕ) → IsWord (insns.Jal rd off) word → insn_of word ≡ Some (insns.Jal rd off)
jal-is rd off word w =
    let r = w.range in
    let dest : word / 2 ^ 7 % 32 ≡ rd = omega (arith, r.0, w.spelled) in
    let offset = imm_j-at word opcodes.JAL rd off (omega arith) r.0 r.1 r.2 w.spelled in
    insn_of-by word opcodes.JAL (omega (arith, r.0, w.spelled)) ∙ ap (λ d. Some (insns.Jal d (imm_j_at word))) dest
    ∙ ap (λ o. Some (insns.Jal rd o)) offset

jalr-is : (rd rs1 : ℕ) (imm : ℤ) (word : ℕ) → IsWord (insns.Jalr rd rs1 imm) word →
    insn_of word ≡ Some (insns.Jalr rd rs1 imm)
jalr-is rd rs1 imm word w =
    let f = fields_at word in
    let r = w.range in
    let h = i_word-fields opcodes.JALR rd 0 rs1 imm (omega arith) r.0 (omega arith) r.1 word w.spelled in
    let value = imm_i-at word opcodes.JALR rd 0 rs1 imm (omega arith) r.0 (omega arith) r.1 r.2 w.spelled in
    insn_of-by word opcodes.JALR h.opcode_is
    ∙ same4 jalr_row f.funct3 0 f.rd rd f.rs1 rs1 (imm_i_at word) imm h.funct3_is h.rd_is h.rs1_is value

fence-is : (fields word : ℕ) → IsWord (insns.Fence fields) word → insn_of word ≡ Some (insns.Fence fields)
fence-is fields word w =
    let r = w.range in
    let row : word / 2 ^ 12 % 8 ≡ 0 = omega (arith, r.0, r.1, w.spelled) in
    let rest : word - opcodes.FENCE ≡ fields = omega (arith, w.spelled) in
    insn_of-by word opcodes.FENCE (omega (arith, r.0, w.spelled)) ∙ ap (λ f. fence_row f word) row
    ∙ ap (λ n. Some (insns.Fence n)) rest

-- a word that is an instruction is that one by `insn_of`
pub insn_of-IsWord : (insn : Insn) (word : ℕ) → IsWord insn word → insn_of word ≡ Some insn
insn_of-IsWord (insns.Lui rd imm) word w =
    let dest : word / 2 ^ 7 % 32 ≡ rd = omega arith in
    let upper : word / 2 ^ 12 ≡ imm = omega arith in
    insn_of-by word opcodes.LUI (omega arith) ∙ (cc)
insn_of-IsWord (insns.Auipc rd imm) word w =
    let dest : word / 2 ^ 7 % 32 ≡ rd = omega arith in
    let upper : word / 2 ^ 12 ≡ imm = omega arith in
    insn_of-by word opcodes.AUIPC (omega arith) ∙ (cc)
insn_of-IsWord (insns.Jal rd off) word w = jal-is rd off word w
insn_of-IsWord (insns.Jalr rd rs1 imm) word w = jalr-is rd rs1 imm word w
insn_of-IsWord (insns.Branch cond rs1 rs2 off) word w = branch-is cond rs1 rs2 off word w
insn_of-IsWord (insns.Load kind rd rs1 imm) word w = load-is kind rd rs1 imm word w
insn_of-IsWord (insns.Store kind rs1 rs2 imm) word w = store-is kind rs1 rs2 imm word w
insn_of-IsWord (insns.OpImm op rd rs1 imm) word w = imm-is op rd rs1 imm word w
insn_of-IsWord (insns.Op op rd rs1 rs2) word w = op-is op rd rs1 rs2 word w
insn_of-IsWord (insns.Fence fields) word w = fence-is fields word w
insn_of-IsWord insns.Ecall word w = ap insn_of w.spelled ∙ insn_of-by opcodes.ECALL opcodes.SYSTEM refl
insn_of-IsWord insns.Ebreak word w = ap insn_of w.spelled ∙ insn_of-by opcodes.EBREAK opcodes.SYSTEM refl
