pub mod Word
pub mod Rows
pub mod Insn
pub mod Fields
pub mod InsnOf
