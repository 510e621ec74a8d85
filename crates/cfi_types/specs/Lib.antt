pub use Rattle.cfi_type_table.specs.Node
pub use Rattle.cfi_type_table.specs.Kind
pub use Rattle.cfi_type_table.specs.Spelling
pub use Rattle.cfi_type_table.specs.Reading
pub mod Same
pub mod Classes
pub mod Numbering
pub mod inner
