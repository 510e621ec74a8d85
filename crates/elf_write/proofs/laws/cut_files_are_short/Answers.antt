use Rattle.elf_write.proofs.CutLemmas.{cut_header, cut_table}
use Rattle.elf_write.proofs.laws.cut_files_are_short.Goals as goal

pub returns-clause-header : goal.returns-clause-header
returns-clause-header c = cut_header

pub returns-clause-table : goal.returns-clause-table
returns-clause-table c = cut_table
