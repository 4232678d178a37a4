use Rattle.cov_meta.proofs.Faults.{never_memory}
use Rattle.cov_meta.proofs.SpelledFile.{file_spells, file_reads, one_value}
use Rattle.cov_meta.proofs.laws.laws.Goals as goal

pub returns-clause-read_is_spelled : goal.returns-clause-read_is_spelled
returns-clause-read_is_spelled c = file_spells

pub returns-clause-spelled_is_read : goal.returns-clause-spelled_is_read
returns-clause-spelled_is_read c = file_reads

pub returns-clause-one_value : goal.returns-clause-one_value
returns-clause-one_value c = one_value

pub returns-clause-own_fault : goal.returns-clause-own_fault
returns-clause-own_fault c = never_memory
