use Rattle.cov_meta.specs.Hash.{meta_hash}
use Rattle.cov_meta.specs.Written.{meta_text}
use Rattle.cov_meta.proofs.SpelledFile.{file_reads}
use Rattle.cov_meta.proofs.WrittenSpells.{written_is_spelled}
use Rattle.cov_meta.proofs.written_laws.written_laws.Goals as goal

pub returns-clause-spelled : goal.returns-clause-spelled
returns-clause-spelled c = written_is_spelled (record { fixed = c.fixed.ensures; read = c.numbers.ensures.read; written = c.numbers.ensures.written; tables = c.tables.ensures })

pub returns-clause-read : goal.returns-clause-read
returns-clause-read c = λ meta keeps fit small.
    file_reads (meta_text meta) (record { hash = meta_hash meta; meta = meta }) (written_is_spelled (record { fixed = c.fixed.ensures; read = c.numbers.ensures.read; written = c.numbers.ensures.written; tables = c.tables.ensures }) meta keeps fit small)
