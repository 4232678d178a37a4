use Rattle.gocov_tools.proofs.Gathered.{all_texts}
use Rattle.gocov_tools.proofs.package_texts.texts_of.Goals as goal

pub returns-clause-table : goal.returns-clause-table
returns-clause-table c =
    all_texts c.args.package.now c.new.result c.add.new.self.table c.add-2.new.self.table c.add-3.new.self.table c.add_functions.new.self.table c.bytes.result.now c.bytes-2.result.now c.bytes-3.result.now c.as_slice.result.now
    c.new.ensures c.bytes.ensures c.bytes-2.ensures c.bytes-3.ensures c.as_slice.ensures c.in_ok-add.ensures.table c.in_ok-add-2.ensures.table c.in_ok-add-3.ensures.table c.in_ok-add_functions.ensures.table
