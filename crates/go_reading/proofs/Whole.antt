-- The reader of files finds the tree or the first fault, whatever the tokens.
use Rattle.std.proofs.Common.{◌⊎◌, inl, inr, ℕ, suc, ◌-◌, List, length, Result, Ok, Err, arith}
use Rattle.go_ast.specs.declared.file.File.{File}
use Rattle.go_grammar.specs.Words.{Word}
use Rattle.go_grammar.specs.declared.form.Form.{Form as TextForm}
use Rattle.go_reading.specs.Counters.{Small}
use Rattle.go_grammar.specs.Files.{SpellsWithin}
use Rattle.go_reading.specs.declared.fault.Fault.{Fault}
use Rattle.go_reading.specs.declared.fault.Fault.TheVariants.{Exhausted}
use Rattle.go_reading.specs.Input.{Tall}
use Rattle.go_reading.specs.Files.{file}
use Rattle.go_reading.specs.Outcomes.{IsFaultAt, IsOutcome, ReadsFiles, SpellsOne, TreeOrFault}
use Rattle.go_reading.proofs.BlockForm.{BlockGood, BlockRead}
use Rattle.go_reading.proofs.StmtGood.{block_good}
use Rattle.go_reading.proofs.SelectGood.{select_good}
use Rattle.go_reading.proofs.StmtRead.{block_read}
use Rattle.go_reading.proofs.Top.{reads_files, spells_one}

module _ (form : TextForm) (small : Small form) where
  blocks_good : (K : Fault → Type 0) → (K Exhausted → ⊥) → BlockGood form K
  blocks_good K never = block_good form small (λ K' never'. select_good form K' never') K never

  blocks_read : (BlockRead form)
  blocks_read = block_read form small

  pub files_read : ReadsFiles form
  files_read = reads_files form blocks_good blocks_read

  pub one_spelled : SpellsOne form
  one_spelled = spells_one form blocks_good blocks_read

  pub tree_or_fault : TreeOrFault form
  tree_or_fault most depth ts some = go (file form (suc (length ts)) most depth ts).0 (file form (suc (length ts)) most depth ts).1 (files_read (suc (length ts)) most depth ts some (omega arith))
    where
      go : (v : Result (Tall File) Fault) (rest : List Word) → IsOutcome form most depth ts v rest → ((x : File) × SpellsWithin form most depth x ts) ⊎ ((i : ℕ) × (f : Fault) × IsFaultAt form most depth ts i f)
      go (Ok x) rest o = inl (x.0, o)
      go (Err f) rest o = inr (length ts - length rest, f, o.1)
