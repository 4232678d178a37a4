use Rattle.go_check.proofs.module.check.Goals as goal

pub new-requires : goal.new-requires
new-requires c = c.modules_make_programs.ensures _ _ c.requires.sized c.requires.rooted c.in_ok-parts.ensures
