-- What is asked of run.
use Rattle.std.specs.Prelude.{◌≡◌, ℕ, ◌≤◌, Bool, true, List, Option, None, IfSome}
use Rattle.std.specs.Str.{IsUtf8}
use Rattle.cov_outside.specs.declared.mode.Mode.{Mode}
use Rattle.cov_outside.specs.declared.mode.Mode.TheVariants.{Set, Count}
use Rattle.gocov_words.specs.Texts.{IsName}
use Rattle.gocov_words.specs.Values.{most_steps}

-- the mode, the directory of the pod, whether the schedule is the serial one, the limit of steps and the module's directory
pub record RunRequest : Type 0 where
  pub mode : Mode
  pub coverdir : Option (List ℕ)
  pub serial : Bool
  pub max_steps : ℕ
  pub dir : List ℕ

-- the rules that every request keeps
pub record IsRunRequest (request : RunRequest) : Type 0 where
  pub coverdir : IfSome request.coverdir IsName
  pub mode_of_pod : request.coverdir ≡ None → request.mode ≡ Set
  pub serial_count : request.mode ≡ Count → request.serial ≡ true
  pub some_steps : 1 ≤ request.max_steps
  pub few_steps : request.max_steps ≤ most_steps
  pub dir_text : IsUtf8 request.dir
