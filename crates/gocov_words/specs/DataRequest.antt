-- What is asked of covdata.
use Rattle.std.specs.Prelude.{◌≡◌, ℕ, ◌<◌, ◌≤◌, List, [], Option, true, false, length, All, IfSome, is_some}
use Rattle.gocov_words.specs.Texts.{IsName}
use Rattle.cov_outside.specs.Limits.{limit_number}
use Rattle.cov_outside.specs.declared.limit.Which.TheVariants as limits
use Rattle.gocov_words.specs.declared.sub.Sub.{Sub}
use Rattle.gocov_words.specs.Subs.{puts, reports, takes_two}

-- the command, the directories, the path to put and the patterns of packages
pub record DataRequest : Type 0 where
  pub sub : Sub
  pub dirs : List (List ℕ)
  pub out : Option (List ℕ)
  pub pkg : List (List ℕ)

-- the rules that every request keeps
pub record IsDataRequest (request : DataRequest) : Type 0 where
  pub dirs : All IsName request.dirs
  pub some_dir : 0 < length request.dirs
  pub few_dirs : length request.dirs ≤ limit_number limits.Directories
  pub two_dirs : takes_two request.sub ≡ true → length request.dirs ≡ 2
  pub out : IfSome request.out IsName
  pub out_where_needed : is_some request.out ≡ puts request.sub
  pub patterns : All IsName request.pkg
  pub patterns_of_reports : reports request.sub ≡ false → request.pkg ≡ []
