-- What is asked of cover.
use Rattle.std.specs.Prelude.{◌≡◌, ℕ, List, true}
use Rattle.std.specs.Str.{IsUtf8}
use Rattle.cov_outside.specs.declared.mode.Mode.{Mode}
use Rattle.gocov_words.specs.Texts.{IsName}
use Rattle.gocov_words.specs.Values.{is_variable, is_file_name}

-- the mode, the name of the counters' variable, the path to put and the source file
pub record CoverRequest : Type 0 where
  pub mode : Mode
  pub var : List ℕ
  pub out : List ℕ
  pub file : List ℕ

-- the rules that every request keeps
pub record IsCoverRequest (request : CoverRequest) : Type 0 where
  pub var_text : IsUtf8 request.var
  pub variable : is_variable request.var ≡ true
  pub out : IsName request.out
  pub file_text : IsUtf8 request.file
  pub file_name : is_file_name request.file ≡ true
