-- The line that is written for an answer, and what the answer is then.
use Rattle.std.specs.Prelude.{◌≡◌, ◌⊎◌, ℕ, List, [], ◌++◌, Option, codes, decimal}
use Rattle.std.specs.Io.KnownBytes.{append_known}
use Rattle.cov_outside.specs.Faults.{Rose, Count, HasPrefix}
use Rattle.cov_outside.specs.Limits.{kind_name, limit_name, limit_number}
use Rattle.cov_outside.specs.Mode.{mode_name}
use Rattle.gocov_tools.specs.SourceNames.{source_name}
use Rattle.gocov_tools.specs.declared.status.Status.{Status}
use Rattle.gocov_tools.specs.declared.status.Status.TheVariants as statuses

-- what is wrong with a data file, at which byte
abbrev pub data_line : List ℕ → List ℕ → List ℕ → List ℕ
data_line path offset kind = codes "gocov: " ++ (path ++ (codes ": byte " ++ (offset ++ (codes ": " ++ (kind ++ codes "\n")))))

-- what is wrong with a source file, at which line and column
abbrev pub source_line : List ℕ → List ℕ → List ℕ → List ℕ → List ℕ
source_line path line column kind = codes "gocov: " ++ (path ++ (codes ":" ++ (line ++ (codes ":" ++ (column ++ (codes ": " ++ (kind ++ codes "\n")))))))

-- which limit was passed, and its number
abbrev pub limit_line : List ℕ → List ℕ → List ℕ
limit_line name number = codes "gocov: limit " ++ (name ++ (codes " " ++ (number ++ codes "\n")))

-- two meta files and their modes
abbrev pub clash_line : List ℕ → List ℕ → List ℕ → List ℕ → List ℕ
clash_line first first_mode second second_mode = codes "gocov: mode clash: " ++ (first ++ (codes " " ++ (first_mode ++ (codes ", " ++ (second ++ (codes " " ++ (second_mode ++ codes "\n")))))))

-- the index of a word
abbrev pub usage_line : List ℕ → List ℕ
usage_line index = codes "gocov: usage: word " ++ (index ++ codes "\n")

-- the line of an answer, with its newline
abbrev pub line_of : Status → List ℕ
line_of (statuses.Done n) = []
line_of statuses.NotBuilt = codes "gocov: not built\n"
line_of (statuses.Usage i) = usage_line (decimal i)
line_of (statuses.Source path place kind) = source_line path (decimal place.line) (decimal place.column) (source_name kind)
line_of (statuses.Missing path) = codes "gocov: " ++ (path ++ codes ": Missing\n")
line_of (statuses.Data path offset kind) = data_line path (decimal offset) (kind_name kind)
line_of (statuses.ModeClash first first_mode second second_mode) = clash_line first (mode_name first_mode) second (mode_name second_mode)
line_of (statuses.InputLimit w) = limit_line (limit_name w) (decimal (limit_number w))
line_of statuses.ReadFault = codes "gocov: read fault\n"
line_of statuses.WriteFault = codes "gocov: write fault\n"
line_of statuses.NoMemory = codes "gocov: out of memory\n"

-- the exit status of an answer
abbrev pub code_of : Status → ℕ
code_of (statuses.Done n) = n
code_of statuses.NotBuilt = 3
code_of (statuses.Usage i) = 2
code_of (statuses.Source path place kind) = 1
code_of (statuses.Missing path) = 1
code_of (statuses.Data path offset kind) = 1
code_of (statuses.ModeClash first first_mode second second_mode) = 1
code_of (statuses.InputLimit w) = 1
code_of statuses.ReadFault = 4
code_of statuses.WriteFault = 4
code_of statuses.NoMemory = 5

-- the answer stays where its line was written, and becomes a write fault only where the sink failed
abbrev pub Spoils : Status → Status → Count → Count → Type 0
Spoils status result before now = ((result ≡ status) × (now ≡ before)) ⊎ (((result ≡ statuses.WriteFault) × Rose before now) ⊎ ((result ≡ statuses.NoMemory) × (now ≡ before)))

-- what the answer is after its line was written, or could not be; want of memory stays what it is
abbrev pub Finishes : Status → Status → Count → Count → Type 0
Finishes (statuses.Done n) result before now = (result ≡ statuses.Done n) × (now ≡ before)
Finishes statuses.NotBuilt result before now = Spoils statuses.NotBuilt result before now
Finishes (statuses.Usage i) result before now = Spoils (statuses.Usage i) result before now
Finishes (statuses.Source path place kind) result before now = Spoils (statuses.Source path place kind) result before now
Finishes (statuses.Missing path) result before now = Spoils (statuses.Missing path) result before now
Finishes (statuses.Data path offset kind) result before now = Spoils (statuses.Data path offset kind) result before now
Finishes (statuses.ModeClash a b c d) result before now = Spoils (statuses.ModeClash a b c d) result before now
Finishes (statuses.InputLimit w) result before now = Spoils (statuses.InputLimit w) result before now
Finishes statuses.ReadFault result before now = Spoils statuses.ReadFault result before now
Finishes statuses.WriteFault result before now = Spoils statuses.WriteFault result before now
Finishes statuses.NoMemory result before now = result ≡ statuses.NoMemory

-- the sink received the line of the answer, unless it failed or memory ran out
abbrev pub HasLine : Status → Count → Count → Option (List ℕ) → Option (List ℕ) → Type 0
HasLine status before now old new = (status ≡ statuses.NoMemory) ⊎ (Rose before now ⊎ (new ≡ append_known old (line_of status)))

-- the sink received a front of a line
abbrev pub HasPart : List ℕ → Option (List ℕ) → Option (List ℕ) → Type 0
HasPart line old new = HasPrefix old new line
