-- What a command makes of its words and a tree of files, or its first refusal.
use Rattle.std.specs.Prelude.{ℕ, List, [], ◌∷◌, Result, Ok, Err, Option, Some, None, unwrap_or, take, drop}
use Rattle.std.specs.List.{flat_map}
use Rattle.cov_bytes.specs.Many.{◌>>=◌}
use Rattle.cov_outside.specs.Tree.{Tree}
use Rattle.cov_outside.specs.declared.stamp.Stamp.{Stamp}
use Rattle.cov_pods.specs.declared.pod.Pod.{Pod}
use Rattle.cov_pods.specs.declared.pod.DirNames.{DirNames}
use Rattle.cov_pods.specs.CountedPod.{CountedPod}
use Rattle.cov_pods.specs.Pods.{pods_of}
use Rattle.cov_table.specs.Coverage.{Coverage, empty}
use Rattle.cov_table.specs.PodOf.{pod_of}
use Rattle.cov_report.specs.Dump.{dump_of}
use Rattle.cov_report.specs.FunctionLines.{func_text_of}
use Rattle.cov_report.specs.Packages.{package_list_of}
use Rattle.cov_report.specs.Shares.{percent_of}
use Rattle.cov_report.specs.TextProfile.{text_profile_of}
use Rattle.gocov_words.specs.DataRequest.{DataRequest}
use Rattle.gocov_words.specs.Words.{meaning}
use Rattle.gocov_words.specs.declared.command.Command.{Command}
use Rattle.gocov_words.specs.declared.command.Command.TheVariants.{Cover, Run, Covdata}
use Rattle.gocov_words.specs.declared.sub.Sub.{Sub}
use Rattle.gocov_words.specs.declared.sub.Sub.TheVariants as subs
use Rattle.gocov_words.specs.declared.fault.WordsFault.{WordsFault}
use Rattle.gocov_words.specs.declared.fault.WordsFault.TheVariants as words_fault
use Rattle.gocov_tools.specs.Combine.{operated, files_in}
use Rattle.gocov_tools.specs.Covering.{Covered}
use Rattle.gocov_tools.specs.Files.{merged_files}
use Rattle.gocov_tools.specs.Listing.{listing}
use Rattle.gocov_tools.specs.Outcome.{Outcomes, Is}
use Rattle.gocov_tools.specs.Reading.{nothing_read, pods_in, with_pods}
use Rattle.gocov_tools.specs.declared.operation.Operation.{Operation}
use Rattle.gocov_tools.specs.declared.operation.Operation.TheVariants as operations
use Rattle.gocov_tools.specs.declared.report.Report.{Report}
use Rattle.gocov_tools.specs.declared.report.Report.TheVariants as reports
use Rattle.gocov_tools.specs.declared.reading.Reading.{Reading}
use Rattle.gocov_tools.specs.declared.work.Work.{Work}
use Rattle.gocov_tools.specs.declared.refusal.Refusal.{Refusal}
use Rattle.gocov_tools.specs.declared.refusal.Refusal.TheVariants as refusals

-- a text that goes to a path, or to the sink where there is no path
abbrev pub text_to : Option (List ℕ) → List ℕ → Work
text_to None text = record { text = text; puts = [] }
text_to (Some path) text = record { text = []; puts = (path, text) ∷ [] }

-- the table of pods that are read in order
unfoldable pub table_from : Tree → List Pod → Reading → Result (Coverage × Reading) Refusal
table_from t pods reading = do
  read ← pods_in t pods reading
  Ok (with_pods empty read.0, read.1)

-- the table of all pods of directories
unfoldable pub table_in : Tree → List (List ℕ) → Result Coverage Refusal
table_in t dirs = do
  names ← listing t dirs
  table ← table_from t (pods_of names) nothing_read
  Ok table.0

-- all pods of directories
unfoldable pub all_pods : Tree → List (List ℕ) → Result (List CountedPod) Refusal
all_pods t dirs = do
  names ← listing t dirs
  read ← pods_in t (pods_of names) nothing_read
  Ok read.0

-- ---- the commands

-- the report of a table, with the packages that patterns keep
abbrev pub report_of : Report → Coverage → List (List ℕ) → List ℕ
report_of reports.Textfmt table patterns = text_profile_of table patterns
report_of reports.Percent table patterns = percent_of table patterns
report_of reports.Func table patterns = func_text_of table patterns
report_of reports.Pkglist table patterns = package_list_of table patterns

-- the report of the table of all pods
unfoldable pub reported : Report → DataRequest → Tree → Result Work Refusal
reported report request t = do
  table ← table_in t request.dirs
  Ok (text_to request.out (report_of report table request.pkg))

-- all that pods say
unfoldable pub dumped : DataRequest → Tree → Result Work Refusal
dumped request t = do
  pods ← all_pods t request.dirs
  Ok (text_to request.out (dump_of pods request.pkg))

-- each pod's meta file as it is, and one counter file with its counts
unfoldable pub merged : Stamp → DataRequest → Tree → Result Work Refusal
merged stamp request t = do
  pods ← all_pods t request.dirs
  Ok (record { text = []; puts = flat_map (merged_files (unwrap_or request.out []) stamp) pods })

-- the tables of two directories, of which the pods of the first are read first
unfoldable pub two_tables : Tree → List DirNames → Result (Coverage × Coverage) Refusal
two_tables t names = do
  first ← table_from t (pods_of (take 1 names)) nothing_read
  second ← table_from t (pods_of (drop 1 names)) first.1
  Ok (first.0, second.0)

-- the table of the first directory, once the counts of the second were taken into account
unfoldable pub combined_table : Operation → Tree → List DirNames → Result Coverage Refusal
combined_table operation t names = do
  tables ← two_tables t names
  Ok (operated operation tables.0 tables.1)

-- one pod with the units of the first of two directories, or no file where its table is empty
unfoldable pub combined : Operation → Stamp → DataRequest → Tree → Result Work Refusal
combined operation stamp request t = do
  names ← listing t request.dirs
  table ← combined_table operation t names
  puts ← files_in (unwrap_or request.out []) stamp (pod_of table)
  Ok (record { text = []; puts = puts })

-- what a command of covdata writes, with a stamp for counter files
abbrev pub work_for : Sub → Stamp → DataRequest → Tree → Result Work Refusal
work_for subs.Textfmt stamp request t = reported reports.Textfmt request t
work_for subs.Percent stamp request t = reported reports.Percent request t
work_for subs.Func stamp request t = reported reports.Func request t
work_for subs.Pkglist stamp request t = reported reports.Pkglist request t
work_for subs.Merge stamp request t = merged stamp request t
work_for subs.Subtract stamp request t = combined operations.Subtract stamp request t
work_for subs.Intersect stamp request t = combined operations.Intersect stamp request t
work_for subs.Debugdump stamp request t = dumped request t

abbrev pub work_of : Stamp → DataRequest → Tree → Result Work Refusal
work_of stamp request t = work_for request.sub stamp request t

-- ---- the meaning of words

-- what a meaning comes to; `run` isn't built yet
abbrev pub CommandOf : Stamp → Result Command WordsFault → Tree → Outcomes
CommandOf stamp (Ok (Cover request)) t = Covered request t
CommandOf stamp (Ok (Run request)) t = Is (Err refusals.NotBuilt)
CommandOf stamp (Ok (Covdata request)) t = Is (work_of stamp request t)
CommandOf stamp (Err (words_fault.Usage i)) t = Is (Err (refusals.Usage i))
CommandOf stamp (Err (words_fault.Limit w)) t = Is (Err (refusals.Limit w))
CommandOf stamp (Err words_fault.NoMemory) t = Is (Err refusals.NoMemory)

-- what a list of words comes to
abbrev pub Commands : Stamp → List (List ℕ) → Tree → Outcomes
Commands stamp words t = CommandOf stamp (meaning words) t
