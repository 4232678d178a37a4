-- The names of faults and limits in the lines of answers, and the numbers of the limits.
use Rattle.std.specs.Prelude.{ℕ, List, codes}
use Rattle.cov_outside.specs.declared.data_kind.DataKind.{DataKind}
use Rattle.cov_outside.specs.declared.data_kind.DataKind.TheVariants as kinds
use Rattle.cov_outside.specs.declared.limit.Which.{Which}
use Rattle.cov_outside.specs.declared.limit.Which.TheVariants as limits

-- the name of a fault of a data file
abbrev pub kind_name : DataKind → List ℕ
kind_name kinds.Short = codes "Short"
kind_name kinds.NumberTooLong = codes "NumberTooLong"
kind_name kinds.NumberTooLarge = codes "NumberTooLarge"
kind_name kinds.BadMagic = codes "BadMagic"
kind_name kinds.BadVersion = codes "BadVersion"
kind_name kinds.RegOnlyMode = codes "RegOnlyMode"
kind_name kinds.TestMainMode = codes "TestMainMode"
kind_name kinds.BadMode = codes "BadMode"
kind_name kinds.PerFunction = codes "PerFunction"
kind_name kinds.BadGranularity = codes "BadGranularity"
kind_name kinds.BadRange = codes "BadRange"
kind_name (kinds.BadString index count) = codes "BadString"
kind_name (kinds.HashDiffers meta counters) = codes "HashDiffers"
kind_name kinds.BadFlavour = codes "BadFlavour"
kind_name kinds.BadFlag = codes "BadFlag"
kind_name (kinds.BadPackage index count) = codes "BadPackage"
kind_name (kinds.BadFunction index count) = codes "BadFunction"
kind_name (kinds.BadCount have want) = codes "BadCount"
kind_name kinds.Trailing = codes "Trailing"
kind_name (kinds.Segments count) = codes "Segments"
kind_name kinds.BadPadding = codes "BadPadding"

-- the name of a limit
abbrev pub limit_name : Which → List ℕ
limit_name limits.SourceBytes = codes "SourceBytes"
limit_name limits.DataBytes = codes "DataBytes"
limit_name limits.Packages = codes "Packages"
limit_name limits.Units = codes "Units"
limit_name limits.Functions = codes "Functions"
limit_name limits.Strings = codes "Strings"
limit_name limits.NameBytes = codes "NameBytes"
limit_name limits.StringBytes = codes "StringBytes"
limit_name limits.Directories = codes "Directories"
limit_name limits.DataFiles = codes "DataFiles"
limit_name limits.SelectClauses = codes "SelectClauses"
limit_name limits.Depth = codes "Depth"

-- the greatest number that is allowed: of bytes in a source or data file, of packages in a module or meta file, of units over
-- the meta files of a command, of functions and strings in a meta file, of bytes in one string and in all, of directories, of
-- data files, of clauses of a select, of the depth of a syntax tree
abbrev pub limit_number : Which → ℕ
limit_number limits.SourceBytes = 4194304
limit_number limits.DataBytes = 268435456
limit_number limits.Packages = 1000
limit_number limits.Units = 1048576
limit_number limits.Functions = 1048576
limit_number limits.Strings = 1048576
limit_number limits.NameBytes = 2048
limit_number limits.StringBytes = 268435456
limit_number limits.Directories = 1024
limit_number limits.DataFiles = 65536
limit_number limits.SelectClauses = 1000
limit_number limits.Depth = 1000
